use Rattle.std.proofs.Common.{◌≡◌, ◌∙◌, ◌++◌, ◌∷◌, [], ◌≤◌, All, arith, refl, sym, subst}
use Rattle.std.proofs.lemmas.List.Elements.{All-push}
use Rattle.poom.specs.Edited.{IsContentRun}
use Rattle.poom_compare.specs.declared.placing.Placed.{Placed}
use Rattle.poom_compare.specs.Placed.{IsPlaced}
use Rattle.poom_compare.proofs.Laying.{position_more, position_fits, placed_right, laid_more, laid_done, laid_none}
use Rattle.poom_compare.proofs.placing.push_runs.Goals as goal

pub loop-run-init : goal.loop-run-init
loop-run-init c = (omega arith, c.requires.each, laid_none c.args.at c.args.placed.now.items)

pub overflow_add-position : goal.overflow_add-position
overflow_add-position c = omega (arith, position_fits c.args.runs.now c.args.at c.loop-run.run-index c.loop-run.position c.run-item.result c.loop-run-test.true c.run-item.is c.loop-run.invariant.0 c.requires.fits)

pub loop-run-preserved : goal.loop-run-preserved
loop-run-preserved c =
    let runs = c.args.runs.now in
    let k = c.loop-run.run-index in
    let position = c.loop-run.position in
    let run = c.run-item.result in
    let p : Placed = record { at = position; document = run.content; first = run.first; length = run.length } in
    let now = c.loop-run.placed.items in
    let new = c.push.new.self.items in
    let pushed : new ≡ now ++ p ∷ [] = c.in_ok-push.ensures.items ∙ (λ i. now ++ record { at = position; document = c.copy.ensures i; first = run.first; length = run.length } ∷ []) in
    let fits = position_fits runs c.args.at k position run c.loop-run-test.true c.run-item.is c.loop-run.invariant.0 c.requires.fits in
    let one : 1 ≤ position = omega (arith, c.loop-run.invariant.0, c.requires.from_one) in
    let content : IsContentRun run = subst IsContentRun (sym c.run-item.is) (c.requires.contents k run c.loop-run-test.true) in (
      position_more runs c.args.at k _ position run c.loop-run-test.true c.run-item.is c.loop-run.invariant.0 refl,
      subst (All IsPlaced) (sym pushed) (All-push IsPlaced now p c.loop-run.invariant.1 (placed_right position run content one fits)),
      laid_more runs c.args.at k _ position run p c.args.placed.now.items now new c.loop-run-test.true c.run-item.is c.loop-run.invariant.0 c.loop-run.invariant.2 refl pushed refl,
    )

pub returns : goal.returns
returns c = record { each = c.loop-run.invariant.1; rows = laid_done c.args.runs.now c.args.at c.loop-run.run-index c.args.placed.now.items c.loop-run.placed.items c.loop-run-test.false c.loop-run.invariant.2 }
