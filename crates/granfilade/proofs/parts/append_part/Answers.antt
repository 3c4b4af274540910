use Rattle.std.proofs.Common.{◌≡◌, ◌++◌, List, ℕ, arith, subst}
use Rattle.std.specs.Prelude.{OnOk}
use Rattle.granfilade.proofs.Picking.{part-none, part-some}
use Rattle.granfilade.proofs.parts.append_part.Goals as goal

pub returns-then-to-from-clause-ok : goal.returns-then-to-from-clause-ok
returns-then-to-from-clause-ok c =
    part-none c.args.span.now c.args.first.now c.args.end.now c.args.bytes.now c.args.into.now.items c.count_before-from.result c.count_before-to.result c.requires.end c.count_before-from.ensures.each c.count_before-to.ensures.each
    (omega (arith, c.if-to-from.true))

pub returns-clause-ok : goal.returns-clause-ok
returns-clause-ok c =
    subst (λ (bs : List ℕ). OnOk c.extend_from_slice.result (c.extend_from_slice.new.self.items ≡ c.args.into.now.items ++ bs))
    (part-some c.args.span.now c.args.first.now c.args.end.now c.args.bytes.now c.args.into.now.items c.count_before-from.result c.count_before-to.result c.requires.end c.count_before-from.ensures.each c.count_before-to.ensures.each
    (omega (arith, c.if-to-from.false)))
    c.extend_from_slice.ensures.ok
