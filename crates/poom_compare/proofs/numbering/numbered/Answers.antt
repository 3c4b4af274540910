use Rattle.std.proofs.Common.{◌∙◌, ◌+◌, ◌*◌, [], refl, sym, subst}
use Rattle.poom_compare.specs.Placed.{AreStretchesOf}
use Rattle.poom_compare.proofs.Numbers.{stretches_more, stretches_none, stretches_all, keeps_both, same_numbers}
use Rattle.poom_compare.proofs.numbering.numbered.Goals as goal

pub loop-run-init : goal.loop-run-init
loop-run-init c = (c.requires.numbers, same_numbers c.args.numbers.now, subst (AreStretchesOf c.args.numbers.now []) (sym c.new-made.ensures.items) (stretches_none c.args.numbers.now))

pub number-requires : goal.number-requires
number-requires c = c.loop-run.invariant.0

pub loop-run-preserved : goal.loop-run-preserved
loop-run-preserved c =
    let p = c.run-item.result in (
      c.in_ok-number.ensures.numbers,
      keeps_both c.args.numbers.now c.loop-run.numbers c.number.new.numbers c.loop-run.invariant.1 c.in_ok-number.ensures.keeps,
      stretches_more c.loop-run.numbers c.number.new.numbers c.args.placed.now c.loop-run.run-index _ p c.loop-run.made.items c.push.new.self.items _ c.in_ok-number.ensures.keeps c.loop-run.invariant.2 c.loop-run-test.true c.run-item.is c.in_ok-number.ensures.has
          (λ i. record { at = p.at; first = (c.from.ensures ∙ c.in_ok-number.ensures.number) i * 4294967296 + c.from-in-loop-run.ensures i; length = p.length }) c.in_ok-push.ensures.items refl,
    )

pub returns : goal.returns
returns c = record {
  numbers = c.loop-run.invariant.0;
  keeps = c.loop-run.invariant.1;
  stretches = stretches_all c.loop-run.numbers c.args.placed.now c.loop-run.run-index c.loop-run.made.items c.loop-run-test.false c.loop-run.invariant.2;
}
