use Rattle.std.proofs.Common.{arith}
use Rattle.server_words.proofs.Decimals.{none_within, past_bounds}
use Rattle.server_words.proofs.number.number_within.Goals as goal
use Rattle.server_words.proofs.number.number_within.Goals.{then-number-least-via-then-number-least, then-number-least-via-else-number-least+then-most-number}

pub returns-then-number-least-clause-none : goal.returns-then-number-least-clause-none
returns-then-number-least-clause-none c =
    past_bounds c.args.least c.args.most c.args.word.now c.in_ok-number.number (search) (search) c.in_ok-number.ensures.some
    (elim c.then-number-least.branch [
      | then-number-least-via-then-number-least w ↦ λ above below. omega (arith, w.if-number-least)
      | then-number-least-via-else-number-least+then-most-number w ↦ λ above below. omega (arith, w.if-most-number)
    ])
