use Rattle.std.proofs.Common.{◌∙◌}
use Rattle.poom_compare.proofs.positions.picked.Goals as goal

pub returns : goal.returns
returns c = record { each = c.in_ok-made.ensures.each; apart = c.in_ok-made.ensures.apart; same = λ n one le. c.in_ok-made.ensures.same n ∙ c.in_ok-all.ensures.same n one le }
