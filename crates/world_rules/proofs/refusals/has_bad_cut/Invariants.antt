use Rattle.std.proofs.Common.{◌≡◌, drop}
use Rattle.world_rules.specs.Refusals.{has_bad_cut}
use Rattle.world_rules.proofs.refusals.has_bad_cut.Given as goal

abbrev pub invariant-loop-cut : goal.invariant-loop-cut
invariant-loop-cut l = has_bad_cut l.text_rows (drop l.cut-index l.cuts) ≡ has_bad_cut l.text_rows l.cuts
