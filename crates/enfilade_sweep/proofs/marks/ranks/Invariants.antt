use Rattle.std.proofs.Common.{◌≡◌, ℕ, ◌<◌, length, get_or}
use Rattle.enfilade_core.specs.NewNumbers.{rank}
use Rattle.enfilade_sweep.proofs.marks.ranks.Given as goal

abbrev pub invariant-loop-mark : goal.invariant-loop-mark
invariant-loop-mark l = record {
  long : length l.ranks.items ≡ l.mark-index;
  count : l.count ≡ rank l.marks l.mark-index;
  each : (k : ℕ) → k < l.mark-index → get_or l.ranks.items k 0 ≡ rank l.marks k;
}
