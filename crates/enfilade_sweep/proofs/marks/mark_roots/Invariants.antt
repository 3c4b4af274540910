use Rattle.std.proofs.Common.{◌≡◌, length, take}
use Rattle.enfilade_sweep.specs.Sweep.{numbers}
use Rattle.enfilade_sweep.specs.Marks.{MarksMore}
use Rattle.enfilade_sweep.proofs.marks.mark_roots.Given as goal

abbrev pub invariant-loop-root : goal.invariant-loop-root
invariant-loop-root g l = record {
  long : length l.marks.items ≡ length l.initial.marks.items;
  marked : MarksMore (numbers (take l.root-index l.roots)) l.initial.marks.items l.marks.items;
}
