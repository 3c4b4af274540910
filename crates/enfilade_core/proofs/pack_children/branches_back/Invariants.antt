use Rattle.std.proofs.Common.{◌≡◌, ◌+◌, ◌≤◌, map, take, length}
use Rattle.enfilade_core.specs.Packing.{branch_back}
use Rattle.enfilade_core.proofs.pack_children.branches_back.Given as goal

abbrev pub invariant-loop-branch : goal.invariant-loop-branch
invariant-loop-branch l = record {
  made : l.made.items ≡ map (branch_back l.first l.second) (take l.branch-index l.branches);
  room : length l.branches ≤ l.made.spare + l.branch-index;
}
