use Rattle.std.proofs.Common.{◌≡◌, ◌+◌, ◌≤◌, map, take, length}
use Rattle.enfilade_core.specs.Exchange.{branch_at}
use Rattle.enfilade_core.proofs.move_children.branches_moved.Given as goal

abbrev pub invariant-loop-branch : goal.invariant-loop-branch
invariant-loop-branch l = record {
  made : l.made.items ≡ map (branch_at l.first l.second) (take l.branch-index l.branches);
  room : length l.branches ≤ l.made.spare + l.branch-index;
}
