use Rattle.std.proofs.Common.{◌≡◌, ◌-◌, length}
use Rattle.febe_fields.specs.Reading.{many_at}
use Rattle.febe_fields.proofs.ManyLoop.{with_items}
use Rattle.node_pages.specs.NodeReading.{branch_at}
use Rattle.node_pages.proofs.fields.many_branches_at.Given as goal

abbrev pub invariant-loop : goal.invariant-loop
invariant-loop g l = with_items l.branches.items (many_at (branch_at (length l.arena)) (l.count - l.counter) l.rest) ≡ many_at (branch_at (length l.arena)) l.count l.bytes
