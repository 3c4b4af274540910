use Rattle.std.proofs.Common.{◌*◌, ◌+◌, map}
use Rattle.enfilade_core.specs.Plain.{plain_row}
use Rattle.enfilade_core.proofs.ExchangeBranches.{RestSoFar}
use Rattle.enfilade_core.proofs.arena.Arena.+exchanging.Given as goal

abbrev pub decreases-branch_exchanged : goal.decreases-branch_exchanged
decreases-branch_exchanged g l = 8 * l.branch.now.node.0 + 5

abbrev pub decreases-parts_exchanged : goal.decreases-parts_exchanged
decreases-parts_exchanged g l = 8 * l.branch.now.node.0 + 4

abbrev pub decreases-node_exchanged : goal.decreases-node_exchanged
decreases-node_exchanged g l = 8 * l.node.0 + 3

abbrev pub decreases-middle_exchanged : goal.decreases-middle_exchanged
decreases-middle_exchanged g l = 8 * l.below.0 + 2

abbrev pub decreases-lone_exchanged : goal.decreases-lone_exchanged
decreases-lone_exchanged g l = 8 * l.below.0 + 1

abbrev pub decreases-branches_exchanged : goal.decreases-branches_exchanged
decreases-branches_exchanged g l = 8 * l.below.0 + 1

abbrev pub decreases-rest_exchanged : goal.decreases-rest_exchanged
decreases-rest_exchanged g l = 8 * l.below.0

abbrev pub invariant-rest_exchanged-loop-branch : goal.invariant-rest_exchanged-loop-branch
invariant-rest_exchanged-loop-branch g l =
    RestSoFar g.P.Plane.widths l.gap l.initial.self l.self l.branches l.branch-index l.initial.made.items l.made.items (map (plain_row g.P.Plane.plain) l.initial.out.items) (map (plain_row g.P.Plane.plain) l.out.items)
