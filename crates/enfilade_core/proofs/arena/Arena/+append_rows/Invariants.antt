use Rattle.std.proofs.Common.{◌≡◌, ◌++◌, map, take}
use Rattle.std.specs.List.{flat_map}
use Rattle.enfilade_core.specs.Plain.{plain_row}
use Rattle.enfilade_core.proofs.WalkedRows.{branch_seen}
use Rattle.enfilade_core.proofs.arena.Arena.+append_rows.Given as goal

abbrev pub decreases-append_rows : goal.decreases-append_rows
decreases-append_rows g l = l.node.0

abbrev pub invariant-loop-branch : goal.invariant-loop-branch
invariant-loop-branch g l =
    map (plain_row g.P.Plane.plain) l.into.items ≡ map (plain_row g.P.Plane.plain) l.initial.into.items ++ flat_map (branch_seen l.self l.first l.second) (take l.branch-index l.branch-items)
