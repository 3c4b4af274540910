use Rattle.std.proofs.Common.{length, ◌-◌, ◌+◌}
use Rattle.tree_compare.specs.RowAddresses.{row_addresses, address_count}
use Rattle.tree_compare.specs.inside.Rests.{IsPlace, GoTogether}
use Rattle.tree_compare.proofs.text.same_addresses.Given as goal

abbrev pub invariant-loop-left : goal.invariant-loop-left
invariant-loop-left l = GoTogether row_addresses l.one l.other l.left l.right × IsPlace address_count l.one l.left × IsPlace address_count l.other l.right

abbrev pub decreases-loop-left : goal.decreases-loop-left
decreases-loop-left l = (length l.one - l.left.item) + (length l.other - l.right.item)
