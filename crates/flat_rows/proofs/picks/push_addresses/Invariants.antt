use Rattle.std.proofs.Common.{◌≡◌, ◌&&◌, ◌++◌, take}
use Rattle.std.specs.Prelude.{filter}
use Rattle.world_rules.specs.World.{is_text_of}
use Rattle.world_rules.specs.Picking.{is_within, addresses_of}
use Rattle.flat_rows.proofs.picks.push_addresses.Given as goal

abbrev pub invariant-loop-row : goal.invariant-loop-row
invariant-loop-row l = l.made.items ≡ l.initial.made.items ++ addresses_of (filter (λ row. is_text_of l.document row && is_within l.start l.end row) (take l.row-index l.rows))
