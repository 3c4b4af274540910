use Rattle.std.proofs.Common.{◌≡◌, ◌&&◌, take}
use Rattle.std.specs.Prelude.{filter}
use Rattle.std.specs.List.{list_any}
use Rattle.flat_world.specs.declared.ends.Extent.{Extent}
use Rattle.world_rules.specs.World.{is_text_of}
use Rattle.world_rules.specs.Picking.{is_within, places_of}
use Rattle.flat_rows.specs.EndIndex.{is_indexed}
use Rattle.flat_world.proofs.ends.indexed_positions.Given as goal

abbrev pub invariant-loop-row : goal.invariant-loop-row
invariant-loop-row l =
    l.positions.items
    ≡ places_of (filter (λ row. (is_text_of l.document row && list_any (λ (extent : Extent). is_within extent.start extent.end row) l.extents) && is_indexed l.index row.address) (take l.row-index l.rows))
