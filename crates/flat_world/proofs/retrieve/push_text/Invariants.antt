use Rattle.std.proofs.Common.{◌≡◌, ◌&&◌, ◌==◌, take, not, length}
use Rattle.std.specs.Prelude.{filter}
use Rattle.world_rules.specs.World.{is_text_of}
use Rattle.world_rules.specs.Picking.{is_within}
use Rattle.flat_world.specs.inside.ByteIndex.{bytes_of}
use Rattle.flat_world.proofs.retrieve.push_text.Given as goal

abbrev pub invariant-loop-row : goal.invariant-loop-row
invariant-loop-row l =
    (l.text.items ≡ bytes_of l.index (filter (λ row. is_text_of l.document row && is_within l.start l.end row) (take l.row-index l.rows)))
    × (l.picked ≡ not (length (filter (λ row. is_text_of l.document row && is_within l.start l.end row) (take l.row-index l.rows)) == 0))
