use Rattle.std.proofs.Common.{◌≡◌, ◌&&◌, take}
use Rattle.std.specs.Prelude.{filter}
use Rattle.world_rules.specs.World.{is_text_of}
use Rattle.world_rules.specs.Picking.{is_in_run, places_of}
use Rattle.flat_world.proofs.ends.positions_of_run.Given as goal

abbrev pub invariant-loop-row : goal.invariant-loop-row
invariant-loop-row l = l.positions.items ≡ places_of (filter (λ row. is_text_of l.run.origin row && is_in_run row.address l.run) (take l.row-index l.rows))
