use Rattle.std.proofs.Common.{◌≡◌, take}
use Rattle.std.specs.Prelude.{filter}
use Rattle.std.specs.List.{flat_map}
use Rattle.febe_data.specs.Plain.{plain_spec}
use Rattle.world_rules.specs.Picking.{is_picked_by}
use Rattle.world_rules.specs.Relation.{pairs_of_row}
use Rattle.flat_rows.proofs.relation.pairs_of.Given as goal

abbrev pub invariant-loop-row : goal.invariant-loop-row
invariant-loop-row l = l.pairs.items ≡ flat_map (pairs_of_row (filter (is_picked_by (plain_spec l.right)) l.rows)) (filter (is_picked_by (plain_spec l.left)) (take l.row-index l.rows))
