use Rattle.std.proofs.Common.{take}
use Rattle.std.specs.Prelude.{filter}
use Rattle.febe_data.specs.Plain.{plain_spec}
use Rattle.flat_rows.specs.PairIndex.{IsPlaceIndex}
use Rattle.world_rules.specs.Picking.{is_picked_by}
use Rattle.flat_rows.proofs.relation.place_index.Given as goal

abbrev pub invariant-loop-row : goal.invariant-loop-row
invariant-loop-row l = IsPlaceIndex (filter (is_picked_by (plain_spec l.spec)) (take l.row-index l.rows)) l.index
