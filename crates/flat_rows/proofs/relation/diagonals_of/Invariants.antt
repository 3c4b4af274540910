use Rattle.std.proofs.Common.{◌≡◌, take, map, All}
use Rattle.std.specs.Prelude.{filter}
use Rattle.febe_data.specs.Validity.{IsDiagonal}
use Rattle.world_rules.specs.Relation.{is_start, diagonal_from}
use Rattle.flat_rows.proofs.relation.diagonals_of.Given as goal

abbrev pub invariant-loop-pair : goal.invariant-loop-pair
invariant-loop-pair l = record { made : l.made.items ≡ map (diagonal_from l.pairs) (filter (is_start l.pairs) (take l.pair-index l.pairs)); valid : All IsDiagonal l.made.items }
