use Rattle.std.proofs.Common.{◌≡◌, All, take}
use Rattle.std.specs.Prelude.{filter}
use Rattle.std.specs.List.{flat_map}
use Rattle.enfilade_core.specs.Rows.{rows_of}
use Rattle.poom.specs.Laid.{texts}
use Rattle.world_rules.specs.declared.rows.Row.{Row}
use Rattle.poom_compare.specs.declared.positions.Interval.{Interval}
use Rattle.poom_compare.specs.Shared.{rows_of_text}
use Rattle.poom_compare.specs.Placed.{is_in, IsPlaced, rows_laid}
use Rattle.poom_compare.proofs.placing.runs_picked.Given as goal

abbrev pub invariant-loop-interval : goal.invariant-loop-interval
invariant-loop-interval l =
    All IsPlaced l.placed.items
    × (rows_laid l.placed.items ≡ flat_map (λ (i : Interval). filter (λ (row : Row). is_in row.n i) (rows_of_text (texts (rows_of l.poom l.root.0)))) (take l.interval-index l.interval-items))
