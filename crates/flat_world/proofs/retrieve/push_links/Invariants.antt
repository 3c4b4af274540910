use Rattle.std.proofs.Common.{◌≡◌, All, ◌&&◌, ◌++◌, take, map}
use Rattle.std.specs.Prelude.{filter}
use Rattle.febe_data.specs.Plain.{plain_item, link}
use Rattle.world_rules.specs.declared.rows.Row.{Row}
use Rattle.world_rules.specs.World.{is_link_of}
use Rattle.world_rules.specs.Picking.{is_within}
use Rattle.world_rules.specs.Answers.{NamesTumbler}
use Rattle.flat_world.proofs.retrieve.push_links.Given as goal

abbrev pub invariant-loop-row : goal.invariant-loop-row
invariant-loop-row l =
    (map plain_item l.items.items ≡ map plain_item l.initial.items.items ++ map (λ (row : Row). link row.address) (filter (λ row. is_link_of l.document row && is_within l.start l.end row) (take l.row-index l.rows)))
    × (All NamesTumbler (map plain_item l.initial.items.items) → All NamesTumbler (map plain_item l.items.items))
