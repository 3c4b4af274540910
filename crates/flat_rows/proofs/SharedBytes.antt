-- When the runs that specs pick meet an end.
use Rattle.std.proofs.Common.{◌≡◌, [], ◌∷◌, List, refl}
use Rattle.febe_data.specs.declared.run.Run.{Run}
use Rattle.febe_data.specs.Plain.{PlainSpec}
use Rattle.world_rules.specs.World.{World}
use Rattle.world_rules.specs.Picking.{runs_of}
use Rattle.world_rules.specs.Finding.{is_end_wanted}
use Rattle.world_rules.proofs.SharedBytes.{specs_share}
use Rattle.flat_rows.specs.Meeting.{is_end_met}

-- an end is met by the runs that the specs pick exactly if it has one of the bytes
pub end_is_met : (world : World) (specs : List PlainSpec) (runs : List Run) → is_end_met specs (runs_of world specs) runs ≡ is_end_wanted world specs runs
end_is_met world [] runs = refl
end_is_met world (spec ∷ specs) runs = specs_share world runs (spec ∷ specs)
