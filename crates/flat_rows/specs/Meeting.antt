-- Which links have a byte in common with the runs that specs pick.
use Rattle.std.specs.Prelude.{ℕ, ◌&&◌, Bool, true, List, [], ◌∷◌, Option}
use Rattle.febe_data.specs.declared.run.Run.{Run}
use Rattle.febe_data.specs.Plain.{PlainSpec, PlainWant}
use Rattle.world_rules.specs.declared.lookups.WantedRuns.{WantedRuns}
use Rattle.world_rules.specs.World.{LinkRow}
use Rattle.world_rules.specs.Readable.{is_readable_by}
use Rattle.world_rules.specs.Finding.{is_home_wanted}
use Rattle.world_rules.specs.Meeting.{share_bytes}

-- the end has one of the bytes of the runs that the specs pick, or there is no spec
abbrev pub is_end_met : List PlainSpec → (picked runs : List Run) → Bool
is_end_met [] picked runs = true
is_end_met (spec ∷ specs) picked runs = share_bytes picked runs

-- the home is wanted, and each end is met
abbrev pub is_met : PlainWant → WantedRuns → LinkRow → Bool
is_met want wanted link =
    is_home_wanted want.homes link.home && is_end_met want.from wanted.from.items link.from && is_end_met want.to wanted.to.items link.to && is_end_met want.three wanted.three.items link.three

-- the account reads the home, and the link is met
abbrev pub is_met_by : (published : List (List ℕ)) → Option (List ℕ) → PlainWant → WantedRuns → LinkRow → Bool
is_met_by published account want wanted link = is_readable_by published account link.home && is_met want wanted link
