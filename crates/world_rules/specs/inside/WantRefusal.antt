-- What links are looked for by, or why they are not.
use Rattle.std.specs.Prelude.{◌≡◌, ℕ, Some, None, Result, Ok, Err}
use Rattle.febe_data.specs.declared.refusal.Refusal.{Refusal}
use Rattle.febe_data.specs.Plain.{PlainWant}
use Rattle.world_rules.specs.declared.lookups.WantedRuns.{WantedRuns}
use Rattle.world_rules.specs.World.{World}
use Rattle.world_rules.specs.Refusals.{first_holding, finding}
use Rattle.world_rules.specs.Wanted.{AreWantedRuns}

-- the runs that the want's specs pick, where it is not refused, or its refusal
abbrev pub AreRunsOrRefusal : World → ℕ → PlainWant → Result WantedRuns Refusal → Type 0
AreRunsOrRefusal world session want (Ok runs) = AreWantedRuns world want runs × (first_holding (finding world session want) ≡ None)
AreRunsOrRefusal world session want (Err refusal) = first_holding (finding world session want) ≡ Some refusal
