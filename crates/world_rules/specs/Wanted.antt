-- The runs that the specs of a want pick.
use Rattle.std.specs.Prelude.{◌≡◌}
use Rattle.febe_data.specs.Plain.{PlainWant}
use Rattle.world_rules.specs.declared.lookups.WantedRuns.{WantedRuns}
use Rattle.world_rules.specs.World.{World}
use Rattle.world_rules.specs.Picking.{runs_of}

-- these are the runs that the specs pick, end by end
pub record AreWantedRuns (world : World) (want : PlainWant) (runs : WantedRuns) : Type 0 where
  pub from_is : runs.from.items ≡ runs_of world want.from
  pub to_is : runs.to.items ≡ runs_of world want.to
  pub three_is : runs.three.items ≡ runs_of world want.three
