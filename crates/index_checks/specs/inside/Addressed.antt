-- Runs whose bytes have addresses.
use Rattle.std.specs.Prelude.{ℕ, All}
use Rattle.tumbler.specs.Places.{IsTumbler}
use Rattle.febe_data.specs.declared.run.Run.{Run}
use Rattle.world_rules.specs.World.{LinkRow}
use Rattle.links.specs.LinkLists.{run_span, runs_at}

-- the address of the run's first byte has no more places than it may, and its number is not 0
abbrev pub HasAddress : Run → Type 0
HasAddress run = IsTumbler (run_span run).start

-- so have all runs at the end of a link
abbrev pub HaveAddresses : ℕ → LinkRow → Type 0
HaveAddresses end link = All HasAddress (runs_at end link)
