-- Who makes what a session makes.
use Rattle.std.proofs.Common.{◌≡◌, ℕ, List, [], ap, Some}
use Rattle.std.specs.Prelude.{Option}
use Rattle.std.specs.Option.{unwrap_or}
use Rattle.world_rules.specs.World.{World, account_of_session}
use Rattle.world_rules.specs.Effects.{maker_of}

pub maker_is : (world : World) (session : ℕ) (account : List ℕ) → Some account ≡ account_of_session world session → account ≡ maker_of world session
maker_is world session account is = ap (λ (found : Option (List ℕ)). unwrap_or found []) is
