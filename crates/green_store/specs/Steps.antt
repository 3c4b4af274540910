-- A legal step of a session, from one history to the next.
use Rattle.std.specs.Prelude.{◌≡◌, ℕ, Bool, List, ◌++◌}
use Rattle.febe_data.specs.LimitsView.{LimitsView}
use Rattle.febe_data.specs.Plain.{PlainRequest, PlainReply, PlainEntry}
use Rattle.world_rules.specs.Legal.{IsLegal}

-- what is added stands behind what was there, and the step is legal
pub record Steps (limits : LimitsView) (session : ℕ) (before : List PlainEntry) (request : PlainRequest) (reply : PlainReply) (after : List PlainEntry) (rose : Bool) : Type 0 where
  pub added : List PlainEntry
  pub grows : after ≡ before ++ added
  pub legal : IsLegal limits session before request reply added rose
