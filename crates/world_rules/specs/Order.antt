-- The order in which refusals are asked.
use Rattle.std.specs.Prelude.{◌≡◌, ℕ, ◌==◌, ◌&&◌, Bool, true, false, List, [], ◌∷◌, if◌then◌else◌}
use Rattle.febe_data.specs.declared.refusal.Refusal.{Refusal}
use Rattle.febe_data.specs.declared.refusal.Refusal.TheVariants.{NoAccount, NoSuchDocument, Private, NotOpen, NotOpenForWriting, NotOwner, Conflict, BadAddress, BadCuts, NoSuchLink, NoSuchEnd, TooLong, Full}
use Rattle.febe_data.specs.LimitsView.{LimitsView}
use Rattle.febe_data.specs.Plain.{PlainRequest}
use Rattle.febe_data.specs.Refusal.{refusal_number}
use Rattle.world_rules.specs.World.{World}
use Rattle.world_rules.specs.Refusals.{Check, checks}

-- the refusals that have a cause in the world, as they are asked
abbrev pub in_order : List Refusal
in_order =
    NoAccount
    ∷ NoSuchDocument
    ∷ Private
    ∷ NotOpen
    ∷ NotOpenForWriting
    ∷ NotOwner
    ∷ Conflict
    ∷ BadAddress
    ∷ BadCuts
    ∷ NoSuchLink
    ∷ NoSuchEnd
    ∷ TooLong
    ∷ Full
    ∷ []

-- what of the refusals is left from this one on, nothing where it is none of them
abbrev pub from_on : Refusal → List Refusal → List Refusal
from_on refusal [] = []
from_on refusal (first ∷ rest) = if refusal_number first == refusal_number refusal then first ∷ rest else from_on refusal rest

-- the refusal is one of these
abbrev pub is_left : Refusal → List Refusal → Bool
is_left refusal [] = false
is_left refusal (first ∷ rest) = if refusal_number first == refusal_number refusal then true else is_left refusal rest

-- each test's refusal is one of those that are left from the test before it on
abbrev pub keeps_order : List Check → List Refusal → Bool
keeps_order [] left = true
keeps_order (check ∷ checks) left = is_left check.1 left && keeps_order checks (from_on check.1 left)

-- each request's tests come in that order
abbrev pub AskedInOrder : Type 0
AskedInOrder = (limits : LimitsView) (counted : ℕ) (world : World) (session : ℕ) (request : PlainRequest)
    → keeps_order (checks limits counted world session request) in_order ≡ true
