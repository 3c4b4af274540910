-- What a feed has given is told by the stream, however it was cut.
use Rattle.std.specs.Prelude.{◌≡◌, ℕ, Bool, true, false, List, [], ◌∷◌, ◌++◌, length}
use Rattle.std.specs.List.{flat_map, AllByRecursion}
use Rattle.febe_data.specs.Plain.{PlainRequest}
use Rattle.febe_data.specs.Validity.{IsRequest}
use Rattle.febe_wire.specs.Grammar.{spell_request}
use Rattle.febe_wire.specs.Sessions.{greeting}
use Rattle.febe_feed.specs.declared.feed.Next.{Next}
use Rattle.febe_feed.specs.declared.feed.Next.TheVariants as next_answers
use Rattle.febe_feed.specs.FeedView.{FeedView, later, with_piece, HasGivenAll, Greets, GivesRequest, IsWrong, Waits, IsNext}

-- what was given out: nothing; or the greeting, and these requests
abbrev pub given_bytes : Bool → List PlainRequest → List ℕ
given_bytes false requests = []
given_bytes true requests = greeting ++ flat_map spell_request requests

-- These requests were given, of a stream of which these bytes have come: what was given and what is held
-- are the whole stream, in this order. Where no greeting was given, no request was.
pub record HasGiven (stream : List ℕ) (requests : List PlainRequest) (feed : FeedView) : Type 0 where
  pub parts : stream ≡ given_bytes feed.greeted requests ++ feed.held
  pub valid : AllByRecursion IsRequest requests
  pub none : feed.greeted ≡ false → requests ≡ []
  pub place : feed.offset ≡ later 0 (length (given_bytes feed.greeted requests))

-- of a stream of which nothing has come a new feed has given nothing
abbrev pub StartsWithNothing : Type 0
StartsWithNothing = HasGiven [] [] (record { greeted = false; held = []; offset = 0 })

-- a piece makes the stream longer, and what was given stays
abbrev pub PushGoesOn : Type 0
PushGoesOn = (stream piece : List ℕ) (rs : List PlainRequest) (feed : FeedView) → HasGiven stream rs feed → HasGiven (stream ++ piece) rs (with_piece feed piece)

-- what comes next goes on with what was given
abbrev pub GivesOn : Type 0
GivesOn = (stream : List ℕ) (rs : List PlainRequest) (before after : FeedView) → HasGiven stream rs before
    → (Greets before after → HasGiven stream [] after) × ((r : PlainRequest) → GivesRequest before after r → HasGiven stream (rs ++ r ∷ []) after)

-- where a feed waits, or finds a wrong byte, it has given all that it can
abbrev pub StopsWhenAllGiven : Type 0
StopsWhenAllGiven = (before after : FeedView) → (Waits before after → HasGivenAll after) × ((at : ℕ) → IsWrong before after at → HasGivenAll after)

-- Two feeds of one stream that have given all that they can gave the same, and all else of them is the same too:
-- so it is where the greeting came, where it has not yet come, and where other bytes stand in its place.
abbrev pub AnyPieces : Type 0
AnyPieces = (stream : List ℕ) (rs ss : List PlainRequest) (one other : FeedView) → HasGiven stream rs one → HasGiven stream ss other
    → HasGivenAll one → HasGivenAll other → (rs ≡ ss) × (one ≡ other)

-- The place of a wrong byte is told again: behind any further piece, which may be empty, nothing else comes next.
abbrev pub BadPlaceStays : Type 0
BadPlaceStays = (before feed after : FeedView) (at : ℕ) (piece : List ℕ) (next : Next) → IsWrong before feed at → IsNext (with_piece feed piece) after next
    → (next ≡ next_answers.Bad at) × (after ≡ with_piece feed piece)
