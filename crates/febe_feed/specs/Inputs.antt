-- What feeds give, told by the words on whole inputs.
use Rattle.std.specs.Prelude.{◌≡◌, ◌≢◌, ℕ, ◌^◌, ◌<◌, true, List, [], ◌++◌, length}
use Rattle.std.specs.List.{AllByRecursion}
use Rattle.febe_data.specs.Plain.{PlainRequest, quit}
use Rattle.febe_fields.specs.Prefixes.{IsPrefix}
use Rattle.febe_wire.specs.Sessions.{QuitsLast, IsInputOf, IsInput, IsQuitInput, IsMalformedAt, IsTruncated}
use Rattle.febe_feed.specs.FeedView.{FeedView, IsWrong, Waits}
use Rattle.febe_feed.specs.Pieces.{HasGiven}

-- none of the requests is quit
abbrev pub NoQuits : List PlainRequest → Type 0
NoQuits requests = AllByRecursion (λ r. r ≢ quit) requests

-- the bytes are a prefix of some session's input, which no quit has ended
pub record IsOpenInput (bytes : List ℕ) : Type 0 where
  pub prefix : IsPrefix IsInput bytes
  pub no_quit : ¬ IsQuitInput bytes

-- Where a feed that gave no quit finds a wrong byte, the stream is malformed there. The stream is short enough
-- for a place in it to have 64 bits.
abbrev pub WrongIsMalformed : Type 0
WrongIsMalformed = (stream : List ℕ) (requests : List PlainRequest) (before after : FeedView) (at : ℕ) → HasGiven stream requests before → NoQuits requests → length stream < 2 ^ 64
    → IsWrong before after at → IsMalformedAt stream at

-- where a feed that gave no quit waits, the stream is a prefix of some session's input, which no quit has ended
abbrev pub WaitingIsOpen : Type 0
WaitingIsOpen = (stream : List ℕ) (requests : List PlainRequest) (feed after : FeedView) → HasGiven stream requests feed → NoQuits requests → Waits feed after → IsOpenInput stream

-- where it waits and holds some bytes, a stream that ends here is truncated
abbrev pub WaitingIsTruncated : Type 0
WaitingIsTruncated = (stream : List ℕ) (requests : List PlainRequest) (feed after : FeedView) → HasGiven stream requests feed → NoQuits requests → Waits feed after → feed.held ≢ []
    → IsTruncated stream

-- where the greeting was given and no bytes are held, the stream is the input of the requests that were given
abbrev pub GivenIsInput : Type 0
GivenIsInput = (stream : List ℕ) (requests : List PlainRequest) (feed : FeedView) → HasGiven stream requests feed → QuitsLast requests → feed.greeted ≡ true → feed.held ≡ []
    → IsInputOf requests stream

-- a prefix of some session's input is malformed nowhere
abbrev pub PrefixesAreRight : Type 0
PrefixesAreRight = (bytes : List ℕ) (k : ℕ) → IsPrefix IsInput bytes → ¬ IsMalformedAt bytes k

-- an input that ends in a quit is malformed nowhere, whatever bytes come behind it
abbrev pub QuitEndsJudging : Type 0
QuitEndsJudging = (bytes rest : List ℕ) (k : ℕ) → IsQuitInput bytes → ¬ IsMalformedAt (bytes ++ rest) k

-- both of these
abbrev pub InputsAreRight : Type 0
InputsAreRight = PrefixesAreRight × QuitEndsJudging

-- bytes are malformed at one place at most
abbrev pub OneFault : Type 0
OneFault = (bytes : List ℕ) (j k : ℕ) → IsMalformedAt bytes j → IsMalformedAt bytes k → j ≡ k
