-- What a feed holds, and what it gives.
use Rattle.std.specs.Prelude.{◌≡◌, ℕ, ◌+◌, ◌-◌, ◌^◌, min, Bool, true, false, List, ◌++◌, drop}
use Rattle.febe_data.specs.Plain.{plain_request, PlainRequest}
use Rattle.febe_fields.specs.Prefixes.{HasNoSpelledPrefix, IsUnfinished, IsBadAt}
use Rattle.febe_wire.specs.Grammar.{IsSpelled}
use Rattle.febe_wire.specs.Reads.{IsRead}
use Rattle.febe_wire.specs.Sessions.{greeting}
use Rattle.febe_feed.specs.declared.feed.Next.{Next}
use Rattle.febe_feed.specs.declared.feed.Next.TheVariants as next_answers

-- whether the greeting was given out, the bytes held, and the place in the stream of the first of them
pub record FeedView : Type 0 where
  pub greeted : Bool
  pub held : List ℕ
  pub offset : ℕ

-- a place in the stream so many bytes later; past the greatest number of 64 bits it is that
abbrev pub later : ℕ → ℕ → ℕ
later offset n = min (offset + n) (2 ^ 64 - 1)

-- the feed with a piece of the stream added
abbrev pub with_piece : FeedView → List ℕ → FeedView
with_piece feed piece = record { greeted = feed.greeted; held = feed.held ++ piece; offset = feed.offset }

-- the greeting and nothing else
abbrev pub IsGreeting : List ℕ → Type 0
IsGreeting bytes = bytes ≡ greeting

-- what is awaited: the greeting first, then requests
abbrev pub Awaited : Bool → List ℕ → Type 0
Awaited false bytes = IsGreeting bytes
Awaited true bytes = IsSpelled bytes

-- no prefix of the bytes held is what is awaited: the feed has given all that it can
abbrev pub HasGivenAll : FeedView → Type 0
HasGivenAll feed = HasNoSpelledPrefix (Awaited feed.greeted) feed.held

-- the greeting is a prefix of the bytes held, and is given out
pub record Greets (before after : FeedView) : Type 0 where
  pub first : before.greeted ≡ false
  pub prefix : before.held ≡ greeting ++ after.held
  pub greeted : after.greeted ≡ true
  pub offset : after.offset ≡ later before.offset 3

-- a request is spelled by a prefix of the bytes held, and is given out
pub record GivesRequest (before after : FeedView) (request : PlainRequest) : Type 0 where
  pub greeted : before.greeted ≡ true
  pub used : ℕ
  pub read : IsRead before.held request used
  pub after_is : after ≡ record { greeted = true; held = drop used before.held; offset = later before.offset used }

-- the bytes held are bad at the byte whose place in the stream this is
pub record IsWrong (before after : FeedView) (at : ℕ) : Type 0 where
  pub stays : after ≡ before
  pub place : ℕ
  pub bad : IsBadAt (Awaited before.greeted) before.held place
  pub at_is : at ≡ later before.offset place

-- not yet: the bytes held are a proper prefix of what is awaited
pub record Waits (before after : FeedView) : Type 0 where
  pub stays : after ≡ before
  pub prefix : IsUnfinished (Awaited before.greeted) before.held

-- what comes next is so
abbrev pub IsNext : FeedView → FeedView → Next → Type 0
IsNext before after next_answers.Greeting = Greets before after
IsNext before after (next_answers.Request request) = GivesRequest before after (plain_request request)
IsNext before after next_answers.NotYet = Waits before after
IsNext before after (next_answers.Bad at) = IsWrong before after at
