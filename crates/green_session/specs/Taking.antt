-- What taking a request from a source comes to.
use Rattle.std.specs.Prelude.{◌≡◌, ◌≢◌, ℕ, ◌+◌, ◌⊎◌, ◌<◌, ◌≤◌, List, [], ◌++◌, length, Option}
use Rattle.std.specs.Io.KnownBytes.{Consumes, IsAtEnd}
use Rattle.green_io.specs.Outside.{HasRisen}
use Rattle.febe_data.specs.Plain.{plain_request}
use Rattle.febe_fields.specs.Prefixes.{IsUnfinished}
use Rattle.febe_feed.specs.FeedView.{FeedView, later, with_piece, Awaited, Greets, GivesRequest, IsWrong, Waits}
use Rattle.green_session.specs.declared.take.Taken.{Taken}
use Rattle.green_session.specs.declared.take.Taken.TheVariants as take_answers

-- how many bytes may be taken, and how many the source gave
pub record TurnsView : Type 0 where
  pub limit : ℕ
  pub taken : ℕ

-- a source and what was read from it: what it has left, where it tells that, its count of faults, the feed and the turns
pub record ReadState : Type 0 where
  pub left : Option (List ℕ)
  pub faults : ℕ
  pub feed : FeedView
  pub turns : TurnsView

abbrev pub read_state : Option (List ℕ) → ℕ → FeedView → TurnsView → ReadState
read_state left faults feed turns = record { left = left; faults = faults; feed = feed; turns = turns }

-- the turns with so many bytes more taken, or the greatest number
abbrev pub with_taken : TurnsView → ℕ → TurnsView
with_taken turns n = record { limit = turns.limit; taken = later turns.taken n }

-- some bytes were read, the last of them by a read that was made where the feed had nothing to give and fewer than the
-- limit were taken, and that asks for at most 4,096
pub record EndsInRead (feed : FeedView) (turns : TurnsView) (read : List ℕ) : Type 0 where
  pub earlier : List ℕ
  pub last : List ℕ
  pub parts : read ≡ earlier ++ last
  pub awaits_more : IsUnfinished (Awaited feed.greeted) (feed.held ++ earlier)
  pub below : turns.taken + length earlier < turns.limit
  pub most : length last ≤ 4096

-- These bytes may be read with the feed and the turns: none, or by reads that are made where the feed had nothing to give
-- and fewer than the limit were taken. What waits, or is below the limit, at the last read did so at those before.
abbrev pub IsWithin : FeedView → TurnsView → List ℕ → Type 0
IsWithin feed turns read = (read ≡ []) ⊎ EndsInRead feed turns read

-- fewer bytes than the limit were taken, so another read could be made
abbrev pub MayRead : TurnsView → Type 0
MayRead turns = turns.taken < turns.limit

-- the first of these bytes were pushed, and the others are gone
pub record IsCutOff (feed feed' : FeedView) (read : List ℕ) : Type 0 where
  pub pushed : List ℕ
  pub lost : List ℕ
  pub parts : read ≡ pushed ++ lost
  pub feed_is : feed' ≡ with_piece feed pushed

-- these bytes were read and counted, and no count of faults fell
pub record ReadsBytes (before after : ReadState) (read : List ℕ) : Type 0 where
  pub consumed : Consumes before.left after.left read
  pub never_falls : before.faults ≤ after.faults
  pub counted : after.turns ≡ with_taken before.turns (length read)
  pub within : IsWithin before.feed before.turns read

-- the cause of each answer, by what the feed gives once it has the bytes that were read
abbrev pub Comes : Taken → ReadState → ReadState → List ℕ → Type 0
Comes take_answers.Greeting before after read = Greets (with_piece before.feed read) after.feed
Comes (take_answers.Request request) before after read = GivesRequest (with_piece before.feed read) after.feed (plain_request request)
Comes take_answers.End before after read = Waits (with_piece before.feed read) after.feed × IsAtEnd after.left × MayRead after.turns × (after.feed.held ≡ [])
Comes (take_answers.Malformed at) before after read = IsWrong (with_piece before.feed read) after.feed at
Comes (take_answers.Truncated at) before after read = Waits (with_piece before.feed read) after.feed × IsAtEnd after.left × MayRead after.turns × (after.feed.held ≢ []) × (at ≡ later after.feed.offset (length after.feed.held))
Comes take_answers.ReadFault before after read = Waits (with_piece before.feed read) after.feed × MayRead after.turns × HasRisen before.faults after.faults
Comes take_answers.Memory before after read = IsCutOff before.feed after.feed read
Comes take_answers.Budget before after read = Waits (with_piece before.feed read) after.feed × (after.turns.limit ≤ after.turns.taken)

-- some bytes were read and counted, and the answer comes as they say
pub record IsTaken (before after : ReadState) (answer : Taken) : Type 0 where
  pub read : List ℕ
  pub reads : ReadsBytes before after read
  pub comes : Comes answer before after read
