-- What a session's requests, replies and points have to do with the history.
use Rattle.std.specs.Prelude.{⊤, take, true, ◌≡◌, ◌≢◌, ◌⊎◌, ℕ, ◌+◌, ◌-◌, ◌^◌, ◌<◌, ◌≤◌, List, [], ◌∷◌, ◌++◌, length, map, filter, All, codes}
use Rattle.std.specs.List.{flat_map, AllByRecursion}
use Rattle.std.specs.List.Sorted.{IsNonDecreasing}
use Rattle.febe_data.specs.LimitsView.{LimitsView}
use Rattle.febe_data.specs.Plain.{PlainRequest, PlainEntry, ended}
use Rattle.febe_data.specs.Validity.{IsReply}
use Rattle.febe_reply.specs.ReplyGrammar.{spell_reply}
use Rattle.world_rules.specs.History.{entries_of, is_live}
use Rattle.world_rules.specs.Legal.{Exchange, TookPlace}
use Rattle.world_rules.specs.Serials.{CountFromOne}
use Rattle.green_store.specs.Sessions.{begin_entry}

-- the first bytes are a prefix of the whole
abbrev pub IsPrefixOf : List ℕ → List ℕ → Type 0
IsPrefixOf prefix whole = (rest : List ℕ) × (whole ≡ prefix ++ rest)

-- the same, and they are not the whole
abbrev pub IsProperPrefixOf : List ℕ → List ℕ → Type 0
IsProperPrefixOf prefix whole = IsPrefixOf prefix whole × (prefix ≢ whole)

-- what a session is greeted with, and then its replies
abbrev pub output_of : List Exchange → List ℕ
output_of exchanges = codes "P0~" ++ flat_map (λ (e : Exchange). spell_reply e.reply) exchanges

-- in how many of these exchanges the count of disk faults rose
abbrev pub rises_in : List Exchange → ℕ
rises_in exchanges = length (filter (λ (e : Exchange). e.rose) exchanges)

-- In no more of these exchanges did the count of disk faults rise than it rose by in all. This is not asked where it then
-- stands at the greatest number, past which it does not count.
abbrev pub RisesWithin : List Exchange → ℕ → ℕ → Type 0
RisesWithin exchanges before after = after < 2 ^ 64 - 1 → before + rises_in exchanges ≤ after

-- the reply of an exchange is one that the grammar can spell
abbrev pub HasValidReply : Exchange → Type 0
HasValidReply exchange = IsReply exchange.reply

-- the session's Begin stands in the history, and no point is below its place
pub record BeginsBefore (session : ℕ) (history : List PlainEntry) (points : List ℕ) : Type 0 where
  pub before : List PlainEntry
  pub more : List PlainEntry
  pub parts : history ≡ before ++ begin_entry session ∷ more
  pub above : All (λ point. length before + 1 ≤ point) points

-- nothing; or, where the session's own entries leave it live, its End behind them
abbrev pub IsEnding : ℕ → List PlainEntry → List PlainEntry → Type 0
IsEnding session own ending = (ending ≡ []) ⊎ ((is_live own session ≡ true) × (ending ≡ record { session = session; serial = length own + 1; change = ended } ∷ []))

-- At the point of each exchange the session's entries are its own ones so far, and what this exchange added:
-- none is answered before the one in front of it was, or after the one behind it.
abbrev pub InTurn : ℕ → List PlainEntry → List PlainEntry → List Exchange → Type 0
InTurn session history own [] = ⊤
InTurn session history own (exchange ∷ exchanges) =
    (entries_of session (take exchange.point history) ≡ own ++ exchange.added) × InTurn session history (own ++ exchange.added) exchanges

-- The session's entries are its Begin, then what each exchange added, in their order, then at most an End, and only
-- where none of these was one. Their serials count them, so none of them is another one's copy.
pub record EntriesAre (session : ℕ) (history : List PlainEntry) (exchanges : List Exchange) : Type 0 where
  pub own : List PlainEntry
  pub ending : List PlainEntry
  pub own_are : own ≡ begin_entry session ∷ flat_map (λ (e : Exchange). e.added) exchanges
  pub is_ending : IsEnding session own ending
  pub parts : entries_of session history ≡ own ++ ending
  pub serials : CountFromOne (entries_of session history)
  pub in_turn : InTurn session history (begin_entry session ∷ []) exchanges

-- In these exchanges the requests were answered at these points, with this output: each exchange took place in the history, its
-- reply is one that can be spelled, the points never fall, and the session's entries are those of its accepted changes.
pub record Transcript (limits : LimitsView) (session : ℕ) (history : List PlainEntry) (exchanges : List Exchange) (requests : List PlainRequest) (points output : List ℕ) : Type 0 where
  pub requests_are : requests ≡ map (λ (e : Exchange). e.request) exchanges
  pub points_are : points ≡ map (λ (e : Exchange). e.point) exchanges
  pub output_is : output ≡ output_of exchanges
  pub each : AllByRecursion (TookPlace limits session history) exchanges
  pub valid_replies : AllByRecursion HasValidReply exchanges
  pub rising : IsNonDecreasing points
  pub begun : BeginsBefore session history points
  pub entries : EntriesAre session history exchanges
