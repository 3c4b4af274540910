-- What answering requests does to a session.
use Rattle.std.specs.Prelude.{◌≡◌, ◌⊎◌, ℕ, ◌≤◌, Bool, List, [], ◌∷◌, ◌++◌, length, map, All, Option}
use Rattle.std.specs.List.{flat_map, AllByRecursion}
use Rattle.std.specs.List.Sorted.{IsNonDecreasing}
use Rattle.febe_data.specs.LimitsView.{LimitsView}
use Rattle.febe_data.specs.Plain.{PlainRequest, PlainReply, PlainEntry}
use Rattle.febe_data.specs.Validity.{IsReply}
use Rattle.febe_reply.specs.ReplyGrammar.{spell_reply}
use Rattle.world_rules.specs.History.{entries_of}
use Rattle.world_rules.specs.Legal.{IsLegal, Exchange, TookPlace}
use Rattle.green_store.specs.Sessions.{begin_entry}
use Rattle.green_session.specs.declared.put.Put.{Put}
use Rattle.green_session.specs.declared.put.Put.TheVariants.{Memory}
use Rattle.green_session.specs.Putting.{IsPut}
use Rattle.world_rules.specs.Serials.{CountFromOne}
use Rattle.green_top.specs.Transcript.{output_of, HasValidReply, InTurn}
use Rattle.green_top.specs.inside.Play.{IsOthers}

-- what the answer to a request changes: the history, the points, what the sink took, where it tells that, and its
-- count of faults, and the disk's
pub record AnswerState : Type 0 where
  pub history : List PlainEntry
  pub points : List ℕ
  pub taken : Option (List ℕ)
  pub faults : ℕ
  pub disk_faults : ℕ

abbrev pub answer_state : List PlainEntry → List ℕ → Option (List ℕ) → ℕ → ℕ → AnswerState
answer_state history points taken faults disk_faults = record { history = history; points = points; taken = taken; faults = faults; disk_faults = disk_faults }

-- One request was answered by a legal step, behind what other sessions had added meanwhile: its point is the length of the history
-- after it, and the output is its reply, which the grammar can spell.
pub record Answers (limits : LimitsView) (session : ℕ) (before after : AnswerState) (request : PlainRequest) (output : List ℕ) : Type 0 where
  pub reply : PlainReply
  pub valid : IsReply reply
  pub past : List PlainEntry
  pub added : List PlainEntry
  pub rose : Bool
  pub others : IsOthers session past
  pub legal : IsLegal limits session (before.history ++ past) request reply added rose
  pub grows : after.history ≡ (before.history ++ past) ++ added
  pub never_falls : before.disk_faults ≤ after.disk_faults
  pub points_are : after.points ≡ before.points ++ length after.history ∷ []
  pub output_is : output ≡ spell_reply reply

-- its exchange, with this reply, in which this was added, and the count of disk faults rose or not
abbrev pub exchange_of : (after : AnswerState) → PlainRequest → PlainReply → List PlainEntry → Bool → Exchange
exchange_of after request reply added rose = record { request = request; reply = reply; point = length after.history; added = added; rose = rose }

-- the request was answered in this one exchange, and this came of writing its reply
pub record AnswersAndWrites (limits : LimitsView) (session : ℕ) (before after : AnswerState) (request : PlainRequest) (result : Put) (exchanges : List Exchange) : Type 0 where
  pub output : List ℕ
  pub answers : Answers limits session before after request output
  pub exchanges_are : exchanges ≡ exchange_of after request answers.reply answers.added answers.rose ∷ []
  pub put : IsPut before.taken after.taken before.faults after.faults output result

-- there was no memory, and all is as it was
pub record IsOutOfMemory (before after : AnswerState) (result : Put) (exchanges : List Exchange) : Type 0 where
  pub memory : result ≡ Memory
  pub no_exchange : exchanges ≡ []
  pub history_stays : after.history ≡ before.history
  pub points_stay : after.points ≡ before.points
  pub sink_stays : after.taken ≡ before.taken
  pub faults_stay : after.faults ≡ before.faults
  pub disk_faults_stay : after.disk_faults ≡ before.disk_faults

abbrev pub HandlesRequest : LimitsView → ℕ → AnswerState → AnswerState → PlainRequest → Put → List Exchange → Type 0
HandlesRequest limits session before after request result exchanges =
    AnswersAndWrites limits session before after request result exchanges ⊎ IsOutOfMemory before after result exchanges

-- The session so far: the requests answered in these exchanges, with their points and the output. The history begins with the one
-- with which the session had begun, and the session's entries in it are its Begin and what the exchanges added.
pub record Progress (limits : LimitsView) (session : ℕ) (begun history : List PlainEntry) (exchanges : List Exchange) (points : List ℕ) (answered : List PlainRequest) (output : List ℕ) : Type 0 where
  pub requests_are : answered ≡ map (λ (e : Exchange). e.request) exchanges
  pub points_are : points ≡ map (λ (e : Exchange). e.point) exchanges
  pub output_is : output ≡ output_of exchanges
  pub each : AllByRecursion (TookPlace limits session history) exchanges
  pub valid_replies : AllByRecursion HasValidReply exchanges
  pub starts_with : (more : List PlainEntry) × (history ≡ begun ++ more)
  pub entries : entries_of session history ≡ begin_entry session ∷ flat_map (λ (e : Exchange). e.added) exchanges
  pub serials : CountFromOne (entries_of session history)
  pub in_turn : InTurn session history (begin_entry session ∷ []) exchanges
  pub rising : IsNonDecreasing points
  pub within : All (λ point. point ≤ length history) points
  pub above : All (λ point. length begun ≤ point) points
