-- The replies of legal steps are isolated.
use Rattle.std.proofs.Common.{◌≡◌, ◌⊎◌, inl, inr, ℕ, ◌∙◌, Bool, true, false, List, [], length, ap, sym, refl, subst}
use Rattle.std.specs.Prelude.{Option, Some, None, MatchOption}
use Rattle.std.proofs.lemmas.Bool.{true≢false}
use Rattle.febe_data.specs.declared.refusal.Refusal.{Refusal}
use Rattle.febe_data.specs.declared.refusal.Refusal.TheVariants.{Memory}
use Rattle.febe_data.specs.LimitsView.{LimitsView}
use Rattle.febe_data.specs.Plain.{PlainRequest, span_set, whole_span, retrieve, relate, follow, find_documents, end_sets, count_links, find_links, next_links, PlainReply, refused, PlainEntry}
use Rattle.world_rules.specs.World.{World}
use Rattle.world_rules.specs.Apply.{world_of}
use Rattle.world_rules.specs.History.{durable_entries}
use Rattle.world_rules.specs.Effects.{Effect, effect}
use Rattle.world_rules.specs.Answers.{answer}
use Rattle.world_rules.specs.Queries.{is_query}
use Rattle.world_rules.specs.Legal.{wanted_after, IsServed, IsRefused, IsQueryAnswered, IsDone, IsDiskFault, IsLegal}
use Rattle.world_rules.specs.Isolated.{SeesSame, Answers, LegalStepsIsolate, SameReplies}
use Rattle.world_laws.proofs.Isolation.{isolates}

-- ---- seeing the same

pub sees_itself : (session : ℕ) (world : World) → SeesSame session world world
sees_itself session world = record { documents = refl; rows = refl; bytes = refl; links = refl; marks = λ document. refl; account = refl; opened = λ document. refl }

pub sees_back : (session : ℕ) (left right : World) → SeesSame session left right → SeesSame session right left
sees_back session left right same = record {
  documents = sym same.documents;
  rows = sym same.rows;
  bytes = sym same.bytes;
  links = sym same.links;
  marks = λ document. sym (same.marks document);
  account = sym same.account;
  opened = λ document. sym (same.opened document);
}

-- ---- a step

-- a query has no effect
pub query_none : (world : World) (session : ℕ) (request : PlainRequest) → is_query request ≡ true → effect world session request ≡ None
query_none world session (span_set document) query = refl
query_none world session (whole_span document) query = refl
query_none world session (retrieve specs) query = refl
query_none world session (relate left right) query = refl
query_none world session (follow id end) query = refl
query_none world session (find_documents specs) query = refl
query_none world session (end_sets specs) query = refl
query_none world session (count_links want) query = refl
query_none world session (find_links want) query = refl
query_none world session (next_links want after limit) query = refl
query_none world session other query = absurd (true≢false (sym query))

by_effect : (session : ℕ) (before : List PlainEntry) (request : PlainRequest) (reply : PlainReply) (added : List PlainEntry) (rose : Bool) (made : Option Effect) → made ≡ None
    → MatchOption made (IsQueryAnswered before session request reply added) (λ m. IsDone before session m reply added ⊎ IsDiskFault m reply added rose) → reply ≡ answer (world_of before) session request
by_effect session before request reply added rose None none given = given.reply_is
by_effect session before request reply added rose (Some made) none given = absurd cc

by_wanted : (session : ℕ) (before : List PlainEntry) (request : PlainRequest) (reply : PlainReply) (added : List PlainEntry) (rose : Bool) (wanted : Option Refusal) → wanted ≡ None → effect (world_of before) session request ≡ None
    → MatchOption wanted (IsServed before session request reply added rose) (λ refusal. IsRefused refusal reply added) → reply ≡ answer (world_of before) session request
by_wanted session before request reply added rose None allowed none given = by_effect session before request reply added rose (effect (world_of before) session request) none given
by_wanted session before request reply added rose (Some refusal) allowed none given = absurd cc

pub legal_steps_isolate : LegalStepsIsolate
legal_steps_isolate limits session before request reply added rose legal other same query allowed =
    let answers : Answers limits (length (durable_entries other)) (world_of other) session request (answer (world_of other) session request) = record { allowed = allowed; reply_is = refl } in
    let here = isolates limits session (world_of other) (world_of before) (length (durable_entries other)) (length (durable_entries before)) request (answer (world_of other) session request)
    (sees_back session (world_of before) (world_of other) same) query answers in
    elim legal.given [
      | inl m ↦ inr m.reply_is
      | inr g ↦ inl (by_wanted session before request reply added rose (wanted_after limits before session request) here.allowed (query_none (world_of before) session request query) g ∙ sym here.reply_is)
    ]

-- ---- two steps

either_memory : (reply given told : PlainReply) → (reply ≡ told) ⊎ (reply ≡ refused Memory) → (given ≡ told) ⊎ (given ≡ refused Memory) → (reply ≡ given) ⊎ ((reply ≡ refused Memory) ⊎ (given ≡ refused Memory))
either_memory reply given told (inl one) (inl other) = inl (one ∙ sym other)
either_memory reply given told (inl one) (inr memory) = inr (inr memory)
either_memory reply given told (inr memory) other = inr (inl memory)

pub same_replies : SameReplies
same_replies limits session before other request reply given added more rose fell steps =
    either_memory reply given (answer (world_of other) session request)
    (legal_steps_isolate limits session before request reply added rose steps.one other steps.sees_same steps.query steps.allowed)
    (legal_steps_isolate limits session other request given more fell steps.another other (sees_itself session (world_of other)) steps.query steps.allowed)
