-- What comes of a round.
use Rattle.std.proofs.Common.{◌≡◌, ◌≢◌, ℕ, ◌≤◌, Bool, true, false, not, List, [], ◌∷◌, ◌++◌, Option, Err, inl, inr, refl, ap, ◌∙◌, sym, subst, arith}
use Rattle.std.specs.Prelude.{IsTrue}
use Rattle.febe_data.specs.LimitsView.{LimitsView}
use Rattle.febe_data.specs.Plain.{PlainRequest, plain_request, quit, PlainReply, PlainEntry}
use Rattle.febe_data.specs.Validity.{IsReply}
use Rattle.febe_data.specs.declared.request.Request.{Request}
use Rattle.febe_feed.specs.FeedView.{FeedView}
use Rattle.febe_reply.specs.ReplyGrammar.{spell_reply}
use Rattle.world_rules.specs.History.{is_live}
use Rattle.world_rules.specs.Legal.{IsLegal, Exchange}
use Rattle.green_session.specs.declared.put.Put.{Put}
use Rattle.green_session.specs.declared.put.Put.TheVariants as put_results
use Rattle.green_session.specs.Putting.{IsPut}
use Rattle.green_session.specs.Taking.{TurnsView, read_state, IsTaken}
use Rattle.green_session.specs.declared.take.Taken.{Taken}
use Rattle.green_session.specs.declared.take.Taken.TheVariants as take_answers
use Rattle.green_top.specs.declared.session_end.SessionEnd.{SessionEnd}
use Rattle.green_top.specs.declared.session_end.SessionEnd.TheVariants as ends
use Rattle.green_top.specs.inside.Next.{NextIs}
use Rattle.green_top.specs.IoState.{io_state}
use Rattle.green_top.specs.inside.Conversation.{SessionState, session_state, reading, answering, IsAsked, IsNotAsked, IsLastRound}
use Rattle.green_top.specs.Times.{Coming}
use Rattle.green_top.specs.inside.Play.{HasReplied, AsksOnce}
use Rattle.green_top.specs.inside.Progress.{AnswerState, answer_state, HandlesRequest}
use Rattle.green_store.proofs.Remaining.{remains_live}
use Rattle.green_top.proofs.Liveness.{quit_ends}

-- nothing but reading was done
pub record OnlyReads (before after : SessionState) : Type 0 where
  pub history : after.history ≡ before.history
  pub points : after.points ≡ before.points
  pub taken : after.io.taken ≡ before.io.taken
  pub faults : after.io.sink_faults ≡ before.io.sink_faults
  pub disk_faults : after.io.disk_faults ≡ before.io.disk_faults

not_asked : (before after : SessionState) (answer : Taken) → OnlyReads before after → IsTaken (reading before) (reading after) answer → IsNotAsked before after [] answer
not_asked before after answer o t = record { read = t.read; reads = t.reads; comes = t.comes; no_exchange = refl; history_stays = o.history; points_stay = o.points; taken_stays = o.taken; faults_stay = o.faults; disk_faults_stay = o.disk_faults }

pub ended : (limits : LimitsView) (session : ℕ) (before after : SessionState) (end : SessionEnd) → OnlyReads before after → NextIs (IsTaken (reading before) (reading after)) (Err end) → IsLastRound limits session before after [] end
ended limits session before after ends.Quit o t = absurd t
ended limits session before after ends.End o t = not_asked before after take_answers.End o t
ended limits session before after (ends.Malformed at) o t = not_asked before after (take_answers.Malformed at) o t
ended limits session before after (ends.Truncated at) o t = not_asked before after (take_answers.Truncated at) o t
ended limits session before after ends.ReadFault o t = not_asked before after take_answers.ReadFault o t
ended limits session before after ends.WriteFault o t = absurd t
ended limits session before after ends.Memory o t = inl (not_asked before after take_answers.Memory o t)
ended limits session before after ends.Budget o t = not_asked before after take_answers.Budget o t
ended limits session before after ends.NoNumber o t = absurd t

-- ---- a request came

-- once its reply is written, the count of disk faults may rise
pub handled_later : (limits : LimitsView) (session : ℕ) (before : AnswerState) (h : List PlainEntry) (points : List ℕ) (taken : Option (List ℕ)) (sink_faults faults faults' : ℕ) (request : PlainRequest) (given : Put) (exchanges : List Exchange)
    → given ≡ put_results.Done → faults ≤ faults' → HandlesRequest limits session before (answer_state h points taken sink_faults faults) request given exchanges
    → HandlesRequest limits session before (answer_state h points taken sink_faults faults') request given exchanges
handled_later limits session before h points taken sink_faults faults faults' request given exchanges done rises (inl a) = inl (record {
  output = a.output;
  answers = record {
    reply = a.answers.reply;
    valid = a.answers.valid;
    past = a.answers.past;
    added = a.answers.added;
    rose = a.answers.rose;
    others = a.answers.others;
    legal = a.answers.legal;
    grows = a.answers.grows;
    never_falls = omega (arith, a.answers.never_falls, rises);
    points_are = a.answers.points_are;
    output_is = a.answers.output_is;
  };
  exchanges_are = a.exchanges_are;
  put = a.put;
})
handled_later limits session before h points taken sink_faults faults faults' request given exchanges done rises (inr m) = absurd (let e = sym done ∙ m.memory in cc)

-- a request whose reply was written was asked
pub was_asked : (limits : LimitsView) (session : ℕ) (before after : AnswerState) (request : PlainRequest) (given : Put) (exchanges : List Exchange) → given ≡ put_results.Done → HandlesRequest limits session before after request given exchanges → exchanges ≢ []
was_asked limits session before after request given exchanges done (inl a) none = absurd (let e = sym none ∙ a.exchanges_are in cc)
was_asked limits session before after request given exchanges done (inr m) none = absurd (let e = sym done ∙ m.memory in cc)

-- A request was taken, and then answered; and what was done behind that left the history as it was.
module _ (limits : LimitsView) (session : ℕ) (before : SessionState) (exchanges : List Exchange) (request : Request) (given put : Put) (is_put : given ≡ put) (h h' : List PlainEntry) (points : List ℕ) (feed : FeedView) (turns : TurnsView) (left taken : Option (List ℕ))
    (source_faults sink_faults faults : ℕ) (same : h' ≡ h) (t : IsTaken (reading before) (read_state left source_faults feed turns) (take_answers.Request request))
    (handled : HandlesRequest limits session (answering before) (answer_state h points taken sink_faults faults) (plain_request request) given exchanges) where
  abbrev after : SessionState
  after = session_state h' points feed turns (io_state left source_faults taken sink_faults faults)

  pub asked : IsAsked limits session before after exchanges (plain_request request) put
  asked = record {
    read = t.read;
    reads = t.reads;
    gives = t.comes;
    answered = subst (λ (p : Put). HandlesRequest limits session (answering before) (answering after) (plain_request request) p exchanges) is_put
        (subst (λ (x : List PlainEntry). HandlesRequest limits session (answering before) (answer_state x points taken sink_faults faults) (plain_request request) given exchanges) (sym same) handled);
  }

  pub asked_quit : plain_request request ≡ quit → IsAsked limits session before after exchanges quit put
  asked_quit is = subst (λ (r : PlainRequest). IsAsked limits session before after exchanges r put) is asked

-- ---- a request was replied to, its point noted, and its reply written

module _ {F S : Type 0} (Tells : F → S → Coming → Exchange → F → S → Coming → Type 0) (limits : LimitsView) (session : ℕ) (seen : List PlainEntry) (first first' : F) (second second' : S) (coming coming' : Coming) (request : PlainRequest) (reply : PlainReply) (point : ℕ) (h : List PlainEntry)
    (r : HasReplied Tells limits session seen first second coming request reply point h first' second' coming') where
  abbrev pub exchange_with : Exchange
  exchange_with = record { request = request; reply = reply; point = point; added = r.added; rose = r.rose }

  pub asked_once : AsksOnce Tells first second coming (exchange_with ∷ []) first' second' coming'
  asked_once = inr (exchange_with, refl, r.told)

  pub handled : (before : AnswerState) (points : List ℕ) (taken : Option (List ℕ)) (sink_faults faults : ℕ) (put : Put) → before.history ≡ seen → IsReply reply → before.disk_faults ≤ faults → points ≡ before.points ++ point ∷ []
      → IsPut before.taken taken before.faults sink_faults (spell_reply reply) put → HandlesRequest limits session before (answer_state h points taken sink_faults faults) request put (exchange_with ∷ [])
  handled before points taken sink_faults faults put is valid rises noted is_put = inl (record {
    output = spell_reply reply;
    answers = record {
      reply = reply;
      valid = valid;
      past = r.past;
      added = r.added;
      rose = r.rose;
      others = r.others;
      legal = subst (λ (x : List PlainEntry). IsLegal limits session (x ++ r.past) request reply r.added r.rose) (sym is) r.legal;
      grows = r.grows ∙ ap (λ (x : List PlainEntry). (x ++ r.past) ++ r.added) (sym is);
      never_falls = rises;
      points_are = noted ∙ ap (λ (n : ℕ). before.points ++ n ∷ []) r.point_is;
      output_is = refl;
    };
    exchanges_are = ap (λ (n : ℕ). record { request = request; reply = reply; point = n; added = r.added; rose = r.rose } ∷ []) r.point_is;
    put = is_put;
  })

  -- it is live unless it quits
  pub live_unless : (quits : Bool) → (IsTrue quits → request ≡ quit) × (request ≡ quit → IsTrue quits) → (mine : ℕ) → mine ≡ session → is_live h mine ≡ not quits
  live_unless true told mine same = subst (λ (n : ℕ). is_live h n ≡ false) (sym same) (over (told.0 refl))
    where
      over : request ≡ quit → is_live h session ≡ false
      over is =
          ap (λ (x : List PlainEntry). is_live x session) r.grows
          ∙ quit_ends limits session (seen ++ r.past) reply r.added r.rose (subst (λ (q : PlainRequest). IsLegal limits session (seen ++ r.past) q reply r.added r.rose) is r.legal)
  live_unless false told mine same =
      subst (λ (n : ℕ). is_live h n ≡ true) (sym same) (remains_live limits session (seen ++ r.past) request reply r.added h r.rose r.legal (λ is. absurd (let e = told.1 is in cc)) r.grows)

pub not_quits : (request : PlainRequest) (quits : Bool) → (IsTrue quits → request ≡ quit) × (request ≡ quit → IsTrue quits) → request ≢ quit → not quits ≡ true
not_quits request true told asks = absurd (asks (told.0 refl))
not_quits request false told asks = refl

-- the session is as live as it was
pub live_still : (h h' : List PlainEntry) (mine session : ℕ) (live : Bool) → h' ≡ h → mine ≡ session → is_live h session ≡ live → is_live h' mine ≡ live
live_still h h' mine session live same is_same is = ap (λ (x : List PlainEntry). is_live x mine) same ∙ ap (λ (n : ℕ). is_live h n) is_same ∙ is
