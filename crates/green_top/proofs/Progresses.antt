-- A session goes on by one exchange, and ends.
use Rattle.std.proofs.Common.{◌≡◌, ℕ, ◌+◌, ◌-◌, ◌≤◌, eqb, Bool, List, [], ◌∷◌, ◌++◌, length, take, All, Option, Some, None, refl, ap, ◌∙◌, sym, subst, inl, inr, ◌⊎◌, arith, append_assoc}
use Rattle.std.specs.Prelude.{MatchOption, codes}
use Rattle.std.specs.List.{flat_map, AllByRecursion}
use Rattle.std.proofs.Math.Seq.{take-length}
use Rattle.std.proofs.lemmas.Bool.{eq-eqb}
use Rattle.std.proofs.lemmas.List.{append-nil, map_push, length-append}
use Rattle.std.proofs.lemmas.List.Elements.{All-push, All-weaker, All-nil, filter-append}
use Rattle.std.proofs.lemmas.List.Sorted.{IsNonDecreasingBy-push, IsNonDecreasingBy-short}
use Rattle.febe_data.specs.declared.refusal.Refusal.{Refusal}
use Rattle.febe_data.specs.LimitsView.{LimitsView}
use Rattle.febe_data.specs.Plain.{PlainRequest, PlainReply, PlainEntry}
use Rattle.febe_data.specs.Validity.{IsReply}
use Rattle.febe_reply.specs.ReplyGrammar.{spell_reply}
use Rattle.world_rules.specs.Apply.{world_of}
use Rattle.world_rules.specs.History.{entries_of}
use Rattle.world_rules.specs.Effects.{Effect, effect}
use Rattle.world_rules.specs.Legal.{IsLegal, IsServed, IsRefused, IsQueryAnswered, IsDone, IsDiskFault, Exchange, TookPlace, wanted_after, entry_after}
use Rattle.green_store.specs.Sessions.{begin_entry}
use Rattle.world_rules.specs.Serials.{CountFromOne}
use Rattle.green_top.specs.Transcript.{BeginsBefore, IsEnding, HasValidReply, Transcript}
use Rattle.green_top.specs.inside.Opening.{Begins}
use Rattle.green_top.specs.inside.Play.{IsOthers}
use Rattle.green_top.specs.inside.Progress.{AnswerState, Answers, exchange_of, Progress}
use Rattle.green_top.proofs.Serials.{own_behind, serials_go_on, serials_end}
use Rattle.green_top.proofs.Turns.{turn_before, turn_push}

abbrev asked : Exchange → PlainRequest
asked e = e.request

abbrev at_point : Exchange → ℕ
at_point e = e.point

abbrev pub adds : Exchange → List PlainEntry
adds e = e.added

-- an exchange stays where it took place, however the history goes on
took_place_before : (limits : LimitsView) (session : ℕ) (h more : List PlainEntry) (e : Exchange) → TookPlace limits session h e → TookPlace limits session (h ++ more) e
took_place_before limits session h more e t = record {
  before = t.before;
  more = t.more ++ more;
  parts = ap (λ (x : List PlainEntry). x ++ more) t.parts ∙ append_assoc (t.before ++ e.added) t.more more;
  point_is = t.point_is;
  legal = t.legal;
}

pub each_before : (limits : LimitsView) (session : ℕ) (h more : List PlainEntry) (es : List Exchange) → AllByRecursion (TookPlace limits session h) es → AllByRecursion (TookPlace limits session (h ++ more)) es
each_before limits session h more [] all = tt
each_before limits session h more (e ∷ es) all = (took_place_before limits session h more e all.0, each_before limits session h more es all.1)

each_push : (limits : LimitsView) (session : ℕ) (h : List PlainEntry) (es : List Exchange) (e : Exchange) → AllByRecursion (TookPlace limits session h) es → TookPlace limits session h e → AllByRecursion (TookPlace limits session h) (es ++ e ∷ [])
each_push limits session h [] e all last = (last, tt)
each_push limits session h (x ∷ es) e all last = (all.0, each_push limits session h es e all.1 last)

valid_push : (es : List Exchange) (e : Exchange) → AllByRecursion HasValidReply es → HasValidReply e → AllByRecursion HasValidReply (es ++ e ∷ [])
valid_push [] e all last = (last, tt)
valid_push (x ∷ es) e all last = (all.0, valid_push es e all.1 last)

pub flat_map_push : {X A : Type 0} (f : X → List A) (xs : List X) (x : X) → flat_map f (xs ++ x ∷ []) ≡ flat_map f xs ++ f x
flat_map_push f [] x = append-nil (f x)
flat_map_push f (y ∷ xs) x = ap (λ r. f y ++ r) (flat_map_push f xs x) ∙ sym (append_assoc (f y) (flat_map f xs) (f x))

abbrev says : Exchange → List ℕ
says e = spell_reply e.reply

-- what a legal step adds is the session's own
abbrev pub IsOwn : ℕ → List PlainEntry → Type 0
IsOwn session entries = entries_of session entries ≡ entries

own_none : (session : ℕ) (added : List PlainEntry) → added ≡ [] → IsOwn session added
own_none session added e = subst (IsOwn session) (sym e) refl

pub own_one : (session : ℕ) (e : PlainEntry) → e.session ≡ session → IsOwn session (e ∷ [])
own_one session e is = rw (eq-eqb e.session session is) refl

module _ (session : ℕ) (h : List PlainEntry) (request : PlainRequest) (reply : PlainReply) (added : List PlainEntry) (rose : Bool) where
  own_served : (made : Option Effect) → MatchOption made (IsQueryAnswered h session request reply added) (λ m. IsDone h session m reply added ⊎ IsDiskFault m reply added rose) → IsOwn session added
  own_served None s = own_none session added s.nothing
  own_served (Some m) (inl s) = subst (IsOwn session) (sym s.entry) (own_one session (entry_after h session m) refl)
  own_served (Some m) (inr s) = own_none session added s.nothing

  own_given : (wanted : Option Refusal) → MatchOption wanted (IsServed h session request reply added rose) (λ refusal. IsRefused refusal reply added) → IsOwn session added
  own_given None s = own_served (effect (world_of h) session request) s
  own_given (Some refusal) s = own_none session added s.nothing

  pub own_added : (limits : LimitsView) → IsLegal limits session h request reply added rose → IsOwn session added
  own_added limits legal = elim legal.given [ inl m ↦ own_none session added m.nothing | inr g ↦ own_given (wanted_after limits h session request) g ]

pub own_append : (session : ℕ) (xs ys : List PlainEntry) → IsOwn session xs → IsOwn session ys → IsOwn session (xs ++ ys)
own_append session xs ys p q =
    filter-append (λ (e : PlainEntry). eqb e.session session) xs ys ∙ ap (λ (r : List PlainEntry). r ++ entries_of session ys) p ∙ ap (λ (r : List PlainEntry). xs ++ r) q

-- ---- others have added meanwhile, and then one exchange more

-- entries behind the session's own ones, which are their own
pub entries_both : (session : ℕ) (xs ys : List PlainEntry) → entries_of session (xs ++ ys) ≡ entries_of session xs ++ entries_of session ys
entries_both session xs ys = filter-append (λ (e : PlainEntry). eqb e.session session) xs ys

pub entries_past : (session : ℕ) (h past : List PlainEntry) → IsOthers session past → entries_of session (h ++ past) ≡ entries_of session h
entries_past session h past others = entries_both session h past ∙ ap (λ (x : List PlainEntry). entries_of session h ++ x) others.none_own ∙ append-nil (entries_of session h)

abbrev start_of : ℕ → List PlainEntry
start_of session = begin_entry session ∷ []

module _ (limits : LimitsView) (session : ℕ) (begun h : List PlainEntry) (exchanges : List Exchange) (points : List ℕ) (answered : List PlainRequest) (output : List ℕ) (p : Progress limits session begun h exchanges points answered output) where
  points_within : (more : List PlainEntry) → All (λ point. point ≤ length (h ++ more)) points
  points_within more = All-weaker (λ point. point ≤ length h) (λ point. point ≤ length (h ++ more)) (λ x le. omega (arith, le, length-append h more)) points p.within

  begun_first : (more : List PlainEntry) → (rest : List PlainEntry) × (h ++ more ≡ begun ++ rest)
  begun_first more = (p.starts_with.0 ++ more, ap (λ (x : List PlainEntry). x ++ more) p.starts_with.1 ∙ append_assoc begun p.starts_with.0 more)

  -- others have added these
  pub progress_past : (past : List PlainEntry) → IsOthers session past → Progress limits session begun (h ++ past) exchanges points answered output
  progress_past past others = record {
    requests_are = p.requests_are;
    points_are = p.points_are;
    output_is = p.output_is;
    each = each_before limits session h past exchanges p.each;
    valid_replies = p.valid_replies;
    starts_with = begun_first past;
    entries = entries_past session h past others ∙ p.entries;
    serials = subst CountFromOne (sym (entries_past session h past others)) p.serials;
    in_turn = turn_before limits session h past (start_of session) exchanges p.each p.in_turn;
    rising = p.rising;
    within = points_within past;
    above = p.above;
  }

  -- a request was answered on this history
  module _ (request : PlainRequest) (reply : PlainReply) (added : List PlainEntry) (rose : Bool) (valid : IsReply reply) (legal : IsLegal limits session h request reply added rose) where
    abbrev after : List PlainEntry
    after = h ++ added

    abbrev one : Exchange
    one = record { request = request; reply = reply; point = length after; added = added; rose = rose }

    took_place : TookPlace limits session after one
    took_place = record { before = h; more = []; parts = sym (append-nil after); point_is = refl; legal = legal }

    own : IsOwn session added
    own = own_added session h request reply added rose limits legal

    last : entries_of session (take (length after) after) ≡ (start_of session ++ flat_map adds exchanges) ++ added
    last = ap (entries_of session) (take-length after) ∙ sym (own_behind session h added own) ∙ ap (λ (x : List PlainEntry). x ++ added) p.entries

    all_within : All (λ point. point ≤ length after) points
    all_within = points_within added

    above_begun : length begun ≤ length after
    above_begun = omega (arith, ap length p.starts_with.1, length-append begun p.starts_with.0, length-append h added)

    pub progress_step : Progress limits session begun after (exchanges ++ one ∷ []) (points ++ length after ∷ []) (answered ++ request ∷ []) (output ++ spell_reply reply)
    progress_step = record {
      requests_are = ap (λ (rs : List PlainRequest). rs ++ request ∷ []) p.requests_are ∙ sym (map_push asked exchanges one);
      points_are = ap (λ (ps : List ℕ). ps ++ length after ∷ []) p.points_are ∙ sym (map_push at_point exchanges one);
      output_is = ap (λ (x : List ℕ). x ++ spell_reply reply) p.output_is ∙ append_assoc (codes "P0~") (flat_map says exchanges) (spell_reply reply) ∙ ap (λ (x : List ℕ). codes "P0~" ++ x) (sym (flat_map_push says exchanges one));
      each = each_push limits session after exchanges one (each_before limits session h added exchanges p.each) took_place;
      valid_replies = valid_push exchanges one p.valid_replies valid;
      starts_with = begun_first added;
      entries = sym (own_behind session h added own) ∙ ap (λ (x : List PlainEntry). x ++ added) p.entries ∙ ap (λ (x : List PlainEntry). begin_entry session ∷ x) (sym (flat_map_push adds exchanges one));
      serials = serials_go_on session h request reply added rose p.serials limits after legal own refl;
      in_turn = turn_push session after (start_of session) exchanges one (turn_before limits session h added (start_of session) exchanges p.each p.in_turn) last;
      rising = IsNonDecreasingBy-push (λ n. n) points (length after) p.rising (λ d filled. all_within (length points - 1) d (omega arith));
      within = All-push (λ point. point ≤ length after) points (length after) all_within (omega arith);
      above = All-push (λ point. length begun ≤ point) points (length after) p.above above_begun;
    }

-- a request was answered, behind what others had added
module _ (limits : LimitsView) (session : ℕ) (begun : List PlainEntry) (exchanges : List Exchange) (answered : List PlainRequest) (output o : List ℕ) (request : PlainRequest) (before after : AnswerState)
    (p : Progress limits session begun before.history exchanges before.points answered output) (a : Answers limits session before after request o) where
  here : Progress limits session begun (before.history ++ a.past) exchanges before.points answered output
  here = progress_past limits session begun before.history exchanges before.points answered output p a.past a.others

  stepped : Progress limits session begun ((before.history ++ a.past) ++ a.added) (exchanges ++ record { request = request; reply = a.reply; point = length ((before.history ++ a.past) ++ a.added); added = a.added; rose = a.rose } ∷ [])
      (before.points ++ length ((before.history ++ a.past) ++ a.added) ∷ []) (answered ++ request ∷ []) (output ++ spell_reply a.reply)
  stepped = progress_step limits session begun (before.history ++ a.past) exchanges before.points answered output here request a.reply a.added a.rose a.valid a.legal

  pub progress_goes_on : Progress limits session begun after.history (exchanges ++ exchange_of after request a.reply a.added a.rose ∷ []) after.points (answered ++ request ∷ []) (output ++ o)
  progress_goes_on =
      subst (λ (x : List ℕ). Progress limits session begun after.history (exchanges ++ exchange_of after request a.reply a.added a.rose ∷ []) after.points (answered ++ request ∷ []) (output ++ x)) (sym a.output_is)
      (subst (λ (x : List ℕ). Progress limits session begun after.history (exchanges ++ exchange_of after request a.reply a.added a.rose ∷ []) x (answered ++ request ∷ []) (output ++ spell_reply a.reply)) (sym a.points_are)
      (subst (λ (x : List PlainEntry). Progress limits session begun x (exchanges ++ record { request = request; reply = a.reply; point = length x; added = a.added; rose = a.rose } ∷ []) (before.points ++ length x ∷ []) (answered ++ request ∷ []) (output ++ spell_reply a.reply)) (sym a.grows) stepped))

-- ---- the session begins

pub first_of : (session : ℕ) (opened begun : List PlainEntry) → Begins session opened begun → entries_of session begun ≡ begin_entry session ∷ []
first_of session opened begun b =
    ap (entries_of session) b.grows ∙ entries_both session opened (begin_entry session ∷ [])
    ∙ ap (λ (x : List PlainEntry). x ++ entries_of session (begin_entry session ∷ [])) b.no_entry ∙ own_one session (begin_entry session) refl

pub progress_begins : (limits : LimitsView) (session : ℕ) (opened begun : List PlainEntry) → Begins session opened begun → Progress limits session begun begun [] [] [] (codes "P0~")
progress_begins limits session opened begun b =
    let first = first_of session opened begun b in
    record {
      requests_are = refl;
      points_are = refl;
      output_is = refl;
      each = tt;
      valid_replies = tt;
      starts_with = ([], sym (append-nil begun));
      entries = first;
      serials = subst CountFromOne (sym first) refl;
      in_turn = tt;
      rising = IsNonDecreasingBy-short (λ n. n) [] (omega arith);
      within = All-nil (λ point. point ≤ length begun);
      above = All-nil (λ point. length begun ≤ point);
    }

-- ---- the whole

module _ (limits : LimitsView) (session : ℕ) (opened begun h : List PlainEntry) (b : Begins session opened begun) (exchanges : List Exchange) (points : List ℕ) (answered : List PlainRequest) (output : List ℕ) (p : Progress limits session begun h exchanges points answered output) where
  -- the history from the session's Begin on
  parts : (more : List PlainEntry) → h ++ more ≡ opened ++ (begin_entry session ∷ (p.starts_with.0 ++ more))
  parts more =
      ap (λ (x : List PlainEntry). x ++ more) (p.starts_with.1 ∙ ap (λ (x : List PlainEntry). x ++ p.starts_with.0) b.grows)
      ∙ append_assoc (opened ++ begin_entry session ∷ []) p.starts_with.0 more ∙ append_assoc opened (begin_entry session ∷ []) (p.starts_with.0 ++ more)

  begins_before : (more : List PlainEntry) → BeginsBefore session (h ++ more) points
  begins_before more = record {
    before = opened;
    more = p.starts_with.0 ++ more;
    parts = parts more;
    above = All-weaker (λ point. length begun ≤ point) (λ point. length opened + 1 ≤ point) (λ x le. omega (arith, le, ap length b.grows, length-append opened (begin_entry session ∷ []))) points p.above;
  }

  pub transcript_of : (more : List PlainEntry) → IsEnding session (entries_of session h) more → IsOwn session more → Transcript limits session (h ++ more) exchanges answered points output
  transcript_of more ending own = record {
    requests_are = p.requests_are;
    points_are = p.points_are;
    output_is = p.output_is;
    each = each_before limits session h more exchanges p.each;
    valid_replies = p.valid_replies;
    rising = p.rising;
    begun = begins_before more;
    entries = record {
      own = entries_of session h;
      ending = more;
      own_are = p.entries;
      is_ending = ending;
      parts = entries_both session h more ∙ ap (λ (x : List PlainEntry). entries_of session h ++ x) own;
      serials = serials_end session h more p.serials ending own;
      in_turn = turn_before limits session h more (start_of session) exchanges p.each p.in_turn;
    };
  }
