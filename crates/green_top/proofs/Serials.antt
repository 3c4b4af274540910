-- The serials of a session's entries count on.
use Rattle.std.proofs.Common.{◌≡◌, ℕ, zero, suc, ◌+◌, eqb, Bool, List, [], ◌∷◌, ◌++◌, length, Option, Some, None, refl, ap, ◌∙◌, sym, subst, inl, inr, ◌⊎◌, arith}
use Rattle.std.specs.Prelude.{MatchOption}
use Rattle.std.proofs.lemmas.List.{append-nil, map_push, length-append}
use Rattle.std.proofs.lemmas.List.Elements.{filter-append}
use Rattle.febe_data.specs.declared.refusal.Refusal.{Refusal}
use Rattle.febe_data.specs.LimitsView.{LimitsView}
use Rattle.febe_data.specs.Plain.{PlainRequest, PlainReply, PlainEntry}
use Rattle.world_rules.specs.Apply.{world_of}
use Rattle.world_rules.specs.History.{entries_of}
use Rattle.world_rules.specs.Effects.{Effect, effect}
use Rattle.world_rules.specs.Legal.{IsLegal, IsServed, IsRefused, IsQueryAnswered, IsDone, IsDiskFault, wanted_after}
use Rattle.world_rules.specs.Laws.{numbers_from}
use Rattle.world_rules.specs.Serials.{CountFromOne}
use Rattle.green_top.specs.Transcript.{IsEnding}

numbers_push : (n k : ℕ) → numbers_from n (suc k) ≡ numbers_from n k ++ (n + k) ∷ []
numbers_push n zero = ap (λ (m : ℕ). m ∷ []) (omega arith)
numbers_push n (suc k) = ap (λ (ms : List ℕ). n ∷ ms) (numbers_push (n + 1) k ∙ ap (λ (m : ℕ). numbers_from (n + 1) k ++ m ∷ []) (omega arith))

abbrev serial_of : PlainEntry → ℕ
serial_of e = e.serial

push_serial : (es : List PlainEntry) (x : PlainEntry) → CountFromOne es → x.serial ≡ length es + 1 → CountFromOne (es ++ x ∷ [])
push_serial es x s next =
    let longer : suc (length es) ≡ length (es ++ x ∷ []) = omega (arith, length-append es (x ∷ [])) in
    let is : x.serial ≡ 1 + length es = omega (arith, next) in
    map_push serial_of es x ∙ ap (λ (ms : List ℕ). ms ++ x.serial ∷ []) s ∙ ap (λ (m : ℕ). numbers_from 1 (length es) ++ m ∷ []) is
    ∙ sym (numbers_push 1 (length es)) ∙ ap (numbers_from 1) longer

abbrev GoOn : List PlainEntry → List PlainEntry → Type 0
GoOn es added = CountFromOne (es ++ added)

by_none : (es added : List PlainEntry) → CountFromOne es → added ≡ [] → GoOn es added
by_none es added s e = subst (GoOn es) (sym e) (subst CountFromOne (sym (append-nil es)) s)

-- what is the session's own comes behind its entries
pub own_behind : (session : ℕ) (h added : List PlainEntry) → entries_of session added ≡ added → entries_of session h ++ added ≡ entries_of session (h ++ added)
own_behind session h added own = sym (filter-append (λ (e : PlainEntry). eqb e.session session) h added ∙ ap (λ (x : List PlainEntry). entries_of session h ++ x) own)

module _ (session : ℕ) (h : List PlainEntry) (request : PlainRequest) (reply : PlainReply) (added : List PlainEntry) (rose : Bool) (s : CountFromOne (entries_of session h)) where
  by_served : (made : Option Effect) → MatchOption made (IsQueryAnswered h session request reply added) (λ m. IsDone h session m reply added ⊎ IsDiskFault m reply added rose) → GoOn (entries_of session h) added
  by_served None a = by_none (entries_of session h) added s a.nothing
  by_served (Some m) (inl a) = subst (GoOn (entries_of session h)) (sym a.entry) (push_serial (entries_of session h) _ s refl)
  by_served (Some m) (inr a) = by_none (entries_of session h) added s a.nothing

  by_given : (wanted : Option Refusal) → MatchOption wanted (IsServed h session request reply added rose) (λ refusal. IsRefused refusal reply added) → GoOn (entries_of session h) added
  by_given None a = by_served (effect (world_of h) session request) a
  by_given (Some refusal) a = by_none (entries_of session h) added s a.nothing

  pub serials_go_on : (limits : LimitsView) (after : List PlainEntry) → IsLegal limits session h request reply added rose → entries_of session added ≡ added → after ≡ h ++ added → CountFromOne (entries_of session after)
  serials_go_on limits after legal own grows =
      let on : GoOn (entries_of session h) added = elim legal.given [ inl m ↦ by_none (entries_of session h) added s m.nothing | inr g ↦ by_given (wanted_after limits h session request) g ] in
      subst CountFromOne (own_behind session h added own ∙ ap (entries_of session) (sym grows)) on

by_ending : (session : ℕ) (es more : List PlainEntry) → CountFromOne es → IsEnding session es more → GoOn es more
by_ending session es more s (inl e) = by_none es more s e
by_ending session es more s (inr e) = subst (GoOn es) (sym e.1) (push_serial es _ s refl)

pub serials_end : (session : ℕ) (h more : List PlainEntry) → CountFromOne (entries_of session h) → IsEnding session (entries_of session h) more → entries_of session more ≡ more → CountFromOne (entries_of session (h ++ more))
serials_end session h more s ending own = subst CountFromOne (own_behind session h more own) (by_ending session (entries_of session h) more s ending)
