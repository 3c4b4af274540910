-- The serials of sessions that began after the last Restart count on.
use Rattle.std.proofs.Common.{◌≡◌, ◌≢◌, ℕ, zero, suc, ◌+◌, ◌⊎◌, inl, inr, ◌∙◌, eqb, Bool, true, false, List, [], ◌∷◌, ◌++◌, length, ap, refl, sym, subst, arith}
use Rattle.std.specs.Prelude.{Option, Some, None, MatchOption, filter}
use Rattle.std.proofs.lemmas.Bool.{eqb-true, or_cases, true≢false}
use Rattle.std.proofs.lemmas.Grind.{fold-append}
use Rattle.std.proofs.lemmas.List.{append-nil, map_push, length-append}
use Rattle.std.proofs.lemmas.List.Elements.{filter-append}
use Rattle.febe_data.specs.declared.access.Mode.{Mode}
use Rattle.febe_data.specs.declared.refusal.Refusal.{Refusal}
use Rattle.febe_data.specs.Plain.{PlainRequest, insert, copy, rearrange, create, delete, version, quit, create_link, set_account, opens, closes, publish, PlainReply, PlainChange, PlainEntry, restarted, began}
use Rattle.world_rules.specs.World.{World}
use Rattle.world_rules.specs.Apply.{world_of}
use Rattle.world_rules.specs.History.{durable_entries, entries_of, restart_entry}
use Rattle.world_rules.specs.Refusals.{opens_version}
use Rattle.world_rules.specs.Effects.{Effect, effect, opening}
use Rattle.world_rules.specs.Legal.{IsServed, IsRefused, IsQueryAnswered, IsDone, IsDiskFault, wanted_after, entry_after}
use Rattle.world_rules.specs.Laws.{numbers_from}
use Rattle.world_rules.specs.Serials.{begun_after, has_begun, CountFromOne, SerialsCount, ComesNext, SerialsGoOn, LegalStepsCount, RecoveredCounts}

-- ---- one entry more

numbers_push : (n k : ℕ) → numbers_from n (suc k) ≡ numbers_from n k ++ (n + k) ∷ []
numbers_push n zero = ap (λ (m : ℕ). m ∷ []) (omega arith)
numbers_push n (suc k) = ap (λ (ms : List ℕ). n ∷ ms) (numbers_push (n + 1) k ∙ ap (λ (m : ℕ). numbers_from (n + 1) k ++ m ∷ []) (omega arith))

abbrev serial_of : PlainEntry → ℕ
serial_of e = e.serial

count_push : (es : List PlainEntry) (x : PlainEntry) → CountFromOne es → x.serial ≡ length es + 1 → CountFromOne (es ++ x ∷ [])
count_push es x count next =
    let longer : suc (length es) ≡ length (es ++ x ∷ []) = omega (arith, length-append es (x ∷ [])) in
    let is : x.serial ≡ 1 + length es = omega (arith, next) in
    map_push serial_of es x ∙ ap (λ (ms : List ℕ). ms ++ x.serial ∷ []) count ∙ ap (λ (m : ℕ). numbers_from 1 (length es) ++ m ∷ []) is
    ∙ sym (numbers_push 1 (length es)) ∙ ap (numbers_from 1) longer

-- ---- who has begun

begun_push : (h : List PlainEntry) (e : PlainEntry) (session : ℕ) → has_begun (h ++ e ∷ []) session ≡ begun_after session (has_begun h session) e
begun_push h e session = fold-append (begun_after session) false h (e ∷ [])

-- who has begun after an entry that is no Restart had begun before it, or begins by it
begun_step : (session : ℕ) (begun : Bool) (maker serial : ℕ) (change : PlainChange) → change ≢ restarted → begun_after session begun (record { session = maker; serial = serial; change = change }) ≡ true
    → ((change ≡ began) × (maker ≡ session)) ⊎ (begun ≡ true)
begun_step session begun maker serial restarted apart is = absurd (apart refl)
begun_step session begun maker serial began apart is = elim (or_cases (eqb maker session) begun is) [ inl own ↦ inl (refl, eqb-true maker session own) | inr was ↦ inr was ]
begun_step session begun maker serial other apart is = inr is

-- ---- the session's entries

abbrev is_entry_of : ℕ → PlainEntry → Bool
is_entry_of session e = eqb e.session session

counted_before : (h : List PlainEntry) (e : PlainEntry) (session : ℕ) → ComesNext h e → SerialsCount h → ((e.change ≡ began) × (e.session ≡ session)) ⊎ (has_begun h session ≡ true) → CountFromOne (entries_of session h)
counted_before h e session next count (inl begins) =
    let none : entries_of session h ≡ [] = subst (λ (s : ℕ). entries_of s h ≡ []) begins.1 (next.is_first begins.0) in
    subst CountFromOne (sym none) refl
counted_before h e session next count (inr was) = count session was

pushed : (h : List PlainEntry) (e : PlainEntry) (session : ℕ) (own : Bool) → eqb e.session session ≡ own → ComesNext h e → CountFromOne (entries_of session h) → CountFromOne (entries_of session (h ++ e ∷ []))
pushed h e session true own next count =
    let same : e.session ≡ session = eqb-true e.session session own in
    let last : filter (is_entry_of session) (e ∷ []) ≡ e ∷ [] = rw own refl in
    let serial : e.serial ≡ length (entries_of session h) + 1 = next.is_next ∙ ap (λ (s : ℕ). length (entries_of s h) + 1) same in
    subst CountFromOne (sym (filter-append (is_entry_of session) h (e ∷ []) ∙ ap (λ (x : List PlainEntry). entries_of session h ++ x) last)) (count_push (entries_of session h) e count serial)
pushed h e session false own next count =
    let last : filter (is_entry_of session) (e ∷ []) ≡ [] = rw own refl in
    subst CountFromOne (sym (filter-append (is_entry_of session) h (e ∷ []) ∙ ap (λ (x : List PlainEntry). entries_of session h ++ x) last ∙ append-nil (entries_of session h))) count

pub serials_go_on : SerialsGoOn
serials_go_on h e next count session begun =
    let after : begun_after session (has_begun h session) e ≡ true = sym (begun_push h e session) ∙ begun in
    pushed h e session (eqb e.session session) refl next
    (counted_before h e session next count (begun_step session (has_begun h session) e.session e.serial e.change next.no_restart after))

pub recovered_counts : RecoveredCounts
recovered_counts history session begun = absurd (true≢false (sym begun ∙ begun_push (durable_entries history) restart_entry session))

-- ---- legal steps

-- the change of a request neither restarts nor begins anything
pub record GoesOn (change : PlainChange) : Type 0 where
  pub no_restart : change ≢ restarted
  pub no_begin : change ≢ began

by_effect : (one made : Effect) → Some one ≡ Some made → GoesOn one.change → GoesOn made.change
by_effect one made e goes = let same : one ≡ made = cc in subst (λ (m : Effect). GoesOn m.change) same goes

opening_goes : (world : World) (session : ℕ) (document : List ℕ) (mode : Mode) (copies : Bool) → GoesOn (opening world session document mode copies).change
opening_goes world session document mode true = record { no_restart = λ e. cc; no_begin = λ e. cc }
opening_goes world session document mode false = record { no_restart = λ e. cc; no_begin = λ e. cc }

effect_goes : (world : World) (session : ℕ) (request : PlainRequest) (made : Effect) → effect world session request ≡ Some made → GoesOn made.change
effect_goes world session (insert document at text) made e = by_effect _ made e (record { no_restart = λ e. cc; no_begin = λ e. cc })
effect_goes world session (copy document at specs) made e = by_effect _ made e (record { no_restart = λ e. cc; no_begin = λ e. cc })
effect_goes world session (rearrange document cuts) made e = by_effect _ made e (record { no_restart = λ e. cc; no_begin = λ e. cc })
effect_goes world session create made e = by_effect _ made e (record { no_restart = λ e. cc; no_begin = λ e. cc })
effect_goes world session (delete document span) made e = by_effect _ made e (record { no_restart = λ e. cc; no_begin = λ e. cc })
effect_goes world session (version document) made e = by_effect _ made e (record { no_restart = λ e. cc; no_begin = λ e. cc })
effect_goes world session quit made e = by_effect _ made e (record { no_restart = λ e. cc; no_begin = λ e. cc })
effect_goes world session (create_link home from to three) made e = by_effect _ made e (record { no_restart = λ e. cc; no_begin = λ e. cc })
effect_goes world session (set_account account) made e = by_effect _ made e (record { no_restart = λ e. cc; no_begin = λ e. cc })
effect_goes world session (opens document mode rule) made e = by_effect _ made e (opening_goes world session document mode (opens_version world session document mode rule))
effect_goes world session (closes document) made e = by_effect _ made e (record { no_restart = λ e. cc; no_begin = λ e. cc })
effect_goes world session (publish document) made e = by_effect _ made e (record { no_restart = λ e. cc; no_begin = λ e. cc })
effect_goes world session other made e = cc

abbrev GoOn : List PlainEntry → List PlainEntry → Type 0
GoOn before added = SerialsCount (before ++ added)

by_none : (before added : List PlainEntry) → SerialsCount before → added ≡ [] → GoOn before added
by_none before added count e = subst (GoOn before) (sym e) (subst SerialsCount (sym (append-nil before)) count)

by_served : (session : ℕ) (before : List PlainEntry) (request : PlainRequest) (reply : PlainReply) (added : List PlainEntry) (rose : Bool) (made : Option Effect) → SerialsCount before
    → effect (world_of before) session request ≡ made → MatchOption made (IsQueryAnswered before session request reply added) (λ m. IsDone before session m reply added ⊎ IsDiskFault m reply added rose) → GoOn before added
by_served session before request reply added rose None count e a = by_none before added count a.nothing
by_served session before request reply added rose (Some made) count e (inl a) =
    let goes = effect_goes (world_of before) session request made e in
    let next : ComesNext before (entry_after before session made) = record { no_restart = goes.no_restart; is_next = refl; is_first = λ begins. absurd (goes.no_begin begins) } in
    subst (GoOn before) (sym a.entry) (serials_go_on before (entry_after before session made) next count)
by_served session before request reply added rose (Some made) count e (inr a) = by_none before added count a.nothing

by_given : (session : ℕ) (before : List PlainEntry) (request : PlainRequest) (reply : PlainReply) (added : List PlainEntry) (rose : Bool) (wanted : Option Refusal) → SerialsCount before
    → MatchOption wanted (IsServed before session request reply added rose) (λ refusal. IsRefused refusal reply added) → GoOn before added
by_given session before request reply added rose None count a = by_served session before request reply added rose (effect (world_of before) session request) count refl a
by_given session before request reply added rose (Some refusal) count a = by_none before added count a.nothing

pub legal_steps_count : LegalStepsCount
legal_steps_count limits session before request reply added rose legal count =
    elim legal.given [ inl m ↦ by_none before added count m.nothing | inr g ↦ by_given session before request reply added rose (wanted_after limits before session request) count g ]
