-- What a step of a store is as a play on the housed one.
use Rattle.std.proofs.Common.{◌≡◌, ◌≢◌, ◌⊎◌, inl, inr, ◌∙◌, ℕ, ◌+◌, ◌-◌, ◌*◌, ◌<◌, ◌≤◌, Bool, true, false, List, [], ◌∷◌, ◌++◌, length, refl, ap, sym, arith}
use Rattle.std.specs.Prelude.{◌||◌, drop, nat_le, nat_lt, if◌then◌else◌}
use Rattle.std.proofs.lemmas.Bool.{true≢false}
use Rattle.std.proofs.lemmas.Bool.Decides.{nat_tests}
use Rattle.std.proofs.lemmas.List.{append-nil}
use Rattle.febe_data.specs.Plain.{PlainRequest, plain_request, PlainReply, plain_reply, PlainEntry}
use Rattle.history_lock.specs.Histories.{Grows}
use Rattle.world_rules.specs.History.{is_live, durable_entries}
use Rattle.green_store.specs.declared.housed.HouseJob.{HouseJob}
use Rattle.green_store.specs.declared.housed.HouseJob.TheVariants as jobs
use Rattle.green_store.specs.declared.step.Step.{Step}
use Rattle.green_store.specs.declared.step.Step.TheVariants as steps
use Rattle.green_store.specs.declared.step.StepAnswer.{StepAnswer}
use Rattle.green_store.specs.declared.step.StepAnswer.TheVariants as answers
use Rattle.green_store.specs.Durable.{has_risen}
use Rattle.green_store.specs.HousePlays.{step_for, number_after, ComesTo, PlaysReply}
use Rattle.green_store.specs.IsStep.{IsStep, IsBegun, IsReplied, MayBalance, MayFlush, MaySweep, IsFlushed, unsaved, UnlessTended, OnTended}
use Rattle.green_store.specs.Laws.{AddsOwn}
use Rattle.green_store.specs.Marks.{owner_of, numbers_of, marks_of, due_in, but_last}
use Rattle.green_store.specs.Sessions.{begin_entry, end_entry}
use Rattle.green_store.specs.StoreView.{StoreView}
use Rattle.green_store.proofs.Owners.{legal_steps_add_own, next_has_none}

-- ---- what is due

due_number : Bool → Bool → Bool → ℕ
due_number allows unsaved many = if allows || unsaved || many then 1 else 0

due_where : (allows unsaved many : Bool) → (allows ≡ true) ⊎ ((unsaved ≡ true) ⊎ (many ≡ true)) → due_number allows unsaved many ≡ 1
unfolding due_number
due_where true unsaved many is = refl
due_where false true many is = refl
due_where false false true is = refl
due_where false false false (inl is) = absurd (true≢false (sym is))
due_where false false false (inr (inl is)) = absurd (true≢false (sym is))
due_where false false false (inr (inr is)) = absurd (true≢false (sym is))

none_where : (allows unsaved many : Bool) → allows ≡ false → unsaved ≡ false → many ≡ false → due_number allows unsaved many ≡ 0
unfolding due_number
none_where false false false allows unsaved many = refl
none_where true unsaved many allows saved is = absurd (true≢false allows)
none_where false true many allows saved is = absurd (true≢false saved)
none_where false false true allows saved is = absurd (true≢false is)

is_more : (m n : ℕ) → m < n → nat_lt m n ≡ true
is_more m n lt = grind (arith, nat_tests)

is_no_more : (m n : ℕ) → n ≤ m → nat_lt m n ≡ false
is_no_more m n le = grind (arith, nat_tests)

is_within : (m n : ℕ) → m ≤ n → nat_le m n ≡ true
is_within m n le = grind (arith, nat_tests)

is_beyond : (m n : ℕ) → n < m → nat_le m n ≡ false
is_beyond m n lt = grind (arith, nat_tests)

module _ (store : StoreView) (faults last : ℕ) where
  may_balance : MayBalance store → due_in (marks_of faults store last) ≡ 1
  unfolding due_number
  may_balance may = due_where store.trees.allows (nat_le store.limits.flush (unsaved store)) (nat_lt (2 * store.base + 1024) store.trees.nodes) (inl may)

  may_flush : MayFlush store → due_in (marks_of faults store last) ≡ 1
  unfolding due_number
  may_flush may = due_where store.trees.allows (nat_le store.limits.flush (unsaved store)) (nat_lt (2 * store.base + 1024) store.trees.nodes) (inr (inl (is_within _ _ may.many)))

  may_sweep : MaySweep store → due_in (marks_of faults store last) ≡ 1
  unfolding due_number
  may_sweep may = due_where store.trees.allows (nat_le store.limits.flush (unsaved store)) (nat_lt (2 * store.base + 1024) store.trees.nodes) (inr (inr (is_more _ _ may.many)))

  may_either : MayBalance store ⊎ MayFlush store ⊎ MaySweep store → due_in (marks_of faults store last) ≡ 1
  may_either (inl may) = may_balance may
  may_either (inr (inl may)) = may_flush may
  may_either (inr (inr may)) = may_sweep may

  nothing_due : store.trees.allows ≡ false → unsaved store < store.limits.flush → store.trees.nodes ≤ 2 * store.base + 1024 → due_in (marks_of faults store last) ≡ 0
  unfolding due_number
  nothing_due allows saved few = none_where store.trees.allows (nat_le store.limits.flush (unsaved store)) (nat_lt (2 * store.base + 1024) store.trees.nodes) allows (is_beyond _ _ saved) (is_no_more _ _ few)

-- what stands past the pages once they stand for all
none_unsaved : (before after : StoreView) → IsFlushed before after → unsaved after ≡ 0
none_unsaved before after step =
    let same : length (durable_entries after.history) ≡ length (durable_entries before.history) = ap (λ (v : StoreView). length (durable_entries v.history)) step.still in
    alike (length (durable_entries after.history)) (length (durable_entries before.history)) after.flushed same step.flushed_is
  where
    alike : (new old flushed : ℕ) → new ≡ old → flushed ≡ old → new - flushed ≡ 0
    alike new old flushed same is = omega arith

-- ---- plays

replied : (before after : StoreView) (number : ℕ) (request : PlainRequest) (reply : PlainReply) (point : ℕ) (rose : Bool) → IsReplied before number request reply point after rose
    → PlaysReply before.limits before.history number request reply point number after.history rose
replied before after number request reply point rose r = record {
  live = r.live;
  number_stays = refl;
  point_is = r.point_is;
  valid = r.valid;
  given = elim r.given [
    | inl g ↦ inl g
    | inr g ↦ inr (g.0, g.1.reply_is, ap (λ (v : StoreView). v.history) g.1.stays)
  ];
}

same : (before after : StoreView) → after ≡ before → after.history ≡ before.history
same before after stays = ap (λ (v : StoreView). v.history) stays

-- the marks of the store are as they were, whatever the last is
as_they_were : (before after : StoreView) (old new was last : ℕ) → new ≡ old → after ≡ before → but_last (marks_of new after last) ≡ but_last (marks_of old before was)
as_they_were before after old new was last faults stays = ap (λ (v : StoreView). but_last (marks_of new v last)) stays ∙ ap (λ (n : ℕ). but_last (marks_of n before last)) faults

pub step_plays : (before after : StoreView) (old new was last : ℕ) (number : ℕ) (job : HouseJob) (answer : StepAnswer) → (job ≡ jobs.Begin → number ≡ 0) → OnTended (step_for number job) (unsaved before < before.limits.flush → new ≡ old)
    → IsStep before (step_for number job) after answer (has_risen old new)
    → ComesTo (numbers_of before.limits) before.history number job answer (number_after number answer) after.history (marks_of old before was) (marks_of new after last)
step_plays before after old new was last number jobs.Begin (answers.Begun session) none alone step = record { was_none = none refl; session_is = step.number_is; has_number = omega (arith, step.has_number, step.number_is); number_is = refl; grows = ap (λ (v : StoreView). v.history) step.grows }
step_plays before after old new was last number jobs.Begin answers.NoNumber none alone step = record { was_none = none refl; last_taken = step.last_taken; stays = record { number_stays = refl; history_stays = same before after step.stays } }
step_plays before after old new was last number jobs.Begin answers.Memory none alone step = record { was_none = none refl; has_number = step.has_number; stays = record { number_stays = refl; history_stays = same before after step.stays } }
step_plays before after old new was last number (jobs.Ask request) (answers.Reply reply point) none alone step = replied before after number (plain_request request) (plain_reply reply) point (has_risen old new) step
step_plays before after old new was last number (jobs.Ask request) answers.NoSession none alone step = record { not_live = step.not_live; stays = record { number_stays = refl; history_stays = same before after step.stays } }
step_plays before after old new was last number jobs.End answers.Ended none alone step = record { live = step.live; number_stays = refl; grows = ap (λ (v : StoreView). v.history) step.grows }
step_plays before after old new was last number jobs.End answers.NoSession none alone step = record { not_live = step.not_live; stays = record { number_stays = refl; history_stays = same before after step.stays } }
step_plays before after old new was last number jobs.Background answers.Balanced none alone step = (record { number_stays = refl; history_stays = step.still.history }, record { due = may_balance before old was step.may; lowers = step.lowers })
step_plays before after old new was last number jobs.Background answers.Flushed none alone step = (record { number_stays = refl; history_stays = ap (λ (v : StoreView). v.history) step.still }, record { due = may_flush before old was step.may; saved = none_unsaved before after step })
step_plays before after old new was last number jobs.Background answers.Disk none alone step = (record { number_stays = refl; history_stays = ap (λ (v : StoreView). v.history) step.still }, record { due = may_flush before old was step.may; failed = step.failed; stays = ap (λ (v : StoreView). drop 1 (but_last (marks_of new v last))) step.still })
step_plays before after old new was last number jobs.Background answers.Swept none alone step = (record { number_stays = refl; history_stays = step.still.history }, record { due = may_sweep before old was step.may; reached = step.none_left })
step_plays before after old new was last number jobs.Background answers.Idle none alone step = (record { number_stays = refl; history_stays = same before after step.stays }, record { none_due = nothing_due before old was step.balanced step.saved step.few; stays = as_they_were before after old new was last (alone step.saved) step.stays })
step_plays before after old new was last number jobs.Background answers.Memory none alone step = (record { number_stays = refl; history_stays = ap (λ (v : StoreView). v.history) step.still }, record { due = may_either before old was step.may; stays = ap (λ (v : StoreView). drop 1 (but_last (marks_of new v last))) step.still; no_fault = λ few. as_they_were before after old new was last (alone few) (step.stays few) })
step_plays before after old new was last number job answer none alone step = absurd step

-- what holds of a background step follows from what does
pub on_tended : {P Q : Type 0} → (step : Step) → (P → Q) → OnTended step P → OnTended step Q
on_tended (steps.Ask session request) follows is = tt
on_tended steps.Begin follows is = tt
on_tended (steps.End session) follows is = tt
on_tended steps.Background follows is = follows is

-- what holds whatever the step is
pub unless_tended : {P : Type 0} → (step : Step) → P → UnlessTended step P
unless_tended (steps.Ask session request) is = is
unless_tended steps.Begin is = is
unless_tended (steps.End session) is = is
unless_tended steps.Background is = tt

pub if_tended : {P : Type 0} → (step : Step) → P → OnTended step P
if_tended (steps.Ask session request) is = tt
if_tended steps.Begin is = tt
if_tended (steps.End session) is = tt
if_tended steps.Background is = is

-- ---- what a play adds

module _ (before after : StoreView) (number : ℕ) (none_live : is_live before.history 0 ≡ false) where
  adds_nothing : after.history ≡ before.history → Grows owner_of number before.history number after.history
  adds_nothing stays = ([], stays ∙ sym (append-nil before.history), inl (refl, refl))

  no_zero : is_live before.history number ≡ true → number ≢ 0
  no_zero live is = true≢false (sym live ∙ (ap (is_live before.history) is ∙ none_live))

  adds_entry : (entry : PlainEntry) → owner_of entry ≡ number → is_live before.history number ≡ true → after.history ≡ before.history ++ entry ∷ [] → Grows owner_of number before.history number after.history
  adds_entry entry own live grows = (entry ∷ [], grows, inr (entry, refl, own, no_zero live, (λ zero. absurd (no_zero live zero)), (λ other. refl)))

  adds_own : (added : List PlainEntry) → (added ≡ []) ⊎ AddsOwn number added → is_live before.history number ≡ true → after.history ≡ before.history ++ added → Grows owner_of number before.history number after.history
  adds_own added (inl nothing) live grows = adds_nothing (grows ∙ (ap (λ (es : List PlainEntry). before.history ++ es) nothing ∙ append-nil before.history))
  adds_own added (inr own) live grows = adds_entry own.entry own.owner_is live (grows ∙ ap (λ (es : List PlainEntry). before.history ++ es) own.one)

  adds_reply : (request : PlainRequest) (reply : PlainReply) (point : ℕ) (rose : Bool) → IsReplied before number request reply point after rose → Grows owner_of number before.history number after.history
  adds_reply request reply point rose r = elim r.given [
    | inl g ↦ adds_own g.1.added (legal_steps_add_own before.limits number before.history request reply g.1.added rose g.1.legal) r.live g.1.grows
    | inr g ↦ adds_nothing (same before after g.1.stays)
  ]

  adds_begin : (session : ℕ) → number ≡ 0 → IsBegun before session after → Grows owner_of number before.history session after.history
  adds_begin session none begun = (
    begin_entry session ∷ [],
    ap (λ (v : StoreView). v.history) begun.grows,
    inr (begin_entry session, refl, refl, (λ zero. omega (arith, begun.number_is)), (λ zero. next_has_none before.history session begun.number_is), (λ other. absurd (other none))),
  )

pub step_grows : (before after : StoreView) (number : ℕ) (job : HouseJob) (answer : StepAnswer) (rose : Bool) → is_live before.history 0 ≡ false → (job ≡ jobs.Begin → number ≡ 0)
    → IsStep before (step_for number job) after answer rose → Grows owner_of number before.history (number_after number answer) after.history
step_grows before after number jobs.Begin (answers.Begun session) rose live none step = adds_begin before after number live session (none refl) step
step_grows before after number jobs.Begin answers.NoNumber rose live none step = adds_nothing before after number live (same before after step.stays)
step_grows before after number jobs.Begin answers.Memory rose live none step = adds_nothing before after number live (same before after step.stays)
step_grows before after number (jobs.Ask request) (answers.Reply reply point) rose live none step = adds_reply before after number live (plain_request request) (plain_reply reply) point rose step
step_grows before after number (jobs.Ask request) answers.NoSession rose live none step = adds_nothing before after number live (same before after step.stays)
step_grows before after number jobs.End answers.Ended rose live none step = adds_entry before after number live (end_entry before.history number) refl step.live (ap (λ (v : StoreView). v.history) step.grows)
step_grows before after number jobs.End answers.NoSession rose live none step = adds_nothing before after number live (same before after step.stays)
step_grows before after number jobs.Background answers.Balanced rose live none step = adds_nothing before after number live step.still.history
step_grows before after number jobs.Background answers.Flushed rose live none step = adds_nothing before after number live (ap (λ (v : StoreView). v.history) step.still)
step_grows before after number jobs.Background answers.Disk rose live none step = adds_nothing before after number live (ap (λ (v : StoreView). v.history) step.still)
step_grows before after number jobs.Background answers.Swept rose live none step = adds_nothing before after number live step.still.history
step_grows before after number jobs.Background answers.Idle rose live none step = adds_nothing before after number live (same before after step.stays)
step_grows before after number jobs.Background answers.Memory rose live none step = adds_nothing before after number live (ap (λ (v : StoreView). v.history) step.still)
step_grows before after number job answer rose live none step = absurd step
