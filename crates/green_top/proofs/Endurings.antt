-- What steps of a session leave on a disk, one after another.
use Rattle.std.proofs.Common.{◌≡◌, ◌≢◌, ℕ, ◌+◌, ◌≤◌, Bool, true, List, [], ◌∷◌, ◌++◌, length, Option, None, Some, ap, ◌∙◌, refl, sym, subst, inl, inr, ◌⊎◌, arith, append_assoc}
use Rattle.std.specs.Prelude.{MatchOption, Err}
use Rattle.std.proofs.lemmas.List.{append-nil, length-append}
use Rattle.std.proofs.lemmas.List.Elements.{filter-append}
use Rattle.febe_data.specs.declared.refusal.Refusal.{Refusal}
use Rattle.febe_data.specs.declared.refusal.Refusal.TheVariants as refusals
use Rattle.febe_data.specs.declared.reply.Reply.{Reply}
use Rattle.febe_data.specs.LimitsView.{LimitsView}
use Rattle.febe_data.specs.Plain.{PlainEntry, PlainRequest, PlainReply, plain_request, plain_reply, refused}
use Rattle.febe_data.specs.Validity.{IsRequest}
use Rattle.entry_codec.specs.Logged.{PlainLogged, timed}
use Rattle.green_io.specs.Outside.{HasRisen}
use Rattle.world_rules.specs.Apply.{world_of}
use Rattle.world_rules.specs.Effects.{Effect, effect}
use Rattle.world_rules.specs.Legal.{Exchange, IsServed, IsRefused, IsQueryAnswered, IsDone, IsDiskFault, wanted_after, entry_after}
use Rattle.green_store.specs.Steps.{Steps}
use Rattle.green_top.proofs.Rises.{risen}
use Rattle.green_top.proofs.Streams.{risen_since, risen_until}
use Rattle.green_io.specs.Areas.{Areas}
use Rattle.green_io.specs.Disk.{DiskState, LeavesOnly}
use Rattle.green_io.proofs.Crash.{after, weaker, none_called}
use Rattle.edit_log.specs.Second.{HoldsWhole}
use Rattle.green_flush.specs.Standing.{FlushView}
use Rattle.world_rules.specs.History.{durable_entries, is_durable}
use Rattle.green_store.specs.declared.step.Step.{Step}
use Rattle.green_store.specs.declared.step.Step.TheVariants as steps
use Rattle.green_store.specs.declared.step.StepAnswer.{StepAnswer}
use Rattle.green_store.specs.declared.step.StepAnswer.TheVariants as answers
use Rattle.green_store.specs.Durable.{has_risen, Keeps, kept_rows, IsDurableEntry, IsDurableRowOf, IsThat, HoldsWith, HoldsStep, KeepsStep, IsRefusedForDisk}
use Rattle.green_store.specs.IsStep.{IsStep}
use Rattle.green_store.specs.Sessions.{begin_entry, end_entry}
use Rattle.green_store.specs.StoreView.{StoreView, with_one, StandsStill}
use Rattle.green_store.specs.TimedStep.{IsTimedStep}
use Rattle.febe_data.specs.declared.request.Request.{Request}
use Rattle.green_top.specs.Crash.{IsFront, MakesDurableEntry, HoldsFront, WasMade, IsRefusedExchange}
use Rattle.green_top.specs.Times.{Coming, RunStep, begin_step, ask_step, tend_step, end_step, TimedStep, at_moment, steps_in, exchanges_of, moments_kept, kept_in, CutsShort, AreStepsOf}
use Rattle.green_top.specs.declared.session_end.SessionEnd.{SessionEnd}
use Rattle.green_top.specs.declared.session_end.SessionEnd.TheVariants as ends
use Rattle.green_top.specs.GeneratedRun.{inner_end}
use Rattle.green_top.specs.inside.Summing.{outcome_of}
use Rattle.green_top.specs.inside.Enduring.{IsMade, StandsOn, HasMoments, Endures, RunsThrough, Settles}
use Rattle.green_top.proofs.Timings.{given_none}
use Rattle.green_top.proofs.RunSteps.{steps_both, exchanges_both, kept_both, given_more, steps_behind, unsummed_steps, at_this, moments_come, for_each_come, timed_more, front_kept}

-- what is said of a history that has grown

abbrev Grows : List PlainEntry → List PlainEntry → Type 0
Grows before now = (added : List PlainEntry) × (now ≡ before ++ added)

front_of_more : (least : ℕ) (before now front : List PlainEntry) → Grows before now → IsFront least before front → IsFront least now front
front_of_more least before now front grows f = record {
  back = f.back ++ grows.0;
  parts = grows.1 ∙ ap (λ (h : List PlainEntry). h ++ grows.0) f.parts ∙ append_assoc front f.back grows.0;
  no_shorter = f.no_shorter;
}

whole_front : (least : ℕ) (before now : List PlainEntry) → Grows before now → least ≤ length before → IsFront least now before
whole_front least before now grows le = record { back = grows.0; parts = grows.1; no_shorter = le }

-- what a step makes, it makes however many come behind it
abbrev made_later : (limits : LimitsView) (session : ℕ) (steps more : List TimedStep) (front : List PlainEntry) (row : PlainLogged) → MakesDurableEntry limits session steps front row → MakesDurableEntry limits session (steps ++ more) front row
made_later limits session steps more front row made = record {
  made = made.made;
  moment = made.moment;
  exchange = made.exchange;
  later = made.later ++ more;
  parts = ap (λ (xs : List TimedStep). xs ++ more) made.parts ∙ append_assoc made.made (at_moment made.moment (ask_step made.exchange) ∷ made.later) more;
  point_is = made.point_is;
  live = made.live;
  valid = made.valid;
  edit = made.edit;
}

with_more : (rows : List PlainLogged) (image : Areas) (May Might : PlainLogged → Type 0) → ((row : PlainLogged) → May row → Might row) → HoldsWith rows May image → HoldsWith rows Might image
with_more rows image May Might wider (inl whole) = inl whole
with_more rows image May Might wider (inr (row, may, whole)) = inr (row, wider row may, whole)

-- the moments of a front stay, whatever moments come behind
holds_more : (limits : LimitsView) (session : ℕ) (steps more : List TimedStep) (least : ℕ) (before now : List PlainEntry) (moments later : List ℕ) (image : Areas) → Grows before now → length (durable_entries before) ≤ length moments
    → HoldsFront limits session steps least before moments image → HoldsFront limits session (steps ++ more) least now (moments ++ later) image
holds_more limits session steps more least before now moments later image grows enough h = record {
  front = h.front;
  is_front = front_of_more least before now h.front grows h.is_front;
  holds = subst (λ (rows : List PlainLogged). HoldsWith rows (MakesDurableEntry limits session (steps ++ more) h.front) image) (sym (timed_more (durable_entries h.front) moments later (omega (arith, enough, front_kept least before h.front h.is_front))))
      (with_more (timed (durable_entries h.front) moments) image (MakesDurableEntry limits session steps h.front) (MakesDurableEntry limits session (steps ++ more) h.front) (λ row made. made_later limits session steps more h.front row made) h.holds);
}

longer : (least : ℕ) (before now : List PlainEntry) → Grows before now → least ≤ length before → least ≤ length now
longer least before now grows le = omega (arith, le, ap length grows.1, length-append before grows.0)

-- ---- parts of a session

-- nothing was done
pub endures_nothing : (limits : LimitsView) (session : ℕ) (disk : DiskState) (store : StoreView) (faults : ℕ) → Endures limits session [] disk store faults disk store faults
endures_nothing limits session disk store faults = record {
  grows = ([], sym (append-nil store.history));
  moments_come = sym (append-nil store.moments);
  for_each = λ each. each;
  never_falls = omega arith;
  any_moment = λ earlier least before each le s. none_called disk (HoldsFront limits session (earlier ++ []) least store.history store.moments);
  stands = λ earlier least before le s. subst (λ (xs : List TimedStep). StandsOn limits session xs least before disk store faults) (sym (append-nil earlier)) s;
}

-- one part, and then another
pub endures_both : (limits : LimitsView) (session : ℕ) (xs ys : List TimedStep) (a b c : DiskState) (s t u : StoreView) (k m n : ℕ) → Endures limits session xs a s k b t m → Endures limits session ys b t m c u n → Endures limits session (xs ++ ys) a s k c u n
endures_both limits session xs ys a b c s t u k m n p q = record {
  grows = (p.grows.0 ++ q.grows.0, q.grows.1 ∙ ap (λ (h : List PlainEntry). h ++ q.grows.0) p.grows.1 ∙ append_assoc s.history p.grows.0 q.grows.0);
  moments_come = q.moments_come ∙ ap (λ (ms : List ℕ). ms ++ moments_kept ys) p.moments_come ∙ append_assoc s.moments (moments_kept xs) (moments_kept ys) ∙ ap (λ (ms : List ℕ). s.moments ++ ms) (sym (kept_both xs ys));
  for_each = λ each. q.for_each (p.for_each each);
  never_falls = omega (arith, p.never_falls, q.never_falls);
  any_moment = λ earlier least before each le stands.
      let between : HasMoments t = p.for_each each in
      subst (λ (es : List TimedStep). LeavesOnly a c (HoldsFront limits session es least u.history u.moments)) (append_assoc earlier xs ys)
      (after a b c (HoldsFront limits session (earlier ++ xs) least t.history t.moments) (HoldsFront limits session ((earlier ++ xs) ++ ys) least u.history u.moments) (HoldsFront limits session ((earlier ++ xs) ++ ys) least u.history u.moments)
      (p.any_moment earlier least before each le stands)
      (q.any_moment (earlier ++ xs) least before between (longer least s.history t.history p.grows le) (p.stands earlier least before le stands))
      (λ image holds.
      subst (λ (ms : List ℕ). HoldsFront limits session ((earlier ++ xs) ++ ys) least u.history ms image) (sym q.moments_come)
      (holds_more limits session (earlier ++ xs) ys least t.history u.history t.moments (moments_kept ys) image q.grows (omega (arith, between)) holds))
      (λ image holds. holds));
  stands = λ earlier least before le stands.
      subst (λ (es : List TimedStep). StandsOn limits session es least before c u n) (append_assoc earlier xs ys)
      (q.stands (earlier ++ xs) least before (longer least s.history t.history p.grows le) (p.stands earlier least before le stands));
}

-- ---- one step

pub was_made : (limits : LimitsView) (session : ℕ) (steps : List TimedStep) (least : ℕ) (history : List PlainEntry) (first now : ℕ) (pending : Option PlainLogged) (row : PlainLogged) → IsMade limits session steps least history first now pending → IsThat pending row
    → WasMade limits session steps least history first now row
was_made limits session steps least history first now None row made that = absurd that
was_made limits session steps least history first now (Some r) row made that = subst (WasMade limits session steps least history first now) (sym that) made

-- after the steps so far, the edit of a step is made by one of these
abbrev Edits : LimitsView → ℕ → List TimedStep → StoreView → ℕ → Step → Type 0
Edits limits session steps before moment step = (earlier : List TimedStep) (row : PlainLogged) → IsDurableRowOf before moment step row → MakesDurableEntry limits session (earlier ++ steps) before.history row

-- Where it was refused for the disk, and is not in the history, the disk failed.
abbrev Fails : (limits : LimitsView) (session : ℕ) (steps : List TimedStep) (before after : StoreView) (moment : ℕ) (step : Step) → StepAnswer → ℕ → ℕ → Edits limits session steps before moment step → Type 0
Fails limits session steps before after moment step answer m n edits =
    (earlier : List TimedStep) (row : PlainLogged) (edit : IsDurableRowOf before moment step row) → IsRefusedForDisk answer → durable_entries after.history ≡ durable_entries before.history → IsRefusedExchange (edits earlier row edit).exchange × HasRisen m n

-- One step of a run, at its moment. Its edit, if it is one, a request of the session makes.
module _ (limits : LimitsView) (session : ℕ) (moment : ℕ) (made_by : RunStep) (before after : StoreView) (disk disk' : DiskState) (m n : ℕ) (step : Step) (answer : StepAnswer) (added : List PlainEntry) (grows : after.history ≡ before.history ++ added)
    (kept : kept_in made_by ≡ durable_entries added) (is_timed : IsTimedStep before moment after) (rises : m ≤ n) (edits : Edits limits session (at_moment moment made_by ∷ []) before moment step)
    (fails : Fails limits session (at_moment moment made_by ∷ []) before after moment step answer m n edits) where
  come : after.moments ≡ before.moments ++ at_this moment (durable_entries added)
  come = moments_come before after moment added grows is_timed

  come_kept : after.moments ≡ before.moments ++ moments_kept (at_moment moment made_by ∷ [])
  come_kept = come ∙ ap (λ (ms : List ℕ). before.moments ++ ms) (ap (at_this moment) (sym kept) ∙ sym (append-nil (at_this moment (kept_in made_by))))

  -- the rows of a front of before, with the moments as they are then
  still_timed : HasMoments before → (front : List PlainEntry) → length (durable_entries front) ≤ length (durable_entries before.history) → timed (durable_entries front) after.moments ≡ timed (durable_entries front) before.moments
  still_timed each front le =
      ap (λ (ms : List ℕ). timed (durable_entries front) ms) come ∙ timed_more (durable_entries front) before.moments (at_this moment (durable_entries added)) (omega (arith, each, le))

  module _ (earlier : List TimedStep) (least first : ℕ) (le : least ≤ length before.history) (pending : Option PlainLogged) (made : IsMade limits session earlier least before.history first m pending) where
    holds : HasMoments before → (image : Areas) → HoldsStep before pending moment step image → HoldsFront limits session (earlier ++ at_moment moment made_by ∷ []) least after.history after.moments image
    holds each image (inl whole) = record {
      front = before.history;
      is_front = whole_front least before.history after.history (added, grows) le;
      holds = inl (subst (λ (rows : List PlainLogged). HoldsWhole rows image) (sym (still_timed each before.history (omega arith))) whole);
    }
    holds each image (inr (row, inl that, whole)) =
        let was = was_made limits session earlier least before.history first m pending row made that in
        record {
          front = was.front;
          is_front = front_of_more least before.history after.history was.front (added, grows) was.is_front;
          holds = inr (
            row,
            made_later limits session earlier (at_moment moment made_by ∷ []) was.front row was.made,
            subst (λ (rows : List PlainLogged). HoldsWhole (rows ++ row ∷ []) image) (sym (still_timed each was.front (front_kept least before.history was.front was.is_front)))
                (subst (λ (h : List PlainEntry). HoldsWhole (timed h before.moments ++ row ∷ []) image) (sym was.none_kept) whole),
          );
        }
    holds each image (inr (row, inr edit, whole)) = record {
      front = before.history;
      is_front = whole_front least before.history after.history (added, grows) le;
      holds = inr (row, edits earlier row edit, subst (λ (rows : List PlainLogged). HoldsWhole (rows ++ row ∷ []) image) (sym (still_timed each before.history (omega arith))) whole);
    }

    stands : first ≤ m → KeepsStep before pending moment step after answer disk' → StandsOn limits session (earlier ++ at_moment moment made_by ∷ []) least first disk' after n
    stands from (inl keeps) = record { pending = None; keeps = keeps; made = tt; since = omega (arith, from, rises) }
    stands from (inr s) = elim s.which [
      | inl that ↦ (let was = was_made limits session earlier least before.history first m pending s.row made that in
          record {
            pending = Some s.row;
            keeps = s.keeps;
            made = record {
              front = was.front;
              is_front = front_of_more least before.history after.history was.front (added, grows) was.is_front;
              none_kept = was.none_kept ∙ sym s.none_kept;
              made = made_later limits session earlier (at_moment moment made_by ∷ []) was.front s.row was.made;
              refused_is = was.refused_is;
              failed = risen_until first m n rises was.failed;
            };
            since = omega (arith, from, rises);
          })
      | inr edit ↦ (let failed = fails earlier s.row edit.0 edit.1 s.none_kept in
          record {
            pending = Some s.row;
            keeps = s.keeps;
            made = record {
              front = before.history;
              is_front = whole_front least before.history after.history (added, grows) le;
              none_kept = sym s.none_kept;
              made = edits earlier s.row edit.0;
              refused_is = failed.0;
              failed = risen_since first m n from failed.1;
            };
            since = omega (arith, from, rises);
          })
    ]

  stepped : ((pending : Option PlainLogged) → Keeps disk before pending → LeavesOnly disk disk' (HoldsStep before pending moment step))
      → ((pending : Option PlainLogged) → Keeps disk before pending → KeepsStep before pending moment step after answer disk') → Endures limits session (at_moment moment made_by ∷ []) disk before m disk' after n
  stepped any keeps = record {
    grows = (added, grows);
    moments_come = come_kept;
    for_each = for_each_come before after moment added grows come;
    never_falls = rises;
    any_moment = λ earlier least first each le s.
        weaker disk disk' (HoldsStep before s.pending moment step) (HoldsFront limits session (earlier ++ at_moment moment made_by ∷ []) least after.history after.moments) (any s.pending s.keeps) (holds earlier least first le s.pending s.made each);
    stands = λ earlier least first le s. stands earlier least first le s.pending s.made s.since (keeps s.pending s.keeps);
  }

-- ---- the begin and the end of a session, and a background step

abbrev Any : StoreView → DiskState → DiskState → ℕ → Step → Type 0
Any before disk disk' moment step = (pending : Option PlainLogged) → Keeps disk before pending → LeavesOnly disk disk' (HoldsStep before pending moment step)

abbrev Kept : StoreView → StoreView → DiskState → DiskState → ℕ → Step → StepAnswer → Type 0
Kept before after disk disk' moment step answer = (pending : Option PlainLogged) → Keeps disk before pending → KeepsStep before pending moment step after answer disk'

-- the history grows by what is not kept
abbrev GrowsUnkept : StoreView → StoreView → Type 0
GrowsUnkept before after = (added : List PlainEntry) × (after.history ≡ before.history ++ added) × ([] ≡ durable_entries added)

stayed : (before after : StoreView) → after ≡ before → GrowsUnkept before after
stayed before after stays = ([], ap (λ (v : StoreView). v.history) stays ∙ sym (append-nil before.history), refl)

with_entry : (before after : StoreView) (entry : PlainEntry) → [] ≡ durable_entries (entry ∷ []) → after ≡ with_one before entry → GrowsUnkept before after
with_entry before after entry unkept grows = (entry ∷ [], ap (λ (v : StoreView). v.history) grows, unkept)

begin_grows : (before after : StoreView) (answer : StepAnswer) (rose : Bool) → IsStep before steps.Begin after answer rose → GrowsUnkept before after
begin_grows before after (answers.Begun session) rose step = with_entry before after (begin_entry session) refl step.grows
begin_grows before after answers.NoNumber rose step = stayed before after step.stays
begin_grows before after answers.Memory rose step = stayed before after step.stays
begin_grows before after other rose step = absurd step

end_grows : (before after : StoreView) (session : ℕ) (answer : StepAnswer) (rose : Bool) → IsStep before (steps.End session) after answer rose → GrowsUnkept before after
end_grows before after session answers.Ended rose step = with_entry before after (end_entry before.history session) refl step.grows
end_grows before after session answers.NoSession rose step = stayed before after step.stays
end_grows before after session other rose step = absurd step

pub endures_begin : (limits : LimitsView) (session : ℕ) (before after : StoreView) (disk disk' : DiskState) (m n moment : ℕ) (answer : StepAnswer) (rose : Bool) → m ≤ n → IsStep before steps.Begin after answer rose → IsTimedStep before moment after
    → Any before disk disk' moment steps.Begin → Kept before after disk disk' moment steps.Begin answer → Endures limits session (at_moment moment begin_step ∷ []) disk before m disk' after n
endures_begin limits session before after disk disk' m n moment answer rose rises step is_timed =
    let grows = begin_grows before after answer rose step in
    stepped limits session moment begin_step before after disk disk' m n steps.Begin answer grows.0 grows.1 grows.2 is_timed rises (λ earlier row none. absurd none) (λ earlier row none. absurd none)

pub endures_end : (limits : LimitsView) (session other : ℕ) (before after : StoreView) (disk disk' : DiskState) (m n moment : ℕ) (answer : StepAnswer) (rose : Bool) → m ≤ n → IsStep before (steps.End other) after answer rose → IsTimedStep before moment after
    → Any before disk disk' moment (steps.End other) → Kept before after disk disk' moment (steps.End other) answer → Endures limits session (at_moment moment end_step ∷ []) disk before m disk' after n
endures_end limits session other before after disk disk' m n moment answer rose rises step is_timed =
    let grows = end_grows before after other answer rose step in
    stepped limits session moment end_step before after disk disk' m n (steps.End other) answer grows.0 grows.1 grows.2 is_timed rises (λ earlier row none. absurd none) (λ earlier row none. absurd none)

-- the store is one that has the history, the moments, the limits and the log of the one before
is_still : (before after next : StoreView) → after ≡ next → StandsStill before next → StandsStill before after
is_still before after next is still = record {
  history = ap (λ (v : StoreView). v.history) is ∙ still.history;
  moments = ap (λ (v : StoreView). v.moments) is ∙ still.moments;
  limits = ap (λ (v : StoreView). v.limits) is ∙ still.limits;
  log = ap (λ (v : StoreView). v.log) is ∙ still.log;
}

with_pages : (before : StoreView) (flush : FlushView) (flushed : ℕ) → StandsStill before (record before { flush = flush; flushed = flushed })
with_pages before flush flushed = record { history = refl; moments = refl; limits = refl; log = refl }

pub background_is_still : (before after : StoreView) (answer : StepAnswer) (rose : Bool) → IsStep before steps.Background after answer rose → StandsStill before after
background_is_still before after answers.Balanced rose step = step.still
background_is_still before after answers.Flushed rose step = is_still before after (record before { flush = after.flush; flushed = after.flushed }) step.still (with_pages before after.flush after.flushed)
background_is_still before after answers.Disk rose step = is_still before after (record before { flush = after.flush }) step.still (with_pages before after.flush before.flushed)
background_is_still before after answers.Swept rose step = step.still
background_is_still before after answers.Idle rose step = is_still before after before step.stays (with_pages before before.flush before.flushed)
background_is_still before after answers.Memory rose step = is_still before after (record before { flush = after.flush }) step.still (with_pages before after.flush before.flushed)
background_is_still before after other rose step = absurd step

pub endures_background : (limits : LimitsView) (session : ℕ) (before after : StoreView) (disk disk' : DiskState) (m n moment : ℕ) (answer : StepAnswer) (rose : Bool) → m ≤ n → IsStep before steps.Background after answer rose → IsTimedStep before moment after
    → Any before disk disk' moment steps.Background → Kept before after disk disk' moment steps.Background answer → Endures limits session (at_moment moment tend_step ∷ []) disk before m disk' after n
endures_background limits session before after disk disk' m n moment answer rose rises step is_timed =
    stepped limits session moment tend_step before after disk disk' m n steps.Background answer [] ((background_is_still before after answer rose step).history ∙ sym (append-nil before.history)) refl is_timed rises
    (λ earlier row none. absurd none) (λ earlier row none. absurd none)

-- ---- a request

module _ (limits : LimitsView) (session : ℕ) (before after : List PlainEntry) (request : PlainRequest) (reply : PlainReply) (rose : Bool) (entry : PlainEntry) (edit : IsDurableEntry limits before session request entry)
    (refusal : reply ≡ refused refusals.Disk) (none : durable_entries after ≡ durable_entries before) (s : Steps limits session before request reply after rose) where
  one_kept : (made : Effect) → made.change ≡ edit.made.change → s.added ≢ entry_after before session made ∷ []
  one_kept made is added =
      let counted : is_durable made.change ≡ true = ap is_durable is ∙ edit.counted in
      let one : length (durable_entries s.added) ≡ 1 = ap (λ (h : List PlainEntry). length (durable_entries h)) added ∙ rw counted refl in
      let all : length (durable_entries after) ≡ length (durable_entries before) + length (durable_entries s.added) = ap (λ (h : List PlainEntry). length (durable_entries h)) s.grows ∙ ap length (filter-append (λ (e : PlainEntry). is_durable e.change) before s.added) ∙ length-append (durable_entries before) (durable_entries s.added) in
      omega (arith, one, all, ap length none)

  served_fails : (made : Option Effect) → made ≡ Some edit.made → MatchOption made (IsQueryAnswered before session request reply s.added) (λ m. IsDone before session m reply s.added ⊎ IsDiskFault m reply s.added rose) → (rose ≡ true) × (s.added ≡ [])
  served_fails None is a = absurd (let e = is in cc)
  served_fails (Some made) is (inl a) = absurd (one_kept made (let e = is in cc) a.entry)
  served_fails (Some made) is (inr a) = (a.failed, a.nothing)

  given_fails : (wanted : Option Refusal) → wanted ≡ None → MatchOption wanted (IsServed before session request reply s.added rose) (λ refusal. IsRefused refusal reply s.added) → (rose ≡ true) × (s.added ≡ [])
  given_fails None is g = served_fails (effect (world_of before) session request) edit.effect_is g
  given_fails (Some other) is g = absurd (let e = is in cc)

  disk_failed : (rose ≡ true) × (s.added ≡ [])
  disk_failed = elim s.legal.given [
    | inl m ↦ absurd (let e = sym refusal ∙ m.reply_is in cc)
    | inr g ↦ given_fails (wanted_after limits before session request) edit.allowed g
  ]

-- the exchange of a request that was replied to by this step
abbrev one_of : (limits : LimitsView) (session : ℕ) (request : PlainRequest) (reply : PlainReply) (before after : List PlainEntry) (rose : Bool) → Steps limits session before request reply after rose → Exchange
one_of limits session request reply before after rose s = record { request = request; reply = reply; point = length after; added = s.added; rose = rose }

pub endures_ask : (session : ℕ) (request : Request) (reply : Reply) (point : ℕ) (before after : StoreView) (disk disk' : DiskState) (m n moment : ℕ) → m ≤ n → IsRequest (plain_request request)
    → (s : Steps before.limits session before.history (plain_request request) (plain_reply reply) after.history (has_risen m n)) → IsTimedStep before moment after → Any before disk disk' moment (steps.Ask session request)
    → Kept before after disk disk' moment (steps.Ask session request) (answers.Reply reply point)
    → Endures before.limits session (at_moment moment (ask_step (one_of before.limits session (plain_request request) (plain_reply reply) before.history after.history (has_risen m n) s)) ∷ []) disk before m disk' after n
endures_ask session request reply point before after disk disk' m n moment rises valid s is_timed =
    let one = one_of before.limits session (plain_request request) (plain_reply reply) before.history after.history (has_risen m n) s in
    stepped before.limits session moment (ask_step one) before after disk disk' m n (steps.Ask session request) (answers.Reply reply point) s.added s.grows refl is_timed rises
    (λ earlier row edit. record { made = earlier; moment = moment; exchange = one; later = []; parts = refl; point_is = ap length s.grows; live = s.legal.live; valid = valid; edit = edit })
    (λ earlier row edit refusal none.
    let failed = disk_failed before.limits session before.history after.history (plain_request request) (plain_reply reply) (has_risen m n) row.entry edit.1 refusal none s in
    (record { reply_is = refusal; failed = failed.0; nothing = failed.1 }, risen m n failed.0))

-- ---- a session, and what was done behind it

-- no session was served, for want of memory
pub runs_not : (limits : LimitsView) (next session : ℕ) (coming : Coming) (disk : DiskState) (store : StoreView) (faults : ℕ) → session ≡ 0 → RunsThrough ends.Memory limits next session [] [] coming coming disk store faults disk store faults
runs_not limits next session coming disk store faults unnumbered = record {
  steps = [];
  steps_are = inl (unnumbered, inl refl);
  exchanges_are = refl;
  given = given_none coming;
  endures = endures_nothing limits next disk store faults;
}

-- the end is told as another that is the same
pub runs_as : (end told : SessionEnd) (limits : LimitsView) (next session : ℕ) (exchanges : List Exchange) (behind : List RunStep) (coming coming' : Coming) (a b : DiskState) (s t : StoreView) (m n : ℕ) → told ≡ end → RunsThrough end limits next session exchanges behind coming coming' a s m b t n
    → RunsThrough told limits next session exchanges behind coming coming' a s m b t n
runs_as end told limits next session exchanges behind coming coming' a b s t m n same runs = subst (λ (e : SessionEnd). RunsThrough e limits next session exchanges behind coming coming' a s m b t n) (sym same) runs

-- one was, and there is no summary of it
pub runs_unsummed : (end told : SessionEnd) (limits : LimitsView) (next session : ℕ) (exchanges : List Exchange) (coming coming' : Coming) (a b : DiskState) (s t : StoreView) (m n : ℕ) → outcome_of end ≡ Err told → RunsThrough end limits next session exchanges [] coming coming' a s m b t n
    → RunsThrough (inner_end told) limits next session exchanges [] coming coming' a s m b t n
runs_unsummed end told limits next session exchanges coming coming' a b s t m n is runs = record {
  steps = runs.steps;
  steps_are = unsummed_steps told session exchanges (steps_in runs.steps) end is runs.steps_are;
  exchanges_are = runs.exchanges_are;
  given = runs.given;
  endures = runs.endures;
}

-- one was whose replies were all written, and then trees and pages were put right
pub runs_on : (end told : SessionEnd) → ¬ CutsShort end → (limits : LimitsView) (next session session' : ℕ) (exchanges : List Exchange) (coming between coming' : Coming) (a b c : DiskState) (s t u : StoreView) (k m n : ℕ) → session' ≡ session → session ≢ 0 → RunsThrough end limits next session exchanges [] coming between a s k b t m
    → (settles : Settles between coming' b t m c u n) → RunsThrough told limits next session' exchanges (steps_in settles.steps) coming coming' a s k c u n
runs_on end told whole limits next session session' exchanges coming between coming' a b c s t u k m n same numbered runs settles = record {
  steps = runs.steps ++ settles.steps;
  steps_are = subst (λ (x : ℕ). AreStepsOf told x exchanges (steps_in settles.steps) (steps_in (runs.steps ++ settles.steps))) (sym same)
      (subst (λ (xs : List RunStep). AreStepsOf told session exchanges (steps_in settles.steps) xs) (sym (steps_both runs.steps settles.steps)) (steps_behind end told session exchanges (steps_in runs.steps) (steps_in settles.steps) whole numbered runs.steps_are));
  exchanges_are = runs.exchanges_are ∙ sym (exchanges_both runs.steps settles.steps ∙ ap (λ (es : List Exchange). exchanges_of runs.steps ++ es) settles.none_asked ∙ append-nil (exchanges_of runs.steps));
  given = given_more runs.steps settles.steps coming between coming' runs.given settles.given;
  endures = endures_both limits next runs.steps settles.steps a b c s t u k m n runs.endures (settles.endures limits next);
}
