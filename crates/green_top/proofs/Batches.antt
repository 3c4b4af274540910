-- A run from the opening of its store to its return.
use Rattle.std.proofs.Common.{◌≡◌, ◌≢◌, ℕ, ◌+◌, ◌≤◌, List, [], ◌∷◌, ◌++◌, length, take, Option, None, Some, Err, ap, ◌∙◌, refl, sym, subst, inl, inr, ◌⊎◌, arith, le_refl}
use Rattle.std.specs.Prelude.{IsSome}
use Rattle.std.proofs.lemmas.List.{length-map, take-append-le}
use Rattle.std.proofs.Math.Seq.{take-length}
use Rattle.febe_data.specs.LimitsView.{LimitsView}
use Rattle.febe_data.specs.Plain.{PlainEntry, plain_history, plain_entry}
use Rattle.febe_data.specs.declared.entry.Entry.{Entry}
use Rattle.entry_codec.specs.Logged.{PlainLogged, entries_of, moments_of, timed}
use Rattle.green_io.specs.Areas.{Areas}
use Rattle.green_io.specs.Disk.{DiskState, LeavesOnly, WhereTold, images_now}
use Rattle.green_io.specs.Outside.{HasRisen}
use Rattle.green_io.proofs.Crash.{after, weaker}
use Rattle.edit_log.specs.Images.{AsRead, HoldsAsRead}
use Rattle.edit_log.specs.Second.{HoldsWhole}
use Rattle.world_rules.specs.History.{durable_entries}
use Rattle.world_rules.specs.Legal.{Exchange}
use Rattle.green_store.specs.declared.opening.OpenFault.{OpenFault}
use Rattle.green_store.specs.declared.opening.OpenFault.TheVariants as faults
use Rattle.green_store.specs.Durable.{Keeps, kept_rows, HoldsWith, IsThat}
use Rattle.green_store.specs.Opening.{opened_with, IsOpenedFrom, OpensAs, IsDamagedLog, LeavesMisspelled, OnDamagedLog, OnDiskFailed, UnlessDiskFailed, ReadsAsBefore}
use Rattle.green_store.specs.Sessions.{greatest_session}
use Rattle.green_store.specs.StoreView.{StoreView}
use Rattle.green_top.specs.declared.report.Report.{Report}
use Rattle.green_top.specs.declared.session_end.SessionEnd.{SessionEnd}
use Rattle.green_top.specs.declared.session_end.SessionEnd.TheVariants as ends
use Rattle.green_top.specs.Batch.{IsBatch, AreMoments, BeginsWith, fault_status, status_of, place_of, FaultCause}
use Rattle.green_top.specs.Crash.{HoldsFront, HoldsRun, HoldsAll, WasMade}
use Rattle.green_top.specs.IoState.{IoState, with_disk_faults}
use Rattle.green_top.specs.GeneratedRun.{SinkFailed, CouldNotBegin, IsSummedSession, IsGeneratedRun}
use Rattle.green_top.specs.Outcome.{NoSession, IsRun, HasServedAlone}
use Rattle.green_top.specs.declared.words.Form.{Form}
use Rattle.green_top.specs.declared.words.Form.TheVariants as forms
use Rattle.green_top.specs.inside.Forms.{limits_of, own_end, IsForm, IsFormRun, IsGenerated, IsBehind}
use Rattle.green_top.proofs.EndedSessions.{run_from, alone_from}
use Rattle.green_top.specs.Words.{AreWords, AreGenerateWords, AreNoWords, HasLimits}
use Rattle.green_top.specs.Times.{RunStep, TimedStep, steps_in, moments_kept, AreStepsOf, AreTends}
use Rattle.green_top.specs.inside.Enduring.{StandsOn, HasMoments, Endures}
use Rattle.green_top.proofs.Endurings.{was_made}

-- ---- how much was opened

pub counts_all : (items : List Entry) (history : List PlainEntry) → plain_history items ≡ history → length items ≡ length history
counts_all items history is = sym (length-map items plain_entry) ∙ ap length is

-- ---- a log that is whole

fault_not_damaged : (fault : OpenFault) (rows : List PlainLogged) → OpensAs (Err fault) rows → fault_status fault ≢ 8
fault_not_damaged (faults.Damaged at) rows opens is = absurd opens
fault_not_damaged faults.Disk rows opens is = absurd (omega (arith, is))
fault_not_damaged faults.Memory rows opens is = absurd (omega (arith, is))

end_not_damaged : (end : SessionEnd) → status_of end ≢ 8
end_not_damaged ends.Quit is = absurd (omega (arith, is))
end_not_damaged ends.End is = absurd (omega (arith, is))
end_not_damaged (ends.Malformed at) is = absurd (omega (arith, is))
end_not_damaged (ends.Truncated at) is = absurd (omega (arith, is))
end_not_damaged ends.ReadFault is = absurd (omega (arith, is))
end_not_damaged ends.WriteFault is = absurd (omega (arith, is))
end_not_damaged ends.Memory is = absurd (omega (arith, is))
end_not_damaged ends.Budget is = absurd (omega (arith, is))
end_not_damaged ends.NoNumber is = absurd (omega (arith, is))

pub not_opened_begins : (fault : OpenFault) (rows : List PlainLogged) (report : Report) (status : ℕ) → OpensAs (Err fault) rows → status ≡ fault_status fault → report.history.items ≡ [] → BeginsWith rows report status
not_opened_begins fault rows report status opens is none = record { not_damaged = λ e. fault_not_damaged fault rows opens (sym is ∙ e); history_is = inl (ap plain_history none) }

pub opened_begins : (end : SessionEnd) (rows : List PlainLogged) (first last : List PlainEntry) (firsts lasts : List ℕ) (report : Report) (status : ℕ) → (first ≡ opened_with (entries_of rows)) × (firsts ≡ moments_of rows) → (added : List PlainEntry) × (last ≡ first ++ added)
    → (kept : List ℕ) → lasts ≡ firsts ++ kept → status ≡ status_of end → plain_history report.history.items ≡ last → report.moments.items ≡ lasts → BeginsWith rows report status
opened_begins end rows first last firsts lasts report status opens grows kept come is reported reported_moments = record {
  not_damaged = λ e. end_not_damaged end (sym is ∙ e);
  history_is = inr (
    (grows.0, reported ∙ grows.1 ∙ ap (λ (h : List PlainEntry). h ++ grows.0) opens.0),
    (kept, reported_moments ∙ come ∙ ap (λ (ms : List ℕ). ms ++ kept) opens.1),
  );
}

-- ---- crashes

told : (reads : Option Areas) (fact : Areas → Type 0) → AsRead reads fact → IsSome reads
told None fact read = absurd read
told (Some areas) fact read = refl

module _ (words : List (List ℕ)) (limits : LimitsView) (reads : Option Areas) (rows : List PlainLogged) (first last reported : List PlainEntry) (lasts reported_moments : List ℕ) (steps : List TimedStep) (image : Areas) (are : HasLimits words limits) where
  run_holds : first ≡ opened_with (entries_of rows) → reported ≡ last → reported_moments ≡ lasts → HoldsFront limits (greatest_session first + 1) steps (length first) last lasts image → HoldsRun words reads rows reported reported_moments steps image
  run_holds opens is same holds =
      inr (
        limits,
        are,
        subst (λ (ms : List ℕ). HoldsFront limits (greatest_session (opened_with (entries_of rows)) + 1) steps (length (opened_with (entries_of rows))) reported ms image) (sym same)
            (subst (λ (h : List PlainEntry). HoldsFront limits (greatest_session (opened_with (entries_of rows)) + 1) steps (length (opened_with (entries_of rows))) h lasts image) (sym is)
            (subst (λ (h : List PlainEntry). HoldsFront limits (greatest_session h + 1) steps (length h) last lasts image) opens holds)),
      )

-- a store that has opened has no edit pending
just_opened : (limits : LimitsView) (session first : ℕ) (disk : DiskState) (store : StoreView) (now : ℕ) → first ≤ now → Keeps disk store None → StandsOn limits session [] (length store.history) first disk store now
just_opened limits session first disk store now rises keeps = record { pending = None; keeps = keeps; made = tt; since = rises }

pub not_opened_moment : (words : List (List ℕ)) (reads : Option Areas) (rows : List PlainLogged) (reported : List PlainEntry) (reported_moments : List ℕ) (steps : List TimedStep) (old new : DiskState) → LeavesOnly old new (HoldsAsRead rows reads)
    → LeavesOnly old new (HoldsRun words reads rows reported reported_moments steps)
not_opened_moment words reads rows reported reported_moments steps old new leaves = weaker old new (HoldsAsRead rows reads) (HoldsRun words reads rows reported reported_moments steps) leaves (λ image holds. inl holds)

module _ (words : List (List ℕ)) (limits : LimitsView) (are : HasLimits words limits) (old opened new : DiskState) (first last : StoreView) (steps : List TimedStep) (k m n : ℕ) (rises : k ≤ m) (each : HasMoments first)
    (keeps : IsSome old.reads → Keeps opened first None) (endures : Endures limits (greatest_session first.history + 1) steps opened first m new last n)
    (reported : List PlainEntry) (is : reported ≡ last.history) (reported_moments : List ℕ) (same : reported_moments ≡ last.moments) where
  pub opened_moment : (rows : List PlainLogged) → AsRead old.reads (HoldsWhole rows) → first.history ≡ opened_with (entries_of rows) → LeavesOnly old opened (HoldsAsRead rows old.reads)
      → LeavesOnly old new (HoldsRun words old.reads rows reported reported_moments steps)
  opened_moment rows whole opens leaves =
      after old opened new (HoldsAsRead rows old.reads) (HoldsFront limits (greatest_session first.history + 1) steps (length first.history) last.history last.moments) (HoldsRun words old.reads rows reported reported_moments steps) leaves
      (endures.any_moment [] (length first.history) k each (le_refl _) (just_opened limits _ k opened first m rises (keeps (told old.reads _ whole))))
      (λ image holds. inl holds) (λ image holds. run_holds words limits old.reads rows first.history last.history reported last.moments reported_moments steps image are opens is same holds)

  taken : (count : ℕ) → count ≡ length first.history → take count reported ≡ first.history
  taken count all =
      let grown = endures.grows in
      ap (λ (x : ℕ). take x reported) all ∙ ap (take (length first.history)) (is ∙ grown.1) ∙ take-append-le (length first.history) first.history grown.0 (omega arith) ∙ take-length first.history

  pub opened_kept : (count : ℕ) → count ≡ length first.history → IsSome old.reads
      → ((pending : Option PlainLogged) → Keeps new last pending → (image : Areas) → images_now new image → HoldsWith (kept_rows last) (IsThat pending) image)
      → (image : Areas) → images_now new image → HoldsAll words count reported reported_moments steps k n image
  opened_kept count all told law image now =
      let stands = endures.stands [] (length first.history) k (le_refl _) (just_opened limits _ k opened first m rises (keeps told)) in
      subst (λ (ms : List ℕ). HoldsAll words count reported ms steps k n image) (sym same)
      (subst (λ (h : List PlainEntry). HoldsAll words count h last.moments steps k n image) (sym is) (all_hold stands (law stands.pending stands.keeps image now)))
    where
      all_hold : (s : StandsOn limits (greatest_session first.history + 1) steps (length first.history) k new last n) → HoldsWith (kept_rows last) (IsThat s.pending) image → HoldsAll words count last.history last.moments steps k n image
      all_hold s (inl whole) = inl whole
      all_hold s (inr (row, that, whole)) =
          let made = was_made limits (greatest_session first.history + 1) steps (length first.history) last.history k n s.pending row s.made that in
          let session : greatest_session first.history + 1 ≡ greatest_session (take count last.history) + 1 = ap (λ (h : List PlainEntry). greatest_session h + 1) (sym (taken count all) ∙ ap (take count) is) in
          inr (row, (limits, are, subst (λ (x : ℕ). WasMade limits x steps count last.history k n row) session (subst (λ (x : ℕ). WasMade limits (greatest_session first.history + 1) steps x last.history k n row) (sym all) made)), whole)

-- ---- a run of some form

pub has_limits : (words : List (List ℕ)) (form : Form) → IsForm words form → HasLimits words (limits_of form)
has_limits words (forms.Session limits) is = inl is
has_limits words (forms.Generate start) is = inr ((start, is), refl)

pub no_form : (words : List (List ℕ)) (form : Form) → IsForm words form → ¬ AreNoWords words
no_form words (forms.Session limits) is none = none.no_session limits is
no_form words (forms.Generate start) is none = none.no_generate start is

-- words of a session generate none
pub not_both : (words : List (List ℕ)) (limits : LimitsView) (start : ℕ) → AreWords words limits → ¬ AreGenerateWords words start
not_both [] limits start are generate = are
not_both (a ∷ []) limits start are generate = are
not_both (a ∷ b ∷ []) limits start are generate = generate
not_both (a ∷ b ∷ c ∷ []) limits start are generate = are
not_both (a ∷ b ∷ c ∷ d ∷ []) limits start are generate = are
not_both (a ∷ b ∷ c ∷ d ∷ e ∷ more) limits start are generate = generate

pub generates : (words : List (List ℕ)) (form : Form) → IsForm words form → (start : ℕ) → AreGenerateWords words start → IsGenerated form
generates words (forms.Session limits) is start generate = absurd (not_both words limits start is generate)
generates words (forms.Generate named) is start generate = tt

pub session_runs : (form : Form) (named limits : LimitsView) (session : ℕ) (before after : IoState) (history : List PlainEntry) (exchanges : List Exchange) (points : List ℕ) (count : ℕ) (end : SessionEnd) → form ≡ forms.Session named → limits ≡ limits_of form
    → IsRun limits session before after history exchanges points count end → IsFormRun form session before after history exchanges points count end
session_runs form named limits session before after history exchanges points count end is so run =
    subst (λ (f : Form). IsFormRun f session before after history exchanges points count end) (sym is)
    (subst (λ (l : LimitsView). IsRun l session before after history exchanges points count end) (so ∙ ap limits_of is) run)

pub generated_runs : (form : Form) (start session : ℕ) (before after : IoState) (history : List PlainEntry) (exchanges : List Exchange) (points : List ℕ) (count : ℕ) (end : SessionEnd) → form ≡ forms.Generate start
    → IsGeneratedRun start session before after history exchanges points end → count ≡ 0 → IsFormRun form session before after history exchanges points count end
generated_runs form start session before after history exchanges points count end is run none = subst (λ (f : Form). IsFormRun f session before after history exchanges points count end) (sym is) (run, none)

no_place : (start session : ℕ) (before after : IoState) (history : List PlainEntry) (exchanges : List Exchange) (points : List ℕ) (end : SessionEnd) → IsGeneratedRun start session before after history exchanges points end → place_of end ≡ 0
no_place start session before after history exchanges points (ends.Malformed at) run = absurd (never run.leaves)
  where
    never : (CouldNotBegin (ends.Malformed at) history × NoSession session exchanges points run.written) ⊎ IsSummedSession start session (ends.Malformed at) run.written history exchanges points → ⊥
    never (inl l) = l.0
    never (inr s) = s.answered_and_summed
no_place start session before after history exchanges points (ends.Truncated at) run = absurd (never run.leaves)
  where
    never : (CouldNotBegin (ends.Truncated at) history × NoSession session exchanges points run.written) ⊎ IsSummedSession start session (ends.Truncated at) run.written history exchanges points → ⊥
    never (inl l) = l.0
    never (inr s) = s.answered_and_summed
no_place start session before after history exchanges points ends.Quit run = refl
no_place start session before after history exchanges points ends.End run = refl
no_place start session before after history exchanges points ends.ReadFault run = refl
no_place start session before after history exchanges points ends.WriteFault run = refl
no_place start session before after history exchanges points ends.Memory run = refl
no_place start session before after history exchanges points ends.Budget run = refl
no_place start session before after history exchanges points ends.NoNumber run = refl

-- seen from before the store was opened

failed_from : (end : SessionEnd) (before after : IoState) (m : ℕ) → SinkFailed end (with_disk_faults before m) after → SinkFailed end before after
failed_from ends.WriteFault before after m failed = failed
failed_from ends.Quit before after m failed = tt
failed_from ends.End before after m failed = tt
failed_from (ends.Malformed at) before after m failed = tt
failed_from (ends.Truncated at) before after m failed = tt
failed_from ends.ReadFault before after m failed = tt
failed_from ends.Memory before after m failed = tt
failed_from ends.Budget before after m failed = tt
failed_from ends.NoNumber before after m failed = tt

generated_from : (start session : ℕ) (before after : IoState) (m : ℕ) (history reported : List PlainEntry) (exchanges : List Exchange) (points : List ℕ) (end : SessionEnd) → before.disk_faults ≤ m → reported ≡ history
    → IsGeneratedRun start session (with_disk_faults before m) after history exchanges points end → IsGeneratedRun start session before after reported exchanges points end
generated_from start session before after m history reported exchanges points end le is run = subst (λ (h : List PlainEntry). IsGeneratedRun start session before after h exchanges points end) (sym is) (record {
  written = run.written;
  left_stays = run.left_stays;
  source_faults_stay = run.source_faults_stay;
  appended = run.appended;
  sink_never_falls = run.sink_never_falls;
  disk_never_falls = omega (arith, le, run.disk_never_falls);
  cause = failed_from end before after m run.cause;
  leaves = run.leaves;
})

pub batch_of : (words : List (List ℕ)) (form : Form) (reads left : Option Areas) (before after : IoState) (m : ℕ) (report : Report) (status : ℕ) (opened : List PlainEntry) (moments : List ℕ) (session : ℕ) (history : List PlainEntry) (steps : List TimedStep) (behind : List RunStep)
    (exchanges : List Exchange) (end : SessionEnd) → IsForm words form → IsOpenedFrom reads opened moments → status ≡ status_of end → report.place ≡ place_of end → report.opened ≡ length opened → before.disk_faults ≤ m → plain_history report.history.items ≡ history
    → IsFormRun form session (with_disk_faults before m) after history exchanges report.points.items report.bytes_read end → HasServedAlone opened session history exchanges m after.disk_faults
    → IsBehind form behind → AreStepsOf (own_end form end) session exchanges behind (steps_in steps) → AreMoments moments steps report → IsBatch words reads left before after report steps exchanges status
batch_of words (forms.Session limits) reads left before after m report status opened moments session history steps behind exchanges end form from status-is place-is opened-is le is run alone none steps-are are-moments = inr (inl (record {
  limits = limits;
  opened = opened;
  moments = moments;
  session = session;
  end = end;
  words_are = form;
  from = from;
  status_is = status-is;
  place_is = place-is;
  opened_is = opened-is;
  run = run_from limits session before after m history (plain_history report.history.items) exchanges report.points.items report.bytes_read end le is run;
  alone = alone_from opened session history (plain_history report.history.items) exchanges before.disk_faults m after.disk_faults le is alone;
  steps_are = subst (λ (xs : List RunStep). AreStepsOf end session exchanges xs (steps_in steps)) none steps-are;
  are_moments = are-moments;
}))
batch_of words (forms.Generate start) reads left before after m report status opened moments session history steps behind exchanges end form from status-is place-is opened-is le is run alone tends steps-are are-moments = inr (inr (record {
  start = start;
  opened = opened;
  moments = moments;
  session = session;
  end = end;
  behind = behind;
  words_are = form;
  from = from;
  status_is = status-is;
  place_is = place-is ∙ no_place start session (with_disk_faults before m) after history exchanges report.points.items end run.0;
  opened_is = opened-is;
  counted = run.1;
  run = generated_from start session before after m history (plain_history report.history.items) exchanges report.points.items end le is run.0;
  alone = alone_from opened session history (plain_history report.history.items) exchanges before.disk_faults m after.disk_faults le is alone;
  put_right = tends;
  steps_are = steps-are;
  are_moments = are-moments;
}))

-- what is reported are the moments of the entries that were opened, and those of the steps
pub are_moments : (opened all : List ℕ) (history : List PlainEntry) (steps : List TimedStep) (report : Report) → all ≡ opened ++ moments_kept steps → plain_history report.history.items ≡ history → report.moments.items ≡ all
    → length report.moments.items ≡ length (durable_entries history) → AreMoments opened steps report
are_moments opened all history steps report come is same each = record { moments_are = same ∙ come; for_each = each ∙ ap (λ (h : List PlainEntry). length (durable_entries h)) (sym is) }

-- ---- a store that was not opened

pub why_not : (fault : OpenFault) (reads left : Option Areas) (before after : IoState) → OnDamagedLog {T = StoreView} (Err fault) (λ at. WhereTold reads (IsDamagedLog at)) → OnDamagedLog {T = StoreView} (Err fault) (λ at. LeavesMisspelled at reads left)
    → UnlessDiskFailed {T = StoreView} (Err fault) (ReadsAsBefore reads left) → OnDiskFailed {T = StoreView} (Err fault) (HasRisen before.disk_faults after.disk_faults) → FaultCause fault reads left before after
why_not (faults.Damaged at) reads left before after damaged untouched stays failed = (damaged, stays, untouched)
why_not faults.Disk reads left before after damaged untouched stays failed = failed
why_not faults.Memory reads left before after damaged untouched stays failed = stays

-- ---- what was done behind a session, by its form

pub nothing_behind : (form : Form) (named : LimitsView) → form ≡ forms.Session named → IsBehind form []
nothing_behind form named is = subst (λ (f : Form). IsBehind f []) (sym is) refl

pub tends_behind : (form : Form) (start : ℕ) (behind : List RunStep) → form ≡ forms.Generate start → AreTends behind → IsBehind form behind
tends_behind form start behind is tends = subst (λ (f : Form). IsBehind f behind) (sym is) tends
