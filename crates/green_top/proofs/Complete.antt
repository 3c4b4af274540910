-- A session's whole input is served over a log that is not damaged.
use Rattle.std.proofs.Common.{◌≡◌, ℕ, ◌+◌, ◌<◌, ◌^◌, List, [], ◌++◌, length, Option, Some, None, refl, sym, ap, ◌∙◌, subst, inl, inr, ◌⊎◌, arith}
use Rattle.std.specs.Io.KnownBytes.{Consumes, IsAtEnd}
use Rattle.std.proofs.lemmas.List.{append-nil, length-append}
use Rattle.febe_data.specs.LimitsView.{LimitsView}
use Rattle.febe_data.specs.Plain.{PlainEntry}
use Rattle.entry_codec.specs.Logged.{entries_of}
use Rattle.febe_fields.specs.Prefixes.{IsPrefix}
use Rattle.febe_wire.specs.Sessions.{IsInput}
use Rattle.febe_feed.proofs.Malformed.{prefixes_are_right}
use Rattle.green_io.specs.Areas.{Areas}
use Rattle.green_io.specs.Outside.{HasRisen}
use Rattle.world_rules.specs.Legal.{Exchange}
use Rattle.edit_log.specs.Laws.{EachHasOneReading}
use Rattle.green_store.specs.Opening.{EachHasOneOpening}
use Rattle.green_store.specs.declared.opening.OpenFault.{OpenFault}
use Rattle.green_store.specs.declared.opening.OpenFault.TheVariants as faults
use Rattle.green_store.specs.Sessions.{greatest_session}
use Rattle.green_top.specs.declared.session_end.SessionEnd.{SessionEnd}
use Rattle.green_top.specs.declared.session_end.SessionEnd.TheVariants as ends
use Rattle.green_top.specs.Batch.{status_of, fault_status, FaultCause, IsUsage, IsNotOpened}
use Rattle.green_top.specs.Ends.{Cause}
use Rattle.green_top.specs.Outcome.{Leaves, NoSession, HasServedAlone}
use Rattle.green_top.specs.GeneratedRun.{SinkFailed, CouldNotBegin, IsSummedSession}
use Rattle.green_top.specs.Laws.{NoFaults, IsServed, HasSession, HasLog, Completeness, GeneratedCompleteness}
use Rattle.green_top.specs.IoState.{IoState}
use Rattle.green_top.specs.Words.{AreNoWords}
use Rattle.green_top.proofs.Batches.{not_both}
use Rattle.green_top.proofs.Readings.{undamaged, opened_is, greatest_opened}

-- what was read is a prefix of what was left
prefix_of : (left left' : Option (List ℕ)) (input read : List ℕ) → left ≡ Some input → Consumes left left' read → (rest : List ℕ) × (left' ≡ Some rest) × (input ≡ read ++ rest)
prefix_of None left' input read e c = absurd (let f = e in cc)
prefix_of (Some xs) None input read e c = absurd c
prefix_of (Some xs) (Some ys) input read e c = (ys, refl, sym (some_is xs input e) ∙ c)
  where
    some_is : (a b : List ℕ) → (let x : Option (List ℕ) = Some a in x) ≡ Some b → a ≡ b
    some_is a b is = cc

-- where there is a number a session does not end for want of one
number_left : (limits : LimitsView) (session : ℕ) (read written : List ℕ) (history : List PlainEntry) (exchanges : List Exchange) (points : List ℕ) → (session ≡ 0 → greatest_session history + 1 < 2 ^ 64) → ¬ Leaves limits session ends.NoNumber read written history exchanges points
number_left limits session read written history exchanges points has (inl l) = omega (arith, has l.1.unnumbered, l.0.0)
number_left limits session read written history exchanges points has (inr s) = s.answered_and_written

-- Where no session began, the history is the one that was opened, so it has a number left where that had.
left_where_none : (opened : List PlainEntry) (session : ℕ) (history : List PlainEntry) (exchanges : List Exchange) (m n : ℕ) → greatest_session opened + 1 < 2 ^ 64 → HasServedAlone opened session history exchanges m n → session ≡ 0 → greatest_session history + 1 < 2 ^ 64
left_where_none opened session history exchanges m n has (inl a) none = omega (arith, has, ap greatest_session a.1)
left_where_none opened session history exchanges m n has (inr a) none = absurd (omega (arith, none, a.number_is))

module _ (before after : IoState) (s : HasSession before.left) (quiet : NoFaults before after) (read : List ℕ) (consumed : Consumes before.left after.left read) where
  abbrev prefix : (rest : List ℕ) × (after.left ≡ Some rest) × (s.input ≡ read ++ rest)
  prefix = prefix_of before.left after.left s.input read s.left consumed

  is_prefix : IsPrefix IsInput read
  is_prefix = record { more = prefix.0; whole = subst IsInput prefix.2 s.whole }

  whole_read : IsAtEnd after.left → IsInput read
  whole_read over =
      let none : prefix.0 ≡ [] = rw prefix.1 at over in
      subst IsInput (prefix.2 ∙ ap (λ (rest : List ℕ). read ++ rest) none ∙ append-nil read) s.whole

  module _ (limits : LimitsView) (session : ℕ) (written : List ℕ) (history : List PlainEntry) (exchanges : List Exchange) (points : List ℕ) (has : session ≡ 0 → greatest_session history + 1 < 2 ^ 64) where
    served : (end : SessionEnd) → Cause end read before after → Leaves limits session end read written history exchanges points → (status_of end ≡ 0) ⊎ (status_of end ≡ 9)
    served ends.Quit cause leaves = inl refl
    served ends.End cause leaves = inl refl
    served (ends.Malformed at) cause leaves = absurd (prefixes_are_right read at is_prefix cause)
    served (ends.Truncated at) cause leaves = absurd (cause.0.inside (whole_read cause.1))
    served ends.ReadFault cause leaves = absurd (quiet.none_read cause.2)
    served ends.WriteFault cause leaves = absurd (quiet.none_written cause)
    served ends.Memory cause leaves = inr refl
    served ends.Budget cause leaves = absurd (omega (arith, cause.1, s.short, ap length prefix.2, length-append read prefix.0))
    served ends.NoNumber cause leaves = absurd (number_left limits session read written history exchanges points has leaves)

-- the store is not opened for want of memory, or since the disk failed, and for nothing else
by_fault : EachHasOneOpening → (reads left : Option Areas) (before after : IoState) → HasLog reads → (fault : OpenFault) → FaultCause fault reads left before after → IsServed before after (fault_status fault)
by_fault one reads left before after log (faults.Damaged at) cause = absurd (undamaged one reads log.rows log.read log.fit at cause.0)
by_fault one reads left before after log faults.Disk cause = inr (inr (refl, cause))
by_fault one reads left before after log faults.Memory cause = inr (inl refl)

-- a session that ended so was served
by_end : (before after : IoState) (status given : ℕ) → status ≡ given → (given ≡ 0) ⊎ (given ≡ 9) → IsServed before after status
by_end before after status given is (inl e) = inl (is ∙ e)
by_end before after status given is (inr e) = inr (inl (is ∙ e))

by_nothing : EachHasOneOpening → (words : List (List ℕ)) (reads left : Option Areas) (before after : IoState) (place status : ℕ) → ¬ AreNoWords words → HasLog reads
    → IsUsage words before after place status ⊎ IsNotOpened words reads left before after place status → IsServed before after status
by_nothing one words reads left before after place status are log (inl wrong) = absurd (are wrong.wrong)
by_nothing one words reads left before after place status are log (inr n) = subst (IsServed before after) (sym n.status_is) (by_fault one reads left before after log n.fault n.cause)

pub completeness : EachHasOneReading → EachHasOneOpening → Completeness
completeness one opening words limits reads left before after report steps exchanges status are s log quiet (inl nothing) = by_nothing opening words reads left before after report.place status (λ none. none.no_session limits are) log nothing.why
completeness one opening words limits reads left before after report steps exchanges status are s log quiet (inr (inr o)) = absurd (not_both words limits o.start are o.words_are)
completeness one opening words limits reads left before after report steps exchanges status are s log quiet (inr (inl o)) =
    let is = opened_is one reads log.rows o.opened o.moments log.read o.from in
    let has : greatest_session o.opened + 1 < 2 ^ 64 = omega (arith, log.number, ap greatest_session is, greatest_opened (entries_of log.rows)) in
    by_end before after status (status_of o.end) o.status_is (served before after s quiet o.run.read o.run.moves.consumed o.limits o.session o.run.written _ exchanges report.points.items
    (left_where_none o.opened o.session _ exchanges before.disk_faults after.disk_faults has o.alone) o.end o.run.cause o.run.leaves)

-- ---- a session that is generated

generated_ends : (start session : ℕ) (history : List PlainEntry) (exchanges : List Exchange) (points written : List ℕ) (before after : IoState) (end : SessionEnd) → (session ≡ 0 → greatest_session history + 1 < 2 ^ 64) → ¬ HasRisen before.sink_faults after.sink_faults → SinkFailed end before after
    → (CouldNotBegin end history × NoSession session exchanges points written) ⊎ IsSummedSession start session end written history exchanges points → (status_of end ≡ 0) ⊎ (status_of end ≡ 9)
generated_ends start session history exchanges points written before after ends.Quit has quiet failed leaves = inl refl
generated_ends start session history exchanges points written before after ends.End has quiet failed leaves = inl refl
generated_ends start session history exchanges points written before after (ends.Malformed at) has quiet failed (inl never) = absurd never.0
generated_ends start session history exchanges points written before after (ends.Malformed at) has quiet failed (inr s) = absurd s.answered_and_summed
generated_ends start session history exchanges points written before after (ends.Truncated at) has quiet failed (inl never) = absurd never.0
generated_ends start session history exchanges points written before after (ends.Truncated at) has quiet failed (inr s) = absurd s.answered_and_summed
generated_ends start session history exchanges points written before after ends.ReadFault has quiet failed (inl never) = absurd never.0
generated_ends start session history exchanges points written before after ends.ReadFault has quiet failed (inr s) = absurd s.answered_and_summed
generated_ends start session history exchanges points written before after ends.WriteFault has quiet failed leaves = absurd (quiet failed)
generated_ends start session history exchanges points written before after ends.Memory has quiet failed leaves = inr refl
generated_ends start session history exchanges points written before after ends.Budget has quiet failed (inl never) = absurd never.0
generated_ends start session history exchanges points written before after ends.Budget has quiet failed (inr s) = absurd s.answered_and_summed
generated_ends start session history exchanges points written before after ends.NoNumber has quiet failed (inl never) = absurd (omega (arith, has never.1.unnumbered, never.0))
generated_ends start session history exchanges points written before after ends.NoNumber has quiet failed (inr s) = absurd s.answered_and_summed

pub generated_completeness : EachHasOneReading → EachHasOneOpening → GeneratedCompleteness
generated_completeness one opening words start reads left before after report steps exchanges status are log quiet (inl nothing) = by_nothing opening words reads left before after report.place status (λ none. none.no_generate start are) log nothing.why
generated_completeness one opening words start reads left before after report steps exchanges status are log quiet (inr (inl o)) = absurd (not_both words o.limits start o.words_are are)
generated_completeness one opening words start reads left before after report steps exchanges status are log quiet (inr (inr o)) =
    let is = opened_is one reads log.rows o.opened o.moments log.read o.from in
    let has : greatest_session o.opened + 1 < 2 ^ 64 = omega (arith, log.number, ap greatest_session is, greatest_opened (entries_of log.rows)) in
    by_end before after status (status_of o.end) o.status_is (generated_ends o.start o.session _ exchanges report.points.items o.run.written before after o.end
    (left_where_none o.opened o.session _ exchanges before.disk_faults after.disk_faults has o.alone) quiet o.run.cause o.run.leaves)
