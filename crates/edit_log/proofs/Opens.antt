-- What opening leaves of a whole log.
use Rattle.std.proofs.Common.{◌≡◌, ◌≢◌, ◌⊎◌, inl, inr, ⊎_elim, ℕ, ◌+◌, ◌≤◌, min, Bool, true, false, List, [], ◌∷◌, ◌++◌, length, drop, Option, None, Some, IsSome, Result, Err, refl, sym, ◌∙◌, ap, subst, arith}
use Rattle.std.proofs.lemmas.List.{append-nil}
use Rattle.std.specs.List.{AllByRecursion}
use Rattle.entry_codec.specs.Bodies.{HasBody}
use Rattle.entry_codec.specs.Format.{body_of}
use Rattle.entry_codec.specs.Laws.{OneBody, BodySaysLength, OldHasNew}
use Rattle.entry_codec.specs.Logged.{PlainLogged, entries_of}
use Rattle.entry_codec.specs.declared.format.LogFormat.{LogFormat}
use Rattle.entry_codec.specs.declared.format.LogFormat.TheVariants.{Old, New}
use Rattle.entry_fits.specs.Fits.{AllFit}
use Rattle.green_io.specs.declared.disk.Area.{Area}
use Rattle.green_io.specs.declared.disk.Area.TheVariants as area
use Rattle.green_io.specs.Areas.{Areas, area_of, is_same}
use Rattle.green_io.specs.Disk.{DiskState, IsDisk, WhereTold, Changes, Nothing, LeavesOnly, LeavesBut, ReadsAsBut, IsAsBut, IsStable, images_now}
use Rattle.green_io.proofs.Beside.{kept_others}
use Rattle.green_io.proofs.Crash.{weaker, same, nothing_then, now_was}
use Rattle.edit_log.specs.Answers.{OnNoMemory}
use Rattle.edit_log.specs.declared.opening.LogFault.{LogFault}
use Rattle.edit_log.specs.declared.opening.LogFault.TheVariants.{Damaged, Disk, Memory}
use Rattle.edit_log.specs.Log.{gated, most_entries, IsEnd, HasEntries, ReadsAs, IsDamagedAt, HasNext, IsWholeEnd, IsWhole}
use Rattle.edit_log.specs.Second.{IsOpened, HoldsWhole, ReadsIn, IsDamaged, front_of, IsSecondAfter, IsMoved, BothTold, IsAsFound}
use Rattle.edit_log.specs.Images.{IsShut, IsAjar, InSecond, SecondImages, IsOpen, AreEntries, Hides, AsRead, HoldsAsRead}
use Rattle.edit_log.specs.LogView.{LogView}
use Rattle.edit_log.specs.inside.Ends.{IsThat, HasTornGate, ClosesEnd}
use Rattle.edit_log.specs.inside.Migration.{IsClosedOr, Beside, ImagesHave, IsEmptied, IsMovedBeside}
use Rattle.edit_log.specs.inside.Pieces.{TellsOpen}
use Rattle.edit_log.proofs.Formats.{open_is_no_end, one_reading}
use Rattle.edit_log.proofs.Readings.{one_list}
use Rattle.edit_log.proofs.SecondSteps.{told_but, read_images}
use Rattle.edit_log.proofs.Unique.{read_once, tail_of}
use Rattle.edit_log.proofs.Wholes.{some_behind, holds_behind, shut_whole, ajar_whole}

-- ---- what is told

pub told_areas : (reads : Option Areas) → IsSome reads → (areas : Areas) × (reads ≡ Some areas)
told_areas None told = absurd (cc told)
told_areas (Some areas) told = (areas, refl)

pub told_read : (reads : Option Areas) (fact : Areas → Type 0) → AsRead reads fact → IsSome reads
told_read None fact is = absurd is
told_read (Some areas) fact is = refl

-- of what both states of a disk read, where something follows from what the old one reads
pub both_told : (touched : Area → Bool) (old new : Option Areas) (fact : Areas → Areas → Type 0) → ReadsAsBut touched old new → ((areas : Areas) → old ≡ Some areas → AsRead new (fact areas)) → BothTold old new fact
both_told touched None None fact same follows = tt
both_told touched None (Some y) fact same follows = absurd same
both_told touched (Some x) None fact same follows = absurd same
both_told touched (Some x) (Some y) fact same follows = follows x refl

as_found : (reads : Option Areas) → BothTold reads reads IsAsFound
as_found None = tt
as_found (Some areas) = record { log = refl; second = inl refl }

-- nothing was changed
pub same_found : (old new : Option Areas) → new ≡ old → BothTold old new IsAsFound
same_found old new same = subst (λ r. BothTold old r IsAsFound) (sym same) (as_found old)

stable_at : (one : Area) (reads : Option Areas) (areas : Areas) (images : Areas → Type 0) → reads ≡ Some areas → IsStable one reads images → (i : Areas) → images i → area_of one i ≡ area_of one areas
stable_at one reads areas images is durable = subst (λ r. IsStable one r images) is durable

-- ---- the second area is open

-- what stands behind its gate
log_behind : (bytes log second : List ℕ) → bytes ≡ second → TellsOpen true second → log ≡ drop (min (length bytes) 1) bytes → second ≡ 1 ∷ log
log_behind bytes log second read opened is =
    let whole : bytes ≡ 1 ∷ opened.rest = read ∙ opened.parts in
    let one : min (length bytes) 1 ≡ 1 = omega (arith, ap length whole) in
    opened.parts ∙ ap (λ (l : List ℕ). 1 ∷ l) (sym (is ∙ ap (λ (k : ℕ). drop k bytes) one ∙ ap (drop 1) whole))

second_behind : (reads : Option Areas) (bytes log : List ℕ) → WhereTold reads (λ areas. bytes ≡ areas.second) → WhereTold reads (λ areas. TellsOpen true areas.second) → log ≡ drop (min (length bytes) 1) bytes → WhereTold reads (λ areas. areas.second ≡ 1 ∷ log)
second_behind None bytes log read opened is = tt
second_behind (Some areas) bytes log read opened is = log_behind bytes log areas.second read opened is

second_parts : (reads : Option Areas) (log end : List ℕ) (rows : List PlainLogged) → WhereTold reads (λ areas. areas.second ≡ 1 ∷ log) → HasEntries New rows end log → WhereTold reads (λ areas. areas.second ≡ front_of rows ++ end)
second_parts None log end rows behind has = tt
second_parts (Some areas) log end rows behind has = behind ∙ ap (λ (l : List ℕ). 1 ∷ l) has.parts

-- an open second area with these entries was read, and this stands behind them, at this place
pub record IsFoundNew (reads : Option Areas) (place : ℕ) (rows : List PlainLogged) (end : List ℕ) : Type 0 where
  pub opened : WhereTold reads (λ areas. TellsOpen true areas.second)
  pub parts : WhereTold reads (λ areas. areas.second ≡ front_of rows ++ end)
  pub at_end : place ≡ length (front_of rows)
  pub spelled : AllByRecursion (HasBody New) rows
  pub few : length rows ≤ most_entries
  pub ends : IsEnd end

pub found_new : (reads : Option Areas) (bytes log end : List ℕ) (at : ℕ) (rows : List PlainLogged) → WhereTold reads (λ areas. bytes ≡ areas.second) → WhereTold reads (λ areas. TellsOpen true areas.second) → log ≡ drop (min (length bytes) 1) bytes → at ≡ length (gated New rows) → HasEntries New rows end log → IsEnd end → IsFoundNew reads (at + 1) rows end
found_new reads bytes log end at rows read opened behind at_end has ends = record {
  opened = opened;
  parts = second_parts reads log end rows (second_behind reads bytes log read opened behind) has;
  at_end = omega (arith, at_end);
  spelled = has.spelled;
  few = has.few;
  ends = ends;
}

-- so every image has what was read
pub found_images : (a b : DiskState) (place : ℕ) (rows : List PlainLogged) (end : List ℕ) → IsDisk b → b.reads ≡ a.reads → LeavesOnly a b Nothing → IsStable area.Second a.reads (images_now a) → IsFoundNew a.reads place rows end → IsSome a.reads → SecondImages b place (front_of rows) (IsThat (front_of rows ++ end))
found_images a b place rows end disk same leaves durable found told =
    let read = told_areas a.reads told in
    record {
      told = subst IsSome (sym same) told;
      at_end = found.at_end;
      each = λ i is. stable_at area.Second a.reads read.0 (images_now a) read.1 durable i (now_was a b disk leaves i is) ∙ subst (λ r. WhereTold r (λ areas. areas.second ≡ front_of rows ++ end)) read.1 found.parts;
    }

pub found_reads : (reads : Option Areas) (place : ℕ) (rows : List PlainLogged) (end : List ℕ) → IsFoundNew reads place rows end → WhereTold reads (ReadsIn New rows)
found_reads None place rows end found = tt
found_reads (Some areas) place rows end found = record {
  rest = gated New rows ++ end;
  parts = found.parts;
  more = subst (λ (l : List ℕ). l ≢ []) (tail_of 1 found.opened.rest (gated New rows ++ end) (sym found.opened.parts ∙ found.parts)) found.opened.more;
  has = record { end = end; has = record { parts = refl; spelled = found.spelled; few = found.few }; ends = found.ends };
}

-- a whole log that is in the format of an open area
whole_new : (rows : List PlainLogged) (areas : Areas) → TellsOpen true areas.second → HoldsWhole rows areas → IsOpened (IsWhole New rows) areas.second
whole_new rows areas opened (inl closed) = absurd (open_is_no_end (λ rest. Unit {0}) areas.second opened closed.0)
whole_new rows areas opened (inr whole) = whole

-- what a torn gate makes of a whole log
torn_holds : (rows : List PlainLogged) (end : List ℕ) (was image : Areas) → was.second ≡ front_of rows ++ end → gated New rows ++ end ≢ [] → AreEntries rows → IsWholeEnd New rows end → HasTornGate (front_of rows) end image.second → HoldsWhole rows image ⊎ ((row : PlainLogged) × InSecond (IsOpened (Hides rows row)) was × HoldsWhole (rows ++ row ∷ []) image)
torn_holds rows [] was image read more are whole torn =
    ⊎_elim
    (λ none. inl (holds_behind rows (gated New rows) image none (λ e. more (append-nil (gated New rows) ∙ e))
    record { end = []; has = record { parts = sym (append-nil (gated New rows)); spelled = are.spelled; few = are.few }; fit = are.fit; ends = tt; whole = tt }))
    (λ byte. inl (holds_behind rows (gated New rows ++ (byte.0 ∷ [])) image byte.1 (some_behind (gated New rows) byte.0 [])
    record { end = byte.0 ∷ []; has = record { parts = refl; spelled = are.spelled; few = are.few }; fit = are.fit; ends = inr refl; whole = inr (inl refl) }))
    torn
torn_holds rows (gate ∷ rest) was image read more are whole (other, (byte, is)) =
    by_case whole
  where
    last : rest ≡ [] → HoldsWhole rows image
    last none = holds_behind rows (gated New rows ++ (byte ∷ rest)) image is (some_behind (gated New rows) byte rest) record {
      end = byte ∷ rest;
      has = record { parts = refl; spelled = are.spelled; few = are.few };
      fit = are.fit;
      ends = inr none;
      whole = inr (inl none);
    }

    next : HasNext New rows rest → HoldsWhole rows image ⊎ ((row : PlainLogged) × InSecond (IsOpened (Hides rows row)) was × HoldsWhole (rows ++ row ∷ []) image)
    next n =
        let ajar : IsAjar (front_of rows) (body_of New n.row) image.second = (byte, n.behind, is ∙ ap (λ (l : List ℕ). front_of rows ++ (byte ∷ l)) n.parts) in
        let hides : InSecond (IsOpened (Hides rows n.row)) was = record {
          rest = gated New rows ++ (gate ∷ rest);
          parts = read;
          more = some_behind (gated New rows) gate rest;
          has = record { gate = gate; behind = n.behind; torn = other; next = n.next; parts = ap (λ (l : List ℕ). gated New rows ++ (gate ∷ l)) n.parts };
        } in
        ⊎_elim (λ without. inl without) (λ with_it. inr (n.row, hides, with_it)) (ajar_whole rows n.row image are n.next ajar)

    by_case : (gate ≡ 0) ⊎ (rest ≡ []) ⊎ HasNext New rows rest → HoldsWhole rows image ⊎ ((row : PlainLogged) × InSecond (IsOpened (Hides rows row)) was × HoldsWhole (rows ++ row ∷ []) image)
    by_case (inl closed) = absurd (other closed)
    by_case (inr (inl none)) = inl (last none)
    by_case (inr (inr n)) = next n

-- the same for what was read, at the place where the scan has ended
pub torn_as_read : OneBody → BodySaysLength → (reads : Option Areas) (place : ℕ) (rows found_rows : List PlainLogged) (end : List ℕ) (image : Areas) → AsRead reads (HoldsWhole rows) → IsFoundNew reads place found_rows end → HasTornGate (front_of found_rows) end image.second → HoldsAsRead rows reads image
torn_as_read one says None place rows found_rows end image holds found torn = absurd holds
torn_as_read one says (Some areas) place rows found_rows end image holds found torn =
    let whole = whole_new rows areas found.opened holds in
    let behind : whole.rest ≡ gated New found_rows ++ end = tail_of 1 whole.rest (gated New found_rows ++ end) (sym whole.parts ∙ found.parts) in
    let once = read_once one says New found_rows rows end whole.has.end found.spelled whole.has.has.spelled found.ends whole.has.ends (sym behind ∙ whole.has.has.parts) in
    let torn_here : HasTornGate (front_of rows) whole.has.end image.second = subst (λ (l : List ℕ). HasTornGate (front_of rows) l image.second) once.1 (subst (λ (r : List PlainLogged). HasTornGate (front_of r) end image.second) once.0 torn) in
    torn_holds rows whole.has.end areas image
    (whole.parts ∙ ap (λ (l : List ℕ). 1 ∷ l) whole.has.has.parts)
    (subst (λ (l : List ℕ). l ≢ []) whole.has.has.parts whole.more)
    record { spelled = whole.has.has.spelled; few = whole.has.has.few; fit = whole.has.fit }
    whole.has.whole torn_here

-- While the end gate is closed the logged area of each image is whole, and has what was read.
pub closing_holds : OneBody → BodySaysLength → (a b c : DiskState) (place : ℕ) (rows found_rows : List PlainLogged) (end : List ℕ) → LeavesOnly a b Nothing → AsRead a.reads (HoldsWhole rows) → IsFoundNew a.reads place found_rows end → LeavesOnly b c (InSecond (HasTornGate (front_of found_rows) end)) → LeavesOnly a c (HoldsAsRead rows a.reads)
closing_holds one says a b c place rows found_rows end first holds found then =
    nothing_then a b c (HoldsAsRead rows a.reads) first
    (weaker b c (InSecond (HasTornGate (front_of found_rows) end)) (HoldsAsRead rows a.reads) then
    (λ image torn. torn_as_read one says a.reads place rows found_rows end image holds found torn))

-- what is read once its end gate is closed
closed_since : (place : ℕ) (rows : List PlainLogged) (end : List ℕ) (old new : Option Areas) → IsFoundNew old place rows end → Changes area.Second (ClosesEnd (front_of rows) end) old new → BothTold old new (IsMovedBeside New rows)
closed_since place rows end None None found changes = tt
closed_since place rows end None (Some y) found changes = absurd changes
closed_since place rows end (Some x) None found changes = absurd changes
closed_since place rows end (Some x) (Some y) found changes = record {
  log = changes.1 area.Log refl;
  second = (
    gated New rows ++ end,
    gated New rows ++ (0 ∷ drop 1 end),
    found.parts,
    changes.0 found.parts,
    record { end = end; has = record { parts = refl; spelled = found.spelled; few = found.few }; ends = found.ends; closed = refl },
  );
}

pub closed_reads : (a b c : Option Areas) (place : ℕ) (rows : List PlainLogged) (end : List ℕ) → b ≡ a → IsFoundNew a place rows end → Changes area.Second (ClosesEnd (front_of rows) end) b c → BothTold a c (IsMovedBeside New rows)
closed_reads a b c place rows end same found changes =
    closed_since place rows end a c found (subst (λ r. Changes area.Second (ClosesEnd (front_of rows) end) r c) same changes)

-- a gate with no entry behind it, at a place of the second area
pub damaged_new : (reads : Option Areas) (bytes log : List ℕ) (at : ℕ) → WhereTold reads (λ areas. bytes ≡ areas.second) → WhereTold reads (λ areas. TellsOpen true areas.second) → log ≡ drop (min (length bytes) 1) bytes → IsDamagedAt New at log → WhereTold reads (IsDamaged (at + 1))
damaged_new None bytes log at read opened behind damaged = tt
damaged_new (Some areas) bytes log at read opened behind damaged =
    let parts = log_behind bytes log areas.second read opened behind in (
      New,
      (
        at,
        omega arith,
        record {
          rest = log;
          parts = parts;
          more = subst (λ (l : List ℕ). l ≢ []) (tail_of 1 opened.rest log (sym opened.parts ∙ parts)) opened.more;
          has = damaged;
        },
      ),
    )

-- ---- the log of before is read

pub old_reads : (reads : Option Areas) (bytes end : List ℕ) (rows : List PlainLogged) → WhereTold reads (λ areas. bytes ≡ areas.log) → WhereTold reads (λ areas. TellsOpen false areas.second) → HasEntries Old rows end bytes → IsEnd end → WhereTold reads (ReadsIn Old rows)
old_reads None bytes end rows read closed has ends = tt
old_reads (Some areas) bytes end rows read closed has ends = (closed, subst (ReadsAs Old rows) read record { end = end; has = has; ends = ends })

pub damaged_old : (reads : Option Areas) (bytes : List ℕ) (at : ℕ) → WhereTold reads (λ areas. bytes ≡ areas.log) → WhereTold reads (λ areas. TellsOpen false areas.second) → IsDamagedAt Old at bytes → WhereTold reads (IsDamaged at)
damaged_old None bytes at read closed damaged = tt
damaged_old (Some areas) bytes at read closed damaged = (Old, (at, omega arith, (closed, subst (IsDamagedAt Old at) read damaged)))

-- each entry has a body in the new format too
pub all_new : OldHasNew → (rows : List PlainLogged) → AllByRecursion (HasBody Old) rows → AllByRecursion (HasBody New) rows
all_new new [] all = tt
all_new new (row ∷ rows) all = (new row all.0, all_new new rows all.1)

pub all_now : OldHasNew → (format : LogFormat) (rows : List PlainLogged) → AllByRecursion (HasBody format) rows → AllByRecursion (HasBody New) rows
all_now new Old rows all = all_new new rows all
all_now new New rows all = all

-- the second area is closed, and every image has both areas as they were read
pub record IsClosed (disk : DiskState) (areas : Areas) : Type 0 where
  pub ends : IsEnd areas.second
  pub images : ImagesHave disk (Beside areas.log (IsThat areas.second))

pub closed_images : (a b : DiskState) → IsDisk b → b.reads ≡ a.reads → LeavesOnly a b Nothing → IsStable area.Log a.reads (images_now a) → IsStable area.Second a.reads (images_now a) → WhereTold a.reads (λ areas. TellsOpen false areas.second) → (areas : Areas) → a.reads ≡ Some areas → IsClosed b areas
closed_images a b disk same leaves log second closed areas is = record {
  ends = subst (λ r. WhereTold r (λ areas. TellsOpen false areas.second)) is closed;
  images = record {
    told = subst IsSome (sym (same ∙ is)) refl;
    each = λ i now. (
      stable_at area.Log a.reads areas (images_now a) is log i (now_was a b disk leaves i now),
      stable_at area.Second a.reads areas (images_now a) is second i (now_was a b disk leaves i now),
    );
  };
}

-- a whole log that is in the format of before
whole_old : (rows : List PlainLogged) (areas : Areas) → IsEnd areas.second → HoldsWhole rows areas → IsWhole Old rows areas.log
whole_old rows areas ends (inl whole) = whole.1
whole_old rows areas ends (inr opened) = absurd (open_is_no_end (IsWhole New rows) areas.second opened ends)

-- an image while the log moves
moving_image : OneBody → BodySaysLength → OldHasNew → (areas : Areas) (bytes end : List ℕ) (rows found_rows : List PlainLogged) (image : Areas) → IsEnd areas.second → HoldsWhole rows areas → bytes ≡ areas.log → HasEntries Old found_rows end bytes → IsEnd end → Beside areas.log (IsClosedOr (front_of found_rows ++ (0 ∷ []))) image → HoldsWhole rows image
moving_image one says new areas bytes end rows found_rows image closed holds read has ends (log, second) =
    let whole = whole_old rows areas closed holds in
    let once = one_list one says Old areas.log found_rows rows (subst (ReadsAs Old found_rows) read record { end = end; has = has; ends = ends }) record { end = whole.end; has = whole.has; ends = whole.ends } in
    ⊎_elim
    (λ still. inl (still, subst (IsWhole Old rows) (sym log) whole))
    (λ opened. shut_whole rows image record { spelled = all_new new rows whole.has.spelled; few = whole.has.few; fit = whole.fit }
    ([], opened ∙ ap (λ (r : List PlainLogged). front_of r ++ (0 ∷ [])) once))
    second

pub moving_holds : OneBody → BodySaysLength → OldHasNew → (a b c : DiskState) (areas : Areas) (bytes end : List ℕ) (rows found_rows : List PlainLogged) → a.reads ≡ Some areas → IsEnd areas.second → LeavesOnly a b Nothing → AsRead a.reads (HoldsWhole rows) → WhereTold a.reads (λ areas. bytes ≡ areas.log) → HasEntries Old found_rows end bytes → IsEnd end → LeavesOnly b c (Beside areas.log (IsClosedOr (front_of found_rows ++ (0 ∷ [])))) → LeavesOnly a c (HoldsAsRead rows a.reads)
moving_holds one says new a b c areas bytes end rows found_rows is closed first holds read has ends then =
    let here : HoldsWhole rows areas = subst (λ r. AsRead r (HoldsWhole rows)) is holds in
    let log : bytes ≡ areas.log = subst (λ r. WhereTold r (λ areas. bytes ≡ areas.log)) is read in
    nothing_then a b c (HoldsAsRead rows a.reads) first
    (weaker b c (Beside areas.log (IsClosedOr (front_of found_rows ++ (0 ∷ [])))) (HoldsAsRead rows a.reads) then
    (λ image moving. inl (moving_image one says new areas bytes end rows found_rows image closed here log has ends moving)))

-- the log stands in the second area
pub moved_images : (c : DiskState) (log : List ℕ) (place : ℕ) (rows : List PlainLogged) → place ≡ length (front_of rows) → ImagesHave c (Beside log (IsThat (front_of rows ++ (0 ∷ [])))) → SecondImages c place (front_of rows) (IsShut (front_of rows))
moved_images c log place rows at_end images = record {
  told = images.told;
  at_end = at_end;
  each = λ i is. ([], (images.each i is).1);
}

moved_since : (reads : Option Areas) (areas : Areas) (rows : List PlainLogged) → AsRead reads (Beside areas.log (IsThat (front_of rows ++ (0 ∷ [])))) → AsRead reads (IsMovedBeside Old rows areas)
moved_since None areas rows read = absurd read
moved_since (Some now) areas rows read = record { log = read.0; second = read.1 }

pub moved_reads : (a b c : DiskState) (rows : List PlainLogged) → IsDisk c → b.reads ≡ a.reads → LeavesBut (is_same area.Second) b c → ((areas : Areas) → a.reads ≡ Some areas → ImagesHave c (Beside areas.log (IsThat (front_of rows ++ (0 ∷ []))))) → BothTold a.reads c.reads (IsMovedBeside Old rows)
moved_reads a b c rows disk same_reads others moved =
    both_told (is_same area.Second) a.reads c.reads (IsMovedBeside Old rows) (subst (λ r. ReadsAsBut (is_same area.Second) r c.reads) same_reads others.reads)
    (λ areas is. moved_since c.reads areas rows (read_images c (Beside areas.log (IsThat (front_of rows ++ (0 ∷ [])))) disk (moved areas is)))

found_since : (reads : Option Areas) (areas : Areas) → IsEnd areas.second → AsRead reads (Beside areas.log IsEnd) → AsRead reads (IsAsFound areas)
found_since None areas ends read = absurd read
found_since (Some now) areas ends read = record { log = read.0; second = inr (ends, read.1) }

closed_found : (a b c : DiskState) → IsDisk c → b.reads ≡ a.reads → LeavesBut (is_same area.Second) b c → ((areas : Areas) → a.reads ≡ Some areas → IsEnd areas.second) → ((areas : Areas) → a.reads ≡ Some areas → ImagesHave c (Beside areas.log IsEnd)) → BothTold a.reads c.reads IsAsFound
closed_found a b c disk same_reads others ends images =
    both_told (is_same area.Second) a.reads c.reads IsAsFound (subst (λ r. ReadsAsBut (is_same area.Second) r c.reads) same_reads others.reads)
    (λ areas is. found_since c.reads areas (ends areas is) (read_images c (Beside areas.log IsEnd) disk (images areas is)))

-- where memory ran out while the log moved, as one answer says it and another that has the same fault
pub memory_found : {T U : Type 0} (r : Result T LogFault) (s : Result U LogFault) (fault : LogFault) (a b c : DiskState) → r ≡ Err fault → s ≡ Err fault → IsDisk c → b.reads ≡ a.reads → LeavesBut (is_same area.Second) b c → ((areas : Areas) → a.reads ≡ Some areas → IsEnd areas.second) → ((areas : Areas) → a.reads ≡ Some areas → OnNoMemory r (ImagesHave c (Beside areas.log IsEnd))) → OnNoMemory s (BothTold a.reads c.reads IsAsFound)
memory_found r s (Damaged at) a b c first then disk same_reads others ends images = subst (λ x. OnNoMemory x (BothTold a.reads c.reads IsAsFound)) (sym then) tt
memory_found r s Disk a b c first then disk same_reads others ends images = subst (λ x. OnNoMemory x (BothTold a.reads c.reads IsAsFound)) (sym then) tt
memory_found r s Memory a b c first then disk same_reads others ends images =
    subst (λ x. OnNoMemory x (BothTold a.reads c.reads IsAsFound)) (sym then)
    (closed_found a b c disk same_reads others ends (λ areas is. subst (λ x. OnNoMemory x (ImagesHave c (Beside areas.log IsEnd))) first (images areas is)))

-- ---- the area of the log of before is emptied

-- the second area stays
emptied_leaves : (b c : DiskState) (place : ℕ) (front : List ℕ) → SecondImages b place front (IsShut front) → LeavesBut (is_same area.Log) b c → LeavesOnly b c (InSecond (IsShut front))
emptied_leaves b c place front images others =
    weaker b c (IsAsBut (is_same area.Log) (images_now b)) (InSecond (IsShut front)) others.images
    (λ i as_before. subst (IsShut front) (sym (as_before.2 area.Second refl)) (images.each as_before.0 as_before.1))

pub emptied_open : (b c : DiskState) (log : LogView) (rows : List PlainLogged) → IsDisk c → LeavesBut (is_same area.Log) b c → IsOpen b log rows → IsOpen c log rows
emptied_open b c log rows disk others opened = record {
  idle = opened.idle;
  images = record {
    told = told_but (is_same area.Log) b.reads c.reads others.reads opened.images.told;
    at_end = opened.images.at_end;
    each = kept_others (is_same area.Log) b c (InSecond (IsShut (front_of rows))) disk others (λ i j same has. subst (IsShut (front_of rows)) (sym (same area.Second refl)) has) opened.images.each;
  };
}

pub emptied_reads : (a b c : Option Areas) (read : LogFormat) (rows : List PlainLogged) → BothTold a b (IsMovedBeside read rows) → Changes area.Log IsEmptied b c → BothTold a c (IsMoved read rows)
emptied_reads None None None read rows moved changes = tt
emptied_reads None None (Some z) read rows moved changes = absurd changes
emptied_reads None (Some y) c read rows moved changes = absurd moved
emptied_reads (Some x) None c read rows moved changes = absurd moved
emptied_reads (Some x) (Some y) None read rows moved changes = absurd changes
emptied_reads (Some x) (Some y) (Some z) read rows moved changes = record {
  emptied = changes.0;
  second = subst (IsSecondAfter read rows x.second) (sym (changes.1 area.Second refl)) moved.second;
}

-- what a whole log reads as
record IsWholeIn (rows : List PlainLogged) (areas : Areas) : Type 0 where
  format : LogFormat
  reads : ReadsIn format rows areas
  fit : AllFit [] (entries_of rows)

whole_in : (rows : List PlainLogged) (areas : Areas) → HoldsWhole rows areas → IsWholeIn rows areas
whole_in rows areas (inl old) = record {
  format = Old;
  reads = (old.0, record { end = old.1.end; has = old.1.has; ends = old.1.ends });
  fit = old.1.fit;
}
whole_in rows areas (inr new) = record {
  format = New;
  reads = record { rest = new.rest; parts = new.parts; more = new.more; has = record { end = new.has.end; has = new.has.has; ends = new.has.ends } };
  fit = new.has.fit;
}

-- an image whose second area has the entries that were read, and a gate 0 behind them
opened_holds : OneBody → BodySaysLength → OldHasNew → (reads : Option Areas) (format : LogFormat) (rows found_rows : List PlainLogged) (image : Areas) → AsRead reads (HoldsWhole rows) → WhereTold reads (ReadsIn format found_rows) → AllByRecursion (HasBody format) found_rows → length found_rows ≤ most_entries → InSecond (IsShut (front_of found_rows)) image → HoldsAsRead rows reads image
opened_holds one says new None format rows found_rows image holds read spelled few shut = absurd holds
opened_holds one says new (Some areas) format rows found_rows image holds read spelled few shut =
    let whole = whole_in rows areas holds in
    let same_rows : rows ≡ found_rows = ((one_reading one says areas).rows whole.format format rows found_rows whole.reads read).1 in
    inl (shut_whole rows image
    record {
      spelled = subst (AllByRecursion (HasBody New)) (sym same_rows) (all_now new format found_rows spelled);
      few = subst (λ (r : List PlainLogged). length r ≤ most_entries) (sym same_rows) few;
      fit = whole.fit;
    }
    (subst (λ (r : List PlainLogged). IsShut (front_of r) image.second) (sym same_rows) shut))

pub emptying_holds : OneBody → BodySaysLength → OldHasNew → (a b c : DiskState) (log : LogView) (format : LogFormat) (rows found_rows : List PlainLogged) → LeavesOnly a b (HoldsAsRead rows a.reads) → AsRead a.reads (HoldsWhole rows) → WhereTold a.reads (ReadsIn format found_rows) → AllByRecursion (HasBody format) found_rows → length found_rows ≤ most_entries → (IsSome a.reads → IsOpen b log found_rows) → LeavesBut (is_same area.Log) b c → LeavesOnly a c (HoldsAsRead rows a.reads)
emptying_holds one says new a b c log format rows found_rows first holds read spelled few stands others =
    let opened = stands (told_read a.reads (HoldsWhole rows) holds) in
    same a b c (HoldsAsRead rows a.reads) first
    (weaker b c (InSecond (IsShut (front_of found_rows))) (HoldsAsRead rows a.reads)
    (emptied_leaves b c log.end (front_of found_rows) opened.images others)
    (λ image shut. opened_holds one says new a.reads format rows found_rows image holds read spelled few shut))
