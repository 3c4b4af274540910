-- Opening a disk: what the opening of the log and then that of the pages come to together.
use Rattle.std.proofs.Common.{◌≡◌, ◌∙◌, inl, inr, ℕ, ◌-◌, ◌≤◌, Bool, true, false, List, [], length, take, Option, None, Some, Result, Ok, Err, refl, sym, ap, subst, arith}
use Rattle.std.specs.Prelude.{IfOk, IsSome}
use Rattle.std.specs.List.{AllByRecursion}
use Rattle.std.specs.Result.{IsErr, IsErrAnd}
use Rattle.febe_data.specs.Plain.{PlainEntry}
use Rattle.entry_codec.specs.Bodies.{HasBody}
use Rattle.entry_codec.specs.Laws.{OldHasNew}
use Rattle.entry_codec.specs.Logged.{PlainLogged, entries_of, moments_of, timed}
use Rattle.entry_codec.specs.declared.format.LogFormat.{LogFormat}
use Rattle.entry_codec.specs.declared.format.LogFormat.TheVariants.{Old}
use Rattle.green_io.specs.declared.disk.Area.{Area}
use Rattle.green_io.specs.declared.disk.Area.TheVariants.{Log, Home, Journal, Second}
use Rattle.green_io.specs.Areas.{Areas, is_logged, IsSameBut}
use Rattle.green_io.specs.Disk.{DiskState, IsDisk, WhereTold, ReadsAsBut, IsAsBut, LeavesOnly, LeavesBut, images_now}
use Rattle.green_io.specs.Outside.{HasRisen}
use Rattle.green_io.proofs.Beside.{kept_others}
use Rattle.green_io.proofs.Crash as crash
use Rattle.world_rules.specs.History.{durable_entries, restart_entry}
use Rattle.entry_fits.specs.Fits.{AllFit}
use Rattle.entry_fits.specs.Laws.{FittingAreKept}
use Rattle.edit_log.specs.declared.opening.LogFault.{LogFault}
use Rattle.edit_log.specs.declared.opening.LogFault.TheVariants as faults
use Rattle.edit_log.specs.Answers.{OnDamaged, OnNoMemory}
use Rattle.edit_log.specs.Images.{AreEntries, IsOpen, IsShut, InSecond, AsRead, HoldsAsRead}
use Rattle.edit_log.specs.Laws.{EachHasOneReading}
use Rattle.edit_log.specs.Log.{most_entries, IsEnd, IsWhole}
use Rattle.edit_log.specs.LogView.{LogView}
use Rattle.edit_log.specs.Second.{front_of, HoldsWhole, ReadsIn, IsSecondAfter, IsMoved, BothTold, IsAsFound}
use Rattle.page_journal.specs.declared.page_fault.PageFault.{PageFault}
use Rattle.page_journal.specs.declared.page_fault.PageFault.TheVariants as page_faults
use Rattle.page_journal.specs.Answers.{OnDiskFault}
use Rattle.page_journal.specs.Images.{is_paged}
use Rattle.page_journal.specs.JournalBytes.{opened, replayed}
use Rattle.page_journal.specs.Pages.{Bytes, Pages, pages_of, home_after}
use Rattle.green_flush.specs.declared.trees.Trees.{Trees}
use Rattle.green_flush.specs.Loads.{TreesAt, AreThat, Loads}
use Rattle.green_flush.specs.Standing.{FlushView, StandsOn, IsOpened}
use Rattle.green_flush.proofs.Held.{renewed-stands}
use Rattle.paged_world.specs.Standing.{MayGoOn}
use Rattle.green_store.specs.declared.opening.OpenFault.{OpenFault}
use Rattle.green_store.specs.declared.opening.OpenFault.TheVariants.{Damaged, Disk, Memory}
use Rattle.green_store.specs.Durable.{Keeps}
use Rattle.green_store.specs.Opening.{ReadsRows, IsOpenedFrom, IsUnfitFrom, IsDamagedLog, ReadsAsBefore, LeavesMisspelled, OnDamagedLog, OnDiskFailed, UnlessDiskFailed, OpensAs, IsFlushedAt, IsFlushedFrom, fault_of, fault_of_pages, gate_place, opened_with}
use Rattle.green_store.specs.Paged.{HasPages}
use Rattle.green_store.specs.Replayed.{AreTreesAt, IsSameOrRenewed}
use Rattle.green_store.specs.StoreView.{StoreView}
use Rattle.green_store.proofs.Regulars.{kept_other}
use Rattle.green_store.proofs.Reopened.{holds_entries, not_damaged, read_is}
use Rattle.green_store.proofs.Rows.{all_new, timed_again}

abbrev Opening : Type 0
Opening = Result StoreView OpenFault

-- ---- the answers

by_fault : (r : Opening) (fault : OpenFault) (P : Opening → Type 0) → IsErr r → IsErrAnd r (λ f. f ≡ fault) → P (Err fault) → P r
by_fault (Ok store) fault P err is has = absurd cc
by_fault (Err f) fault P err is has = subst (λ (x : OpenFault). P (Err x)) (sym is) has

unless_any : (r : Opening) (P : Type 0) → P → UnlessDiskFailed r P
unless_any (Ok store) P has = has
unless_any (Err (Damaged at)) P has = has
unless_any (Err Disk) P has = tt
unless_any (Err Memory) P has = has

pub no_disk_any : (r : Opening) (P : Type 0) → OnDiskFailed r ⊥ → OnDiskFailed r P
no_disk_any (Ok store) P none = tt
no_disk_any (Err (Damaged at)) P none = tt
no_disk_any (Err Disk) P none = absurd none
no_disk_any (Err Memory) P none = tt

-- the pages have a fault
pub fault_whole : (was : PageFault) (r : Opening) (rows : List PlainLogged) → IsErr r → IsErrAnd r (λ f. f ≡ fault_of_pages was) → OpensAs r rows
fault_whole was r rows err is = by_fault r (fault_of_pages was) (λ (x : Opening). OpensAs x rows) err is (by was)
  where
    by : (fault : PageFault) → OpensAs (Err (fault_of_pages fault)) rows
    by page_faults.Disk = tt
    by page_faults.Memory = tt

pub fault_damaged : (was : PageFault) (r : Opening) (Fact : ℕ → Type 0) → IsErr r → IsErrAnd r (λ f. f ≡ fault_of_pages was) → OnDamagedLog r Fact
fault_damaged was r Fact err is = by_fault r (fault_of_pages was) (λ (x : Opening). OnDamagedLog x Fact) err is (by was)
  where
    by : (fault : PageFault) → OnDamagedLog (let x : Opening = Err (fault_of_pages fault) in x) Fact
    by page_faults.Disk = tt
    by page_faults.Memory = tt

pub risen_later : (a b c : ℕ) → a ≤ b → HasRisen b c → HasRisen a c
risen_later a b c le risen = omega (arith, le, risen)

pub fault_failed : (was : PageFault) (r : Opening) (a b c : ℕ) → a ≤ b → OnDiskFault (let x : Result (Unit {0}) PageFault = Err was in x) (HasRisen b c) → IsErr r → IsErrAnd r (λ f. f ≡ fault_of_pages was) → OnDiskFailed r (HasRisen a c)
fault_failed was r a b c le failed err is = by_fault r (fault_of_pages was) (λ (x : Opening). OnDiskFailed x (HasRisen a c)) err is (by was failed)
  where
    by : (fault : PageFault) → OnDiskFault (let x : Result (Unit {0}) PageFault = Err fault in x) (HasRisen b c) → OnDiskFailed (let x : Opening = Err (fault_of_pages fault) in x) (HasRisen a c)
    by page_faults.Disk risen = risen_later a b c le risen
    by page_faults.Memory risen = tt

-- ---- what the areas for a log read afterwards

left_same : (reads : Option Areas) → ReadsAsBefore reads reads
left_same None = tt
left_same (Some areas) = inr record { log = refl; second = inl refl }

left_found : (old new : Option Areas) → BothTold old new IsAsFound → ReadsAsBefore old new
left_found None None found = tt
left_found None (Some y) found = absurd found
left_found (Some x) None found = absurd found
left_found (Some x) (Some y) found = inr found

pub fault_left : (was : LogFault) (r : Opening) (old new : Option Areas) → OnDamaged (let x : Result (Unit {0}) LogFault = Err was in x) (λ at. new ≡ old) → OnNoMemory (let x : Result (Unit {0}) LogFault = Err was in x) (BothTold old new IsAsFound)
    → IsErr r → IsErrAnd r (λ f. f ≡ fault_of was) → UnlessDiskFailed r (ReadsAsBefore old new)
fault_left was r old new untouched found err is = by_fault r (fault_of was) (λ (x : Opening). UnlessDiskFailed x (ReadsAsBefore old new)) err is (by was untouched found)
  where
    by : (fault : LogFault) → OnDamaged (let x : Result (Unit {0}) LogFault = Err fault in x) (λ at. new ≡ old) → OnNoMemory (let x : Result (Unit {0}) LogFault = Err fault in x) (BothTold old new IsAsFound)
        → UnlessDiskFailed (let x : Opening = Err (fault_of fault) in x) (ReadsAsBefore old new)
    by (faults.Damaged at) same found = subst (ReadsAsBefore old) (sym same) (left_same old)
    by faults.Disk same found = tt
    by faults.Memory same found = left_found old new found

-- where the log was damaged, nothing was changed
pub fault_untouched : (was : LogFault) (r : Opening) (old new : Option Areas) → OnDamaged (let x : Result (Unit {0}) LogFault = Err was in x) (λ at. new ≡ old) → IsErr r → IsErrAnd r (λ f. f ≡ fault_of was)
    → OnDamagedLog r (λ at. LeavesMisspelled at old new)
fault_untouched was r old new untouched err is = by_fault r (fault_of was) (λ (x : Opening). OnDamagedLog x (λ at. LeavesMisspelled at old new)) err is (by was untouched)
  where
    by : (fault : LogFault) → OnDamaged (let x : Result (Unit {0}) LogFault = Err fault in x) (λ at. new ≡ old) → OnDamagedLog (let x : Opening = Err (fault_of fault) in x) (λ at. LeavesMisspelled at old new)
    by (faults.Damaged at) same = λ damaged. same
    by faults.Disk same = tt
    by faults.Memory same = tt

moved_left : (format : LogFormat) (rows : List PlainLogged) (old mid new : Option Areas) → WhereTold old (ReadsIn format rows) → BothTold old mid (IsMoved format rows) → ReadsAsBut is_paged mid new → ReadsAsBefore old new
moved_left format rows None None None read moved same = tt
moved_left format rows None None (Some z) read moved same = absurd same
moved_left format rows None (Some y) new read moved same = absurd moved
moved_left format rows (Some x) None new read moved same = absurd moved
moved_left format rows (Some x) (Some y) None read moved same = absurd same
moved_left format rows (Some x) (Some y) (Some z) read moved same =
    inl (format, rows, read, record { emptied = same Log refl ∙ moved.emptied; second = subst (IsSecondAfter format rows x.second) (sym (same Second refl)) moved.second })

pub moved_leaves : (r : Opening) (format : LogFormat) (rows : List PlainLogged) (old mid new : Option Areas) → WhereTold old (ReadsIn format rows) → BothTold old mid (IsMoved format rows) → ReadsAsBut is_paged mid new
    → UnlessDiskFailed r (ReadsAsBefore old new)
moved_leaves r format rows old mid new read moved same = unless_any r (ReadsAsBefore old new) (moved_left format rows old mid new read moved same)

-- ---- the log stays open while pages are opened

told_stays : (touched : Area → Bool) (a b : Option Areas) → ReadsAsBut touched a b → IsSome a → IsSome b
told_stays touched None None same told = told
told_stays touched None (Some y) same told = absurd same
told_stays touched (Some x) None same told = absurd same
told_stays touched (Some x) (Some y) same told = told

second_same : (fact : List ℕ → Type 0) (i j : Areas) → IsSameBut is_paged i j → InSecond fact i → InSecond fact j
second_same fact i j same has = subst fact (sym (same Second refl)) has

whole_same : (rows : List PlainLogged) (i j : Areas) → IsSameBut is_paged i j → HoldsWhole rows i → HoldsWhole rows j
whole_same rows i j same (inl old) = inl (subst IsEnd (sym (same Second refl)) old.0, subst (IsWhole Old rows) (sym (same Log refl)) old.1)
whole_same rows i j same (inr new) = inr record { rest = new.rest; parts = same Second refl ∙ new.parts; more = new.more; has = new.has }

pub stays_open : (old new : DiskState) (log : LogView) (rows : List PlainLogged) → IsDisk new → LeavesBut is_paged old new → IsOpen old log rows → IsOpen new log rows
stays_open old new log rows disk leaves is = record {
  idle = is.idle;
  images = record {
    told = told_stays is_paged old.reads new.reads leaves.reads is.images.told;
    at_end = is.images.at_end;
    each = kept_others is_paged old new (InSecond (IsShut (front_of rows))) disk leaves (second_same (IsShut (front_of rows))) is.images.each;
  };
}

kept_opened : FittingAreKept → (entries : List PlainEntry) → AllFit [] entries → durable_entries (opened_with entries) ≡ entries
kept_opened law entries fit = kept_other entries restart_entry refl ∙ law entries fit

pub opened_keeps : FittingAreKept → (r : Opening) (old mid new : DiskState) (log : LogView) (rows : List PlainLogged) → IsDisk new → LeavesBut is_paged mid new → (IsSome old.reads → IsOpen mid log rows)
    → IfOk r (λ store. store.log ≡ log) → IfOk r (λ store. store.history ≡ opened_with (entries_of rows)) → IfOk r (λ store. store.moments ≡ moments_of rows) → IfOk r (λ store. AllFit [] (entries_of rows))
    → IfOk r (λ store. IsSome old.reads → Keeps new store None)
opened_keeps law (Ok store) old mid new log rows disk leaves is same history moments fit = λ told.
    let there = stays_open mid new log rows disk leaves (is told) in
    let kept = ap durable_entries history ∙ kept_opened law (entries_of rows) fit in
    subst (λ (l : LogView). IsOpen new l (timed (durable_entries store.history) store.moments)) (sym same) (subst (IsOpen new log) (sym (timed_again rows (durable_entries store.history) store.moments kept moments)) there)
opened_keeps law (Err fault) old mid new log rows disk leaves is same history moments fit = tt

pub opened_from : OldHasNew → (r : Opening) (reads : Option Areas) (format : LogFormat) (rows : List PlainLogged) → IfOk r (λ store. store.history ≡ opened_with (entries_of rows)) → IfOk r (λ store. store.moments ≡ moments_of rows)
    → IfOk r (λ store. AllFit [] (entries_of rows)) → AllByRecursion (HasBody format) rows → length rows ≤ most_entries → WhereTold reads (ReadsIn format rows) → IfOk r (λ store. IsOpenedFrom reads store.history store.moments)
opened_from law (Ok store) reads format rows history moments fit spelled few read = record {
  rows = rows;
  are_entries = record { spelled = all_new law format rows spelled; few = few; fit = fit };
  history_is = history;
  moments_are = moments;
  read = some_format reads read;
}
  where
    some_format : (told : Option Areas) → WhereTold told (ReadsIn format rows) → WhereTold told (ReadsRows rows)
    some_format None is = tt
    some_format (Some areas) is = (format, is)
opened_from law (Err fault) reads format rows history moments fit spelled few read = tt

-- ---- while they are opened

pub moment : EachHasOneReading → OldHasNew → (old mid new : DiskState) (log : LogView) (format : LogFormat) (found rows : List PlainLogged) → AsRead old.reads (HoldsWhole rows) → WhereTold old.reads (ReadsIn format found) → (IsSome old.reads → IsOpen mid log found)
    → ((rs : List PlainLogged) → AreEntries rs → IsOpen mid log rs → (image : Areas) → images_now mid image → HoldsWhole rs image) → LeavesBut is_paged mid new → LeavesOnly old mid (HoldsAsRead rows old.reads) → LeavesOnly old new (HoldsAsRead rows old.reads)
moment one law old mid new log format found rows whole read is holds leaves first =
    let same : found ≡ rows = read_is one old.reads format found rows whole read in
    let there : IsOpen mid log rows = subst (IsOpen mid log) same (is (told old.reads whole)) in
    crash.same old mid new (HoldsAsRead rows old.reads) first
    (crash.weaker mid new (IsAsBut is_paged (images_now mid)) (HoldsAsRead rows old.reads) leaves.images
    (λ image left. inl (whole_same rows left.0 image left.2 (holds rows (entries old.reads whole) there left.0 left.1))))
  where
    told : (reads : Option Areas) → AsRead reads (HoldsWhole rows) → IsSome reads
    told None has = absurd has
    told (Some areas) has = refl

    entries : (reads : Option Areas) → AsRead reads (HoldsWhole rows) → AreEntries rows
    entries None has = absurd has
    entries (Some areas) has = holds_entries law rows areas has

-- ---- the pages

are_trees : (pages : Pages) (loaded : Option (Trees × ℕ)) (now : Option TreesAt) → AreThat loaded now → Loads pages now → AreTreesAt loaded now
are_trees pages None None are loads = tt
are_trees pages None (Some at) are loads = absurd are
are_trees pages (Some loaded) None are loads = absurd are
are_trees pages (Some loaded) (Some at) are loads = (record { are = are.0; roots = loads.are.roots; sound = loads.sound }, are.1)

stand : (disk : DiskState) (flush after : FlushView) (now : Option TreesAt) → IsSameOrRenewed flush after → StandsOn disk flush now now → StandsOn disk after now now
stand disk flush after now (inl same) stands = subst (λ (f : FlushView). StandsOn disk f now now) (sym same) stands
stand disk flush after now (inr renewed) stands = renewed-stands disk flush after now now renewed stands

has_pages : (disk : DiskState) (store : StoreView) (reads : Option Areas) (flush : FlushView) (loaded : Option (Trees × ℕ)) → IsSome reads → WhereTold reads (λ areas. IsOpened (opened areas) disk flush loaded) → IsSameOrRenewed flush store.flush
    → ((now : Option TreesAt) → AreTreesAt loaded now → MayGoOn store.flush now store.nodes) → HasPages disk store
has_pages disk store None flush loaded told is same goes = absurd (no told)
  where
    no : false ≡ true → ⊥
    no x = cc x
has_pages disk store (Some areas) flush loaded told is same goes = record {
  was = is.now;
  now = is.now;
  paged = record { stands = stand disk flush store.flush is.now same is.stands; goes_on = goes is.now (are_trees (opened areas) loaded is.now is.are is.loads) };
}

pub opened_pages : (disk : DiskState) (r : Opening) (old mid : Option Areas) (flush : FlushView) (loaded : Option (Trees × ℕ)) → ReadsAsBut is_logged old mid → WhereTold mid (λ areas. IsOpened (opened areas) disk flush loaded)
    → IfOk r (λ store. IsSameOrRenewed flush store.flush) → ((now : Option TreesAt) → AreTreesAt loaded now → IfOk r (λ store. MayGoOn store.flush now store.nodes)) → IfOk r (λ store. IsSome old → HasPages disk store)
opened_pages disk (Ok store) old mid flush loaded reads is same goes = λ told. has_pages disk store mid flush loaded (told_stays is_logged old mid reads told) is same goes
opened_pages disk (Err fault) old mid flush loaded reads is same goes = tt

-- the areas of the pages are as they were
same_opened : (x y : Areas) → IsSameBut is_logged x y → opened y ≡ opened x
same_opened x y same =
    ap (λ (journal : Bytes). pages_of (home_after (replayed journal) y.home)) (same Journal refl) ∙ ap (λ (home : Bytes). pages_of (home_after (replayed x.journal) home)) (same Home refl)

flushed_from : (disk : DiskState) (store : StoreView) (old mid : Option Areas) (flush : FlushView) (loaded : Option (Trees × ℕ)) (entries : List PlainEntry) → ReadsAsBut is_logged old mid → WhereTold mid (λ areas. IsOpened (opened areas) disk flush loaded)
    → store.history ≡ opened_with entries → ((now : Option TreesAt) → AreTreesAt loaded now → IsFlushedAt now entries store) → WhereTold old (λ areas. IsFlushedFrom (opened areas) store)
flushed_from disk store None mid flush loaded entries reads is history flushed = tt
flushed_from disk store (Some x) None flush loaded entries reads is history flushed = absurd reads
flushed_from disk store (Some x) (Some y) flush loaded entries reads is history flushed = record {
  now = is.now;
  loads = subst (λ (pages : Pages). Loads pages is.now) (same_opened x y reads) is.loads;
  entries = entries;
  history_is = history;
  flushed = flushed is.now (are_trees (opened y) loaded is.now is.are is.loads);
}

pub opened_flushed : (disk : DiskState) (r : Opening) (old mid : Option Areas) (flush : FlushView) (loaded : Option (Trees × ℕ)) (entries : List PlainEntry) → ReadsAsBut is_logged old mid → WhereTold mid (λ areas. IsOpened (opened areas) disk flush loaded)
    → IfOk r (λ store. store.history ≡ opened_with entries) → ((now : Option TreesAt) → AreTreesAt loaded now → IfOk r (IsFlushedAt now entries)) → IfOk r (λ store. WhereTold old (λ areas. IsFlushedFrom (opened areas) store))
opened_flushed disk (Ok store) old mid flush loaded entries reads is history flushed = flushed_from disk store old mid flush loaded entries reads is history flushed
opened_flushed disk (Err fault) old mid flush loaded entries reads is history flushed = tt

-- ---- damage

pub opened_damaged : (r : Opening) (reads : Option Areas) (format : LogFormat) (rows : List PlainLogged) → WhereTold reads (ReadsIn format rows)
    → OnDamagedLog r (λ at. (count : ℕ) × IsUnfitFrom count (entries_of rows) × (at ≡ gate_place format (take count rows))) → OnDamagedLog r (λ at. WhereTold reads (IsDamagedLog at))
opened_damaged (Ok store) reads format rows read damaged = tt
opened_damaged (Err (Damaged at)) None format rows read damaged = tt
opened_damaged (Err (Damaged at)) (Some areas) format rows read damaged = inr (record { format = format; rows = rows; count = damaged.0; read = read; unfit = damaged.1; at = damaged.2 })
opened_damaged (Err Disk) reads format rows read damaged = tt
opened_damaged (Err Memory) reads format rows read damaged = tt

-- what could be read is damaged nowhere but at an entry that does not fit
pub opened_untouched : EachHasOneReading → (r : Opening) (old new : Option Areas) (format : LogFormat) (rows : List PlainLogged) → WhereTold old (ReadsIn format rows) → OnDamagedLog r (λ at. LeavesMisspelled at old new)
opened_untouched one (Ok store) old new format rows read = tt
opened_untouched one (Err (Damaged at)) None new format rows read = λ damaged. absurd damaged
opened_untouched one (Err (Damaged at)) (Some areas) new format rows read = λ damaged. absurd (not_damaged one areas rows at (format, read) damaged)
opened_untouched one (Err Disk) old new format rows read = tt
opened_untouched one (Err Memory) old new format rows read = tt
