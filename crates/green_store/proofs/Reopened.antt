-- Opening a whole log.
use Rattle.std.proofs.Common.{◌≡◌, ◌⊎◌, inl, inr, ℕ, ◌≤◌, List, [], ◌∷◌, ◌++◌, length, take, drop, Option, None, Some, Result, Ok, Err, refl, sym, ◌∙◌, ap, subst, arith, append_assoc}
use Rattle.std.specs.Prelude.{IfOk}
use Rattle.std.specs.List.{AllByRecursion}
use Rattle.std.specs.Result.{IsErr, IsErrAnd}
use Rattle.std.proofs.lemmas.List.{append-nil, length-take-le}
use Rattle.febe_data.specs.Plain.{PlainEntry}
use Rattle.entry_codec.specs.Bodies.{HasBody}
use Rattle.entry_codec.specs.Laws.{OldHasNew}
use Rattle.entry_codec.specs.Logged.{PlainLogged, entries_of, moments_of}
use Rattle.entry_codec.specs.declared.format.LogFormat.{LogFormat}
use Rattle.entry_codec.specs.declared.format.LogFormat.TheVariants.{Old, New}
use Rattle.green_io.specs.Areas.{Areas}
use Rattle.green_io.specs.Disk.{WhereTold}
use Rattle.entry_fits.specs.Fits.{Fits, AllFit}
use Rattle.edit_log.specs.declared.opening.LogFault.{LogFault}
use Rattle.edit_log.specs.declared.opening.LogFault.TheVariants as faults
use Rattle.edit_log.specs.Answers.{OnDamaged}
use Rattle.edit_log.specs.Images.{AreEntries, AsRead}
use Rattle.edit_log.specs.Laws.{EachHasOneReading}
use Rattle.edit_log.specs.Log.{gated, most_entries, IsEnd, ReadsAs, HasEndClosed, IsWhole}
use Rattle.edit_log.specs.Second.{IsOpened, HoldsWhole, ReadsIn, IsDamaged, IsMoved, IsAsFound}
use Rattle.green_store.specs.declared.opening.OpenFault.{OpenFault}
use Rattle.green_store.specs.declared.opening.OpenFault.TheVariants.{Damaged, Disk, Memory}
use Rattle.green_store.specs.Opening.{ReadsRows, IsUnfitBehind, IsUnfitFrom, IsUnfitAt, IsDamagedLog, OpeningKeepsRows, EachHasOneOpening, OnDamagedLog, OpensAs, fault_of, gate_place, opened_with}
use Rattle.green_store.specs.StoreView.{StoreView}
use Rattle.green_store.proofs.Rows.{all_new}

-- ---- what is read, and what is whole

whole_reads : (format : LogFormat) (rows : List PlainLogged) (log : List ℕ) → IsWhole format rows log → ReadsAs format rows log
whole_reads format rows log whole = record { end = whole.end; has = whole.has; ends = whole.ends }

holds_reads : (rows : List PlainLogged) (areas : Areas) → HoldsWhole rows areas → ReadsRows rows areas
holds_reads rows areas (inl old) = (Old, (old.0, whole_reads Old rows areas.log old.1))
holds_reads rows areas (inr new) = (New, record { rest = new.rest; parts = new.parts; more = new.more; has = whole_reads New rows new.rest new.has })

log_entries : OldHasNew → (format : LogFormat) (rows : List PlainLogged) (log : List ℕ) → IsWhole format rows log → AreEntries rows
log_entries law format rows log whole = record { spelled = all_new law format rows whole.has.spelled; few = whole.has.few; fit = whole.fit }

-- the entries of a whole log may be those of one that is open
pub holds_entries : OldHasNew → (rows : List PlainLogged) (areas : Areas) → HoldsWhole rows areas → AreEntries rows
holds_entries law rows areas (inl old) = log_entries law Old rows areas.log old.1
holds_entries law rows areas (inr new) = log_entries law New rows new.rest new.has

rows_are : EachHasOneReading → (areas : Areas) (a b : List PlainLogged) → ReadsRows a areas → ReadsRows b areas → a ≡ b
rows_are one areas a b (f, first) (g, second) = ((one areas).rows f g a b first second).1

-- what can be read is not damaged
pub not_damaged : EachHasOneReading → (areas : Areas) (rows : List PlainLogged) (place : ℕ) → ReadsRows rows areas → IsDamaged place areas → ⊥
not_damaged one areas rows place (f, reads) (g, damaged) = (one areas).apart f g rows place reads damaged

-- a whole log is not damaged
whole_undamaged : EachHasOneReading → (reads : Option Areas) (rows : List PlainLogged) (place : ℕ) → AsRead reads (HoldsWhole rows) → WhereTold reads (IsDamaged place) → ⊥
whole_undamaged one None rows place whole damaged = whole
whole_undamaged one (Some areas) rows place whole damaged = not_damaged one areas rows place (holds_reads rows areas whole) damaged

-- it is read as its entries
pub read_is : EachHasOneReading → (reads : Option Areas) (format : LogFormat) (found rows : List PlainLogged) → AsRead reads (HoldsWhole rows) → WhereTold reads (ReadsIn format found) → found ≡ rows
read_is one None format found rows whole read = absurd whole
read_is one (Some areas) format found rows whole read = rows_are one areas found rows (format, read) (holds_reads rows areas whole)

whole_fits : (reads : Option Areas) (rows : List PlainLogged) → AsRead reads (HoldsWhole rows) → AllFit [] (entries_of rows)
whole_fits None rows whole = absurd whole
whole_fits (Some areas) rows (inl old) = old.1.fit
whole_fits (Some areas) rows (inr new) = new.has.fit

-- ---- entries that fit

-- each of the entries that fit one after another fits after those before it
fits_within : (past front : List PlainEntry) (entry : PlainEntry) (behind : List PlainEntry) → AllFit past (front ++ entry ∷ behind) → Fits (past ++ front) entry
fits_within past [] entry behind fit = subst (λ (es : List PlainEntry). Fits es entry) (sym (append-nil past)) fit.0
fits_within past (first ∷ front) entry behind fit =
    subst (λ (es : List PlainEntry). Fits es entry) (append_assoc past (first ∷ []) front) (fits_within (past ++ first ∷ []) front entry behind fit.1)

all_fit : (front found : List PlainEntry) → AllFit [] found → IsUnfitBehind front found → ⊥
all_fit front found fit unfit = unfit.unfit (fits_within [] front unfit.entry unfit.behind (subst (AllFit []) unfit.parts fit))

head_is : (g h : PlainEntry) (x y : List PlainEntry) → g ∷ x ≡ h ∷ y → g ≡ h
head_is g h x y same = cc

tail_is : (g h : PlainEntry) (x y : List PlainEntry) → g ∷ x ≡ h ∷ y → x ≡ y
tail_is g h x y same = cc

-- ---- a whole log opens

-- the log has a fault that a whole one may have
pub fault_opens : EachHasOneReading → (was : LogFault) (r : Result StoreView OpenFault) (reads : Option Areas) (rows : List PlainLogged) → AsRead reads (HoldsWhole rows)
    → OnDamaged (let log : Result (Unit {0}) LogFault = Err was in log) (λ at. WhereTold reads (IsDamaged at)) → IsErr r → IsErrAnd r (λ fault. fault ≡ fault_of was) → OpensAs r rows
fault_opens one was (Ok store) reads rows whole damaged err is = absurd cc
fault_opens one was (Err fault) reads rows whole damaged err is = subst (λ f. OpensAs (Err f) rows) (sym is) (by was damaged)
  where
    by : (was : LogFault) → OnDamaged (let log : Result (Unit {0}) LogFault = Err was in log) (λ at. WhereTold reads (IsDamaged at)) → OpensAs (Err (fault_of was)) rows
    by (faults.Damaged at) damaged = absurd (whole_undamaged one reads rows at whole damaged)
    by faults.Disk damaged = tt
    by faults.Memory damaged = tt

-- the entries that were read are those of the whole log, and fit
pub opens_as : EachHasOneReading → (r : Result StoreView OpenFault) (reads : Option Areas) (format : LogFormat) (found rows : List PlainLogged) → AsRead reads (HoldsWhole rows)
    → WhereTold reads (ReadsIn format found) → IfOk r (λ store. store.history ≡ opened_with (entries_of found)) → IfOk r (λ store. store.moments ≡ moments_of found)
    → OnDamagedLog r (λ at. (count : ℕ) × IsUnfitFrom count (entries_of found) × (at ≡ gate_place format (take count found))) → OpensAs r rows
opens_as one (Ok store) reads format found rows whole read history moments damaged =
    let same : found ≡ rows = read_is one reads format found rows whole read in
    (history ∙ ap (λ (rs : List PlainLogged). opened_with (entries_of rs)) same, moments ∙ ap moments_of same)
opens_as one (Err (Damaged at)) reads format found rows whole read history moments damaged =
    let fit : AllFit [] (entries_of found) = subst (λ (rs : List PlainLogged). AllFit [] (entries_of rs)) (sym (read_is one reads format found rows whole read)) (whole_fits reads rows whole) in
    all_fit (take damaged.0 (entries_of found)) (entries_of found) fit damaged.1.1
opens_as one (Err Disk) reads format found rows whole read history moments damaged = tt
opens_as one (Err Memory) reads format found rows whole read history moments damaged = tt

-- ---- one opening

-- the first entry that does not fit stands at one place
first_unfit : (past a b : List PlainEntry) (e f : PlainEntry) (x y : List PlainEntry) → a ++ e ∷ x ≡ b ++ f ∷ y → AllFit past a → AllFit past b → ¬ Fits (past ++ a) e → ¬ Fits (past ++ b) f → a ≡ b
first_unfit past [] [] e f x y same fit also unfit other = refl
first_unfit past [] (h ∷ b) e f x y same fit also unfit other =
    absurd (unfit (subst (λ (es : List PlainEntry). Fits es e) (sym (append-nil past)) (subst (Fits past) (sym (head_is e h x (b ++ f ∷ y) same)) also.0)))
first_unfit past (g ∷ a) [] e f x y same fit also unfit other =
    absurd (other (subst (λ (es : List PlainEntry). Fits es f) (sym (append-nil past)) (subst (Fits past) (head_is g f (a ++ e ∷ x) y same) fit.0)))
first_unfit past (g ∷ a) (h ∷ b) e f x y same fit also unfit other =
    let heads : g ≡ h = head_is g h (a ++ e ∷ x) (b ++ f ∷ y) same in
    let tails : a ++ e ∷ x ≡ b ++ f ∷ y = tail_is g h (a ++ e ∷ x) (b ++ f ∷ y) same in
    let fits_on : AllFit (past ++ g ∷ []) b = subst (λ (k : PlainEntry). AllFit (past ++ k ∷ []) b) (sym heads) also.1 in
    let moved : (past ++ h ∷ []) ++ b ≡ past ++ (h ∷ b) = append_assoc past (h ∷ []) b in
    let rest : a ≡ b = first_unfit (past ++ g ∷ []) a b e f x y tails fit.1 fits_on
    (λ fits. unfit (subst (λ (es : List PlainEntry). Fits es e) (append_assoc past (g ∷ []) a) fits))
    (λ fits. other (subst (λ (es : List PlainEntry). Fits es f) moved (subst (λ (k : PlainEntry). Fits ((past ++ k ∷ []) ++ b) f) heads fits))) in
    cons_is heads rest
  where
    cons_is : g ≡ h → a ≡ b → g ∷ a ≡ h ∷ b
    cons_is p q = cc

unfit_once : (es fs : List PlainEntry) (n m : ℕ) → es ≡ fs → IsUnfitFrom n es → IsUnfitFrom m fs → n ≡ m
unfit_once es fs n m same (within, first) (among, second) =
    let fronts : take n es ≡ take m fs = first_unfit [] (take n es) (take m fs) first.entry second.entry first.behind second.behind (sym first.parts ∙ same ∙ second.parts) first.fit second.fit first.unfit second.unfit in
    sym (length-take-le n es (omega (arith, within))) ∙ ap length fronts ∙ length-take-le m fs (omega (arith, among))

one_unfit : EachHasOneReading → (a b : ℕ) (areas : Areas) → IsUnfitAt a areas → IsUnfitAt b areas → a ≡ b
one_unfit one a b areas first second =
    let both = (one areas).rows first.format second.format first.rows second.rows first.read second.read in
    let counts : first.count ≡ second.count = unfit_once (entries_of first.rows) (entries_of second.rows) first.count second.count (ap entries_of both.1) first.unfit second.unfit in
    first.at
    ∙ ap (λ (f : LogFormat). gate_place f (take first.count first.rows)) both.0
    ∙ ap (λ (rs : List PlainLogged). gate_place second.format (take first.count rs)) both.1
    ∙ ap (λ (n : ℕ). gate_place second.format (take n second.rows)) counts
    ∙ sym second.at

damaged_once : EachHasOneReading → (a b : ℕ) (areas : Areas) → IsDamaged a areas → IsDamaged b areas → a ≡ b
damaged_once one a b areas (f, first) (g, second) = ((one areas).place f g a b first second).1

pub one_opening : EachHasOneReading → EachHasOneOpening
one_opening one areas = record {
  place = λ a b first second. one_place a b first second;
  apart = λ rows place reads fit damaged. not_both rows place reads fit damaged;
}
  where
    one_place : (a b : ℕ) → IsDamagedLog a areas → IsDamagedLog b areas → a ≡ b
    one_place a b (inl first) (inl second) = damaged_once one a b areas first second
    one_place a b (inl first) (inr second) = absurd (not_damaged one areas second.rows a (second.format, second.read) first)
    one_place a b (inr first) (inl second) = absurd (not_damaged one areas first.rows b (first.format, first.read) second)
    one_place a b (inr first) (inr second) = one_unfit one a b areas first second

    not_both : (rows : List PlainLogged) (place : ℕ) → ReadsRows rows areas → AllFit [] (entries_of rows) → IsDamagedLog place areas → ⊥
    not_both rows place reads fit (inl damaged) = not_damaged one areas rows place reads damaged
    not_both rows place reads fit (inr unfit) =
        let same : rows ≡ unfit.rows = rows_are one areas rows unfit.rows reads (unfit.format, unfit.read) in
        all_fit (take unfit.count (entries_of unfit.rows)) (entries_of unfit.rows) (subst (λ (rs : List PlainLogged). AllFit [] (entries_of rs)) same fit) unfit.unfit.1

-- ---- what is left reads as the same entries

shut_reads : (rows : List PlainLogged) (behind : List ℕ) → AllByRecursion (HasBody New) rows → length rows ≤ most_entries → ReadsAs New rows (gated New rows ++ (0 ∷ behind))
shut_reads rows behind spelled few = record { end = 0 ∷ behind; has = record { parts = refl; spelled = spelled; few = few }; ends = inl (λ e. absurd (omega arith)) }

not_empty : (front behind : List ℕ) (byte : ℕ) → front ++ (byte ∷ behind) ≡ [] → ⊥
not_empty [] behind byte is = absurd cc
not_empty (first ∷ front) behind byte is = absurd cc

moved_reads : OldHasNew → (format : LogFormat) (rows : List PlainLogged) (old new : Areas) → ReadsIn format rows old → IsMoved format rows old new → ReadsIn New rows new
moved_reads law Old rows old new read moved = record {
  rest = gated New rows ++ (0 ∷ []);
  parts = moved.second;
  more = not_empty (gated New rows) [] 0;
  has = shut_reads rows [] (all_new law Old rows read.1.has.spelled) read.1.has.few;
}
moved_reads law New rows old new read moved = by moved.second
  where
    by : (was now : List ℕ) × (old.second ≡ 1 ∷ was) × (new.second ≡ 1 ∷ now) × HasEndClosed New rows was now → ReadsIn New rows new
    by (was, now, before, after, closed) = record {
      rest = now;
      parts = after;
      more = λ none. not_empty (gated New rows) (drop 1 closed.end) 0 (sym closed.closed ∙ none);
      has = subst (ReadsAs New rows) (sym closed.closed) (shut_reads rows (drop 1 closed.end) closed.has.spelled closed.has.few);
    }

-- an area that is open does not read like the end of a log
open_not_end : (fact : List ℕ → Type 0) (second : List ℕ) → IsOpened fact second → IsEnd second → ⊥
open_not_end fact second opened end = by (subst IsEnd opened.parts end)
  where
    by : IsEnd (1 ∷ opened.rest) → ⊥
    by (inl other) = other refl
    by (inr none) = opened.more none

found_reads : (format : LogFormat) (rows : List PlainLogged) (old new : Areas) → IsAsFound old new → ReadsIn format rows old → ReadsIn format rows new
found_reads format rows old new found read = by format read found.second
  where
    by : (format : LogFormat) → ReadsIn format rows old → (new.second ≡ old.second) ⊎ (IsEnd old.second × IsEnd new.second) → ReadsIn format rows new
    by Old read (inl same) = (subst IsEnd (sym same) read.0, subst (ReadsAs Old rows) (sym found.log) read.1)
    by Old read (inr closed) = (closed.1, subst (ReadsAs Old rows) (sym found.log) read.1)
    by New read (inl same) = record { rest = read.rest; parts = same ∙ read.parts; more = read.more; has = read.has }
    by New read (inr closed) = absurd (open_not_end (ReadsAs New rows) old.second read closed.0)

pub opening_keeps_rows : EachHasOneReading → OldHasNew → OpeningKeepsRows
opening_keeps_rows one law old new rows (inl (format, found, read, moved)) reads =
    subst (λ (rs : List PlainLogged). ReadsRows rs new) (rows_are one old found rows (format, read) reads) (New, moved_reads law format found old new read moved)
opening_keeps_rows one law old new rows (inr found) (format, read) = (format, found_reads format rows old new found read)
