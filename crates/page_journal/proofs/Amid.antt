-- How far a loop of page writes has come.
use Rattle.std.proofs.Common.{◌≡◌, ℕ, suc, ◌-◌, ◌*◌, ◌^◌, ◌<◌, min, true, List, [], ◌∷◌, length, take, drop, Option, None, Some, IsSome, nat_eq, nat_lt, refl, sym, ◌∙◌, ap, ap₂, subst, arith, length-drop, eq-eqb}
use Rattle.std.proofs.lemmas.Bool.{and_parts, or_left, or_right}
use Rattle.std.specs.List.{AllByRecursion}
use Rattle.std.specs.Int.{w64, from_be_bytes}
use Rattle.green_io.specs.declared.disk.Area.TheVariants as area
use Rattle.green_io.specs.declared.disk.Area.{Area}
use Rattle.green_io.specs.Areas.{Areas, InArea}
use Rattle.green_io.specs.Disk.{DiskState, IsDisk, images_now, Written, Torn, Changes, LeftBy, LeavesOnly}
use Rattle.green_io.proofs.Crash.{again, none_called, now_has}
use Rattle.page_journal.specs.Pages.{Bytes, PageBytes, page_bytes, Writes, pages_of, is_written, written_at, home_after}
use Rattle.page_journal.specs.JournalBytes.{IsWrite, entries, all_low}
use Rattle.page_journal.specs.Images.{IsGated, IsMidway, AllHave}
use Rattle.page_journal.specs.inside.Phases.{IsRun, AmidHome, LaidHome}
use Rattle.page_journal.proofs.PageMaps.{torn_spares}
use Rattle.page_journal.proofs.Recorded.{run_each}

-- So many pages are left of the writes, in these bytes, and the others are written.
pub record IsPartway (a b : DiskState) (count : ℕ) (rest : Bytes) (writes : Writes) : Type 0 where
  pub left : Writes
  pub run : IsRun count rest left
  pub among : (k : ℕ) → is_written left k ≡ true → is_written writes k ≡ true
  pub images : (before : Bytes) → AllHave a (IsMidway writes before) → LeavesOnly a b (IsMidway writes before)
  pub home : AmidHome writes left a.reads b.reads

amid_itself : (writes : Writes) (reads : Option Areas) → AmidHome writes writes reads reads
amid_itself writes None = tt
amid_itself writes (Some areas) = refl

pub partway_none : (a : DiskState) (count : ℕ) (rest : Bytes) (writes : Writes) → IsRun count rest writes → IsPartway a a count rest writes
partway_none a count rest writes run = record {
  left = writes;
  run = run;
  among = λ k e. e;
  images = λ before have. none_called a (IsMidway writes before);
  home = amid_itself writes a.reads;
}

pub partway_start : (a : DiskState) (count n : ℕ) (rest : Bytes) (writes : Writes) → n ≡ count → IsRun count rest writes → IsPartway a a n rest writes
partway_start a count n rest writes is run = subst (λ (k : ℕ). IsPartway a a k rest writes) (sym is) (partway_none a count rest writes run)

-- The first of the pages that are left, as it was read.
pub record IsFirst (count n number : ℕ) (page behind rest : Bytes) : Type 0 where
  pub more : count ≡ suc n
  pub number_is : number ≡ from_be_bytes w64 (take 8 rest)
  pub page_is : page ≡ take 4096 (drop 8 rest)
  pub behind_is : behind ≡ drop 4104 rest

-- what the first page and the others are among the writes
record IsSplit (n number : ℕ) (page behind : Bytes) (left : Writes) : Type 0 where
  pub parts : page_bytes number page ∷ entries n behind ≡ left
  pub first : IsWrite (page_bytes number page)
  pub run : IsRun n behind (entries n behind)

split : (count n number : ℕ) (page behind rest : Bytes) (left : Writes) → IsFirst count n number page behind rest → IsRun count rest left → IsSplit n number page behind left
split count n number page behind rest left first run =
    let all : entries (suc n) rest ≡ left = ap (λ (m : ℕ). entries m rest) (sym first.more) ∙ run.are in
    let parts : page_bytes number page ∷ entries n behind ≡ left = ap₂ (λ (w : PageBytes) (l : Writes). w ∷ l) (ap₂ page_bytes first.number_is first.page_is) (ap (entries n) first.behind_is) ∙ all in
    let each : AllByRecursion IsWrite (page_bytes number page ∷ entries n behind) = subst (AllByRecursion IsWrite) (sym parts) (run_each count rest left run) in
    let low = and_parts (nat_lt number 1099511627776) (all_low (entries n behind)) (ap all_low parts ∙ run.low) in
    let shorter : length behind ≡ length rest - 4104 = ap length first.behind_is ∙ length-drop 4104 rest in
    record {
      parts = parts;
      first = each.0;
      run = record { long = omega (arith, run.long, first.more, shorter); are = refl; low = low.1 };
    }

torn_midway : (writes : Writes) (before : Bytes) (number at n : ℕ) (i j : Areas) → is_written writes number ≡ true → at ≡ 4096 * number → n ≡ 4096 → IsMidway writes before i → InArea area.Home (Torn at n) i j → IsMidway writes before j
torn_midway writes before number at n i j among at_is long has step = record {
  spared = torn_spares writes (pages_of before) number i.home j.home among has.spared
      (subst (λ (m : ℕ). Torn (4096 * number) m i.home j.home) long (subst (λ (p : ℕ). Torn p n i.home j.home) at_is step.0));
  gated = subst (IsGated writes) (sym (step.1 area.Journal refl)) has.gated;
}

first_among : (writes left : Writes) (n number : ℕ) (page behind : Bytes) → IsSplit n number page behind left → ((k : ℕ) → is_written left k ≡ true → is_written writes k ≡ true) → is_written writes number ≡ true
first_among writes left n number page behind is among =
    among number (sym (ap (λ (l : Writes). is_written l number) is.parts) ∙ or_left (nat_eq number number) (is_written (entries n behind) number) (eq-eqb number number refl))

others_among : (writes left : Writes) (n number : ℕ) (page behind : Bytes) → IsSplit n number page behind left → ((k : ℕ) → is_written left k ≡ true → is_written writes k ≡ true) → (k : ℕ) → is_written (entries n behind) k ≡ true → is_written writes k ≡ true
others_among writes left n number page behind is among k e =
    among k (sym (ap (λ (l : Writes). is_written l k) is.parts) ∙ or_right (nat_eq k number) (is_written (entries n behind) k) e)

place : (number at : ℕ) → number < 1099511627776 → at ≡ min (number * 4096) (2 ^ 64 - 1) → at ≡ 4096 * number
place number at low is = omega arith

-- what a crash leaves once the next page was written, whole or torn
pub partway_torn : (a b c : DiskState) (count n number at : ℕ) (page behind rest : Bytes) (writes : Writes) → IsDisk b → IsPartway a b count rest writes → IsFirst count n number page behind rest → at ≡ min (number * 4096) (2 ^ 64 - 1) → LeavesOnly b c (LeftBy area.Home (Torn at (length page)) (images_now b)) → (before : Bytes) → AllHave a (IsMidway writes before) → LeavesOnly a c (IsMidway writes before)
partway_torn a b c count n number at page behind rest writes disk way first at_is leaves before have =
    let is = split count n number page behind rest way.left first way.run in
    let among = first_among writes way.left n number page behind is way.among in
    again a b c area.Home (Torn at (length page)) (IsMidway writes before) (way.images before have)
    (now_has a b (IsMidway writes before) disk (way.images before have) have.each) leaves
    (λ i j has step. torn_midway writes before number at (length page) i j among (place number at is.first.low at_is) is.first.whole has step)

home_next : (writes left others : Writes) (number at : ℕ) (page : Bytes) (x y z : Option Areas) → page_bytes number page ∷ others ≡ left → at ≡ 4096 * number → AmidHome writes left x y → Changes area.Home (Written at page) y z → AmidHome writes others x z
home_next writes left others number at page None y z parts at_is home changes = tt
home_next writes left others number at page (Some x) None z parts at_is home changes = absurd home
home_next writes left others number at page (Some x) (Some y) None parts at_is home changes = absurd changes
home_next writes left others number at page (Some x) (Some y) (Some z) parts at_is home changes =
    let now : z.home ≡ written_at (4096 * number) page y.home = changes.0 ∙ ap (λ (p : ℕ). written_at p page y.home) at_is in
    ap (home_after others) now ∙ ap (λ (l : Writes). home_after l y.home) parts ∙ home

-- one more page is written
pub partway_next : (a b c : DiskState) (count n number at : ℕ) (page behind rest : Bytes) (writes : Writes) → IsDisk b → IsPartway a b count rest writes → IsFirst count n number page behind rest → at ≡ min (number * 4096) (2 ^ 64 - 1) → LeavesOnly b c (LeftBy area.Home (Torn at (length page)) (images_now b)) → Changes area.Home (Written at page) b.reads c.reads → IsPartway a c n behind writes
partway_next a b c count n number at page behind rest writes disk way first at_is leaves changes =
    let is = split count n number page behind rest way.left first way.run in
    record {
      left = entries n behind;
      run = is.run;
      among = others_among writes way.left n number page behind is way.among;
      images = partway_torn a b c count n number at page behind rest writes disk way first at_is leaves;
      home = home_next writes way.left (entries n behind) number at page a.reads b.reads c.reads is.parts (place number at is.first.low at_is) way.home changes;
    }

-- no page is left
pub partway_done : (a b : DiskState) (count : ℕ) (rest : Bytes) (writes : Writes) → count ≡ 0 → IsPartway a b count rest writes → LaidHome writes a.reads b.reads
partway_done a b count rest writes none way =
    let left : [] ≡ way.left = ap (λ (m : ℕ). entries m rest) (sym none) ∙ way.run.are in
    subst (λ (l : Writes). AmidHome writes l a.reads b.reads) (sym left) way.home

pub changed_told : (a : Area) (step : List ℕ → List ℕ → Type 0) (old new : Option Areas) → Changes a step old new → IsSome old → IsSome new
changed_told a step None new changes told = absurd (cc told)
changed_told a step (Some x) None changes told = absurd changes
changed_told a step (Some x) (Some y) changes told = refl
