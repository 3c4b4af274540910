-- What a call leaves of the images of a disk in memory.
use Rattle.std.proofs.Common.{◌≡◌, inl, inr, ⊎_elim, ℕ, ◌≤◌, Bool, true, false, List, ◌∷◌, length, Result, Ok, Err, Some, OnErr, refl, sym, ap, subst, arith}
use Rattle.green_io.specs.declared.disk.Area.{Area}
use Rattle.green_io.specs.declared.disk.Area.TheVariants.{Log, Home, Journal, Second}
use Rattle.green_io.specs.declared.disk.DiskFailed.{DiskFailed}
use Rattle.green_io.specs.Areas.{Areas, area_of, is_same, IsSameBeside, InArea}
use Rattle.green_io.specs.Disk.{images_now, Torn, PartlyCut, Changes, LeftBy, Nothing, LeavesOnly}
use Rattle.green_fakes.specs.MemoryView.{one_more}
use Rattle.green_fakes.specs.DiskView.{DiskView, after_step, bytes_after, areas_after, areas_of, next_turn, FailsBy, FailsToSync, Writes, Cuts, Syncs}
use Rattle.green_fakes.specs.DiskImages.{IsTornBy, is_sync, IsLeftByStep, IsLeftWhere, IsLeft, IsImage, state_of}
use Rattle.green_fakes.specs.DiskLaws.{unwritten_torn, bytes_left, image_now}
use Rattle.green_fakes.specs.declared.change.Step.{Step}
use Rattle.green_fakes.specs.declared.change.Step.TheVariants.{Write, FailedWrite, Cut, FailedCut, Sync}
use Rattle.green_fakes.specs.declared.change.Change.{Change}
use Rattle.green_fakes.specs.declared.turn.Turn.{Turn}
use Rattle.green_fakes.specs.declared.turn.Turn.TheVariants.{Succeeds, Fails, Over}

-- what a step that is no sync leaves was made of something that was left before
step_was : (sync : Bool) (step : Step) (reads : List ℕ) (left : List ℕ → Type 0) (image : List ℕ) → sync ≡ false → IsLeftByStep sync step reads left image → (old : List ℕ) × left old × IsTornBy step old image
step_was true step reads left image plain is = absurd (cc plain)
step_was false step reads left image plain is = is

-- an image behind a change is one before it, but for what the step has made of its area
pub image_by : (first : Areas) (changes : List Change) (before : ℕ) (area : Area) (step : Step) (R : List ℕ → List ℕ → Type 0) → is_sync step ≡ false → ((old new : List ℕ) → IsTornBy step old new → R old new) → (image : Areas) → IsImage first (record { before = before; area = area; step = step } ∷ changes) image → (was : Areas) × IsImage first changes was × InArea area R was image
image_by first changes before Log step R plain follows image is =
    let left = step_was (is_sync step) step (bytes_after Log first.log changes) (IsLeft Log first.log changes) image.log plain (is Log) in
    (record { log = left.0; home = image.home; journal = image.journal; second = image.second }, images left.0 left.1, (follows left.0 image.log left.2, beside left.0))
  where
    images : (log : List ℕ) → IsLeft Log first.log changes log → (a : Area) → IsLeft a (area_of a first) changes (area_of a (record { log = log; home = image.home; journal = image.journal; second = image.second }))
    images log had Log = had
    images log had Home = is Home
    images log had Journal = is Journal
    images log had Second = is Second

    beside : (log : List ℕ) → IsSameBeside Log (record { log = log; home = image.home; journal = image.journal; second = image.second }) image
    beside log Log other = absurd (cc other)
    beside log Home other = refl
    beside log Journal other = refl
    beside log Second other = refl
image_by first changes before Home step R plain follows image is =
    let left = step_was (is_sync step) step (bytes_after Home first.home changes) (IsLeft Home first.home changes) image.home plain (is Home) in
    (record { log = image.log; home = left.0; journal = image.journal; second = image.second }, images left.0 left.1, (follows left.0 image.home left.2, beside left.0))
  where
    images : (home : List ℕ) → IsLeft Home first.home changes home → (a : Area) → IsLeft a (area_of a first) changes (area_of a (record { log = image.log; home = home; journal = image.journal; second = image.second }))
    images home had Log = is Log
    images home had Home = had
    images home had Journal = is Journal
    images home had Second = is Second

    beside : (home : List ℕ) → IsSameBeside Home (record { log = image.log; home = home; journal = image.journal; second = image.second }) image
    beside home Log other = refl
    beside home Home other = absurd (cc other)
    beside home Journal other = refl
    beside home Second other = refl
image_by first changes before Journal step R plain follows image is =
    let left = step_was (is_sync step) step (bytes_after Journal first.journal changes) (IsLeft Journal first.journal changes) image.journal plain (is Journal) in
    (record { log = image.log; home = image.home; journal = left.0; second = image.second }, images left.0 left.1, (follows left.0 image.journal left.2, beside left.0))
  where
    images : (journal : List ℕ) → IsLeft Journal first.journal changes journal → (a : Area) → IsLeft a (area_of a first) changes (area_of a (record { log = image.log; home = image.home; journal = journal; second = image.second }))
    images journal had Log = is Log
    images journal had Home = is Home
    images journal had Journal = had
    images journal had Second = is Second

    beside : (journal : List ℕ) → IsSameBeside Journal (record { log = image.log; home = image.home; journal = journal; second = image.second }) image
    beside journal Log other = refl
    beside journal Home other = refl
    beside journal Journal other = absurd (cc other)
    beside journal Second other = refl
image_by first changes before Second step R plain follows image is =
    let left = step_was (is_sync step) step (bytes_after Second first.second changes) (IsLeft Second first.second changes) image.second plain (is Second) in
    (record { log = image.log; home = image.home; journal = image.journal; second = left.0 }, images left.0 left.1, (follows left.0 image.second left.2, beside left.0))
  where
    images : (second : List ℕ) → IsLeft Second first.second changes second → (a : Area) → IsLeft a (area_of a first) changes (area_of a (record { log = image.log; home = image.home; journal = image.journal; second = second }))
    images second had Log = is Log
    images second had Home = is Home
    images second had Journal = is Journal
    images second had Second = had

    beside : (second : List ℕ) → IsSameBeside Second (record { log = image.log; home = image.home; journal = image.journal; second = second }) image
    beside second Log other = refl
    beside second Home other = refl
    beside second Journal other = refl
    beside second Second other = absurd (cc other)

-- a disk after one more change
abbrev changed : DiskView → Area → Step → ℕ → ℕ → DiskView
changed old area step calls faults = record {
  first = old.first;
  changes = record { before = old.calls; area = area; step = step } ∷ old.changes;
  calls = calls;
  failing = old.failing;
  faults = faults;
  shortages = old.shortages;
}

-- the images behind a change are those before it, and those that the change may leave
change_leaves : (old : DiskView) (area : Area) (step : Step) (calls faults : ℕ) (P : Areas → Type 0) → old.calls ≤ calls → ((i : Areas) → IsImage old.first (record { before = old.calls; area = area; step = step } ∷ old.changes) i → P i) → LeavesOnly (state_of old) (state_of (changed old area step calls faults)) P
change_leaves old area step calls faults P le follows = record {
  later = le;
  keeps = λ t i at is. (omega (arith, at, le), inr (at, is.1));
  each = λ t i at is. ⊎_elim (λ now. inr (follows i now)) (λ was. inl (at, was.1)) is.1;
}

torn_leaves : (old new : DiskView) (area : Area) (step : Step) (calls faults : ℕ) (R : List ℕ → List ℕ → Type 0) → new ≡ changed old area step calls faults → old.calls ≤ calls → is_sync step ≡ false → ((x y : List ℕ) → IsTornBy step x y → R x y) → LeavesOnly (state_of old) (state_of new) (LeftBy area R (images_now (state_of old)))
torn_leaves old new area step calls faults R is le plain follows =
    subst (λ (v : DiskView). LeavesOnly (state_of old) (state_of v) (LeftBy area R (images_now (state_of old)))) (sym is)
    (change_leaves old area step calls faults (LeftBy area R (images_now (state_of old))) le
    (λ i now. let by = image_by old.first old.changes old.calls area step R plain follows i now in
    (by.0, (omega arith, image_now old.first old.changes old.calls by.0 by.1), by.2)))

-- a call that changes nothing leaves nothing new
pub quiet_leaves : (old new : DiskView) (calls faults shortages : ℕ) (P : Areas → Type 0) → new ≡ record old { calls = calls; faults = faults; shortages = shortages } → old.calls ≤ calls → LeavesOnly (state_of old) (state_of new) P
quiet_leaves old new calls faults shortages P is le =
    subst (λ (v : DiskView). LeavesOnly (state_of old) (state_of v) P) (sym is) record {
      later = le;
      keeps = λ t i at was. (omega (arith, at, le), was.1);
      each = λ t i at now. inl (at, now.1);
    }

calls_is : (old new : DiskView) (calls : ℕ) → old.calls ≤ new.calls → new.calls ≡ calls → old.calls ≤ calls
calls_is old new calls le is = omega (arith, le, is)

-- what a call that failed leaves, where it is noted and where it is not
fails_leave : (old new : DiskView) (area : Area) (step : Step) (R : List ℕ → List ℕ → Type 0) (turn : Turn) → FailsBy turn old new area step → old.calls ≤ new.calls → is_sync step ≡ false → ((x y : List ℕ) → IsTornBy step x y → R x y) → LeavesOnly (state_of old) (state_of new) (LeftBy area R (images_now (state_of old)))
fails_leave old new area step R Succeeds is le plain follows =
    quiet_leaves old new (one_more old.calls) (one_more old.faults) (one_more old.shortages) (LeftBy area R (images_now (state_of old))) is (calls_is old new (one_more old.calls) le (ap (λ (v : DiskView). v.calls) is))
fails_leave old new area step R Fails (inl is) le plain follows =
    torn_leaves old new area step (one_more old.calls) (one_more old.faults) R is (calls_is old new (one_more old.calls) le (ap (λ (v : DiskView). v.calls) is)) plain follows
fails_leave old new area step R Fails (inr is) le plain follows =
    quiet_leaves old new (one_more old.calls) (one_more old.faults) (one_more old.shortages) (LeftBy area R (images_now (state_of old))) is (calls_is old new (one_more old.calls) le (ap (λ (v : DiskView). v.calls) is))
fails_leave old new area step R Over is le plain follows =
    quiet_leaves old new (one_more old.calls) (one_more old.faults) old.shortages (LeftBy area R (images_now (state_of old))) is (calls_is old new (one_more old.calls) le (ap (λ (v : DiskView). v.calls) is))

pub writes_leave : (old new : DiskView) (area : Area) (at : ℕ) (bytes : List ℕ) (answer : Result (Unit {0}) DiskFailed) → Writes old new area at bytes answer → old.calls ≤ new.calls → LeavesOnly (state_of old) (state_of new) (LeftBy area (Torn at (length bytes)) (images_now (state_of old)))
writes_leave old new area at bytes (Ok done) (text, same, (turn, is)) le =
    torn_leaves old new area (Write at text) (one_more old.calls) old.faults (Torn at (length bytes)) is (calls_is old new (one_more old.calls) le (ap (λ (v : DiskView). v.calls) is)) refl
    (λ x y torn. subst (λ (l : List ℕ). Torn at (length l) x y) same torn)
writes_leave old new area at bytes (Err failed) is le =
    fails_leave old new area (FailedWrite at (length bytes)) (Torn at (length bytes)) (next_turn old) is le refl (λ x y torn. torn)

pub cuts_leave : (old new : DiskView) (area : Area) (n : ℕ) (answer : Result (Unit {0}) DiskFailed) → Cuts old new area n answer → old.calls ≤ new.calls → LeavesOnly (state_of old) (state_of new) (LeftBy area (PartlyCut n) (images_now (state_of old)))
cuts_leave old new area n (Ok done) (turn, is) le =
    torn_leaves old new area (Cut n) (one_more old.calls) old.faults (PartlyCut n) is (calls_is old new (one_more old.calls) le (ap (λ (v : DiskView). v.calls) is)) refl
    (λ x y torn. torn)
cuts_leave old new area n (Err failed) is le =
    fails_leave old new area (FailedCut n) (PartlyCut n) (next_turn old) is le refl (λ x y torn. torn)

-- what a sync leaves was left before
sync_left : (same : Bool) (reads : List ℕ) (left : List ℕ → Type 0) (image : List ℕ) → left reads → IsLeftWhere same Sync reads left image → left image
sync_left true reads left image had is = subst left (sym is) had
sync_left false reads left image had is = is

sync_image : (first : Areas) (changes : List Change) (before : ℕ) (area : Area) (image : Areas) → IsImage first (record { before = before; area = area; step = Sync } ∷ changes) image → IsImage first changes image
sync_image first changes before area image is a =
    sync_left (is_same area a) (bytes_after a (area_of a first) changes) (IsLeft a (area_of a first) changes) (area_of a image) (bytes_left a (area_of a first) changes) (is a)

unsynced_leaves : (old new : DiskView) (turn : Turn) → FailsToSync turn old new → old.calls ≤ new.calls → LeavesOnly (state_of old) (state_of new) Nothing
unsynced_leaves old new Succeeds is le =
    quiet_leaves old new (one_more old.calls) (one_more old.faults) (one_more old.shortages) Nothing is (calls_is old new (one_more old.calls) le (ap (λ (v : DiskView). v.calls) is))
unsynced_leaves old new Fails is le =
    quiet_leaves old new (one_more old.calls) (one_more old.faults) old.shortages Nothing is (calls_is old new (one_more old.calls) le (ap (λ (v : DiskView). v.calls) is))
unsynced_leaves old new Over is le =
    quiet_leaves old new (one_more old.calls) (one_more old.faults) old.shortages Nothing is (calls_is old new (one_more old.calls) le (ap (λ (v : DiskView). v.calls) is))

pub syncs_leave : (old new : DiskView) (area : Area) (answer : Result (Unit {0}) DiskFailed) → Syncs old new area answer → old.calls ≤ new.calls → LeavesOnly (state_of old) (state_of new) Nothing
syncs_leave old new area (Ok done) (turn, is) le =
    subst (λ (v : DiskView). LeavesOnly (state_of old) (state_of v) Nothing) (sym is) record {
      later = calls_is old new (one_more old.calls) le (ap (λ (v : DiskView). v.calls) is);
      keeps = λ t i at was. (omega (arith, at, le, ap (λ (v : DiskView). v.calls) is), inr (at, was.1));
      each = λ t i at now. ⊎_elim
          (λ here. inl (at, image_now old.first old.changes t i (sync_image old.first old.changes old.calls area i here)))
          (λ was. inl (at, was.1)) now.1;
    }
syncs_leave old new area (Err failed) is le = unsynced_leaves old new (next_turn old) is le

-- what a step does to what the areas read
pub step_in_area : (first : Areas) (changes : List Change) (before : ℕ) (area : Area) (step : Step) → InArea area (λ old new. new ≡ after_step step old) (areas_after first changes) (areas_after first (record { before = before; area = area; step = step } ∷ changes))
step_in_area first changes before Log step = (refl, beside)
  where
    beside : IsSameBeside Log (areas_after first changes) (areas_after first (record { before = before; area = Log; step = step } ∷ changes))
    beside Log other = absurd (cc other)
    beside Home other = refl
    beside Journal other = refl
    beside Second other = refl
step_in_area first changes before Home step = (refl, beside)
  where
    beside : IsSameBeside Home (areas_after first changes) (areas_after first (record { before = before; area = Home; step = step } ∷ changes))
    beside Log other = refl
    beside Home other = absurd (cc other)
    beside Journal other = refl
    beside Second other = refl
step_in_area first changes before Journal step = (refl, beside)
  where
    beside : IsSameBeside Journal (areas_after first changes) (areas_after first (record { before = before; area = Journal; step = step } ∷ changes))
    beside Log other = refl
    beside Home other = refl
    beside Journal other = absurd (cc other)
    beside Second other = refl
step_in_area first changes before Second step = (refl, beside)
  where
    beside : IsSameBeside Second (areas_after first changes) (areas_after first (record { before = before; area = Second; step = step } ∷ changes))
    beside Log other = refl
    beside Home other = refl
    beside Journal other = refl
    beside Second other = absurd (cc other)

-- a write that fails leaves what is read, which is a part of it
quiet_part : (old new : DiskView) (area : Area) (at n : ℕ) (calls faults shortages : ℕ) → new ≡ record old { calls = calls; faults = faults; shortages = shortages } → InArea area (Torn at n) (areas_of old) (areas_of new)
quiet_part old new area at n calls faults shortages is =
    subst (λ (v : DiskView). InArea area (Torn at n) (areas_of old) (areas_of v)) (sym is) (unwritten_torn at n (area_of area (areas_of old)), λ other apart. refl)

fails_part : (old new : DiskView) (area : Area) (at n : ℕ) (turn : Turn) → FailsBy turn old new area (FailedWrite at n) → InArea area (Torn at n) (areas_of old) (areas_of new)
fails_part old new area at n Succeeds is = quiet_part old new area at n (one_more old.calls) (one_more old.faults) (one_more old.shortages) is
fails_part old new area at n Fails (inl is) =
    let same = step_in_area old.first old.changes old.calls area (FailedWrite at n) in
    subst (λ (v : DiskView). InArea area (Torn at n) (areas_of old) (areas_of v)) (sym is)
    (subst (λ (l : List ℕ). Torn at n (area_of area (areas_of old)) l) (sym same.0) (unwritten_torn at n (area_of area (areas_of old))), same.1)
fails_part old new area at n Fails (inr is) = quiet_part old new area at n (one_more old.calls) (one_more old.faults) (one_more old.shortages) is
fails_part old new area at n Over is = quiet_part old new area at n (one_more old.calls) (one_more old.faults) old.shortages is

pub writes_part : (old new : DiskView) (area : Area) (at : ℕ) (bytes : List ℕ) (answer : Result (Unit {0}) DiskFailed) → Writes old new area at bytes answer → OnErr answer (Changes area (Torn at (length bytes)) (Some (areas_of old)) (Some (areas_of new)))
writes_part old new area at bytes (Ok done) is = tt
writes_part old new area at bytes (Err failed) is = fails_part old new area at (length bytes) (next_turn old) is
