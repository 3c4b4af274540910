-- What one write of a log and its sync leave of the images.
use Rattle.std.proofs.Common.{◌≡◌, ℕ, List, length, Option, None, Some, IsSome, sym, subst}
use Rattle.green_io.specs.declared.disk.Area.TheVariants as area
use Rattle.green_io.specs.Areas.{Areas}
use Rattle.green_io.specs.Disk.{DiskState, IsDisk, WhereTold, images_now, Written, Torn, Changes, LeftBy, LeavesOnly, IsStable}
use Rattle.green_io.proofs.Crash.{weaker, now_has}
use Rattle.edit_log.specs.Images.{SecondImages, InSecond}

-- what a crash leaves while the write runs
pub torn_images : (a b : DiskState) (end at n : ℕ) (front : List ℕ) (P Q : List ℕ → Type 0) → SecondImages a end front P → LeavesOnly a b (LeftBy area.Second (Torn at n) (images_now a)) → ((old new : List ℕ) → P old → Torn at n old new → Q new) → LeavesOnly a b (InSecond Q)
torn_images a b end at n front P Q images leaves follows =
    weaker a b (LeftBy area.Second (Torn at n) (images_now a)) (InSecond Q) leaves
    (λ image left. follows left.0.second image.second (images.each left.0 left.1) left.2.0)

-- where a write fails, what its torn writes keep stays
pub kept_images : (a b : DiskState) (end : ℕ) (front : List ℕ) (P : List ℕ → Type 0) → IsDisk b → SecondImages a end front P → (IsSome a.reads → IsSome b.reads) → LeavesOnly a b (InSecond P) → SecondImages b end front P
kept_images a b end front P disk images told leaves = record {
  told = told images.told;
  at_end = images.at_end;
  each = now_has a b (InSecond P) disk leaves images.each;
}

written_reads : (old new : Option Areas) (at : ℕ) (bytes : List ℕ) (before after : Areas → Type 0) (P Q : List ℕ → Type 0) → IsSome old → WhereTold old before → ((i : Areas) → before i → P i.second) → Changes area.Second (Written at bytes) old new → IsStable area.Second new after → ((x y : List ℕ) → P x → Written at bytes x y → Q y) → (i : Areas) → after i → Q i.second
written_reads None new at bytes before after P Q told reads each changes durable follows i is = absurd (cc told)
written_reads (Some x) None at bytes before after P Q told reads each changes durable follows i is = absurd changes
written_reads (Some x) (Some y) at bytes before after P Q told reads each changes durable follows i is =
    subst Q (sym (durable i is)) (follows x.second y.second (each x reads) changes.0)

-- what every image has once the write has succeeded and is stable
pub written_images : (a b : DiskState) (end new_end at : ℕ) (bytes : List ℕ) (front new_front : List ℕ) (P Q : List ℕ → Type 0) → IsDisk a → SecondImages a end front P → (IsSome a.reads → IsSome b.reads) → Changes area.Second (Written at bytes) a.reads b.reads → IsStable area.Second b.reads (images_now b) → ((old new : List ℕ) → P old → Written at bytes old new → Q new) → new_end ≡ length new_front → SecondImages b new_end new_front Q
written_images a b end new_end at bytes front new_front P Q disk images told changes durable follows at_end = record {
  told = told images.told;
  at_end = at_end;
  each = written_reads a.reads b.reads at bytes (images_now a) (images_now b) P Q images.told disk.as_it_reads images.each changes durable follows;
}
