-- How the clauses of several calls on what a crash may leave join into one.
use Rattle.std.proofs.Common.{◌⊎◌, inl, inr, ⊎_elim, ℕ, List, arith}
use Rattle.green_io.specs.declared.disk.Area.{Area}
use Rattle.green_io.specs.Areas.{Areas, InArea}
use Rattle.green_io.specs.Disk.{DiskState, IsDisk, images_now, LeftBy, LeavesOnly, Nothing}

-- a call, or several, and then another: its images have what either has
pub after : (a b c : DiskState) (P Q R : Areas → Type 0) → LeavesOnly a b P → LeavesOnly b c Q → ((i : Areas) → P i → R i) → ((i : Areas) → Q i → R i) → LeavesOnly a c R
after a b c P Q R first then one other = record {
  later = omega (arith, first.later, then.later);
  keeps = λ t i le was. then.keeps t i (omega (arith, le, first.later)) (first.keeps t i le was);
  each = λ t i le is.
      ⊎_elim
      (λ was. ⊎_elim (λ earlier. inl earlier) (λ has. inr (one i has)) (first.each t i le was))
      (λ has. inr (other i has))
      (then.each t i (omega (arith, le, first.later)) is);
}

-- the images of both have one property
pub same : (a b c : DiskState) (P : Areas → Type 0) → LeavesOnly a b P → LeavesOnly b c P → LeavesOnly a c P
same a b c P first then = after a b c P P P first then (λ i has. has) (λ i has. has)

-- the images have the one property or the other
pub both : (a b c : DiskState) (P Q : Areas → Type 0) → LeavesOnly a b P → LeavesOnly b c Q → LeavesOnly a c (λ i. P i ⊎ Q i)
both a b c P Q first then = after a b c P Q (λ i. P i ⊎ Q i) first then (λ i has. inl has) (λ i has. inr has)

-- a property that follows
pub weaker : (a b : DiskState) (P Q : Areas → Type 0) → LeavesOnly a b P → ((i : Areas) → P i → Q i) → LeavesOnly a b Q
weaker a b P Q leaves follows = record {
  later = leaves.later;
  keeps = leaves.keeps;
  each = λ t i le is. ⊎_elim (λ was. inl was) (λ has. inr (follows i has)) (leaves.each t i le is);
}

-- where nothing new is left, any property will do
pub nothing_new : (a b : DiskState) (P : Areas → Type 0) → LeavesOnly a b Nothing → LeavesOnly a b P
nothing_new a b P leaves = weaker a b Nothing P leaves (λ i none. absurd none)

-- no call
pub none_called : (a : DiskState) (P : Areas → Type 0) → LeavesOnly a a P
none_called a P = record {
  later = omega arith;
  keeps = λ t i le was. was;
  each = λ t i le is. inl is;
}

-- a call that leaves nothing new, behind others
pub then_nothing : (a b c : DiskState) (P : Areas → Type 0) → LeavesOnly a b P → LeavesOnly b c Nothing → LeavesOnly a c P
then_nothing a b c P first then = same a b c P first (nothing_new b c P then)

-- a call that leaves nothing new, in front of others
pub nothing_then : (a b c : DiskState) (P : Areas → Type 0) → LeavesOnly a b Nothing → LeavesOnly b c P → LeavesOnly a c P
nothing_then a b c P first then = same a b c P (nothing_new a b P first) then

-- where each image had a property before, and each new one has it, each has it afterwards
pub now_has : (a b : DiskState) (P : Areas → Type 0) → IsDisk b → LeavesOnly a b P → ((i : Areas) → images_now a i → P i) → (i : Areas) → images_now b i → P i
now_has a b P disk leaves has i is = ⊎_elim (has i) (λ new. new) (leaves.each a.clock i (omega arith) (disk.sooner a.clock b.clock i leaves.later is))

-- where nothing new is left, each image is one that was
pub now_was : (a b : DiskState) → IsDisk b → LeavesOnly a b Nothing → (i : Areas) → images_now b i → images_now a i
now_was a b disk leaves i is = ⊎_elim (λ was. was) (λ none. absurd none) (leaves.each a.clock i (omega arith) (disk.sooner a.clock b.clock i leaves.later is))

-- one call: what its images have, from what each image had before
pub by_step : (a b : DiskState) (area : Area) (step : List ℕ → List ℕ → Type 0) (P Q : Areas → Type 0) → LeavesOnly a b (LeftBy area step (images_now a)) → ((i : Areas) → images_now a i → P i) → ((i j : Areas) → P i → InArea area step i j → Q j) → LeavesOnly a b Q
by_step a b area step P Q leaves has follows =
    weaker a b (LeftBy area step (images_now a)) Q leaves (λ j left. follows left.0 j (has left.0 left.1) left.2)

-- one more call of many that each keep a property of every image
pub again : (a b c : DiskState) (area : Area) (step : List ℕ → List ℕ → Type 0) (P : Areas → Type 0) → LeavesOnly a b P → ((i : Areas) → images_now b i → P i) → LeavesOnly b c (LeftBy area step (images_now b)) → ((i j : Areas) → P i → InArea area step i j → P j) → LeavesOnly a c P
again a b c area step P first has then follows = same a b c P first (by_step b c area step P P then has follows)

pub ruleset crash_steps = (same, then_nothing, nothing_then, nothing_new, none_called)
