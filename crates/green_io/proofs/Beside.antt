-- What calls on some areas leave of the others.
use Rattle.std.proofs.Common.{◌≡◌, inr, ⊎_elim, ℕ, Bool, true, false, List, Option, None, Some, refl, sym, ◌∙◌, ap, subst, arith}
use Rattle.green_io.specs.declared.disk.Area.{Area}
use Rattle.green_io.specs.declared.disk.Area.TheVariants.{Log, Home, Journal, Second}
use Rattle.green_io.specs.Areas.{Areas, is_same, IsSameBut}
use Rattle.green_io.specs.Disk.{DiskState, IsDisk, Changes, LeftBy, Nothing, LeavesOnly, ReadsAsBut, IsAsBut, LeavesBut, images_now}
use Rattle.green_io.proofs.Crash.{weaker, then_nothing, nothing_new, none_called, now_has}

but_itself : (touched : Area → Bool) (areas : Areas) → IsSameBut touched areas areas
but_itself touched areas other apart = refl

but_then : (touched : Area → Bool) (a b c : Areas) → IsSameBut touched a b → IsSameBut touched b c → IsSameBut touched a c
but_then touched a b c first then other apart = then other apart ∙ first other apart

reads_itself : (touched : Area → Bool) (reads : Option Areas) → ReadsAsBut touched reads reads
reads_itself touched None = tt
reads_itself touched (Some areas) = but_itself touched areas

reads_then : (touched : Area → Bool) (a b c : Option Areas) → ReadsAsBut touched a b → ReadsAsBut touched b c → ReadsAsBut touched a c
reads_then touched None None None first then = tt
reads_then touched None None (Some z) first then = absurd then
reads_then touched None (Some y) c first then = absurd first
reads_then touched (Some x) None c first then = absurd first
reads_then touched (Some x) (Some y) None first then = absurd then
reads_then touched (Some x) (Some y) (Some z) first then = but_then touched x y z first then

reads_changed : (area : Area) (step : List ℕ → List ℕ → Type 0) (old new : Option Areas) → Changes area step old new → ReadsAsBut (is_same area) old new
reads_changed area step None None changes = tt
reads_changed area step None (Some y) changes = absurd changes
reads_changed area step (Some x) None changes = absurd changes
reads_changed area step (Some x) (Some y) changes = changes.1

reads_wider : (touched more : Area → Bool) (old new : Option Areas) → ((a b : Areas) → IsSameBut touched a b → IsSameBut more a b) → ReadsAsBut touched old new → ReadsAsBut more old new
reads_wider touched more None None follows same = tt
reads_wider touched more None (Some y) follows same = absurd same
reads_wider touched more (Some x) None follows same = absurd same
reads_wider touched more (Some x) (Some y) follows same = follows x y same

-- no call
pub untouched_others : (touched : Area → Bool) (a : DiskState) → LeavesBut touched a a
untouched_others touched a = record { reads = reads_itself touched a.reads; images = none_called a (IsAsBut touched (images_now a)) }

-- calls that change nothing
pub looked_others : (touched : Area → Bool) (a b : DiskState) → b.reads ≡ a.reads → LeavesOnly a b Nothing → LeavesBut touched a b
looked_others touched a b same leaves = record {
  reads = subst (ReadsAsBut touched a.reads) (sym same) (reads_itself touched a.reads);
  images = nothing_new a b (IsAsBut touched (images_now a)) leaves;
}

-- a call that changes one area, whole or in part
pub changed_others : (area : Area) (step torn : List ℕ → List ℕ → Type 0) (a b : DiskState) → Changes area step a.reads b.reads → LeavesOnly a b (LeftBy area torn (images_now a)) → LeavesBut (is_same area) a b
changed_others area step torn a b changes leaves = record {
  reads = reads_changed area step a.reads b.reads changes;
  images = weaker a b (LeftBy area torn (images_now a)) (IsAsBut (is_same area) (images_now a)) leaves (λ image left. (left.0, left.1, left.2.1));
}

-- calls that change nothing, behind others
pub then_looked_others : (touched : Area → Bool) (a b c : DiskState) → LeavesBut touched a b → c.reads ≡ b.reads → LeavesOnly b c Nothing → LeavesBut touched a c
then_looked_others touched a b c first same leaves = record {
  reads = subst (ReadsAsBut touched a.reads) (sym same) first.reads;
  images = then_nothing a b c (IsAsBut touched (images_now a)) first.images leaves;
}

-- every image afterwards has in the other areas what one before had there
pub others_now : (touched : Area → Bool) (a b : DiskState) → IsDisk b → LeavesBut touched a b → (image : Areas) → images_now b image → IsAsBut touched (images_now a) image
others_now touched a b disk leaves = now_has a b (IsAsBut touched (images_now a)) disk leaves.images (λ image is. (image, is, but_itself touched image))

-- An image that is as one before in the other areas, where that one is so too.
as_before : (touched : Area → Bool) (a b : DiskState) → IsDisk b → LeavesBut touched a b → (image : Areas) → IsAsBut touched (images_now b) image → IsAsBut touched (images_now a) image
as_before touched a b disk first image (was, is, same) =
    let before = others_now touched a b disk first was is in
    (before.0, before.1, but_then touched before.0 was image before.2 same)

-- calls, and then others
pub then_others : (touched : Area → Bool) (a b c : DiskState) → IsDisk b → LeavesBut touched a b → LeavesBut touched b c → LeavesBut touched a c
then_others touched a b c disk first then = record {
  reads = reads_then touched a.reads b.reads c.reads first.reads then.reads;
  images = record {
    later = omega (arith, first.images.later, then.images.later);
    keeps = λ t i le was. then.images.keeps t i (omega (arith, le, first.images.later)) (first.images.keeps t i le was);
    each = λ t i le is.
        ⊎_elim
        (λ was. first.images.each t i le was)
        (λ has. inr (as_before touched a b disk first i has))
        (then.images.each t i (omega (arith, le, first.images.later)) is);
  };
}

-- what holds of every image and rests on the other areas alone holds afterwards
pub kept_others : (touched : Area → Bool) (a b : DiskState) (fact : Areas → Type 0) → IsDisk b → LeavesBut touched a b → ((i j : Areas) → IsSameBut touched i j → fact i → fact j) → ((i : Areas) → images_now a i → fact i) → (i : Areas) → images_now b i → fact i
kept_others touched a b fact disk leaves rests has i is =
    let before = others_now touched a b disk leaves i is in
    rests before.0 i before.2 (has before.0 before.1)

untouched_then : (touched more : Bool) → (touched ≡ true → more ≡ true) → more ≡ false → touched ≡ false
untouched_then false more follows apart = refl
untouched_then true more follows apart = absurd (cc (follows refl))

same_wider : (touched more : Area → Bool) → ((area : Area) → touched area ≡ true → more area ≡ true) → (a b : Areas) → IsSameBut touched a b → IsSameBut more a b
same_wider touched more follows a b same other apart = same other (untouched_then (touched other) (more other) (follows other) apart)

-- where more areas may be touched
pub wider_others : (touched more : Area → Bool) (a b : DiskState) → ((area : Area) → touched area ≡ true → more area ≡ true) → LeavesBut touched a b → LeavesBut more a b
wider_others touched more a b follows leaves = record {
  reads = reads_wider touched more a.reads b.reads (same_wider touched more follows) leaves.reads;
  images = weaker a b (IsAsBut touched (images_now a)) (IsAsBut more (images_now a)) leaves.images (λ image left. (left.0, left.1, same_wider touched more follows left.0 image left.2));
}

same_area : (area other : Area) → is_same area other ≡ true → area ≡ other
same_area Log Log same = refl
same_area Log Home same = absurd (cc same)
same_area Log Journal same = absurd (cc same)
same_area Log Second same = absurd (cc same)
same_area Home Log same = absurd (cc same)
same_area Home Home same = refl
same_area Home Journal same = absurd (cc same)
same_area Home Second same = absurd (cc same)
same_area Journal Log same = absurd (cc same)
same_area Journal Home same = absurd (cc same)
same_area Journal Journal same = refl
same_area Journal Second same = absurd (cc same)
same_area Second Log same = absurd (cc same)
same_area Second Home same = absurd (cc same)
same_area Second Journal same = absurd (cc same)
same_area Second Second same = refl

-- calls on one area, where that one and more may be touched
pub area_others : (area : Area) (more : Area → Bool) (a b : DiskState) → more area ≡ true → LeavesBut (is_same area) a b → LeavesBut more a b
area_others area more a b among leaves =
    wider_others (is_same area) more a b (λ other same. ap more (sym (same_area area other same)) ∙ among) leaves
