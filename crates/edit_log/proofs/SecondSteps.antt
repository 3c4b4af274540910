-- What a step on the second area makes of the images, while each has the log of before as it was read.
use Rattle.std.proofs.Common.{◌≡◌, ℕ, List, [], ◌∷◌, ◌++◌, length, Option, None, Some, IsSome, Bool, refl, sym, ◌∙◌, subst}
use Rattle.green_io.specs.declared.disk.Area.{Area}
use Rattle.green_io.specs.declared.disk.Area.TheVariants as area
use Rattle.green_io.specs.Areas.{Areas, is_same}
use Rattle.green_io.specs.Disk.{DiskState, IsDisk, WhereTold, Written, Changes, LeftBy, Nothing, LeavesOnly, ReadsAsBut, LeavesBut, IsStable, images_now}
use Rattle.green_io.proofs.Beside.{others_now}
use Rattle.green_io.proofs.Crash.{weaker, now_has, now_was}
use Rattle.edit_log.specs.Images.{AsRead, InSecond}
use Rattle.edit_log.specs.inside.Ends.{IsThat}
use Rattle.edit_log.specs.inside.Migration.{BeginsShut, Beside, ImagesHave, IsWriting}
use Rattle.edit_log.proofs.Fronts.{that_shut, written_more}

-- a disk that told what it reads goes on telling it
pub told_but : (touched : Area → Bool) (old new : Option Areas) → ReadsAsBut touched old new → IsSome old → IsSome new
told_but touched None new same told = absurd (cc told)
told_but touched (Some x) None same told = absurd same
told_but touched (Some x) (Some y) same told = refl

as_read : (reads : Option Areas) (images fact : Areas → Type 0) → IsSome reads → WhereTold reads images → ((i : Areas) → images i → fact i) → AsRead reads fact
as_read None images fact told reads each = absurd (cc told)
as_read (Some areas) images fact told reads each = each areas reads

-- what holds of every image holds of what is read
pub read_images : (a : DiskState) (fact : Areas → Type 0) → IsDisk a → ImagesHave a fact → AsRead a.reads fact
read_images a fact disk images = as_read a.reads (images_now a) fact images.told disk.as_it_reads images.each

second_read : (reads : Option Areas) (log : List ℕ) (P : List ℕ → Type 0) → AsRead reads (Beside log P) → AsRead reads (InSecond P)
second_read None log P read = absurd read
second_read (Some areas) log P read = read.1

pub read_beside : (a : DiskState) (log : List ℕ) (P : List ℕ → Type 0) → IsDisk a → ImagesHave a (Beside log P) → AsRead a.reads (InSecond P)
read_beside a log P disk images = second_read a.reads log P (read_images a (Beside log P) disk images)

-- a call that changes nothing
pub looked_images : (a b : DiskState) (fact : Areas → Type 0) → IsDisk b → b.reads ≡ a.reads → LeavesOnly a b Nothing → ImagesHave a fact → ImagesHave b fact
looked_images a b fact disk same leaves images = record {
  told = subst IsSome (sym same) images.told;
  each = λ i is. images.each i (now_was a b disk leaves i is);
}

pub images_weaker : (a : DiskState) (log : List ℕ) (P Q : List ℕ → Type 0) → ImagesHave a (Beside log P) → ((x : List ℕ) → P x → Q x) → ImagesHave a (Beside log Q)
images_weaker a log P Q images follows = record {
  told = images.told;
  each = λ i is. ((images.each i is).0, follows i.second (images.each i is).1);
}

pub leaves_weaker : (a b : DiskState) (log : List ℕ) (P Q : List ℕ → Type 0) → LeavesOnly a b (Beside log P) → ((x : List ℕ) → P x → Q x) → LeavesOnly a b (Beside log Q)
leaves_weaker a b log P Q leaves follows = weaker a b (Beside log P) (Beside log Q) leaves (λ i has. (has.0, follows i.second has.1))

-- what a crash leaves while the step runs
pub torn_beside : (a b : DiskState) (log : List ℕ) (step : List ℕ → List ℕ → Type 0) (P Q : List ℕ → Type 0) → ImagesHave a (Beside log P) → LeavesOnly a b (LeftBy area.Second step (images_now a)) → ((old new : List ℕ) → P old → step old new → Q new) → LeavesOnly a b (Beside log Q)
torn_beside a b log step P Q images leaves follows =
    weaker a b (LeftBy area.Second step (images_now a)) (Beside log Q) leaves
    (λ i left. let was = images.each left.0 left.1 in (left.2.1 area.Log refl ∙ was.0, follows left.0.second i.second was.1 left.2.0))

-- what every image has afterwards, where the step keeps what it had
pub kept_beside : (a b : DiskState) (log : List ℕ) (P Q : List ℕ → Type 0) → IsDisk b → ImagesHave a (Beside log P) → LeavesBut (is_same area.Second) a b → LeavesOnly a b (Beside log Q) → ((x : List ℕ) → P x → Q x) → ImagesHave b (Beside log Q)
kept_beside a b log P Q disk images others leaves follows = record {
  told = told_but (is_same area.Second) a.reads b.reads others.reads images.told;
  each = now_has a b (Beside log Q) disk leaves (λ i is. ((images.each i is).0, follows i.second (images.each i is).1));
}

done_second : (old new : Option Areas) (after : Areas → Type 0) (step : List ℕ → List ℕ → Type 0) (P Q : List ℕ → Type 0) → AsRead old (InSecond P) → Changes area.Second step old new → IsStable area.Second new after → ((x y : List ℕ) → P x → step x y → Q y) → (i : Areas) → after i → Q i.second
done_second None new after step P Q read changes durable follows i is = absurd read
done_second (Some x) None after step P Q read changes durable follows i is = absurd changes
done_second (Some x) (Some y) after step P Q read changes durable follows i is = subst Q (sym (durable i is)) (follows x.second y.second read changes.0)

-- what every image has once the step is done and stable
pub done_beside : (a b : DiskState) (log : List ℕ) (step : List ℕ → List ℕ → Type 0) (P Q : List ℕ → Type 0) → IsDisk a → IsDisk b → ImagesHave a (Beside log P) → Changes area.Second step a.reads b.reads → IsStable area.Second b.reads (images_now b) → LeavesBut (is_same area.Second) a b → ((old new : List ℕ) → P old → step old new → Q new) → ImagesHave b (Beside log Q)
done_beside a b log step P Q before disk images changes durable others follows = record {
  told = told_but (is_same area.Second) a.reads b.reads others.reads images.told;
  each = λ i is.
      let was = others_now (is_same area.Second) a b disk others i is in (
        was.2 area.Log refl ∙ (images.each was.0 was.1).0,
        done_second a.reads b.reads (images_now b) step P Q (read_beside a log P before images) changes durable follows i is,
      );
}

-- what is read once the step is done
changed_second : (old new : Option Areas) (step : List ℕ → List ℕ → Type 0) (P Q : List ℕ → Type 0) → AsRead old (InSecond P) → Changes area.Second step old new → ((x y : List ℕ) → P x → step x y → Q y) → AsRead new (InSecond Q)
changed_second None new step P Q read changes follows = absurd read
changed_second (Some x) None step P Q read changes follows = absurd changes
changed_second (Some x) (Some y) step P Q read changes follows = follows x.second y.second read changes.0

-- one more write behind the closed gate
pub writing_more : (a b : DiskState) (log written bytes : List ℕ) (at : ℕ) → IsDisk b → IsWriting a log written → at ≡ length (0 ∷ written) → Changes area.Second (Written at bytes) a.reads b.reads → LeavesBut (is_same area.Second) a b → LeavesOnly a b (Beside log BeginsShut) → IsWriting b log (written ++ bytes)
writing_more a b log written bytes at disk writing at_end changes others leaves = record {
  reads = changed_second a.reads b.reads (Written at bytes) (IsThat (0 ∷ written)) (IsThat (0 ∷ (written ++ bytes))) writing.reads changes (λ old new was put. written_more at written bytes old new at_end was put);
  images = kept_beside a b log BeginsShut BeginsShut disk writing.images others leaves (λ x has. has);
}

-- before the first of them
pub writing_none : (a : DiskState) (log : List ℕ) → IsDisk a → ImagesHave a (Beside log (IsThat (0 ∷ []))) → IsWriting a log []
writing_none a log disk images = record {
  reads = read_beside a log (IsThat (0 ∷ [])) disk images;
  images = images_weaker a log (IsThat (0 ∷ [])) BeginsShut images (that_shut []);
}

settled_second : (reads : Option Areas) (images : Areas → Type 0) (bytes : List ℕ) → AsRead reads (InSecond (IsThat bytes)) → IsStable area.Second reads images → (i : Areas) → images i → i.second ≡ bytes
settled_second None images bytes read durable i is = absurd read
settled_second (Some areas) images bytes read durable i is = durable i is ∙ read

-- once they are synced
pub settled : (a b : DiskState) (log written : List ℕ) → IsDisk b → IsWriting a log written → b.reads ≡ a.reads → LeavesOnly a b Nothing → IsStable area.Second a.reads (images_now b) → ImagesHave b (Beside log (IsThat (0 ∷ written)))
settled a b log written disk writing same leaves durable = record {
  told = subst IsSome (sym same) writing.images.told;
  each = λ i is. (
    (writing.images.each i (now_was a b disk leaves i is)).0,
    settled_second a.reads (images_now b) (0 ∷ written) writing.reads durable i is,
  );
}
