-- A disk in memory is a disk: time goes one way, and as it reads it is one of its images.
use Rattle.std.proofs.Common.{◌≡◌, inl, inr, ℕ, ◌+◌, ◌-◌, ◌≤◌, min, Bool, true, false, List, [], ◌∷◌, ◌++◌, length, take, drop, replicate, refl, sym, ap, ◌∙◌, if◌then◌else◌, arith, append_assoc, length-append, length-take, length-drop}
use Rattle.std.proofs.lemmas.List.{take-append-drop, take_all, take_min, drop-drop, length-replicate}
use Rattle.green_io.specs.declared.disk.Area.{Area}
use Rattle.green_io.specs.declared.disk.Area.TheVariants.{Log, Home, Journal, Second}
use Rattle.green_io.specs.Areas.{Areas, is_same}
use Rattle.green_io.specs.Disk.{IsDisk, Torn, PartlyCut}
use Rattle.green_fakes.specs.DiskView.{DiskView, written_at, after_step, bytes_after, areas_after, areas_of}
use Rattle.green_fakes.specs.DiskImages.{IsTornBy, is_sync, IsLeftByStep, IsLeftWhere, IsLeft, IsImage, IsImageFrom, state_of}
use Rattle.green_fakes.specs.declared.change.Step.{Step}
use Rattle.green_fakes.specs.declared.change.Step.TheVariants.{Write, FailedWrite, Cut, FailedCut, Sync}
use Rattle.green_fakes.specs.declared.change.Change.{Change}

-- a write that is whole is torn nowhere
pub written_torn : (at : ℕ) (bytes old : List ℕ) → Torn at (length bytes) old (written_at at bytes old)
written_torn at bytes old = record {
  any = replicate (at - length old) 0 ++ bytes;
  bytes = ap (λ (l : List ℕ). l ++ drop (at + length bytes) old) (append_assoc (take at old) (replicate (at - length old) 0) bytes);
  no_shorter = omega (arith, long);
  no_longer = omega (arith, long);
}
  where
    nothing : ℕ
    nothing = 0

    long : length (written_at at bytes old) ≡ min at (length old) + (at - length old) + length bytes + (length old - (at + length bytes))
    long = let zeros : length (replicate (at - length old) nothing) ≡ at - length old = length-replicate (at - length old) nothing in omega (
      arith,
      length-append (take at old ++ replicate (at - length old) 0 ++ bytes) (drop (at + length bytes) old),
      length-append (take at old ++ replicate (at - length old) 0) bytes,
      length-append (take at old) (replicate (at - length old) 0),
      length-take at old,
      zeros,
      length-drop (at + length bytes) old,
    )

-- a crash may leave what was there before a write
pub unwritten_torn : (at n : ℕ) (old : List ℕ) → Torn at n old old
unwritten_torn at n old = record {
  any = take n (drop at old);
  bytes = parts;
  no_shorter = omega arith;
  no_longer = omega arith;
}
  where
    rest : drop (at + n) old ≡ drop n (drop at old)
    rest = sym (drop-drop n at old)

    parts : old ≡ take at old ++ take n (drop at old) ++ drop (at + n) old
    parts = sym (
        append_assoc (take at old) (take n (drop at old)) (drop (at + n) old)
        ∙ ap (λ (l : List ℕ). take at old ++ (take n (drop at old) ++ l)) rest
        ∙ ap (λ (l : List ℕ). take at old ++ l) (take-append-drop n (drop at old))
        ∙ take-append-drop at old)

-- a crash may leave all of a cut, and nothing of it
pub cut_partly : (n : ℕ) (old : List ℕ) → PartlyCut n old (take n old)
cut_partly n old = record { front = front_of; no_shorter = omega (arith, length-take n old) }
  where
    front_of : take (length (take n old)) old ≡ take n old
    front_of = ap (λ k. take k old) (length-take n old) ∙ take_min n old

pub uncut_partly : (n : ℕ) (old : List ℕ) → PartlyCut n old old
uncut_partly n old = record { front = take_all (length old) old (omega arith); no_shorter = omega arith }

-- what a step has made of the bytes that are read, a crash may leave
pub step_torn : (step : Step) (old : List ℕ) → IsTornBy step old (after_step step old)
step_torn (Write at bytes) old = written_torn at bytes.items old
step_torn (FailedWrite at count) old = unwritten_torn at count old
step_torn (Cut to) old = cut_partly to old
step_torn (FailedCut to) old = uncut_partly to old
step_torn Sync old = refl

-- what was there before a step, a crash may leave
pub stays_torn : (step : Step) (old : List ℕ) → IsTornBy step old old
stays_torn (Write at bytes) old = unwritten_torn at (length bytes.items) old
stays_torn (FailedWrite at count) old = unwritten_torn at count old
stays_torn (Cut to) old = uncut_partly to old
stays_torn (FailedCut to) old = uncut_partly to old
stays_torn Sync old = refl

-- a sync changes nothing that is read
pub sync_stays : (step : Step) (old : List ℕ) → is_sync step ≡ true → after_step step old ≡ old
sync_stays (Write at bytes) old is = absurd (cc is)
sync_stays (FailedWrite at count) old is = absurd (cc is)
sync_stays (Cut to) old is = absurd (cc is)
sync_stays (FailedCut to) old is = absurd (cc is)
sync_stays Sync old is = refl

step_left : (sync : Bool) (step : Step) (reads : List ℕ) (left : List ℕ → Type 0) → is_sync step ≡ sync → left reads → IsLeftByStep sync step reads left (after_step step reads)
step_left true step reads left is had = sync_stays step reads is
step_left false step reads left is had = (reads, had, step_torn step reads)

change_left : (same : Bool) (step : Step) (reads : List ℕ) (left : List ℕ → Type 0) → left reads → IsLeftWhere same step reads left (if same then after_step step reads else reads)
change_left true step reads left had = step_left (is_sync step) step reads left refl had
change_left false step reads left had = had

-- each area as it reads is one of its images
pub bytes_left : (area : Area) (first : List ℕ) (changes : List Change) → IsLeft area first changes (bytes_after area first changes)
bytes_left area first [] = refl
bytes_left area first (change ∷ before) =
    change_left (is_same change.area area) change.step (bytes_after area first before) (IsLeft area first before) (bytes_left area first before)

pub reads_left : (first : Areas) (changes : List Change) → IsImage first changes (areas_after first changes)
reads_left first changes Log = bytes_left Log first.log changes
reads_left first changes Home = bytes_left Home first.home changes
reads_left first changes Journal = bytes_left Journal first.journal changes
reads_left first changes Second = bytes_left Second first.second changes

-- an image after all changes is one from the last moment on
pub image_now : (first : Areas) (changes : List Change) (t : ℕ) (image : Areas) → IsImage first changes image → IsImageFrom first changes t image
image_now first [] t image is = is
image_now first (change ∷ before) t image is = inl is

-- an image from a moment on is one from an earlier moment on
pub image_sooner : (first : Areas) (changes : List Change) (t u : ℕ) (image : Areas) → t ≤ u → IsImageFrom first changes u image → IsImageFrom first changes t image
image_sooner first [] t u image le is = is
image_sooner first (change ∷ before) t u image le (inl is) = inl is
image_sooner first (change ∷ before) t u image le (inr (at, is)) = inr (omega (arith, le, at), image_sooner first before t u image le is)

pub images_are_a_disks : (disk : DiskView) → IsDisk (state_of disk)
images_are_a_disks disk = record {
  sooner = λ t u image le is. (omega (arith, le, is.0), image_sooner disk.first disk.changes t u image le is.1);
  as_it_reads = (omega arith, image_now disk.first disk.changes disk.calls (areas_of disk) (reads_left disk.first disk.changes));
}
