-- What a disk gives while it rests, and that calls on the log leave it so.
use Rattle.std.proofs.Common.{◌≡◌, ◌⊎◌, inl, inr, ⊎_elim, []}
use Rattle.green_io.specs.Areas.{Areas, is_logged}
use Rattle.green_io.specs.Disk.{DiskState, IsDisk, LeavesBut, images_now}
use Rattle.page_journal.specs.Images.{IsShut, GivesEither}
use Rattle.page_journal.specs.JournalBytes.{opened}
use Rattle.page_journal.specs.JournalView.{JournalView}
use Rattle.page_journal.specs.Pages.{Pages, pages_of, laid, AreSame, Extends}
use Rattle.page_journal.proofs.Gives.{shut_gives}
use Rattle.page_journal.proofs.Keeping.{home_stays, at_stays, at_gives}
use Rattle.page_saves.specs.Courses.{Saved, Course, IsOn, begun, GivesOne}
use Rattle.page_saves.specs.Resting.{Rests, RestsOn, IsSettledOn, IsBetween}
use Rattle.page_saves.proofs.Leading.{on_same}

pub rests-give : (disk : DiskState) (journal : JournalView) (was now : Course) → Rests disk journal was now → (image : Areas) → images_now disk image → IsOn was (opened image) ⊎ IsOn now (opened image)
rests-give disk journal was now rests image is = ⊎_elim
    (λ (settled : IsSettledOn disk journal now). inr (on_same now (pages_of settled.home) (opened image) (shut_gives settled.home image (settled.clean.images.each image is)) settled.on))
    (λ (between : IsBetween disk journal was now). ⊎_elim
    (λ (same : AreSame (pages_of between.before) (opened image)). inl (on_same was (pages_of between.before) (opened image) same between.had))
    (λ (more : Extends (laid between.writes (pages_of between.before)) (opened image)). inr (between.will (opened image) more))
    (at_gives disk journal.stage between.before between.writes between.unfinished.kept.are.each between.unfinished.images image is))
    rests

pub resting-gives : (disk : DiskState) (journal : JournalView) (was saved : Saved) → RestsOn disk journal was saved → (image : Areas) → images_now disk image → GivesOne was saved image
resting-gives disk journal was saved rests image is = ⊎_elim
    (λ (older : Rests disk journal (begun was) (begun saved)). ⊎_elim
    (λ (had : IsOn (begun was) (opened image)). inl had.holds)
    (λ (has : IsOn (begun saved) (opened image)). inr has.holds)
    (rests-give disk journal (begun was) (begun saved) older image is))
    (λ (newer : Rests disk journal (begun saved) (begun saved)). ⊎_elim
    (λ (had : IsOn (begun saved) (opened image)). inr had.holds)
    (λ (has : IsOn (begun saved) (opened image)). inr has.holds)
    (rests-give disk journal (begun saved) (begun saved) newer image is))
    rests

rests-stay : (a b : DiskState) (journal : JournalView) (was now : Course) → IsDisk b → LeavesBut is_logged a b → Rests a journal was now → Rests b journal was now
rests-stay a b journal was now disk leaves rests = ⊎_elim
    (λ (settled : IsSettledOn a journal now). inl record {
      home = settled.home;
      clean = record { idle = settled.clean.idle; images = home_stays a b settled.home IsShut disk leaves settled.clean.images };
      on = settled.on;
    })
    (λ (between : IsBetween a journal was now). inr record {
      before = between.before;
      writes = between.writes;
      unfinished = record { kept = between.unfinished.kept; images = at_stays a b journal.stage between.before between.writes disk leaves between.unfinished.images };
      had = between.had;
      will = between.will;
    })
    rests

pub resting-stays : (a b : DiskState) (journal : JournalView) (was saved : Saved) → IsDisk b → LeavesBut is_logged a b → RestsOn a journal was saved → RestsOn b journal was saved
resting-stays a b journal was saved disk leaves rests = ⊎_elim
    (λ (older : Rests a journal (begun was) (begun saved)). inl (rests-stay a b journal (begun was) (begun saved) disk leaves older))
    (λ (newer : Rests a journal (begun saved) (begun saved)). inr (rests-stay a b journal (begun saved) (begun saved) disk leaves newer))
    rests
