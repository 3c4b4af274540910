-- Less is known of a disk that rests, and what its images give.
use Rattle.std.proofs.Common.{◌≡◌, ◌⊎◌, inl, inr, ⊎_elim, []}
use Rattle.page_journal.specs.Pages.{Pages, Writes}
use Rattle.green_io.specs.Disk.{DiskState}
use Rattle.page_journal.specs.JournalView.{JournalView}
use Rattle.page_saves.specs.Courses.{Saved, Course, IsOn, begun, after}
use Rattle.page_saves.specs.Resting.{IsSettledOn, IsBetween, Rests, RestsOn, RestsAfter}

pub rests_less : (disk : DiskState) (journal : JournalView) (was now older newer : Course) → ((pages : Pages) → IsOn was pages → IsOn older pages) → ((pages : Pages) → IsOn now pages → IsOn newer pages) → Rests disk journal was now → Rests disk journal older newer
rests_less disk journal was now older newer back on rests = ⊎_elim
    (λ (settled : IsSettledOn disk journal now). inl record { home = settled.home; clean = settled.clean; on = on _ settled.on })
    (λ (between : IsBetween disk journal was now). inr record {
      before = between.before;
      writes = between.writes;
      unfinished = between.unfinished;
      had = back _ between.had;
      will = λ pages more. on pages (between.will pages more);
    })
    rests

pub on_begun : (saved : Saved) (written : Writes) (pages : Pages) → IsOn (after saved written) pages → IsOn (begun saved) pages
on_begun saved written pages on = record { holds = on.holds; has = tt }

-- what was written is forgotten
pub begun_again : (disk : DiskState) (journal : JournalView) (was : Course) (saved : Saved) (written : Writes) → Rests disk journal was (after saved written) → Rests disk journal was (begun saved)
begun_again disk journal was saved written = rests_less disk journal was (after saved written) was (begun saved) (λ pages on. on) (on_begun saved written)

pub both_begun : (disk : DiskState) (journal : JournalView) (saved : Saved) (written more : Writes) → Rests disk journal (after saved written) (after saved more) → Rests disk journal (begun saved) (begun saved)
both_begun disk journal saved written more = rests_less disk journal (after saved written) (after saved more) (begun saved) (begun saved) (on_begun saved written) (on_begun saved more)
