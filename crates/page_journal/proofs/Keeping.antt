-- What an unfinished commit gives, and that calls on the log leave a journal as it stands.
use Rattle.std.proofs.Common.{inr, Option, None, Some, IsSome, refl, sym, ◌∙◌, subst}
use Rattle.std.specs.List.{AllByRecursion}
use Rattle.green_io.specs.declared.disk.Area.TheVariants as area
use Rattle.green_io.specs.Areas.{Areas, IsSameBut, is_logged}
use Rattle.green_io.specs.Disk.{DiskState, IsDisk, images_now, ReadsAsBut, LeavesBut}
use Rattle.green_io.proofs.Beside.{kept_others}
use Rattle.page_journal.specs.declared.stage.Stage.{Stage}
use Rattle.page_journal.specs.declared.stage.Stage.TheVariants.{Clean, Gating, Writing, Closing}
use Rattle.page_journal.specs.Pages.{Bytes, Writes, pages_of, Spares}
use Rattle.page_journal.specs.JournalBytes.{IsWrite}
use Rattle.page_journal.specs.Images.{IsAjar, IsGated, HomeIs, IsMidway, AllHave, GivesEither}
use Rattle.page_journal.specs.JournalView.{IsAt}
use Rattle.page_journal.proofs.Gives.{ajar_gives, midway_gives, closing_gives}

-- at each stage
pub at_gives : (a : DiskState) (stage : Stage) (before : Bytes) (writes : Writes) → AllByRecursion IsWrite writes → IsAt a stage before writes → (i : Areas) → images_now a i → GivesEither (pages_of before) writes i
at_gives a Clean before writes each at i is = absurd at
at_gives a Gating before writes each at i is = ajar_gives before writes i each (at.each i is)
at_gives a Writing before writes each at i is = inr (midway_gives before writes i each (at.each i is))
at_gives a Closing before writes each at i is = inr (closing_gives before at.home writes i each at.laid_over (at.images.each i is))

still_told : (old new : Option Areas) → ReadsAsBut is_logged old new → IsSome old → IsSome new
still_told None new same told = absurd (cc told)
still_told (Some x) None same told = absurd same
still_told (Some x) (Some y) same told = refl

all_stay : (a b : DiskState) (fact : Areas → Type 0) → IsDisk b → LeavesBut is_logged a b → ((i j : Areas) → IsSameBut is_logged i j → fact i → fact j) → AllHave a fact → AllHave b fact
all_stay a b fact disk leaves rests have = record {
  told = still_told a.reads b.reads leaves.reads have.told;
  each = kept_others is_logged a b fact disk leaves rests have.each;
}

home_rests : (home : Bytes) (fact : Bytes → Type 0) (i j : Areas) → IsSameBut is_logged i j → HomeIs home fact i → HomeIs home fact j
home_rests home fact i j same has = record {
  home_is = same area.Home refl ∙ has.home_is;
  journal_has = subst fact (sym (same area.Journal refl)) has.journal_has;
}

midway_rests : (writes : Writes) (before : Bytes) (i j : Areas) → IsSameBut is_logged i j → IsMidway writes before i → IsMidway writes before j
midway_rests writes before i j same has = record {
  spared = subst (λ (h : Bytes). Spares writes (pages_of before) (pages_of h)) (sym (same area.Home refl)) has.spared;
  gated = subst (IsGated writes) (sym (same area.Journal refl)) has.gated;
}

-- what every image has in Home and in the Journal stays
pub home_stays : (a b : DiskState) (home : Bytes) (fact : Bytes → Type 0) → IsDisk b → LeavesBut is_logged a b → AllHave a (HomeIs home fact) → AllHave b (HomeIs home fact)
home_stays a b home fact disk leaves have = all_stay a b (HomeIs home fact) disk leaves (home_rests home fact) have

pub at_stays : (a b : DiskState) (stage : Stage) (before : Bytes) (writes : Writes) → IsDisk b → LeavesBut is_logged a b → IsAt a stage before writes → IsAt b stage before writes
at_stays a b Clean before writes disk leaves at = absurd at
at_stays a b Gating before writes disk leaves at = home_stays a b before (IsAjar writes) disk leaves at
at_stays a b Writing before writes disk leaves at = all_stay a b (IsMidway writes before) disk leaves (midway_rests writes before) at
at_stays a b Closing before writes disk leaves at = record { home = at.home; laid_over = at.laid_over; images = home_stays a b at.home (IsAjar writes) disk leaves at.images }
