-- What opening gives on the images of each stage.
use Rattle.std.proofs.Common.{◌≡◌, inl, inr, ⊎_elim, [], sym, ◌∙◌, ap, subst}
use Rattle.std.specs.List.{AllByRecursion}
use Rattle.green_io.specs.Areas.{Areas}
use Rattle.page_journal.specs.Pages.{Bytes, Pages, Writes, pages_of, laid, home_after, AreSame, Extends}
use Rattle.page_journal.specs.JournalBytes.{IsWrite, replayed, opened}
use Rattle.page_journal.specs.Images.{IsShut, IsAjar, HomeIs, IsMidway, GivesEither, GivesAny}
use Rattle.page_journal.proofs.Journals.{replayed_shut, replayed_gated, replayed_ajar}
use Rattle.page_journal.proofs.PageMaps.{laid_over, laid_over_itself, laid_more, spares_from_laid, same_extends, extends_then}

-- what opening gives, by what is in Home and what is laid over it
pub opened_is : (image : Areas) (home : Bytes) (writes : Writes) → image.home ≡ home → replayed image.journal ≡ writes → opened image ≡ pages_of (home_after writes home)
opened_is image home writes home_is laid_is =
    ap (λ (h : Bytes). pages_of (home_after (replayed image.journal) h)) home_is
    ∙ ap (λ (w : Writes). pages_of (home_after w home)) laid_is

same_pages : (old new : Pages) → new ≡ old → AreSame old new
same_pages old new is k = ap (λ (p : Pages). p k) is

pub shut_gives : (home : Bytes) (image : Areas) → HomeIs home IsShut image → AreSame (pages_of home) (opened image)
shut_gives home image has = same_pages (pages_of home) (opened image) (opened_is image home [] has.home_is (replayed_shut image.journal has.journal_has))

-- while the gate may be any byte
pub ajar_gives : (home : Bytes) (writes : Writes) (image : Areas) → AllByRecursion IsWrite writes → HomeIs home (IsAjar writes) image → GivesEither (pages_of home) writes image
ajar_gives home writes image each has =
    ⊎_elim
    (λ (none : replayed image.journal ≡ []). inl (same_pages (pages_of home) (opened image) (opened_is image home [] has.home_is none)))
    (λ (all : replayed image.journal ≡ writes). inr (subst (Extends (laid writes (pages_of home))) (sym (opened_is image home writes has.home_is all)) (laid_over_itself writes home each)))
    (replayed_ajar writes image.journal has.journal_has)

-- while the pages are laid over Home
pub midway_gives : (before : Bytes) (writes : Writes) (image : Areas) → AllByRecursion IsWrite writes → IsMidway writes before image → Extends (laid writes (pages_of before)) (opened image)
midway_gives before writes image each has =
    subst (Extends (laid writes (pages_of before))) (sym (opened_is image image.home writes (λ i. image.home) (replayed_gated writes image.journal has.gated)))
    (laid_over writes (pages_of before) image.home each has.spared)

-- while the gate is closed behind pages that Home has
pub closing_gives : (before home : Bytes) (writes : Writes) (image : Areas) → AllByRecursion IsWrite writes → Extends (laid writes (pages_of before)) (pages_of home) → HomeIs home (IsAjar writes) image → Extends (laid writes (pages_of before)) (opened image)
closing_gives before home writes image each over has =
    ⊎_elim
    (λ (none : replayed image.journal ≡ []). subst (Extends (laid writes (pages_of before))) (sym (opened_is image home [] has.home_is none)) over)
    (λ (all : replayed image.journal ≡ writes). subst (Extends (laid writes (pages_of before))) (sym (opened_is image home writes has.home_is all)) (laid_over writes (pages_of before) home each (spares_from_laid writes (pages_of before) (pages_of home) over)))
    (replayed_ajar writes image.journal has.journal_has)

-- The pages before the second writes are pages after the first ones.
pub resumed_gives : (before home : Bytes) (first second : Writes) (image : Areas) → Extends (laid first (pages_of before)) (pages_of home) → GivesEither (pages_of home) second image → GivesAny (pages_of before) first second image
resumed_gives before home first second image over gives =
    ⊎_elim
    (λ (same : AreSame (pages_of home) (opened image)). inl (inr (same_extends (laid first (pages_of before)) (pages_of home) (opened image) same over)))
    (λ (more : Extends (laid second (pages_of home)) (opened image)). inr (extends_then (laid second (laid first (pages_of before))) (laid second (pages_of home)) (opened image) (laid_more second (laid first (pages_of before)) (pages_of home) over) more))
    gives
