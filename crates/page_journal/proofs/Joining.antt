-- How the clauses of phases join.
use Rattle.std.proofs.Common.{◌≡◌, inl, inr, Option, None, Some, IsSome, Result, Ok, Err, OnOk, OnErr, sym, ◌∙◌, ap, subst}
use Rattle.std.specs.List.{AllByRecursion}
use Rattle.green_io.specs.Areas.{Areas}
use Rattle.green_io.specs.Disk.{DiskState, IsDisk, WhereTold, images_now, LeavesOnly}
use Rattle.green_io.proofs.Crash.{same, weaker}
use Rattle.page_journal.specs.declared.stage.Stage.{Stage}
use Rattle.page_journal.specs.declared.stage.Stage.TheVariants.{Closing}
use Rattle.page_journal.specs.Pages.{Bytes, Pages, Writes, pages_of, laid, home_after, Extends}
use Rattle.page_journal.specs.JournalBytes.{IsWrite}
use Rattle.page_journal.specs.Images.{IsShut, IsAjar, IsGated, HomeIs, IsMidway, AllHave, GivesEither}
use Rattle.page_journal.specs.JournalView.{IsSettled, IsAt, IsClosing}
use Rattle.page_journal.specs.inside.Courses.{GivesLaid, IsFinishedOver}
use Rattle.page_journal.proofs.Journals.{gated_ajar}
use Rattle.page_journal.proofs.PageMaps.{laid_over, laid_over_itself}
use Rattle.page_journal.proofs.Gives.{shut_gives, ajar_gives, midway_gives, closing_gives}

pub ok_then : {T E : Type 0} (r : Result T E) (A C : Type 0) → OnOk r A → (A → C) → OnOk r C
ok_then (Ok x) A C has follows = follows has
ok_then (Err e) A C has follows = tt

pub err_then : {T E : Type 0} (r : Result T E) (A C : Type 0) → OnErr r A → (A → C) → OnErr r C
err_then (Ok x) A C has follows = tt
err_then (Err e) A C has follows = follows has

pub all_ajar : (a : DiskState) (home : Bytes) (writes : Writes) → AllHave a (HomeIs home (IsGated writes)) → AllHave a (HomeIs home (IsAjar writes))
all_ajar a home writes have = record {
  told = have.told;
  each = λ i is. record { home_is = (have.each i is).home_is; journal_has = gated_ajar writes i.journal (have.each i is).journal_has };
}

pub all_midway : (a : DiskState) (home : Bytes) (writes : Writes) → AllHave a (HomeIs home (IsGated writes)) → AllHave a (IsMidway writes home)
all_midway a home writes have = record {
  told = have.told;
  each = λ i is. record {
    spared = λ k page apart there. ap (λ (h : Bytes). pages_of h k) (have.each i is).home_is ∙ there;
    gated = (have.each i is).journal_has;
  };
}

-- while the pages are laid over Home
pub laying_gives : (a b : DiskState) (before : Bytes) (writes : Writes) → AllByRecursion IsWrite writes → LeavesOnly a b (IsMidway writes before) → LeavesOnly a b (GivesLaid (pages_of before) writes)
laying_gives a b before writes each leaves =
    weaker a b (IsMidway writes before) (GivesLaid (pages_of before) writes) leaves (λ i has. midway_gives before writes i each has)

-- while the gate is closed behind them
pub closing_leaves : (a b : DiskState) (before : Bytes) (writes : Writes) → AllByRecursion IsWrite writes → (closing : IsClosing a before writes) → LeavesOnly a b (HomeIs closing.home (IsAjar writes)) → LeavesOnly a b (GivesLaid (pages_of before) writes)
closing_leaves a b before writes each closing leaves =
    weaker a b (HomeIs closing.home (IsAjar writes)) (GivesLaid (pages_of before) writes) leaves (λ i has. closing_gives before closing.home writes i each closing.laid_over has)

-- while the gate may be any byte
pub ajar_leaves : (a b : DiskState) (home : Bytes) (writes : Writes) → AllByRecursion IsWrite writes → LeavesOnly a b (HomeIs home (IsAjar writes)) → LeavesOnly a b (GivesEither (pages_of home) writes)
ajar_leaves a b home writes each leaves =
    weaker a b (HomeIs home (IsAjar writes)) (GivesEither (pages_of home) writes) leaves (λ i has. ajar_gives home writes i each has)

pub laid_leaves : (a b : DiskState) (before : Pages) (writes : Writes) → LeavesOnly a b (GivesLaid before writes) → LeavesOnly a b (GivesEither before writes)
laid_leaves a b before writes leaves =
    weaker a b (GivesLaid before writes) (GivesEither before writes) leaves (λ i has. inr has)

-- the pages are stable in Home
pub closing_from : (reads : Option Areas) (images : Areas → Type 0) (b : DiskState) (before : Bytes) (writes : Writes) → AllByRecursion IsWrite writes → IsSome reads → WhereTold reads images → ((i : Areas) → images i → IsMidway writes before i) → WhereTold reads (λ areas. AllHave b (HomeIs (home_after writes areas.home) (IsGated writes))) → IsClosing b before writes
closing_from None images b before writes each told reads has laid = absurd (cc told)
closing_from (Some x) images b before writes each told reads has laid = record {
  home = home_after writes x.home;
  laid_over = laid_over writes (pages_of before) x.home each (has x reads).spared;
  images = all_ajar b (home_after writes x.home) writes laid;
}

pub closing_of : (a b : DiskState) (before : Bytes) (writes : Writes) → AllByRecursion IsWrite writes → IsDisk a → AllHave a (IsMidway writes before) → WhereTold a.reads (λ areas. AllHave b (HomeIs (home_after writes areas.home) (IsGated writes))) → IsClosing b before writes
closing_of a b before writes each disk have laid = closing_from a.reads (images_now a) b before writes each have.told disk.as_it_reads have.each laid

-- then the gate is closed
pub settled_where : (reads : Option Areas) (b c : DiskState) (writes : Writes) → WhereTold reads (λ areas. AllHave b (HomeIs (home_after writes areas.home) (IsGated writes))) → ((home : Bytes) → AllHave b (HomeIs home (IsAjar writes)) → IsSettled c home) → WhereTold reads (λ areas. IsSettled c (home_after writes areas.home))
settled_where None b c writes laid closes = tt
settled_where (Some x) b c writes laid closes = closes (home_after writes x.home) (all_ajar b (home_after writes x.home) writes laid)

-- what Home reads is known
pub settled_over : (reads : Option Areas) (c : DiskState) (home : Bytes) (writes : Writes) → IsSome reads → WhereTold reads (λ areas. areas.home ≡ home) → WhereTold reads (λ areas. IsSettled c (home_after writes areas.home)) → IsSettled c (home_after writes home)
settled_over None c home writes told is settled = absurd (cc told)
settled_over (Some x) c home writes told is settled = subst (λ (h : Bytes). IsSettled c (home_after writes h)) is settled

pub finished_over : (c : DiskState) (before : Bytes) (writes : Writes) → AllByRecursion IsWrite writes → IsSettled c (home_after writes before) → IsFinishedOver c before writes
finished_over c before writes each settled = record {
  home = home_after writes before;
  finished = record { laid_over = laid_over_itself writes before each };
  settled = settled;
}

pub finished_from : (reads : Option Areas) (images : Areas → Type 0) (c : DiskState) (before : Bytes) (writes : Writes) → AllByRecursion IsWrite writes → IsSome reads → WhereTold reads images → ((i : Areas) → images i → IsMidway writes before i) → WhereTold reads (λ areas. IsSettled c (home_after writes areas.home)) → IsFinishedOver c before writes
finished_from None images c before writes each told reads has settled = absurd (cc told)
finished_from (Some x) images c before writes each told reads has settled = record {
  home = home_after writes x.home;
  finished = record { laid_over = laid_over writes (pages_of before) x.home each (has x reads).spared };
  settled = settled;
}

-- while the gate is a stable 0
pub shut_leaves : (a b : DiskState) (home : Bytes) (writes : Writes) → LeavesOnly a b (HomeIs home IsShut) → LeavesOnly a b (GivesEither (pages_of home) writes)
shut_leaves a b home writes leaves =
    weaker a b (HomeIs home IsShut) (GivesEither (pages_of home) writes) leaves (λ i has. inl (shut_gives home i has))

-- where closing the gate fails, it is still to be closed
pub closing_stays : {T E : Type 0} (r : Result T E) (b : DiskState) (old stage : Stage) (before : Bytes) (writes : Writes) (home : Bytes) → Extends (laid writes (pages_of before)) (pages_of home) → old ≡ Closing → OnErr r (stage ≡ old) → OnErr r (AllHave b (HomeIs home (IsAjar writes))) → OnErr r (IsAt b stage before writes)
closing_stays (Ok x) b old stage before writes home over is same images = tt
closing_stays (Err e) b old stage before writes home over is same images =
    subst (λ (s : Stage). IsAt b s before writes) (sym (same ∙ is)) record { home = home; laid_over = over; images = images }

pub closing_again : (a b : DiskState) (before : Bytes) (writes : Writes) → (closing : IsClosing a before writes) → AllHave b (HomeIs closing.home (IsAjar writes)) → IsClosing b before writes
closing_again a b before writes closing images = record { home = closing.home; laid_over = closing.laid_over; images = images }

pub finished_closing : (a c : DiskState) (before : Bytes) (writes : Writes) → (closing : IsClosing a before writes) → IsSettled c closing.home → IsFinishedOver c before writes
finished_closing a c before writes closing settled = record { home = closing.home; finished = record { laid_over = closing.laid_over }; settled = settled }
