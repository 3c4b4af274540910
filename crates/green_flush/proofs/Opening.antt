-- What opening a folder's pages gives.
use Rattle.std.proofs.Common.{◌≡◌, ℕ, Bool, true, false, List, Option, Some, None, is_some, refl, sym, ap, ◌∙◌, subst, inl, inr}
use Rattle.std.specs.Prelude.{IsSome, IsTrue, ◌↔◌}
use Rattle.page_chains.specs.declared.chain.Chain.{Chain}
use Rattle.page_tables.specs.Plain.{plain_tables}
use Rattle.page_tables.specs.TableBytes.{AreTablesOf}
use Rattle.page_trees.specs.declared.trees.PageTrees.{PageTrees}
use Rattle.page_trees.proofs.Held.{one_streams}
use Rattle.green_flush.specs.declared.owned.Owned.{Owned}
use Rattle.green_flush.specs.inside.Owning.{plain_owned, AreOwned}
use Rattle.green_io.specs.Areas.{Areas, is_logged}
use Rattle.green_io.specs.Disk.{DiskState, IsDisk, LeavesOnly, LeavesBut, Nothing, WhereTold, images_now}
use Rattle.green_io.proofs.Beside.{looked_others}
use Rattle.green_io.proofs.Crash.{then_nothing}
use Rattle.page_saves.specs.Resting.{RestsOn}
use Rattle.page_journal.specs.JournalBytes.{opened, replayed}
use Rattle.page_journal.specs.JournalView.{JournalView, IsClean}
use Rattle.page_journal.specs.Pages.{Bytes, Pages, pages_of, home_after}
use Rattle.page_chains.specs.Chains.{PlainChain}
use Rattle.page_chains.specs.Headers.{HasHeader}
use Rattle.page_chains.specs.Reading.{plain_chains, IsReadHeader}
use Rattle.page_chains.specs.declared.header.Header.{Header}
use Rattle.page_chains.proofs.Heading.{one_header}
use Rattle.page_flush.specs.FlushView as pages
use Rattle.page_saves.specs.Courses.{Aside, Kept}
use Rattle.page_trees.specs.Trees.{plain_trees, AreTrees, AreFound, stream}
use Rattle.green_flush.specs.declared.trees.Trees.{Trees}
use Rattle.green_flush.specs.Sound.{AreSound}
use Rattle.green_flush.specs.Loads.{Loads, HasLoaded}
use Rattle.green_flush.specs.Standing.{FlushView, AreCounts, IsOpened}
use Rattle.green_flush.specs.inside.Finding.{HaveNone, AreFoundSound, put_aside, GoesOnOver, IsOpenedOver}
use Rattle.green_flush.proofs.Held.{log-stays}

-- ---- where nothing is found

none-loads : (found : Pages) (chains : List PlainChain) (position : ℕ) → HasHeader found chains position → HaveNone chains → Loads found None
none-loads found chains position header none = λ at has.
    none at.trees (subst (λ (x : List PlainChain). AreTrees x at.trees) (one_header found chains has.chains position at.position header has.header).0 has.are) has.sound

no-header : (found : Pages) → IsReadHeader found None → Loads found None
no-header found none = λ at has. none has.chains at.position has.header

aside-opened : (disk : DiskState) (journal : JournalView) (home : Bytes) (flush : FlushView) → IsClean disk journal home → Loads (pages_of home) None → flush.pages ≡ put_aside journal → IsOpened (pages_of home) disk flush None
aside-opened disk journal home flush clean none is = record {
  now = None;
  are = tt;
  loads = none;
  stands = record {
    from = Aside (pages_of home);
    to = Aside (pages_of home);
    rests = subst (λ (x : pages.FlushView). RestsOn disk x.journal (Aside (pages_of home)) (Aside (pages_of home))) (sym is)
        (inl (inl (record { home = home; clean = clean; on = record { holds = λ k. refl; has = tt } })));
    knows = subst (λ (x : pages.FlushView). pages.Knows x (Aside (pages_of home))) (sym is) (refl, refl);
    came = none;
    is = none;
    counts = tt;
  };
  goes_on = ap (λ (x : pages.FlushView). is_some x.kept) is;
}

-- ---- where trees are found

found-opened : (disk : DiskState) (journal : JournalView) (home : Bytes) (chains : List PlainChain) (position : ℕ) (flush : FlushView) (loaded : Trees × ℕ) →
    IsClean disk journal home → HasHeader (pages_of home) chains position → GoesOnOver chains position journal flush loaded → IsOpened (pages_of home) disk flush (Some loaded)
found-opened disk journal home chains position flush loaded clean header over = record {
  now = Some (record { trees = over.plain; position = position });
  are = (over.trees, over.position_is);
  loads = record { chains = chains; header = header; are = over.are; sound = over.sound };
  stands = record {
    from = Kept chains position;
    to = Kept chains position;
    rests = subst (λ (x : JournalView). RestsOn disk x (Kept chains position) (Kept chains position)) (sym over.journal_is)
        (inl (inl (record { home = home; clean = clean; on = record { holds = header; has = tt } })));
    knows = over.knows;
    came = (over.are, over.sound, refl);
    is = (over.are, over.sound, refl);
    counts = inr over.counts;
  };
  goes_on = over.goes_on;
}

over-opened : (disk : DiskState) (journal : JournalView) (home : Bytes) (chains : List PlainChain) (position : ℕ) (flush : FlushView) (loaded : Option (Trees × ℕ)) →
    IsClean disk journal home → HasHeader (pages_of home) chains position → IsOpenedOver chains position journal flush loaded → IsOpened (pages_of home) disk flush loaded
over-opened disk journal home chains position flush None clean header over = aside-opened disk journal home flush clean (none-loads (pages_of home) chains position header over.0) over.1
over-opened disk journal home chains position flush (Some loaded) clean header over = found-opened disk journal home chains position flush loaded clean header over

-- ---- what was loaded, on any disk

pub none-loaded : (loaded : Option (Trees × ℕ)) → loaded ≡ None → HasLoaded loaded
none-loaded loaded is = subst HasLoaded (sym is) tt

pub over-loaded : (chains : List PlainChain) (position : ℕ) (journal : JournalView) (flush : FlushView) (loaded : Option (Trees × ℕ)) → IsOpenedOver chains position journal flush loaded → HasLoaded loaded
over-loaded chains position journal flush None over = tt
over-loaded chains position journal flush (Some loaded) over = (over.plain, record { are = over.trees; roots = over.are.roots; sound = over.sound })

-- ---- the disk

reading-leaves : (old new : DiskState) → new.reads ≡ old.reads → LeavesOnly old new Nothing → LeavesBut is_logged old new
reading-leaves old new same leaves = looked_others is_logged old new same leaves

moved : (found : Pages) (old new : DiskState) (flush : FlushView) (loaded : Option (Trees × ℕ)) → IsDisk new → LeavesBut is_logged old new → IsOpened found old flush loaded → IsOpened found new flush loaded
moved found old new flush loaded disk leaves opened_there = record {
  now = opened_there.now;
  are = opened_there.are;
  loads = opened_there.loads;
  stands = log-stays old new flush opened_there.now opened_there.now disk leaves opened_there.stands;
  goes_on = opened_there.goes_on;
}

-- what a clean disk reads has this Home
read-there : (disk : DiskState) (journal : JournalView) (home : Bytes) (reads : Option Areas) (Fact : Bytes → Type 0) → reads ≡ disk.reads → IsDisk disk → IsClean disk journal home → WhereTold reads (λ areas. Fact areas.home) → Fact home
read-there disk journal home None Fact same is clean fact = let told : false ≡ true = subst IsSome (sym same) clean.images.told in absurd cc
read-there disk journal home (Some areas) Fact same is clean fact =
    subst Fact (clean.images.each areas (subst (λ (x : Option Areas). WhereTold x (images_now disk)) (sym same) is.as_it_reads)).home_is fact

where-told : (reads : Option Areas) (A B : Areas → Type 0) → ((areas : Areas) → A areas → B areas) → WhereTold reads A → WhereTold reads B
where-told None A B follows fact = tt
where-told (Some areas) A B follows fact = follows areas fact

pub header-opened : (reads : Option Areas) (between new : DiskState) (journal : JournalView) (header : Header) (found : Option Header) (flush : FlushView) (loaded : Option (Trees × ℕ)) →
    WhereTold reads (λ areas. IsClean between journal (home_after (replayed areas.journal) areas.home)) → IsDisk between → IsDisk new → found ≡ Some header →
    WhereTold between.reads (λ areas. IsReadHeader (pages_of areas.home) found) → new.reads ≡ between.reads → LeavesOnly between new Nothing →
    IsOpenedOver (plain_chains header.chains.items) header.position journal flush loaded → WhereTold reads (λ areas. IsOpened (opened areas) new flush loaded)
header-opened reads between new journal header found flush loaded cleaned disk disk_new is read same leaves over =
    where-told reads (λ areas. IsClean between journal (home_after (replayed areas.journal) areas.home)) (λ areas. IsOpened (opened areas) new flush loaded)
    (λ areas clean.
    let home = home_after (replayed areas.journal) areas.home in
    let header_there = read-there between journal home between.reads (λ (x : Bytes). IsReadHeader (pages_of x) found) refl disk clean read in
    moved (pages_of home) between new flush loaded disk_new (reading-leaves between new same leaves)
    (over-opened between journal home (plain_chains header.chains.items) header.position flush loaded clean (subst (IsReadHeader (pages_of home)) is header_there) over))
    cleaned

pub none-opened : (reads : Option Areas) (between new : DiskState) (journal : JournalView) (found : Option Header) (flush : FlushView) (loaded : Option (Trees × ℕ)) →
    WhereTold reads (λ areas. IsClean between journal (home_after (replayed areas.journal) areas.home)) → IsDisk between → IsDisk new → found ≡ None →
    WhereTold between.reads (λ areas. IsReadHeader (pages_of areas.home) found) → new.reads ≡ between.reads → LeavesOnly between new Nothing →
    loaded ≡ None → flush.pages ≡ put_aside journal → WhereTold reads (λ areas. IsOpened (opened areas) new flush loaded)
none-opened reads between new journal found flush loaded cleaned disk disk_new is read same leaves none aside =
    where-told reads (λ areas. IsClean between journal (home_after (replayed areas.journal) areas.home)) (λ areas. IsOpened (opened areas) new flush loaded)
    (λ areas clean.
    let home = home_after (replayed areas.journal) areas.home in
    let there = read-there between journal home between.reads (λ (x : Bytes). IsReadHeader (pages_of x) found) refl disk clean read in
    moved (pages_of home) between new flush loaded disk_new (reading-leaves between new same leaves)
    (subst (IsOpened (pages_of home) between flush) (sym none) (aside-opened between journal home flush clean (no-header (pages_of home) (subst (IsReadHeader (pages_of home)) is there)) aside)))
    cleaned

-- what is taken back by a crash while pages are opened: reading takes nothing
pub settled-still : (reads : Option Areas) (old between new : DiskState) (Fact : Areas → Areas → Type 0) → WhereTold reads (λ areas. LeavesOnly old between (Fact areas)) → LeavesOnly between new Nothing → WhereTold reads (λ areas. LeavesOnly old new (Fact areas))
settled-still reads old between new Fact settled leaves =
    where-told reads (λ areas. LeavesOnly old between (Fact areas)) (λ areas. LeavesOnly old new (Fact areas)) (λ areas first. then_nothing old between new (Fact areas) first leaves) settled

-- ---- the trees of a header

pub unsound : (chains : List PlainChain) (position : ℕ) (found : Option PageTrees) (read : PageTrees) (owned : Owned) (sound : Bool) → AreFound chains position found → found ≡ Some read →
    plain_owned owned ≡ plain_trees read → (IsTrue sound ↔ AreSound (plain_owned owned)) → sound ≡ false → HaveNone chains
unsound chains position found read owned sound are is nodes iff not = λ trees spelled so.
    let has = subst (AreFound chains position) is are in
    let same = one_streams chains trees (plain_trees read) spelled.streams has.0.streams in
    let passes : sound ≡ true = iff.1 (subst AreSound (same ∙ sym nodes) so) in
    absurd cc

pub over-made : (position : ℕ) (journal : JournalView) (owned : Owned) (found : Option Owned) (flush : FlushView) (result : Trees) (bytes : Bytes) (slice items : List Chain) →
    AreFoundSound (plain_chains items) found → found ≡ Some owned → slice ≡ items → bytes ≡ stream (plain_chains slice) 6 → AreOwned owned result → result.tables.items ≡ bytes →
    flush.pages.journal ≡ journal → ((p : ℕ) → pages.Knows flush.pages (Kept (plain_chains slice) p)) → is_some flush.pages.kept ≡ true → AreCounts flush.counts (plain_owned owned) →
    GoesOnOver (plain_chains items) position journal flush (result, position)
over-made position journal owned found flush result bytes slice items sound is same spelled own tables journal_is knows goes_on counts =
    let has = subst (AreFoundSound (plain_chains items)) is sound in
    record {
      plain = plain_owned owned;
      are = has.are;
      sound = has.sound;
      trees = record {
        granfilade = own.granfilade ∙ has.rooted.granfilade;
        poom = own.poom;
        spanfilade = own.spanfilade ∙ has.rooted.spanfilade;
        from = own.from ∙ has.rooted.from;
        to = own.to ∙ has.rooted.to;
        three = own.three ∙ has.rooted.three;
        tables = subst (AreTablesOf (plain_tables owned.tables)) (sym (tables ∙ spelled ∙ ap (λ (x : List Chain). stream (plain_chains x) 6) same)) has.are.streams.tables;
      };
      position_is = refl;
      journal_is = journal_is;
      knows = subst (λ (x : List Chain). pages.Knows flush.pages (Kept (plain_chains x) position)) same (knows position);
      goes_on = goes_on;
      counts = counts;
    }
