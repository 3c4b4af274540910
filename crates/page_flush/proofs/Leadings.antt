-- What a save writes leads to what it is to save.
use Rattle.std.proofs.Common.{◌≡◌, ◌⊎◌, inl, inr, ⊎_elim, ℕ, ◌<◌, ◌≤◌, ◌^◌, Bool, true, false, List, [], ◌∷◌, ◌++◌, length, map, drop, Option, None, Some, is_some, refl, ap, ◌∙◌, sym, subst, arith}
use Rattle.std.specs.List.{AllByRecursion, flat_map}
use Rattle.std.proofs.lemmas.Bool.{cases_Bool, both_ways, false≢true}
use Rattle.green_io.specs.Disk.{DiskState}
use Rattle.page_journal.specs.JournalView.{JournalView}
use Rattle.page_journal.specs.Pages.{Bytes, Pages, PageBytes, Writes, page_bytes, pages_of, laid}
use Rattle.page_chains.specs.declared.start.Start.{Start}
use Rattle.page_chains.specs.Chains.{is_in, AreDistinct, PlainChain, pages_in}
use Rattle.page_chains.specs.Headers.{HasHeader}
use Rattle.page_chains.specs.Spelled.{header_page}
use Rattle.page_saves.specs.Courses.{Saved, Aside, Blank, Kept, Holds, Leads, LeadsEach, begun, after, IsOn}
use Rattle.page_saves.specs.Plans.{numbers_of, IsBeside, GrowsOne, plan_chain, plan_writes, plan_start, kept_chains}
use Rattle.page_saves.specs.Resting.{RestsOn, Rests, IsSettledOn, IsBetween}
use Rattle.page_saves.proofs.EachBeside.{beside-leads, blank-leads}
use Rattle.page_saves.proofs.Planned.{header-leads}
use Rattle.page_flush.specs.declared.stream_bytes.StreamBytes.{StreamBytes}
use Rattle.page_flush.specs.FlushView.{StreamView, FlushView, AreKept, AreSpared, Keeps, KnowsChains, Knows, kept_streams, start_of}
use Rattle.page_flush.specs.Saving.{MayBeGiven, streams_after, bytes_in}
use Rattle.page_flush.specs.inside.Spells.{AreSpelled, IsHeaderSpelled, IsPrepared}
use Rattle.page_flush.proofs.Plannings.{IsBesideSome, Common, Plans, plans_whole, plans_kept, named_whole}

-- pages that rest so hold it, some of them
record Held (saved : Saved) : Type 0 where
  pub pages : Pages
  pub holds : Holds saved pages

held_by : (disk : DiskState) (journal : JournalView) (saved from : Saved) → Rests disk journal (begun from) (begun saved) → Held saved
held_by disk journal saved from rests = ⊎_elim
    (λ (settled : IsSettledOn disk journal (begun saved)). (let h : Held saved = record { pages = pages_of settled.home; holds = settled.on.holds } in h))
    (λ (between : IsBetween disk journal (begun from) (begun saved)). (let h : Held saved = record { pages = laid between.writes (pages_of between.before); holds = (between.will (laid between.writes (pages_of between.before)) (λ k page there. there)).holds } in h))
    rests

held : (disk : DiskState) (journal : JournalView) (was saved : Saved) → RestsOn disk journal was saved → Held saved
held disk journal was saved rests = ⊎_elim
    (λ (older : Rests disk journal (begun was) (begun saved)). held_by disk journal saved was older)
    (λ (newer : Rests disk journal (begun saved) (begun saved)). held_by disk journal saved saved newer)
    rests

-- pages beside these chains, where their pages are spared
all_beside : (spared : List ℕ) (chains : List PlainChain) (writes : Writes) → AreSpared (pages_in chains) spared → AllByRecursion (IsBesideSome spared (GrowsOne chains)) writes → AllByRecursion (IsBeside chains) writes
all_beside spared chains [] spares all = tt
all_beside spared chains (w ∷ ws) spares all =
    let apart : (is_in w.number spared ≡ false) → is_in w.number (pages_in chains) ≡ false = λ not. ⊎_elim
    (λ (among : is_in w.number (pages_in chains) ≡ true). absurd (both_ways (is_in w.number spared) not (spares w.number among)))
    (λ (other : is_in w.number (pages_in chains) ≡ false). other)
    (cases_Bool (is_in w.number (pages_in chains))) in
    (record { some = all.0.some; apart = ⊎_elim (λ (not : is_in w.number spared ≡ false). inl (apart not)) (λ (grows : GrowsOne chains w). inr grows) all.0.apart }, all_beside spared chains ws spares all.1)

all_some : (spared : List ℕ) (Last : PageBytes → Type 0) (writes : Writes) → AllByRecursion (IsBesideSome spared Last) writes → AllByRecursion (λ write. 0 < write.number) writes
all_some spared Last [] all = tt
all_some spared Last (w ∷ ws) all = (all.0.some, all_some spared Last ws all.1)

-- what is prepared leads from what the pages hold to chains that spell the streams
pub record Leading (saved : Saved) (given : List StreamBytes) (position : ℕ) (streams : List StreamView) (pages header : Writes) : Type 0 where
  pub chains : List PlainChain
  pub streams_are : bytes_in chains ≡ streams_after (kept_chains saved) given
  pub leads : Leads saved pages header (Kept chains position)
  pub kept : AreKept streams chains

header_as : (position used : ℕ) (starts others : List Start) (header : Writes) → header ≡ page_bytes 0 (header_page position used others) ∷ [] → starts ≡ others → page_bytes 0 (header_page position used starts) ∷ [] ≡ header
header_as position used starts others header is same = ap (λ (l : List Start). page_bytes 0 (header_page position used l) ∷ []) same ∙ sym is

leading_by : (saved : Saved) (spared : List ℕ) (to : ℕ) (given : List StreamBytes) (position : ℕ) (streams : List StreamView) (pages header : Writes) → length given ≡ 7 → position < 2 ^ 64 → IsHeaderSpelled position streams header
    → (p : Plans spared 1 to (kept_chains saved) given streams [] pages) → AreDistinct (pages_in (kept_chains saved)) → AreSpared (pages_in (kept_chains saved)) spared
    → (AreDistinct (numbers_of (flat_map plan_writes p.plans)) → LeadsEach saved [] (flat_map plan_writes p.plans))
    → Leading saved given position streams pages header
leading_by saved spared to given position streams pages header seven short spelled p distinct spares each =
    let c = p.common in
    let apart = c.distinct distinct spares in
    let written : pages ≡ flat_map plan_writes p.plans = c.pages in
    let page = header_as position spelled.used (map plan_start p.plans) (map start_of streams) header spelled.page c.starts in
    let ends = header-leads saved p.plans position spelled.used (p.many ∙ seven) p.are apart short spelled.few in
    let leads : Leads saved (flat_map plan_writes p.plans) (page_bytes 0 (header_page position spelled.used (map plan_start p.plans)) ∷ []) (Kept (map plan_chain p.plans) position) = record { each = each (c.written_distinct apart); ends = ends } in
    record {
      chains = map plan_chain p.plans;
      streams_are = p.bytes;
      leads = subst (λ (l : Writes). Leads saved l header (Kept (map plan_chain p.plans) position)) (sym written)
          (subst (λ (l : Writes). Leads saved (flat_map plan_writes p.plans) l (Kept (map plan_chain p.plans) position)) page leads);
      kept = c.kept;
    }

-- the pages hold a header, or a blank start
abbrev pub IsBegun : Saved → Type 0
IsBegun (Aside found) = ⊥
IsBegun (Blank header) = Unit {0}
IsBegun (Kept chains position) = Unit {0}

spelled_none : (spared : List ℕ) (to : ℕ) (kept : Option (List StreamView)) (given : List StreamBytes) (streams : List StreamView) (pages : Writes) → kept ≡ None → AreSpelled spared 1 to (kept_streams kept) given streams [] pages → AreSpelled spared 1 to [] given streams [] pages
spelled_none spared to kept given streams pages none is = subst (λ (k : Option (List StreamView)). AreSpelled spared 1 to (kept_streams k) given streams [] pages) none is

leading_kept : (chains : List PlainChain) (place : ℕ) (spared : List ℕ) (to : ℕ) (kept : Option (List StreamView)) (given : List StreamBytes) (streams : List StreamView) (pages : Writes) (found : Pages) → HasHeader found chains place → Keeps kept chains → MayBeGiven kept given
    → AreSpelled spared 1 to (kept_streams kept) given streams [] pages → Plans spared 1 to chains given streams [] pages
leading_kept chains place spared to None given streams pages found holds keeps may is = plans_whole spared 1 to chains given streams [] pages (omega arith) (may refl) is
leading_kept chains place spared to (Some kept) given streams pages found holds keeps may is = plans_kept spared 1 to kept chains given streams [] pages (omega arith) keeps (named_whole found (drop 24 holds.header) chains holds.named) is

pub leading : (saved : Saved) (disk : DiskState) (journal : JournalView) (was : Saved) (flush : FlushView) (given : List StreamBytes) (position : ℕ) (streams : List StreamView) (reached : List ℕ) (pages header : Writes) → IsBegun saved → Knows flush saved → RestsOn disk journal was saved
    → length given ≡ 7 → MayBeGiven flush.kept given → IsPrepared flush.spared (kept_streams flush.kept) given position streams reached pages header → Leading saved given position streams pages header
leading (Aside found) disk journal was flush given position streams reached pages header begun knows rests seven may is = absurd begun
leading (Blank h) disk journal was flush given position streams reached pages header begun knows rests seven may is =
    let whole = may (ap is_some knows) in
    let spelled = spelled_none flush.spared is.to flush.kept given streams pages knows is.spelled in
    let p = plans_whole flush.spared 1 is.to [] given streams [] pages (omega arith) whole spelled in
    leading_by (Blank h) flush.spared is.to given position streams pages header seven is.short is.header_is p tt (λ k among. absurd (false≢true among))
    (λ distinct. blank-leads h (flat_map plan_writes p.plans) distinct (all_some flush.spared (GrowsOne []) (flat_map plan_writes p.plans) p.common.beside))
leading (Kept chains place) disk journal was flush given position streams reached pages header begun knows rests seven may is =
    let h = held disk journal was (Kept chains place) rests in
    let p = leading_kept chains place flush.spared is.to flush.kept given streams pages h.pages h.holds knows.kept may is.spelled in
    leading_by (Kept chains place) flush.spared is.to given position streams pages header seven is.short is.header_is p h.holds.distinct knows.spared
    (λ distinct. beside-leads chains place (flat_map plan_writes p.plans) distinct (all_beside flush.spared chains (flat_map plan_writes p.plans) knows.spared p.common.beside))
