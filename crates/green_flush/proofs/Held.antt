-- What loading gives of what the pages may hold while a save is made.
use Rattle.std.proofs.Common.{◌≡◌, ◌⊎◌, ℕ, Bool, true, false, List, Option, Some, None, is_some, refl, sym, ap, ◌∙◌, subst, inl, inr, take, length}
use Rattle.std.specs.Prelude.{Result, Ok, Err, OnErr}
use Rattle.green_io.specs.Areas.{Areas, is_logged}
use Rattle.green_io.specs.Disk.{DiskState, IsDisk, LeavesOnly, LeavesBut, images_now}
use Rattle.page_journal.specs.JournalBytes.{opened}
use Rattle.page_journal.specs.Pages.{Bytes, Pages}
use Rattle.page_chains.specs.Chains.{PlainChain, is_in}
use Rattle.page_journal.specs.JournalView.{JournalView}
use Rattle.page_saves.specs.Resting.{RestsOn}
use Rattle.page_saves.proofs.Keeping.{resting-gives, resting-stays}
use Rattle.page_chains.specs.Headers.{HasHeader, header_mark}
use Rattle.page_saves.specs.Courses.{Saved, Aside, Blank, Kept, Holds}
use Rattle.page_saves.specs.Plans.{kept_chains}
use Rattle.page_flush.specs.declared.stream_bytes.StreamBytes.{StreamBytes}
use Rattle.page_flush.specs.FlushView as pages
use Rattle.page_flush.specs.Saving as streams
use Rattle.page_flush.specs.Saving.{Save, blank_page, MayHold, save_of, GivesAny, HasStreams, IsBlankStart, streams_after, bytes_in}
use Rattle.page_trees.specs.Trees.{PlainTrees, AreTrees}
use Rattle.green_flush.specs.declared.trees.Trees.{Trees}
use Rattle.green_flush.specs.Loads.{TreesAt, ArePlain, Loads}
use Rattle.green_flush.specs.Sound.{AreSound}
use Rattle.green_flush.specs.Standing.{AreCounts, FlushView, Gives, IsSaved, IsStopped, Counts, StandsOn, MayBeSaved, HaveGrown, trees_at, IsOneOf, LoadsOne, IsRenewed}
use Rattle.green_flush.specs.declared.flush.NodeCounts.{NodeCounts}
use Rattle.green_flush.specs.inside.Streaming.{Arenas, ContinuesContents, ContinuesTexts, ContinuesKeys, AreStreamsOf}
use Rattle.enfilade_core.specs.Rows.{Shape}
use Rattle.granfilade.specs.Content.{ContentTree}
use Rattle.spanfilade.specs.Index.{IndexTree}
use Rattle.tumbler.specs.ListView.{ListView}
use Rattle.green_flush.proofs.Given.{May, Whole, Grown, arenas_in, spell}
use mathlib.Core.Path.{fun_ext}

-- ---- loading of pages that hold something

blank-begins : take 8 blank_page ≡ header_mark → ⊥
unfolding blank_page
blank-begins is = absurd cc

some-same : {X : Type 0} (a b : X) → Some a ≡ Some b → a ≡ b
some-same a b is = cc

no-blank : (pages : Pages) (header : Bytes) → header ≡ blank_page → pages 0 ≡ Some header → Loads pages None
no-blank pages header blank there = λ at has.
    let same : has.header.header ≡ header = some-same has.header.header header (sym has.header.is_there.there ∙ there) in
    blank-begins (ap (take 8) (sym blank ∙ sym same) ∙ has.header.marked)

pub loads : (held : Saved) (of : Option TreesAt) → Gives held of → (pages : Pages) → Holds held pages → Loads pages of
loads (Aside found) None gives pages holds = subst (λ (x : Pages). Loads x None) (sym (fun_ext holds)) gives
loads (Aside found) (Some at) gives pages holds = absurd gives
loads (Blank header) None gives pages holds = no-blank pages header gives holds
loads (Blank header) (Some at) gives pages holds = absurd gives
loads (Kept chains position) None gives pages holds = absurd gives
loads (Kept chains position) (Some at) gives pages holds =
    record { chains = chains; header = subst (HasHeader pages chains) (sym gives.2) holds; are = gives.0; sound = gives.1 }

-- ---- what the pages may hold

-- what loading gives of it is one of three
pub record Held (was now next : Option TreesAt) (one : Saved) : Type 0 where
  pub of : Option TreesAt
  pub is : IsOneOf was now next of
  pub gives : Gives one of

may : (flush : FlushView) (to : Saved) (now : Option TreesAt) (plain : PlainTrees) → pages.Knows flush.pages to → Gives to now → Counts flush now →
    ((at : TreesAt) → now ≡ Some at → (flush.pages.kept ≡ None) ⊎ HaveGrown at.trees plain) → May (is_some flush.pages.kept) flush.counts (kept_chains to) plain
may flush (Aside found) now plain knows gives counts grown = Whole (ap is_some knows.1)
may flush (Blank header) now plain knows gives counts grown = Whole (ap is_some knows)
may flush (Kept chains position) None plain knows gives counts grown = absurd gives
may flush (Kept chains position) (Some at) plain knows gives counts grown = elim (grown at refl) [
  | inl none ↦ Whole (ap is_some none)
  | inr more ↦ elim counts [
    | inl none ↦ Whole (ap is_some none)
    | inr counted ↦ Grown at.trees gives.0.streams counted more
  ]
]

none-held : (flush : FlushView) (to : Saved) (now : Option TreesAt) → pages.Knows flush.pages to → Gives to now → flush.pages.needs_blank ≡ true → now ≡ None
none-held flush (Aside found) None knows gives blank = refl
none-held flush (Aside found) (Some at) knows gives blank = absurd gives
none-held flush (Blank header) None knows gives blank = refl
none-held flush (Blank header) (Some at) knows gives blank = absurd gives
none-held flush (Kept chains position) now knows gives blank = let made : flush.pages.needs_blank ≡ false = knows.made in absurd cc

blank-gives : (one : Saved) → IsBlankStart one → Gives one None
blank-gives (Aside found) is = absurd is
blank-gives (Blank header) is = is
blank-gives (Kept chains position) is = absurd is

saved-gives : (one : Saved) (streams : List Bytes) (position : ℕ) (plain : PlainTrees) → HasStreams streams position one →
    ((chains : List PlainChain) → bytes_in chains ≡ streams → AreTrees chains plain) → AreSound plain → Gives one (trees_at plain position)
saved-gives (Aside found) streams position plain has are sound = absurd has
saved-gives (Blank header) streams position plain has are sound = absurd has
saved-gives (Kept chains place) streams position plain has are sound = (are chains has.0, sound, sym has.1)

spelled : (disk : DiskState) (flush : FlushView) (was now : Option TreesAt) (stands : StandsOn disk flush was now) (trees : Trees) (plain : PlainTrees) → MayBeSaved flush now trees plain →
    (given : List StreamBytes) → AreStreamsOf (arenas_in plain) trees.tables.items (is_some flush.pages.kept) flush.counts given →
    (chains : List PlainChain) → bytes_in chains ≡ streams_after (kept_chains stands.to) given → AreTrees chains plain
spelled disk flush was now stands trees plain saved given of chains is = record {
  streams = spell plain trees.tables.items (is_some flush.pages.kept) flush.counts given (kept_chains stands.to) chains of saved.are.tables (may flush stands.to now plain stands.knows stands.is stands.counts saved.grown) is;
  roots = saved.roots;
}

pub held : (disk : DiskState) (flush : FlushView) (was now : Option TreesAt) (stands : StandsOn disk flush was now) (trees : Trees) (plain : PlainTrees) → MayBeSaved flush now trees plain →
    (given : List StreamBytes) (position : ℕ) → AreStreamsOf (arenas_in plain) trees.tables.items (is_some flush.pages.kept) flush.counts given →
    (one : Saved) → MayHold (save_of stands.from stands.to flush.pages given position) one → Held was now (trees_at plain position) one
held disk flush was now stands trees plain saved given position of one holds =
    let are = spelled disk flush was now stands trees plain saved given of in
    elim holds [
      | inl before ↦ elim before [
        | inl same ↦ record { of = was; is = inl (inl refl); gives = subst (λ (x : Saved). Gives x was) (sym same) stands.came }
        | inr same ↦ record { of = now; is = inl (inr refl); gives = subst (λ (x : Saved). Gives x now) (sym same) stands.is }
      ]
      | inr after ↦ elim after [
        | inl blank ↦
            let none = none-held flush stands.to now stands.knows stands.is blank.0 in
            record { of = None; is = inl (inr (sym none)); gives = blank-gives one blank.1 }
        | inr has ↦ record { of = trees_at plain position; is = inr refl; gives = saved-gives one (streams_after (kept_chains stands.to) given) position plain has are saved.sound }
      ]
    ]

loads-one : (was now next of : Option TreesAt) (image : Areas) → IsOneOf was now next of → Loads (opened image) of → LoadsOne was now next image
loads-one was now next of image is gives = elim is [
  | inl before ↦ elim before [
    | inl same ↦ inl (inl (subst (Loads (opened image)) same gives))
    | inr same ↦ inl (inr (subst (Loads (opened image)) same gives))
  ]
  | inr same ↦ inr (subst (Loads (opened image)) same gives)
]

pub image-loads : (disk : DiskState) (flush : FlushView) (was now : Option TreesAt) (stands : StandsOn disk flush was now) (trees : Trees) (plain : PlainTrees) → MayBeSaved flush now trees plain →
    (given : List StreamBytes) (position : ℕ) → AreStreamsOf (arenas_in plain) trees.tables.items (is_some flush.pages.kept) flush.counts given →
    (image : Areas) → GivesAny (save_of stands.from stands.to flush.pages given position) image → LoadsOne was now (trees_at plain position) image
image-loads disk flush was now stands trees plain saved given position of image any =
    let one = held disk flush was now stands trees plain saved given position of any.0 any.1 in
    loads-one was now (trees_at plain position) one.of image one.is (loads any.0 one.of one.gives (opened image) any.2)

-- ---- what is known once each stream is to be written anew

pub renewed-knows : (flush renewed : pages.FlushView) (held : Saved) → renewed.kept ≡ None → renewed.needs_blank ≡ flush.needs_blank → renewed.spared ≡ flush.spared → pages.Knows flush held → pages.Knows renewed held
renewed-knows flush renewed (Aside found) none blank spared knows = (blank ∙ knows.0, none)
renewed-knows flush renewed (Blank header) none blank spared knows = none
renewed-knows flush renewed (Kept chains position) none blank spared knows = record {
  made = blank ∙ knows.made;
  spared = λ k is. subst (λ (x : List ℕ). is_in k x ≡ true) (sym spared) (knows.spared k is);
  kept = subst (λ (x : Option (List pages.StreamView)). pages.Keeps x chains) (sym none) tt;
}

-- the counts tell nothing then
pub renewed-counts : (flush : FlushView) (now : Option TreesAt) → flush.pages.kept ≡ None → Counts flush now
renewed-counts flush None none = tt
renewed-counts flush (Some at) none = inl none

pub renewed-stands : (disk : DiskState) (flush renewed : FlushView) (was now : Option TreesAt) → IsRenewed flush renewed → StandsOn disk flush was now → StandsOn disk renewed was now
renewed-stands disk flush renewed was now is stands = record {
  from = stands.from;
  to = stands.to;
  rests = subst (λ (x : JournalView). RestsOn disk x stands.from stands.to) (sym is.journal) stands.rests;
  knows = renewed-knows flush.pages renewed.pages stands.to is.anew is.needs_blank is.spared stands.knows;
  came = stands.came;
  is = stands.is;
  counts = renewed-counts renewed now is.anew;
}

pub renewed-stopped : (disk : DiskState) (flush renewed : pages.FlushView) (save : Save) → renewed.kept ≡ None → renewed.journal ≡ flush.journal → renewed.needs_blank ≡ flush.needs_blank → renewed.spared ≡ flush.spared →
    streams.IsStopped disk flush save → streams.IsStopped disk renewed save
renewed-stopped disk flush renewed save none journal blank spared stopped = record {
  was = stopped.was;
  saved = stopped.saved;
  may_was = stopped.may_was;
  may = stopped.may;
  rests = subst (λ (x : JournalView). RestsOn disk x stopped.was stopped.saved) (sym journal) stopped.rests;
  knows = renewed-knows flush renewed stopped.saved none blank spared stopped.knows;
}

-- ---- between saves

pub resting-loads : (disk : DiskState) (flush : FlushView) (was now : Option TreesAt) → StandsOn disk flush was now → (image : Areas) → images_now disk image → Loads (opened image) was ⊎ Loads (opened image) now
resting-loads disk flush was now stands image is = elim (resting-gives disk flush.pages.journal stands.from stands.to stands.rests image is) [
  | inl before ↦ inl (loads stands.from was stands.came (opened image) before)
  | inr after ↦ inr (loads stands.to now stands.is (opened image) after)
]

pub log-stays : (old new : DiskState) (flush : FlushView) (was now : Option TreesAt) → IsDisk new → LeavesBut is_logged old new → StandsOn old flush was now → StandsOn new flush was now
log-stays old new flush was now disk leaves stands = record {
  from = stands.from;
  to = stands.to;
  rests = resting-stays old new flush.pages.journal stands.from stands.to disk leaves stands.rests;
  knows = stands.knows;
  came = stands.came;
  is = stands.is;
  counts = stands.counts;
}

-- ---- a save

pub save-stopped : (disk new : DiskState) (flush after : FlushView) (was now : Option TreesAt) (stands : StandsOn disk flush was now) (trees : Trees) (plain : PlainTrees) → MayBeSaved flush now trees plain →
    (given : List StreamBytes) (position : ℕ) → AreStreamsOf (arenas_in plain) trees.tables.items (is_some flush.pages.kept) flush.counts given → after.pages.kept ≡ None →
    streams.IsStopped new after.pages (save_of stands.from stands.to flush.pages given position) → IsStopped new after was now (trees_at plain position)
save-stopped disk new flush after was now stands trees plain saved given position of anew stopped =
    let from = held disk flush was now stands trees plain saved given position of stopped.was stopped.may_was in
    let to = held disk flush was now stands trees plain saved given position of stopped.saved stopped.may in
    record {
      before = from.of;
      after = to.of;
      stands = record { from = stopped.was; to = stopped.saved; rests = stopped.rests; knows = stopped.knows; came = from.gives; is = to.gives; counts = renewed-counts after to.of anew };
      came = from.is;
      is = to.is;
    }

pub save-made : (disk new : DiskState) (flush after : FlushView) (was now : Option TreesAt) (stands : StandsOn disk flush was now) (trees : Trees) (plain : PlainTrees) → MayBeSaved flush now trees plain →
    (given : List StreamBytes) (position : ℕ) → AreStreamsOf (arenas_in plain) trees.tables.items (is_some flush.pages.kept) flush.counts given → AreCounts after.counts plain →
    streams.IsSaved new after.pages (save_of stands.from stands.to flush.pages given position) → IsSaved new after (trees_at plain position)
save-made disk new flush after was now stands trees plain saved given position of counts made =
    let kept = Kept made.chains position in
    let same : bytes_in made.chains ≡ streams_after (kept_chains stands.to) given = made.streams in
    let gives : Gives kept (trees_at plain position) = saved-gives kept (streams_after (kept_chains stands.to) given) position plain (same, refl) (spelled disk flush was now stands trees plain saved given of) saved.sound in
    record {
      stands = record { from = kept; to = kept; rests = inl (inl made.settled); knows = made.knows; came = gives; is = gives; counts = inr counts };
      goes_on = made.goes_on;
    }

-- ---- what a save is given

abbrev pub arenas_of : Trees → Arenas
arenas_of trees = record { granfilade = trees.granfilade.nodes; poom = trees.poom; spanfilade = trees.spanfilade.nodes; from = trees.from.nodes; to = trees.to.nodes; three = trees.three.nodes }

abbrev index-nodes : IndexTree → List (Shape (List ℕ))
index-nodes index = index.nodes

abbrev content-nodes : ContentTree → List (Shape (ListView ℕ))
content-nodes tree = tree.nodes

pub plain-streams : (trees : Trees) (plain : PlainTrees) (bytes : Bytes) (goes_on : Bool) (counts : NodeCounts) (given : List StreamBytes) → ArePlain trees plain →
    AreStreamsOf (arenas_of trees) bytes goes_on counts given → AreStreamsOf (arenas_in plain) bytes goes_on counts given
plain-streams trees plain bytes goes_on counts given are of = record {
  first = of.first;
  second = of.second;
  third = of.third;
  fourth = of.fourth;
  fifth = of.fifth;
  sixth = of.sixth;
  seventh = of.seventh;
  are = of.are;
  granfilade = subst (λ (x : List (Shape (ListView ℕ))). ContinuesContents x goes_on counts.granfilade of.first) (ap content-nodes are.granfilade) of.granfilade;
  poom = subst (λ (x : List (Shape ℕ)). ContinuesTexts x goes_on counts.poom of.second) are.poom of.poom;
  spanfilade = subst (λ (x : List (Shape (List ℕ))). ContinuesKeys x goes_on counts.spanfilade of.third) (ap index-nodes are.spanfilade) of.spanfilade;
  from = subst (λ (x : List (Shape (List ℕ))). ContinuesKeys x goes_on counts.from of.fourth) (ap index-nodes are.from) of.from;
  to = subst (λ (x : List (Shape (List ℕ))). ContinuesKeys x goes_on counts.to of.fifth) (ap index-nodes are.to) of.to;
  three = subst (λ (x : List (Shape (List ℕ))). ContinuesKeys x goes_on counts.three of.sixth) (ap index-nodes are.three) of.three;
  tables = of.tables;
}

-- counts of the arenas
pub record AreCounted (counts : NodeCounts) (trees : Trees) : Type 0 where
  pub granfilade : counts.granfilade ≡ length trees.granfilade.nodes
  pub poom : counts.poom ≡ length trees.poom
  pub spanfilade : counts.spanfilade ≡ length trees.spanfilade.nodes
  pub from : counts.from ≡ length trees.from.nodes
  pub to : counts.to ≡ length trees.to.nodes
  pub three : counts.three ≡ length trees.three.nodes

pub plain-counts : (trees : Trees) (plain : PlainTrees) (counts : NodeCounts) → ArePlain trees plain → AreCounted counts trees → AreCounts counts plain
plain-counts trees plain counts are of = record {
  granfilade = of.granfilade ∙ ap (λ (x : ContentTree). length (content-nodes x)) are.granfilade;
  poom = of.poom ∙ ap (λ (x : List (Shape ℕ)). length x) are.poom;
  spanfilade = of.spanfilade ∙ ap (λ (x : IndexTree). length (index-nodes x)) are.spanfilade;
  from = of.from ∙ ap (λ (x : IndexTree). length (index-nodes x)) are.from;
  to = of.to ∙ ap (λ (x : IndexTree). length (index-nodes x)) are.to;
  three = of.three ∙ ap (λ (x : IndexTree). length (index-nodes x)) are.three;
}

-- ---- the answers of a save

pub leaves-loads : (old new : DiskState) (flush : FlushView) (was now : Option TreesAt) (stands : StandsOn old flush was now) (trees : Trees) (plain : PlainTrees) → MayBeSaved flush now trees plain →
    (given : List StreamBytes) (position : ℕ) → AreStreamsOf (arenas_of trees) trees.tables.items (is_some flush.pages.kept) flush.counts given →
    LeavesOnly old new (GivesAny (save_of stands.from stands.to flush.pages given position)) → LeavesOnly old new (LoadsOne was now (trees_at plain position))
leaves-loads old new flush was now stands trees plain saved given position of leaves =
    let own = plain-streams trees plain trees.tables.items (is_some flush.pages.kept) flush.counts given saved.are of in
    record {
      later = leaves.later;
      keeps = leaves.keeps;
      each = λ t image le is. elim (leaves.each t image le is) [
        | inl before ↦ inl before
        | inr any ↦ inr (image-loads old flush was now stands trees plain saved given position own image any)
      ];
    }

pub on-err : {T E : Type 0} (result : Result T E) (Fact : Type 0) → Fact → OnErr result Fact
on-err (Ok value) Fact fact = tt
on-err (Err fault) Fact fact = fact

pub stopped-own : (disk new : DiskState) (flush after : FlushView) (was now : Option TreesAt) (stands : StandsOn disk flush was now) (trees : Trees) (plain : PlainTrees) → MayBeSaved flush now trees plain →
    (given : List StreamBytes) (position : ℕ) → AreStreamsOf (arenas_of trees) trees.tables.items (is_some flush.pages.kept) flush.counts given → after.pages.kept ≡ None →
    streams.IsStopped new after.pages (save_of stands.from stands.to flush.pages given position) → IsStopped new after was now (trees_at plain position)
stopped-own disk new flush after was now stands trees plain saved given position of anew stopped =
    save-stopped disk new flush after was now stands trees plain saved given position (plain-streams trees plain trees.tables.items (is_some flush.pages.kept) flush.counts given saved.are of) anew stopped

pub made-own : (disk new : DiskState) (flush after : FlushView) (was now : Option TreesAt) (stands : StandsOn disk flush was now) (trees : Trees) (plain : PlainTrees) → MayBeSaved flush now trees plain →
    (given : List StreamBytes) (position : ℕ) → AreStreamsOf (arenas_of trees) trees.tables.items (is_some flush.pages.kept) flush.counts given → AreCounted after.counts trees →
    streams.IsSaved new after.pages (save_of stands.from stands.to flush.pages given position) → IsSaved new after (trees_at plain position)
made-own disk new flush after was now stands trees plain saved given position of counted made =
    save-made disk new flush after was now stands trees plain saved given position (plain-streams trees plain trees.tables.items (is_some flush.pages.kept) flush.counts given saved.are of) (plain-counts trees plain after.counts saved.are counted) made
