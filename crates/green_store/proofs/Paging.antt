-- What steps leave of a store's pages, and what saves leave of its log.
use Rattle.std.proofs.Common.{◌≡◌, ◌⊎◌, inl, inr, ◌∙◌, ℕ, Bool, List, [], length, Option, None, Some, ap, refl, sym, subst}
use Rattle.std.specs.Prelude.{IsSome}
use Rattle.std.proofs.lemmas.List.{append-nil}
use Rattle.febe_data.specs.Plain.{PlainEntry}
use Rattle.entry_codec.specs.Logged.{PlainLogged}
use Rattle.green_io.specs.declared.disk.Area.{Area}
use Rattle.green_io.specs.declared.disk.Area.TheVariants.{Log, Second, Home, Journal}
use Rattle.green_io.specs.Areas.{Areas, is_logged, IsSameBut}
use Rattle.green_io.specs.Disk.{DiskState, IsDisk, LeavesOnly, LeavesBut, ReadsAsBut, IsAsBut, images_now}
use Rattle.green_io.proofs.Beside.{kept_others}
use Rattle.green_io.proofs.Crash.{weaker}
use Rattle.page_journal.specs.Images.{is_paged}
use Rattle.page_journal.specs.JournalBytes.{opened, replayed}
use Rattle.page_journal.specs.Pages.{Pages, pages_of, home_after}
use Rattle.enfilade_core.specs.Rows.{Shape}
use Rattle.enfilade_core.specs.Exchange.{Grows}
use Rattle.enfilade_core.proofs.Rooted.{grows_twice}
use Rattle.world_rules.specs.World.{World}
use Rattle.world_rules.specs.Apply.{world_of}
use Rattle.world_rules.specs.FlatView.{view_of}
use Rattle.world_rules.specs.History.{durable_entries}
use Rattle.world_rules.specs.Laws.{HasContentsOf}
use Rattle.world_rules.proofs.Folded.{folds_to_world}
use Rattle.edit_log.specs.Images.{SecondImages, InSecond}
use Rattle.edit_log.specs.LogView.{LogView}
use Rattle.tree_world.specs.Nodes.{WorldNodes, AllGrown}
use Rattle.tree_world.proofs.Grown.{all_same}
use Rattle.page_trees.specs.Trees.{PlainTrees}
use Rattle.green_flush.specs.Loads.{TreesAt, Loads}
use Rattle.green_flush.specs.Standing.{FlushView, StandsOn, trees_at, LoadsOne, IsSaved, IsStopped, IsRenewed}
use Rattle.green_flush.proofs.Held.{resting-loads, log-stays, renewed-stands}
use Rattle.paged_world.specs.Standing.{StandFor, HaveNodes, HaveGrownFrom, MayGoOn}
use Rattle.green_store.specs.declared.step.Step.{Step}
use Rattle.green_store.specs.declared.step.Step.TheVariants as steps
use Rattle.green_store.specs.declared.step.StepAnswer.{StepAnswer}
use Rattle.green_store.specs.declared.step.StepAnswer.TheVariants as answers
use Rattle.green_store.specs.Durable.{kept_rows, Keeps, LogHas, HoldsWith, IsThat, HoldsStep, KeepsStep, IsDurableRowOf, IsRefusedForDisk}
use Rattle.green_store.specs.IsStep.{IsStep, UnlessTended, UnlessSwept, UnlessFlushed, OnFlushed}
use Rattle.green_store.specs.Paged.{IsPaged, HasPages, LoadsFor, EachLoadsFor, MayLoad}
use Rattle.green_store.specs.StoreView.{StoreView}
use Rattle.green_store.proofs.Edits.{holds_more, stays_kept}
use Rattle.green_store.proofs.Quiet.{background_is_quiet}

-- ---- nodes

grown_again : {L : Type 0} (plain old new : List (Shape L)) → Grows plain old → Grows old new → Grows plain new
grown_again plain old new first then = grows_twice plain old new first then

grown_on : (plain : PlainTrees) (old new : WorldNodes) → AllGrown old new → HaveGrownFrom plain old → HaveGrownFrom plain new
grown_on plain old new grown have = record {
  contents = grown_again plain.granfilade old.contents new.contents have.contents grown.contents;
  documents = grown_again plain.poom old.documents new.documents have.documents grown.documents;
  index = grown_again plain.spanfilade old.index new.index have.index grown.index;
  from = grown_again plain.from old.from new.from have.from grown.from;
  to = grown_again plain.to old.to new.to have.to grown.to;
  three = grown_again plain.three old.three new.three have.three grown.three;
}

goes_on : (flush : FlushView) (now : Option TreesAt) (old new : WorldNodes) → AllGrown old new → MayGoOn flush now old → MayGoOn flush now new
goes_on flush now old new grown may at is = elim (may at is) [ inl none ↦ inl none | inr have ↦ inr (grown_on at.trees old new grown have) ]

grown_none : {L : Type 0} (old new : List (Shape L)) → old ≡ new → Grows old new
grown_none old new same = record { more = []; is = sym same ∙ sym (append-nil old) }

grown_from : (plain : PlainTrees) (nodes : WorldNodes) → HaveNodes plain nodes → HaveGrownFrom plain nodes
grown_from plain nodes have = record {
  contents = grown_none plain.granfilade nodes.contents have.contents;
  documents = grown_none plain.poom nodes.documents have.documents;
  index = grown_none plain.spanfilade nodes.index have.index;
  from = grown_none plain.from nodes.from have.from;
  to = grown_none plain.to nodes.to have.to;
  three = grown_none plain.three nodes.three have.three;
}

pub same_grown : (old new : WorldNodes) → new ≡ old → AllGrown old new
same_grown old new same = subst (AllGrown old) (sym same) (all_same old)

-- ---- a store whose nodes have grown has its pages

module _ (before after : StoreView) (flush_stays : after.flush ≡ before.flush) (grown : AllGrown before.nodes after.nodes) where
  paged : (disk : DiskState) (was now : Option TreesAt) → IsPaged disk before was now → IsPaged disk after was now
  paged disk was now has = record {
    stands = subst (λ (f : FlushView). StandsOn disk f was now) (sym flush_stays) has.stands;
    goes_on = subst (λ (f : FlushView). MayGoOn f now after.nodes) (sym flush_stays) (goes_on before.flush now before.nodes after.nodes grown has.goes_on);
  }

  pub stay_paged : (disk : DiskState) → HasPages disk before → HasPages disk after
  stay_paged disk has = record { was = has.was; now = has.now; paged = paged disk has.was has.now has.paged }

moved : (old new : DiskState) (store : StoreView) → IsDisk new → LeavesBut is_logged old new → HasPages old store → HasPages new store
moved old new store disk leaves has = record {
  was = has.was;
  now = has.now;
  paged = record { stands = log-stays old new store.flush has.was has.now disk leaves has.paged.stands; goes_on = has.paged.goes_on };
}

-- ---- steps that put nothing right

-- what is known of the pages stays, and nodes only come in
pub record KeepsPages (before after : StoreView) : Type 0 where
  pub flush : after.flush ≡ before.flush
  pub flushed : after.flushed ≡ before.flushed
  pub grown : AllGrown before.nodes after.nodes

as_it_was : (before after was : StoreView) → was.flush ≡ before.flush → was.flushed ≡ before.flushed → was.nodes ≡ before.nodes → after ≡ was → KeepsPages before after
as_it_was before after was flush flushed nodes is = record {
  flush = ap (λ (v : StoreView). v.flush) is ∙ flush;
  flushed = ap (λ (v : StoreView). v.flushed) is ∙ flushed;
  grown = same_grown before.nodes after.nodes (ap (λ (v : StoreView). v.nodes) is ∙ nodes);
}

pub not_tended : (before after : StoreView) (step : Step) (answer : StepAnswer) (rose : Bool) → IsStep before step after answer rose → UnlessTended step (KeepsPages before after)
not_tended before after steps.Background answer rose step = tt
not_tended before after steps.Begin (answers.Begun session) rose step = as_it_was before after _ refl refl refl step.grows
not_tended before after steps.Begin answers.NoNumber rose step = as_it_was before after _ refl refl refl step.stays
not_tended before after steps.Begin answers.Memory rose step = as_it_was before after _ refl refl refl step.stays
not_tended before after (steps.Ask session request) (answers.Reply reply point) rose step = record { flush = step.pages_stay.flush; flushed = step.pages_stay.flushed; grown = step.grown }
not_tended before after (steps.Ask session request) answers.NoSession rose step = as_it_was before after _ refl refl refl step.stays
not_tended before after (steps.End session) answers.Ended rose step = as_it_was before after _ refl refl refl step.grows
not_tended before after (steps.End session) answers.NoSession rose step = as_it_was before after _ refl refl refl step.stays
not_tended before after other answer rose step = absurd step

pub not_flushed : (before after : StoreView) (step : Step) (answer : StepAnswer) (rose : Bool) (fact : Type 0) → IsStep before step after answer rose → UnlessTended step (OnFlushed answer fact)
not_flushed before after steps.Background answer rose fact step = tt
not_flushed before after steps.Begin answers.Flushed rose fact step = absurd step
not_flushed before after (steps.Ask session request) answers.Flushed rose fact step = absurd step
not_flushed before after (steps.End session) answers.Flushed rose fact step = absurd step
not_flushed before after other answer rose fact step = tt

pub flushed_stays : (before after : StoreView) (step : Step) (answer : StepAnswer) (rose : Bool) → IsStep before step after answer rose → UnlessFlushed answer (after.flushed ≡ before.flushed)
flushed_stays before after steps.Begin (answers.Begun session) rose step = ap (λ (v : StoreView). v.flushed) step.grows
flushed_stays before after steps.Begin answers.NoNumber rose step = ap (λ (v : StoreView). v.flushed) step.stays
flushed_stays before after steps.Begin answers.Memory rose step = ap (λ (v : StoreView). v.flushed) step.stays
flushed_stays before after (steps.Ask session request) (answers.Reply reply point) rose step = step.pages_stay.flushed
flushed_stays before after (steps.Ask session request) answers.NoSession rose step = ap (λ (v : StoreView). v.flushed) step.stays
flushed_stays before after (steps.End session) answers.Ended rose step = ap (λ (v : StoreView). v.flushed) step.grows
flushed_stays before after (steps.End session) answers.NoSession rose step = ap (λ (v : StoreView). v.flushed) step.stays
flushed_stays before after steps.Background answers.Balanced rose step = step.pages_stay.flushed
flushed_stays before after steps.Background answers.Flushed rose step = tt
flushed_stays before after steps.Background answers.Disk rose step = ap (λ (v : StoreView). v.flushed) step.still
flushed_stays before after steps.Background answers.Swept rose step = step.flushed_stays
flushed_stays before after steps.Background answers.Idle rose step = ap (λ (v : StoreView). v.flushed) step.stays
flushed_stays before after steps.Background answers.Memory rose step = ap (λ (v : StoreView). v.flushed) step.still
flushed_stays before after other answer rose step = absurd step

-- ---- background steps

pub background_limits : (before after : StoreView) (answer : StepAnswer) (rose : Bool) → IsStep before steps.Background after answer rose → after.limits ≡ before.limits
background_limits before after answers.Balanced rose step = step.still.limits
background_limits before after answers.Flushed rose step = ap (λ (v : StoreView). v.limits) step.still
background_limits before after answers.Disk rose step = ap (λ (v : StoreView). v.limits) step.still
background_limits before after answers.Swept rose step = step.still.limits
background_limits before after answers.Idle rose step = ap (λ (v : StoreView). v.limits) step.stays
background_limits before after answers.Memory rose step = ap (λ (v : StoreView). v.limits) step.still
background_limits before after other rose step = absurd step

pub background_base : (before after : StoreView) (answer : StepAnswer) (rose : Bool) → IsStep before steps.Background after answer rose → UnlessSwept answer (after.base ≡ before.base)
background_base before after answers.Balanced rose step = step.base_stays
background_base before after answers.Flushed rose step = ap (λ (v : StoreView). v.base) step.still
background_base before after answers.Disk rose step = ap (λ (v : StoreView). v.base) step.still
background_base before after answers.Swept rose step = tt
background_base before after answers.Idle rose step = ap (λ (v : StoreView). v.base) step.stays
background_base before after answers.Memory rose step = ap (λ (v : StoreView). v.base) step.still
background_base before after other rose step = absurd step

pub kept_paged : (old new : DiskState) (before after : StoreView) → IsDisk new → LeavesBut is_logged old new → KeepsPages before after → HasPages old before → HasPages new after
kept_paged old new before after disk leaves keeps has = stay_paged before after keeps.flush keeps.grown new (moved old new before disk leaves has)

-- ---- images, while the log alone is touched

same_pages : (was image : Areas) → IsSameBut is_logged was image → opened was ≡ opened image
same_pages was image same =
    ap (λ (home : List ℕ). pages_of (home_after (replayed was.journal) home)) (sym (same Home refl))
    ∙ ap (λ (journal : List ℕ). pages_of (home_after (replayed journal) image.home)) (sym (same Journal refl))

loads_as : (was image : Areas) (now : Option TreesAt) → IsSameBut is_logged was image → Loads (opened was) now → Loads (opened image) now
loads_as was image now same loads = subst (λ (pages : Pages). Loads pages now) (same_pages was image same) loads

pub log_leaves : (old new : DiskState) (store : StoreView) (was now : Option TreesAt) (entries : List PlainEntry) → LeavesBut is_logged old new → IsPaged old store was now → LeavesOnly old new (MayLoad was now entries)
log_leaves old new store was now entries leaves has =
    weaker old new (IsAsBut is_logged (images_now old)) (MayLoad was now entries) leaves.images
    (λ image left. elim (resting-loads old store.flush was now has.stands left.0 left.1) [
      | inl one ↦ inl (inl (loads_as left.0 image was left.2 one))
      | inr one ↦ inl (inr (loads_as left.0 image now left.2 one))
    ])

-- ---- the log, while pages are written

is_told : (touched : Area → Bool) (old new : Option Areas) → ReadsAsBut touched old new → IsSome old → IsSome new
is_told touched None None reads told = told
is_told touched None (Some new) reads told = absurd reads
is_told touched (Some old) None reads told = absurd reads
is_told touched (Some old) (Some new) reads told = refl

images_stay : (old new : DiskState) (end : ℕ) (front : List ℕ) (fact : List ℕ → Type 0) → IsDisk new → LeavesBut is_paged old new → SecondImages old end front fact → SecondImages new end front fact
images_stay old new end front fact disk leaves images = record {
  told = is_told is_paged old.reads new.reads leaves.reads images.told;
  at_end = images.at_end;
  each = kept_others is_paged old new (InSecond fact) disk leaves (λ i j same has. subst fact (sym (same Second refl)) has) images.each;
}

pub log_stays : (old new : DiskState) (log : LogView) (rows : List PlainLogged) (pending : Option PlainLogged) → IsDisk new → LeavesBut is_paged old new → LogHas old log rows pending → LogHas new log rows pending
log_stays old new log rows None disk leaves has = record { idle = has.idle; images = images_stay old new log.end _ _ disk leaves has.images }
log_stays old new log rows (Some row) disk leaves has = (has.0, record { images = images_stay old new log.end _ _ disk leaves has.1.images; busy = has.1.busy })

holds_as : (rows : List PlainLogged) (MayCome : PlainLogged → Type 0) (was image : Areas) → IsSameBut is_paged was image → HoldsWith rows MayCome was → HoldsWith rows MayCome image
holds_as rows MayCome was image same holds =
    let P : List ℕ → List ℕ → Type 0 = λ log second. HoldsWith rows MayCome (record was { log = log; second = second }) in
    subst (P image.log) (sym (same Second refl)) (subst (λ (log : List ℕ). P log was.second) (sym (same Log refl)) holds)

module _ (old new : DiskState) (before : StoreView) (pending : Option PlainLogged) (moment : ℕ) where
  pub save_leaves : LeavesBut is_paged old new → ((image : Areas) → images_now old image → HoldsWith (kept_rows before) (IsThat pending) image) → LeavesOnly old new (HoldsStep before pending moment steps.Background)
  save_leaves leaves kept =
      weaker old new (IsAsBut is_paged (images_now old)) (HoldsStep before pending moment steps.Background) leaves.images
      (λ image left. holds_more (kept_rows before) (IsThat pending) (λ row. IsThat pending row ⊎ IsDurableRowOf before moment steps.Background row) (λ row that. inl that) image
      (holds_as (kept_rows before) (IsThat pending) left.0 image left.2 (kept left.0 left.1)))

  pub save_keeps : (after : StoreView) (answer : StepAnswer) → IsDisk new → LeavesBut is_paged old new → durable_entries after.history ≡ durable_entries before.history → after.moments ≡ before.moments → after.log ≡ before.log
      → Keeps old before pending → KeepsStep before pending moment steps.Background after answer new
  save_keeps after answer disk leaves none_kept moments same_log has =
      stays_kept before after new (λ row. IsDurableRowOf before moment steps.Background row × IsRefusedForDisk answer) pending none_kept moments same_log
      (log_stays old new before.log (kept_rows before) pending disk leaves has)

-- a background step that leaves the disk alone
pub still_keeps : (disk : DiskState) (before after : StoreView) (answer : StepAnswer) (rose : Bool) (pending : Option PlainLogged) (moment : ℕ) → IsStep before steps.Background after answer rose → Keeps disk before pending
    → KeepsStep before pending moment steps.Background after answer disk
still_keeps disk before after answer rose pending moment step has =
    let quiet = background_is_quiet before after answer rose step in
    stays_kept before after disk (λ row. IsDurableRowOf before moment steps.Background row × IsRefusedForDisk answer) pending quiet.none_kept quiet.moments_stay quiet.same_log has

-- ---- a save

-- the kept entries alone build what the trees stand for
stand_for_kept : (plain : PlainTrees) (history : List PlainEntry) → HasContentsOf (world_of (durable_entries history)) (world_of history) → StandFor plain (view_of history).world → StandFor plain (world_of (durable_entries history))
stand_for_kept plain history kept stand =
    let folds = folds_to_world history in
    record {
      trees = stand.trees;
      view = stand.view;
      are = stand.are;
      stand = stand.stand;
      same = record {
        documents = stand.same.documents ∙ ap (λ (w : World). w.documents) folds ∙ sym kept.documents;
        rows = stand.same.rows ∙ ap (λ (w : World). w.rows) folds ∙ sym kept.rows;
        bytes = stand.same.bytes ∙ ap (λ (w : World). w.bytes) folds ∙ sym kept.bytes;
        links = stand.same.links ∙ ap (λ (w : World). w.links) folds ∙ sym kept.links;
      };
    }

module _ (plain : PlainTrees) (history : List PlainEntry) (position : ℕ) (kept : HasContentsOf (world_of (durable_entries history)) (world_of history)) (stand : StandFor plain (view_of history).world) (counted : position ≡ length (durable_entries history)) where
  loads_for : (image : Areas) → Loads (opened image) (trees_at plain position) → LoadsFor (durable_entries history) image
  loads_for image loads = record {
    plain = plain;
    stand = stand_for_kept plain history kept stand;
    loads = subst (λ (n : ℕ). Loads (opened image) (trees_at plain n)) counted loads;
  }

  pub save_loads : (old new : DiskState) (was now : Option TreesAt) → LeavesOnly old new (LoadsOne was now (trees_at plain position)) → LeavesOnly old new (MayLoad was now (durable_entries history))
  save_loads old new was now leaves =
      weaker old new (LoadsOne was now (trees_at plain position)) (MayLoad was now (durable_entries history)) leaves
      (λ image one. elim one [ inl before ↦ inl before | inr next ↦ inr (loads_for image next) ])

  pub saved_load : (disk : DiskState) (flush : FlushView) → IsSaved disk flush (trees_at plain position) → EachLoadsFor (durable_entries history) disk
  saved_load disk flush saved image is = elim (resting-loads disk flush (trees_at plain position) (trees_at plain position) saved.stands image is) [
    | inl one ↦ loads_for image one
    | inr one ↦ loads_for image one
  ]

some_is : (a b : TreesAt) → (let x : Option TreesAt = Some a in x) ≡ Some b → a ≡ b
some_is a b is = cc

pub saved_paged : (disk : DiskState) (store : StoreView) (plain : PlainTrees) (position : ℕ) → HaveNodes plain store.nodes → IsSaved disk store.flush (trees_at plain position) → HasPages disk store
saved_paged disk store plain position have saved = record {
  was = trees_at plain position;
  now = trees_at plain position;
  paged = record {
    stands = saved.stands;
    goes_on = λ at is. inr (subst (λ (one : TreesAt). HaveGrownFrom one.trees store.nodes) (some_is (record { trees = plain; position = position }) at is) (grown_from plain store.nodes have));
  };
}

pub stopped_paged : (D : Type 0) (state : D → DiskState) (old new : D) (before after : StoreView) (was now next : Option TreesAt) → IsStopped (state new) after.flush was now next → after.nodes ≡ before.nodes
    → ((after.flush ≡ before.flush) × (new ≡ old)) ⊎ (after.flush.pages.kept ≡ None) → HasPages (state old) before → HasPages (state new) after
stopped_paged D state old new before after was now next stopped nodes (inl same) has =
    subst (λ (d : D). HasPages (state d) after) (sym same.1) (stay_paged before after same.0 (same_grown before.nodes after.nodes nodes) (state old) has)
stopped_paged D state old new before after was now next stopped nodes (inr anew) has = record {
  was = stopped.before;
  now = stopped.after;
  paged = record { stands = stopped.stands; goes_on = λ at is. inl anew };
}

-- ---- a sweep

pub swept_paged : (disk : DiskState) (before after : StoreView) → IsRenewed before.flush after.flush → HasPages disk before → HasPages disk after
swept_paged disk before after renewed has = record {
  was = has.was;
  now = has.now;
  paged = record { stands = renewed-stands disk before.flush after.flush has.was has.now renewed has.paged.stands; goes_on = λ at is. inl renewed.anew };
}
