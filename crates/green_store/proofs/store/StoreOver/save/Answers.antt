-- A save of all trees, over a store whose trees stand for its history.
use Rattle.std.proofs.Common.{◌≡◌, ◌≤◌, ◌∙◌, ℕ, Option, length, ap, refl, sym, subst, true, arith}
use Rattle.std.specs.Prelude.{IsTrue, nat_le}
use Rattle.std.proofs.lemmas.Bool.Decides.{nat_tests}
use Rattle.febe_data.specs.Plain.{plain_history}
use Rattle.green_io.specs.Outside.{HasRisen}
use Rattle.green_io.specs.Disk.{LeavesOnly}
use Rattle.world_rules.specs.FlatView.{view_of}
use Rattle.world_rules.specs.History.{durable_entries}
use Rattle.world_rules.proofs.Folded.{counts_kept, folds_to_world}
use Rattle.world_rules.proofs.Kept.{keeps_contents}
use Rattle.green_flush.specs.Loads.{TreesAt}
use Rattle.green_flush.specs.Standing.{trees_at}
use Rattle.paged_world.specs.Standing.{StandFor}
use Rattle.green_store.specs.declared.step.StepAnswer.TheVariants as answers
use Rattle.green_store.specs.Durable.{has_risen}
use Rattle.green_store.specs.Paged.{IsPaged, HasPages, MayLoad}
use Rattle.green_store.specs.StoreView.{StoreView}
use Rattle.green_store.proofs.Paging.{save_leaves, save_keeps, save_loads, saved_load, saved_paged, stopped_paged}
use Rattle.green_store.proofs.Saving.{made, stopped, put_off}
use Rattle.green_store.proofs.store.StoreOver.save.Given as given
use Rattle.green_store.proofs.store.StoreOver.save.Goals as goal
use Rattle.green_store.proofs.store.StoreOver.save.Goals.{After-save}

pub save-requires : goal.save-requires
save-requires g c =
    let h = plain_history c.self.inside.history.items in
    (view_of h, c.self.invariant.world_stands, record { history = h; placed = c.self.invariant.regular.placed; world = folds_to_world h })

-- the store, but for what the save changes
abbrev inside : (g : given.Over) → After-save g → StoreView
inside g c = record {
  history = plain_history c.self.inside.history.items;
  moments = c.self.inside.moments.items;
  limits = c.self.inside.limits;
  log = c.self.inside.log;
  trees = g.W.Rebalance.condition c.self.inside.world;
  base = c.self.inside.base;
  nodes = g.W.Rebalance.world_nodes c.self.inside.world;
  flush = c.self.inside.flush;
  flushed = c.self.inside.flushed;
}

abbrev done : (g : given.Over) → After-save g → StoreView
done g c = record (inside g c) { flush = c.save.new.flush; flushed = c.counted-kept.result }

abbrev failed : (g : given.Over) → After-save g → StoreView
failed g c = record (inside g c) { flush = c.save.new.flush }

counted : (g : given.Over) (c : After-save g) → c.counted-kept.result ≡ length (durable_entries (plain_history c.self.inside.history.items))
counted g c = let h = plain_history c.self.inside.history.items in c.counted-kept.ensures (view_of h) c.self.invariant.world_stands ∙ counts_kept h

stand : (g : given.Over) (c : After-save g) → StandFor (g.W.OnPages.pages c.self.inside.world) (view_of (plain_history c.self.inside.history.items)).world
stand g c = c.save.ensures.stand (view_of (plain_history c.self.inside.history.items)) c.self.invariant.world_stands

paged : (g : given.Over) (c : After-save g) (was now : Option TreesAt) → IsPaged (g.D.Disk.state c.args.disk.now) c.args.self.now was now → IsPaged (g.D.Disk.state c.args.disk.now) (inside g c) was now
paged g c was now has = subst (λ (v : StoreView). IsPaged (g.D.Disk.state c.args.disk.now) v was now) (sym c.self.view_is) has

has_pages : (g : given.Over) (c : After-save g) → HasPages (g.D.Disk.state c.args.disk.now) c.args.self.now → HasPages (g.D.Disk.state c.args.disk.now) (inside g c)
has_pages g c has = subst (λ (v : StoreView). HasPages (g.D.Disk.state c.args.disk.now) v) (sym c.self.view_is) has

any_load : (g : given.Over) (c : After-save g) (was now : Option TreesAt) → IsPaged (g.D.Disk.state c.args.disk.now) c.args.self.now was now
    → LeavesOnly (g.D.Disk.state c.args.disk.now) (g.D.Disk.state c.save.new.disk) (MayLoad was now (durable_entries c.args.self.now.history))
any_load g c was now has =
    let h = plain_history c.self.inside.history.items in
    let old = g.D.Disk.state c.args.disk.now in
    let new = g.D.Disk.state c.save.new.disk in
    let p = paged g c was now has in
    subst (λ (v : StoreView). LeavesOnly old new (MayLoad was now (durable_entries v.history))) c.self.view_is
    (save_loads (g.W.OnPages.pages c.self.inside.world) h c.counted-kept.result (keeps_contents h) (stand g c) (counted g c) old new was now (c.save.ensures.any_moment was now p.stands p.goes_on))

none_kept : (g : given.Over) (c : After-save g) → durable_entries (plain_history c.self.inside.history.items) ≡ durable_entries c.args.self.now.history
none_kept g c = ap (λ (v : StoreView). durable_entries v.history) c.self.view_is

risen : (a b : ℕ) → HasRisen a b → IsTrue (has_risen a b)
risen a b h = within _ b h
  where
    within : (m n : ℕ) → m ≤ n → nat_le m n ≡ true
    within m n le = grind (arith, nat_tests)

-- ---- all is written

pub invariant_of-self : goal.invariant_of-self
invariant_of-self g c = record {
  world_stands = c.self.invariant.world_stands;
  live_are = c.self.invariant.live_are;
  greatest_is = c.self.invariant.greatest_is;
  room_kept = c.self.invariant.room_kept;
  regular = c.self.invariant.regular;
  timed_all = c.self.invariant.timed_all;
  entries = c.self.invariant.entries;
  saved = omega (arith, counted g (goal.at.invariant_of-self g c).After-save);
}

pub returns-in-Ok-clause-step : goal.returns-in-Ok-clause-step
returns-in-Ok-clause-step g c = let here = (goal.at.returns-in-Ok-clause-step g c).After-save in made (inside g here) c.args.self.now c.self.view_is c.requires c.save.new.flush c.counted-kept.result (counted g here)

pub returns-in-Ok-clause-any_moment : goal.returns-in-Ok-clause-any_moment
returns-in-Ok-clause-any_moment g c moment pending has = save_leaves (g.D.Disk.state c.args.disk.now) (g.D.Disk.state c.save.new.disk) c.args.self.now pending moment c.save.ensures.others (c.images_are_kept.ensures pending has)

pub returns-in-Ok-clause-keeps : goal.returns-in-Ok-clause-keeps
returns-in-Ok-clause-keeps g c moment pending has =
    let here = (goal.at.returns-in-Ok-clause-keeps g c).After-save in
    save_keeps (g.D.Disk.state c.args.disk.now) (g.D.Disk.state c.save.new.disk) c.args.self.now pending moment (done g here) answers.Flushed (g.met.D.Disk.is_disk c.save.new.disk) c.save.ensures.others (none_kept g here) (ap (λ (v : StoreView). v.moments) c.self.view_is) (ap (λ (v : StoreView). v.log) c.self.view_is) has

pub returns-in-Ok-clause-pages : goal.returns-in-Ok-clause-pages
returns-in-Ok-clause-pages g c has =
    let here = (goal.at.returns-in-Ok-clause-pages g c).After-save in
    let p = has_pages g here has in
    saved_paged (g.D.Disk.state c.save.new.disk) (done g here) (g.W.OnPages.pages c.self.inside.world) c.counted-kept.result c.save.ensures.nodes (c.in-Ok.ensures.done p.was p.now p.paged.stands p.paged.goes_on)

pub returns-in-Ok-clause-pages_any_moment : goal.returns-in-Ok-clause-pages_any_moment
returns-in-Ok-clause-pages_any_moment g c = any_load g (goal.at.returns-in-Ok-clause-pages_any_moment g c).After-save

pub returns-in-Ok-clause-flushed : goal.returns-in-Ok-clause-flushed
returns-in-Ok-clause-flushed g c has =
    let here = (goal.at.returns-in-Ok-clause-flushed g c).After-save in
    let h = plain_history c.self.inside.history.items in
    let p = has_pages g here has in
    saved_load (g.W.OnPages.pages c.self.inside.world) h c.counted-kept.result (keeps_contents h) (stand g here) (counted g here) (g.D.Disk.state c.save.new.disk) c.save.new.flush (c.in-Ok.ensures.done p.was p.now p.paged.stands p.paged.goes_on)

-- ---- the disk failed

pub returns-in-Err-Disk-clause-step : goal.returns-in-Err-Disk-clause-step
returns-in-Err-Disk-clause-step g c =
    let here = (goal.at.returns-in-Err-Disk-clause-step g c).After-save in
    stopped (inside g here) c.args.self.now c.self.view_is c.requires c.save.new.flush _ (risen (g.D.Disk.fault_count c.args.disk.now) (g.D.Disk.fault_count c.save.new.disk) (rw c.in-Err-Disk.field-0-is at c.in-Err-Disk.ensures.failed))

pub returns-in-Err-Disk-clause-any_moment : goal.returns-in-Err-Disk-clause-any_moment
returns-in-Err-Disk-clause-any_moment g c moment pending has = save_leaves (g.D.Disk.state c.args.disk.now) (g.D.Disk.state c.save.new.disk) c.args.self.now pending moment c.save.ensures.others (c.images_are_kept.ensures pending has)

pub returns-in-Err-Disk-clause-keeps : goal.returns-in-Err-Disk-clause-keeps
returns-in-Err-Disk-clause-keeps g c moment pending has =
    let here = (goal.at.returns-in-Err-Disk-clause-keeps g c).After-save in
    save_keeps (g.D.Disk.state c.args.disk.now) (g.D.Disk.state c.save.new.disk) c.args.self.now pending moment (failed g here) answers.Disk (g.met.D.Disk.is_disk c.save.new.disk) c.save.ensures.others (none_kept g here) (ap (λ (v : StoreView). v.moments) c.self.view_is) (ap (λ (v : StoreView). v.log) c.self.view_is) has

pub returns-in-Err-Disk-clause-pages : goal.returns-in-Err-Disk-clause-pages
returns-in-Err-Disk-clause-pages g c has =
    let here = (goal.at.returns-in-Err-Disk-clause-pages g c).After-save in
    let p = has_pages g here has in
    stopped_paged _ g.D.Disk.state c.args.disk.now c.save.new.disk (inside g here) (failed g here) p.was p.now (trees_at (g.W.OnPages.pages c.self.inside.world) c.counted-kept.result)
    (c.in-Err-Disk.ensures.fails p.was p.now p.paged.stands p.paged.goes_on) refl c.in-Err-Disk.ensures.anew p

pub returns-in-Err-Disk-clause-pages_any_moment : goal.returns-in-Err-Disk-clause-pages_any_moment
returns-in-Err-Disk-clause-pages_any_moment g c = any_load g (goal.at.returns-in-Err-Disk-clause-pages_any_moment g c).After-save

-- ---- there was no memory

pub returns-in-Err-Memory-clause-step : goal.returns-in-Err-Memory-clause-step
returns-in-Err-Memory-clause-step g c = put_off (inside g (goal.at.returns-in-Err-Memory-clause-step g c).After-save) c.args.self.now c.self.view_is c.requires c.save.new.flush

pub returns-in-Err-Memory-clause-any_moment : goal.returns-in-Err-Memory-clause-any_moment
returns-in-Err-Memory-clause-any_moment g c moment pending has = save_leaves (g.D.Disk.state c.args.disk.now) (g.D.Disk.state c.save.new.disk) c.args.self.now pending moment c.save.ensures.others (c.images_are_kept.ensures pending has)

pub returns-in-Err-Memory-clause-keeps : goal.returns-in-Err-Memory-clause-keeps
returns-in-Err-Memory-clause-keeps g c moment pending has =
    let here = (goal.at.returns-in-Err-Memory-clause-keeps g c).After-save in
    save_keeps (g.D.Disk.state c.args.disk.now) (g.D.Disk.state c.save.new.disk) c.args.self.now pending moment (failed g here) answers.Memory (g.met.D.Disk.is_disk c.save.new.disk) c.save.ensures.others (none_kept g here) (ap (λ (v : StoreView). v.moments) c.self.view_is) (ap (λ (v : StoreView). v.log) c.self.view_is) has

pub returns-in-Err-Memory-clause-pages : goal.returns-in-Err-Memory-clause-pages
returns-in-Err-Memory-clause-pages g c has =
    let here = (goal.at.returns-in-Err-Memory-clause-pages g c).After-save in
    let p = has_pages g here has in
    stopped_paged _ g.D.Disk.state c.args.disk.now c.save.new.disk (inside g here) (failed g here) p.was p.now (trees_at (g.W.OnPages.pages c.self.inside.world) c.counted-kept.result)
    (c.in-Err-Memory.ensures.fails p.was p.now p.paged.stands p.paged.goes_on) refl c.in-Err-Memory.ensures.anew p

pub returns-in-Err-Memory-clause-pages_any_moment : goal.returns-in-Err-Memory-clause-pages_any_moment
returns-in-Err-Memory-clause-pages_any_moment g c = any_load g (goal.at.returns-in-Err-Memory-clause-pages_any_moment g c).After-save
