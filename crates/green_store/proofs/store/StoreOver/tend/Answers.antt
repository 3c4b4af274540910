-- First the balancer, then the pages, then nodes that no tree reaches.
use Rattle.std.proofs.Common.{◌≡◌, ◌<◌, ◌≤◌, ◌∙◌, ℕ, true, false, Option, ap, sym, subst, arith}
use Rattle.entry_codec.specs.Logged.{PlainLogged}
use Rattle.green_io.specs.Disk.{LeavesOnly}
use Rattle.green_io.proofs.Beside.{untouched_others}
use Rattle.green_io.proofs.Crash.{none_called}
use Rattle.page_journal.specs.Images.{is_paged}
use Rattle.world_rules.specs.History.{durable_entries}
use Rattle.green_flush.specs.Loads.{TreesAt}
use Rattle.green_store.specs.declared.step.Step.TheVariants as steps
use Rattle.green_store.specs.declared.step.StepAnswer.TheVariants as answers
use Rattle.green_store.specs.Durable.{has_risen, Keeps, HoldsStep, KeepsStep}
use Rattle.green_store.specs.inside.{IsSpared}
use Rattle.green_store.specs.IsStep.{IsStep, OnFlushed, unsaved}
use Rattle.green_store.specs.Paged.{IsPaged, HasPages, EachLoadsFor, MayLoad}
use Rattle.green_store.specs.StoreView.{StoreView}
use Rattle.green_store.proofs.Paging.{background_limits, still_keeps, stay_paged, same_grown}
use Rattle.green_store.proofs.Saving.{balanced_so, idle_so, not_balanced, is_many, are_few, spared_paged, spared_flushes_none}
use Rattle.green_store.proofs.store.StoreOver.tend.Given as given
use Rattle.green_store.proofs.store.StoreOver.tend.Goals as goal
use Rattle.green_store.proofs.store.StoreOver.tend.Goals.{After-may_flush}

-- ---- there was no memory for the balancer

pub returns-in_default-clause-step : goal.returns-in_default-clause-step
returns-in_default-clause-step g c = not_balanced c.args.self.now c.balance.new.self c.in_default.ensures.0 c.in_default.ensures.1

pub returns-in_default-clause-limits : goal.returns-in_default-clause-limits
returns-in_default-clause-limits g c = ap (λ (v : StoreView). v.limits) c.in_default.ensures.1

pub returns-in_default-clause-any_moment : goal.returns-in_default-clause-any_moment
returns-in_default-clause-any_moment g c moment pending has = none_called (g.D.Disk.state c.args.disk.now) (HoldsStep c.args.self.now pending moment steps.Background)

pub returns-in_default-clause-keeps : goal.returns-in_default-clause-keeps
returns-in_default-clause-keeps g c moment pending has =
    still_keeps (g.D.Disk.state c.args.disk.now) c.args.self.now c.balance.new.self answers.Memory true pending moment (not_balanced c.args.self.now c.balance.new.self c.in_default.ensures.0 c.in_default.ensures.1) has

pub returns-in_default-clause-pages : goal.returns-in_default-clause-pages
returns-in_default-clause-pages g c has =
    let same = c.in_default.ensures.1 in
    stay_paged c.args.self.now c.balance.new.self (ap (λ (v : StoreView). v.flush) same) (same_grown _ _ (ap (λ (v : StoreView). v.nodes) same)) (g.D.Disk.state c.args.disk.now) has

pub returns-in_default-clause-pages_any_moment : goal.returns-in_default-clause-pages_any_moment
returns-in_default-clause-pages_any_moment g c was now paged = none_called (g.D.Disk.state c.args.disk.now) (MayLoad was now (durable_entries c.args.self.now.history))

pub returns-in_default-clause-log : goal.returns-in_default-clause-log
returns-in_default-clause-log g c = untouched_others is_paged (g.D.Disk.state c.args.disk.now)

-- ---- a step of the balancer was made

pub returns-then-balanced-clause-step : goal.returns-then-balanced-clause-step
returns-then-balanced-clause-step g c = balanced_so c.in-Ok.balanced c.args.self.now c.balance.new.self c.in-Ok.ensures c.if-balanced.true

pub returns-then-balanced-clause-limits : goal.returns-then-balanced-clause-limits
returns-then-balanced-clause-limits g c = (balanced_so c.in-Ok.balanced c.args.self.now c.balance.new.self c.in-Ok.ensures c.if-balanced.true).still.limits

pub returns-then-balanced-clause-any_moment : goal.returns-then-balanced-clause-any_moment
returns-then-balanced-clause-any_moment g c moment pending has = none_called (g.D.Disk.state c.args.disk.now) (HoldsStep c.args.self.now pending moment steps.Background)

pub returns-then-balanced-clause-keeps : goal.returns-then-balanced-clause-keeps
returns-then-balanced-clause-keeps g c moment pending has =
    still_keeps (g.D.Disk.state c.args.disk.now) c.args.self.now c.balance.new.self answers.Balanced true pending moment (balanced_so c.in-Ok.balanced c.args.self.now c.balance.new.self c.in-Ok.ensures c.if-balanced.true) has

pub returns-then-balanced-clause-pages : goal.returns-then-balanced-clause-pages
returns-then-balanced-clause-pages g c has =
    let step = balanced_so c.in-Ok.balanced c.args.self.now c.balance.new.self c.in-Ok.ensures c.if-balanced.true in
    stay_paged c.args.self.now c.balance.new.self step.pages_stay.flush step.grown (g.D.Disk.state c.args.disk.now) has

pub returns-then-balanced-clause-pages_any_moment : goal.returns-then-balanced-clause-pages_any_moment
returns-then-balanced-clause-pages_any_moment g c was now paged = none_called (g.D.Disk.state c.args.disk.now) (MayLoad was now (durable_entries c.args.self.now.history))

pub returns-then-balanced-clause-log : goal.returns-then-balanced-clause-log
returns-then-balanced-clause-log g c = untouched_others is_paged (g.D.Disk.state c.args.disk.now)

-- ---- none was, and the store is as it was

same : (g : given.Over) (c : After-may_flush g) → c.balance.new.self ≡ c.args.self.now
same g c = (idle_so c.in-Ok.balanced c.args.self.now c.balance.new.self c.in-Ok.ensures c.if-balanced.false).1

allows : (g : given.Over) (c : After-may_flush g) → c.balance.new.self.trees.allows ≡ false
allows g c = ap (λ (v : StoreView). v.trees.allows) (same g c) ∙ (idle_so c.in-Ok.balanced c.args.self.now c.balance.new.self c.in-Ok.ensures c.if-balanced.false).0

pub save-requires : goal.save-requires
save-requires g c = record { balanced = allows g (goal.at.save-requires g c).After-may_flush; many = is_many c.may_flush.result _ _ c.may_flush.ensures c.if-may_flush.true }

pub sweep-requires : goal.sweep-requires
sweep-requires g c = record { balanced = allows g (goal.at.sweep-requires g c).After-may_flush; saved = are_few c.may_flush.result _ _ c.may_flush.ensures c.if-may_flush.false }

-- ---- pages are written

pub returns-then-may_flush-clause-step : goal.returns-then-may_flush-clause-step
returns-then-may_flush-clause-step g c =
    let rose = has_risen (g.D.Disk.fault_count c.args.disk.now) (g.D.Disk.fault_count c.save.new.disk) in
    subst (λ (v : StoreView). IsStep v steps.Background c.save.new.self c.save.result rose) (same g (goal.at.returns-then-may_flush-clause-step g c).After-may_flush) c.save.ensures.step

pub returns-then-may_flush-clause-limits : goal.returns-then-may_flush-clause-limits
returns-then-may_flush-clause-limits g c =
    let rose = has_risen (g.D.Disk.fault_count c.args.disk.now) (g.D.Disk.fault_count c.save.new.disk) in
    background_limits c.balance.new.self c.save.new.self c.save.result rose c.save.ensures.step ∙ ap (λ (v : StoreView). v.limits) (same g (goal.at.returns-then-may_flush-clause-limits g c).After-may_flush)

pub returns-then-may_flush-clause-any_moment : goal.returns-then-may_flush-clause-any_moment
returns-then-may_flush-clause-any_moment g c =
    let old = g.D.Disk.state c.args.disk.now in
    let new = g.D.Disk.state c.save.new.disk in
    subst (λ (v : StoreView). (moment : ℕ) (pending : Option PlainLogged) → Keeps old v pending → LeavesOnly old new (HoldsStep v pending moment steps.Background)) (same g (goal.at.returns-then-may_flush-clause-any_moment g c).After-may_flush) c.save.ensures.any_moment

pub returns-then-may_flush-clause-keeps : goal.returns-then-may_flush-clause-keeps
returns-then-may_flush-clause-keeps g c =
    let old = g.D.Disk.state c.args.disk.now in
    let new = g.D.Disk.state c.save.new.disk in
    subst (λ (v : StoreView). (moment : ℕ) (pending : Option PlainLogged) → Keeps old v pending → KeepsStep v pending moment steps.Background c.save.new.self c.save.result new) (same g (goal.at.returns-then-may_flush-clause-keeps g c).After-may_flush) c.save.ensures.keeps

pub returns-then-may_flush-clause-pages : goal.returns-then-may_flush-clause-pages
returns-then-may_flush-clause-pages g c =
    let old = g.D.Disk.state c.args.disk.now in
    let new = g.D.Disk.state c.save.new.disk in
    subst (λ (v : StoreView). HasPages old v → HasPages new c.save.new.self) (same g (goal.at.returns-then-may_flush-clause-pages g c).After-may_flush) c.save.ensures.pages

pub returns-then-may_flush-clause-pages_any_moment : goal.returns-then-may_flush-clause-pages_any_moment
returns-then-may_flush-clause-pages_any_moment g c =
    let old = g.D.Disk.state c.args.disk.now in
    let new = g.D.Disk.state c.save.new.disk in
    subst (λ (v : StoreView). (was now : Option TreesAt) → IsPaged old v was now → LeavesOnly old new (MayLoad was now (durable_entries v.history))) (same g (goal.at.returns-then-may_flush-clause-pages_any_moment g c).After-may_flush) c.save.ensures.pages_any_moment

pub returns-then-may_flush-clause-flushed : goal.returns-then-may_flush-clause-flushed
returns-then-may_flush-clause-flushed g c =
    let old = g.D.Disk.state c.args.disk.now in
    let new = g.D.Disk.state c.save.new.disk in
    subst (λ (v : StoreView). OnFlushed c.save.result (HasPages old v → EachLoadsFor (durable_entries c.save.new.self.history) new)) (same g (goal.at.returns-then-may_flush-clause-flushed g c).After-may_flush) c.save.ensures.flushed

pub returns-then-may_flush-clause-left_alone : goal.returns-then-may_flush-clause-left_alone
returns-then-may_flush-clause-left_alone g c few =
    let is = same g (goal.at.returns-then-may_flush-clause-left_alone g c).After-may_flush in
    let fewer = subst (λ (v : StoreView). unsaved v < v.limits.flush) (sym is) few in
    absurd (apart _ _ (is_many c.may_flush.result _ _ c.may_flush.ensures c.if-may_flush.true) fewer)
  where
    apart : (m n : ℕ) → n ≤ m → m < n → ⊥
    apart m n le lt = omega arith

-- ---- nodes are let go, or nothing is to be put right

spared : (g : given.Over) (c : After-may_flush g) → c.may_flush.result ≡ false → IsSpared c.args.self.now
spared g c not = subst IsSpared (same g c) (record { balanced = allows g c; saved = are_few c.may_flush.result _ _ c.may_flush.ensures not })

pub returns-clause-step : goal.returns-clause-step
returns-clause-step g c =
    let faults = g.D.Disk.fault_count c.args.disk.now in
    subst (λ (v : StoreView). IsStep v steps.Background c.sweep.new.self c.sweep.result (has_risen faults faults)) (same g (goal.at.returns-clause-step g c).After-may_flush) (c.sweep.ensures (has_risen faults faults))

pub returns-clause-limits : goal.returns-clause-limits
returns-clause-limits g c =
    background_limits c.balance.new.self c.sweep.new.self c.sweep.result true (c.sweep.ensures true) ∙ ap (λ (v : StoreView). v.limits) (same g (goal.at.returns-clause-limits g c).After-may_flush)

pub returns-clause-any_moment : goal.returns-clause-any_moment
returns-clause-any_moment g c moment pending has = none_called (g.D.Disk.state c.args.disk.now) (HoldsStep c.args.self.now pending moment steps.Background)

pub returns-clause-keeps : goal.returns-clause-keeps
returns-clause-keeps g c moment pending has =
    let is = same g (goal.at.returns-clause-keeps g c).After-may_flush in
    still_keeps (g.D.Disk.state c.args.disk.now) c.args.self.now c.sweep.new.self c.sweep.result true pending moment (subst (λ (v : StoreView). IsStep v steps.Background c.sweep.new.self c.sweep.result true) is (c.sweep.ensures true)) has

pub returns-clause-pages : goal.returns-clause-pages
returns-clause-pages g c has =
    let here = (goal.at.returns-clause-pages g c).After-may_flush in
    spared_paged (g.D.Disk.state c.args.disk.now) c.args.self.now c.sweep.new.self c.sweep.result true (spared g here c.if-may_flush.false) (subst (λ (v : StoreView). IsStep v steps.Background c.sweep.new.self c.sweep.result true) (same g here) (c.sweep.ensures true)) has

pub returns-clause-pages_any_moment : goal.returns-clause-pages_any_moment
returns-clause-pages_any_moment g c was now paged = none_called (g.D.Disk.state c.args.disk.now) (MayLoad was now (durable_entries c.args.self.now.history))

pub returns-clause-flushed : goal.returns-clause-flushed
returns-clause-flushed g c =
    let here = (goal.at.returns-clause-flushed g c).After-may_flush in
    spared_flushes_none c.args.self.now c.sweep.new.self c.sweep.result true (HasPages (g.D.Disk.state c.args.disk.now) c.args.self.now → EachLoadsFor (durable_entries c.sweep.new.self.history) (g.D.Disk.state c.args.disk.now)) (spared g here c.if-may_flush.false) (subst (λ (v : StoreView). IsStep v steps.Background c.sweep.new.self c.sweep.result true) (same g here) (c.sweep.ensures true))

pub returns-clause-log : goal.returns-clause-log
returns-clause-log g c = untouched_others is_paged (g.D.Disk.state c.args.disk.now)
