use Rattle.std.proofs.Common.{Option, subst}
use Rattle.green_io.specs.Disk.{LeavesOnly}
use Rattle.world_rules.specs.History.{durable_entries}
use Rattle.green_flush.specs.Loads.{TreesAt}
use Rattle.green_store.specs.HousedView.{HousedView}
use Rattle.green_store.specs.IsStep.{OnFlushed}
use Rattle.green_store.specs.Paged.{IsPaged, HasPages, EachLoadsFor, MayLoad}
use Rattle.green_store.proofs.OneDisks.{stays_one_disk}
use Rattle.green_store.proofs.housed.Housed.step.Goals as goal

pub invariant_of-self : goal.invariant_of-self
invariant_of-self g c =
    stays_one_disk c.self.inside.store c.step.new.self c.args.moment c.args.step c.step.result (g.D.Disk.state c.self.inside.disk) (g.D.Disk.state c.step.new.disk) c.self.invariant c.step.ensures.keeps c.step.ensures.pages c.step.ensures.others c.step.ensures.log

pub returns-clause-pages_any_moment : goal.returns-clause-pages_any_moment
returns-clause-pages_any_moment g c =
    subst (λ (h : HousedView _). (was now : Option TreesAt) → IsPaged (g.D.Disk.state h.disk) h.store was now → LeavesOnly (g.D.Disk.state h.disk) (g.D.Disk.state c.step.new.disk) (MayLoad was now (durable_entries h.store.history)))
    c.self.view_is c.step.ensures.pages_any_moment

pub returns-clause-flushed : goal.returns-clause-flushed
returns-clause-flushed g c =
    subst (λ (h : HousedView _). OnFlushed c.step.result (HasPages (g.D.Disk.state h.disk) h.store → EachLoadsFor (durable_entries c.step.new.self.history) (g.D.Disk.state c.step.new.disk))) c.self.view_is c.step.ensures.flushed
