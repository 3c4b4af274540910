use Rattle.std.proofs.Common.{◌≡◌, ◌<◌, false, ap, sym, subst}
use Rattle.world_rules.specs.History.{is_live, durable_entries}
use Rattle.green_store.specs.Durable.{has_risen}
use Rattle.green_store.specs.HousedView.{HousedView}
use Rattle.green_store.specs.IsStep.{IsStep, UnlessTended, OnTended, unsaved}
use Rattle.green_io.specs.declared.disk.Area.TheVariants.{Second}
use Rattle.green_io.specs.Areas.{is_same}
use Rattle.green_io.specs.Disk.{LeavesOnly, LeavesBut}
use Rattle.green_io.proofs.Beside.{untouched_others}
use Rattle.green_io.proofs.Crash.{none_called}
use Rattle.page_journal.specs.Images.{is_paged}
use Rattle.green_store.specs.HousePlays.{step_for}
use Rattle.green_store.specs.Paged.{MayLoad}
use Rattle.green_store.proofs.HousedSteps.{step_plays, step_grows, on_tended, unless_tended, if_tended}
use Rattle.green_store.proofs.housed.HousedKept.play.Goals as goal

pub returns-clause-grows : goal.returns-clause-grows
returns-clause-grows g c =
    let before = c.args.self.now.store in
    let after = c.step-answer.new.self.store in
    let rose = has_risen (g.D.Disk.fault_count c.args.self.now.disk) (g.D.Disk.fault_count c.step-answer.new.self.disk) in
    let live : is_live before.history 0 ≡ false = subst (λ (h : HousedView _). is_live h.store.history 0 ≡ false) c.self.view_is c.no_session_is_zero.ensures in
    let step = subst (λ s. IsStep before s after c.step-answer.result rose) c.in-Some.ensures.0 c.step-answer.ensures.step in
    rw c.number_behind-number.ensures (step_grows before after c.args.number c.args.job.job c.step-answer.result rose live c.in-Some.ensures.1 step)

pub returns-clause-plays : goal.returns-clause-plays
returns-clause-plays g c =
    let before = c.args.self.now.store in
    let after = c.step-answer.new.self.store in
    let old = g.D.Disk.fault_count c.args.self.now.disk in
    let new = g.D.Disk.fault_count c.step-answer.new.self.disk in
    let step = subst (λ s. IsStep before s after c.step-answer.result (has_risen old new)) c.in-Some.ensures.0 c.step-answer.ensures.step in
    let alone = subst (λ s. OnTended s (unsaved before < before.limits.flush → new ≡ old)) c.in-Some.ensures.0 (on_tended c.in-Some.step (λ (f : unsaved before < before.limits.flush → c.step-answer.new.self.disk ≡ c.args.self.now.disk) (few : unsaved before < before.limits.flush). ap g.D.Disk.fault_count (f few)) c.step-answer.ensures.left_alone) in
    (c.step-answer.ensures.last, rw c.number_behind-number.ensures (step_plays before after old new c.args.self.now.last c.step-answer.new.self.last c.args.number c.args.job.job c.step-answer.result c.in-Some.ensures.1 alone step))

pub returns-clause-pages_any_moment : goal.returns-clause-pages_any_moment
returns-clause-pages_any_moment g c = c.step-answer.ensures.pages_any_moment

pub returns-clause-others : goal.returns-clause-others
returns-clause-others g c = subst (λ s. UnlessTended s (LeavesBut (is_same Second) (g.D.Disk.state c.args.self.now.disk) (g.D.Disk.state c.step-answer.new.self.disk))) c.in-Some.ensures.0 c.step-answer.ensures.others

pub returns-clause-log : goal.returns-clause-log
returns-clause-log g c = subst (λ s. OnTended s (LeavesBut is_paged (g.D.Disk.state c.args.self.now.disk) (g.D.Disk.state c.step-answer.new.self.disk))) c.in-Some.ensures.0 c.step-answer.ensures.log

-- ---- there is no step

pub returns-in_default-clause-pages_any_moment : goal.returns-in_default-clause-pages_any_moment
returns-in_default-clause-pages_any_moment g c was now paged =
    let old = g.D.Disk.state c.args.self.now.disk in
    let entries = durable_entries c.args.self.now.store.history in
    subst (λ (h : HousedView _). LeavesOnly old (g.D.Disk.state h.disk) (MayLoad was now entries)) (sym c.self.view_is) (none_called old (MayLoad was now entries))

pub returns-in_default-clause-others : goal.returns-in_default-clause-others
returns-in_default-clause-others g c =
    let old = g.D.Disk.state c.args.self.now.disk in
    unless_tended (step_for c.args.number c.args.job.job) (subst (λ (h : HousedView _). LeavesBut (is_same Second) old (g.D.Disk.state h.disk)) (sym c.self.view_is) (untouched_others (is_same Second) old))

pub returns-in_default-clause-log : goal.returns-in_default-clause-log
returns-in_default-clause-log g c =
    let old = g.D.Disk.state c.args.self.now.disk in
    if_tended (step_for c.args.number c.args.job.job) (subst (λ (h : HousedView _). LeavesBut is_paged old (g.D.Disk.state h.disk)) (sym c.self.view_is) (untouched_others is_paged old))
