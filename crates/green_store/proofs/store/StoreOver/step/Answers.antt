use Rattle.std.proofs.Common.{true, refl, sym, subst}
use Rattle.green_io.specs.declared.disk.Area.TheVariants.{Second}
use Rattle.green_io.specs.Areas.{is_logged}
use Rattle.green_io.specs.Disk.{LeavesOnly}
use Rattle.green_io.proofs.Beside.{area_others}
use Rattle.green_store.specs.declared.step.Step.{Step}
use Rattle.green_store.specs.declared.step.Step.TheVariants as steps
use Rattle.green_store.specs.Durable.{has_risen, HoldsStep, IsDurableRowOf, IsRefusedForDisk}
use Rattle.world_rules.specs.History.{durable_entries}
use Rattle.green_store.specs.Isolated.{IsolatesStep}
use Rattle.green_store.proofs.Edits.{stays_kept}
use Rattle.green_store.proofs.Isolations.{steps_isolate}
use Rattle.green_store.proofs.Paging.{not_tended, not_flushed, flushed_stays, stay_paged, kept_paged, log_leaves, background_base}
use Rattle.green_store.proofs.Moments.{none_comes}
use Rattle.green_store.proofs.Quiet.{begin_is_quiet, end_is_quiet, background_is_quiet}
use Rattle.green_store.proofs.store.StoreOver.step.Goals as goal

-- ---- a session begins

pub returns-in-Begin-clause-keeps : goal.returns-in-Begin-clause-keeps
returns-in-Begin-clause-keeps g c pending has =
    let quiet = begin_is_quiet c.args.self.now c.begin.new.self c.begin.result true (c.begin.ensures.step true) in
    stays_kept c.args.self.now c.begin.new.self (g.D.Disk.state c.args.disk.now) (λ row. IsDurableRowOf c.args.self.now c.args.moment c.args.step row × IsRefusedForDisk c.begin.result) pending quiet.none_kept quiet.moments_stay quiet.same_log has

pub returns-in-Begin-clause-moments : goal.returns-in-Begin-clause-moments
returns-in-Begin-clause-moments g c =
    let quiet = begin_is_quiet c.args.self.now c.begin.new.self c.begin.result true (c.begin.ensures.step true) in
    none_comes c.args.self.now c.begin.new.self c.args.moment quiet.none_kept quiet.moments_stay

pub returns-in-Begin-clause-pages : goal.returns-in-Begin-clause-pages
returns-in-Begin-clause-pages g c has =
    let keeps = not_tended c.args.self.now c.begin.new.self steps.Begin c.begin.result true (c.begin.ensures.step true) in
    stay_paged c.args.self.now c.begin.new.self keeps.flush keeps.grown (g.D.Disk.state c.args.disk.now) has

pub returns-in-Begin-clause-flushed : goal.returns-in-Begin-clause-flushed
returns-in-Begin-clause-flushed g c = not_flushed c.args.self.now c.begin.new.self steps.Begin c.begin.result true _ (c.begin.ensures.step true)

pub returns-in-Begin-clause-flushed_stays : goal.returns-in-Begin-clause-flushed_stays
returns-in-Begin-clause-flushed_stays g c = flushed_stays c.args.self.now c.begin.new.self steps.Begin c.begin.result true (c.begin.ensures.step true)

-- ---- a session asks

pub returns-in-Ask-clause-isolated : goal.returns-in-Ask-clause-isolated
returns-in-Ask-clause-isolated g c =
    let rose = has_risen (g.D.Disk.fault_count c.args.disk.now) (g.D.Disk.fault_count c.ask.new.disk) in
    subst (λ (step : Step). IsolatesStep c.args.self.now step c.ask.result) (sym c.in-Ask.is)
    (steps_isolate c.args.self.now c.ask.new.self (steps.Ask c.in-Ask.session c.in-Ask.request) c.ask.result rose c.ask.ensures.step)

pub returns-in-Ask-clause-pages : goal.returns-in-Ask-clause-pages
returns-in-Ask-clause-pages g c has =
    let rose = has_risen (g.D.Disk.fault_count c.args.disk.now) (g.D.Disk.fault_count c.ask.new.disk) in
    let keeps = not_tended c.args.self.now c.ask.new.self (steps.Ask c.in-Ask.session c.in-Ask.request) c.ask.result rose c.ask.ensures.step in
    kept_paged (g.D.Disk.state c.args.disk.now) (g.D.Disk.state c.ask.new.disk) c.args.self.now c.ask.new.self (g.met.D.Disk.is_disk c.ask.new.disk) (area_others Second is_logged _ _ refl c.ask.ensures.others) keeps has

pub returns-in-Ask-clause-pages_any_moment : goal.returns-in-Ask-clause-pages_any_moment
returns-in-Ask-clause-pages_any_moment g c was now paged =
    log_leaves (g.D.Disk.state c.args.disk.now) (g.D.Disk.state c.ask.new.disk) c.args.self.now was now (durable_entries c.args.self.now.history) (area_others Second is_logged _ _ refl c.ask.ensures.others) paged

pub returns-in-Ask-clause-flushed : goal.returns-in-Ask-clause-flushed
returns-in-Ask-clause-flushed g c =
    let rose = has_risen (g.D.Disk.fault_count c.args.disk.now) (g.D.Disk.fault_count c.ask.new.disk) in
    not_flushed c.args.self.now c.ask.new.self (steps.Ask c.in-Ask.session c.in-Ask.request) c.ask.result rose _ c.ask.ensures.step

pub returns-in-Ask-clause-flushed_stays : goal.returns-in-Ask-clause-flushed_stays
returns-in-Ask-clause-flushed_stays g c =
    let rose = has_risen (g.D.Disk.fault_count c.args.disk.now) (g.D.Disk.fault_count c.ask.new.disk) in
    flushed_stays c.args.self.now c.ask.new.self (steps.Ask c.in-Ask.session c.in-Ask.request) c.ask.result rose c.ask.ensures.step

-- ---- a session ends

pub returns-in-End-clause-keeps : goal.returns-in-End-clause-keeps
returns-in-End-clause-keeps g c pending has =
    let quiet = end_is_quiet c.args.self.now c.end.new.self c.in-End.session c.end.result true (c.end.ensures.step true) in
    stays_kept c.args.self.now c.end.new.self (g.D.Disk.state c.args.disk.now) (λ row. IsDurableRowOf c.args.self.now c.args.moment c.args.step row × IsRefusedForDisk c.end.result) pending quiet.none_kept quiet.moments_stay quiet.same_log has

pub returns-in-End-clause-moments : goal.returns-in-End-clause-moments
returns-in-End-clause-moments g c =
    let quiet = end_is_quiet c.args.self.now c.end.new.self c.in-End.session c.end.result true (c.end.ensures.step true) in
    none_comes c.args.self.now c.end.new.self c.args.moment quiet.none_kept quiet.moments_stay

pub returns-in-End-clause-pages : goal.returns-in-End-clause-pages
returns-in-End-clause-pages g c has =
    let keeps = not_tended c.args.self.now c.end.new.self (steps.End c.in-End.session) c.end.result true (c.end.ensures.step true) in
    stay_paged c.args.self.now c.end.new.self keeps.flush keeps.grown (g.D.Disk.state c.args.disk.now) has

pub returns-in-End-clause-flushed : goal.returns-in-End-clause-flushed
returns-in-End-clause-flushed g c = not_flushed c.args.self.now c.end.new.self (steps.End c.in-End.session) c.end.result true _ (c.end.ensures.step true)

pub returns-in-End-clause-flushed_stays : goal.returns-in-End-clause-flushed_stays
returns-in-End-clause-flushed_stays g c = flushed_stays c.args.self.now c.end.new.self (steps.End c.in-End.session) c.end.result true (c.end.ensures.step true)

-- ---- trees and pages are put right

pub returns-in-Background-clause-moments : goal.returns-in-Background-clause-moments
returns-in-Background-clause-moments g c =
    let quiet = background_is_quiet c.args.self.now c.tend.new.self c.tend.result (has_risen (g.D.Disk.fault_count c.args.disk.now) (g.D.Disk.fault_count c.tend.new.disk)) c.tend.ensures.step in
    none_comes c.args.self.now c.tend.new.self c.args.moment quiet.none_kept quiet.moments_stay

pub returns-in-Background-clause-any_moment : goal.returns-in-Background-clause-any_moment
returns-in-Background-clause-any_moment g c pending has =
    subst (λ (step : Step). LeavesOnly (g.D.Disk.state c.args.disk.now) (g.D.Disk.state c.tend.new.disk) (HoldsStep c.args.self.now pending c.args.moment step)) (sym c.in-Background.is) (c.tend.ensures.any_moment c.args.moment pending has)

pub returns-in-Background-clause-base : goal.returns-in-Background-clause-base
returns-in-Background-clause-base g c =
    let rose = has_risen (g.D.Disk.fault_count c.args.disk.now) (g.D.Disk.fault_count c.tend.new.disk) in
    background_base c.args.self.now c.tend.new.self c.tend.result rose c.tend.ensures.step

pub returns-in-Background-clause-flushed_stays : goal.returns-in-Background-clause-flushed_stays
returns-in-Background-clause-flushed_stays g c =
    let rose = has_risen (g.D.Disk.fault_count c.args.disk.now) (g.D.Disk.fault_count c.tend.new.disk) in
    flushed_stays c.args.self.now c.tend.new.self steps.Background c.tend.result rose c.tend.ensures.step
