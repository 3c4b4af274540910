use Rattle.std.proofs.Common.{◌∙◌, ◌≤◌, [], List, ℕ, sym, subst, Result, arith}
use Rattle.green_top.specs.declared.session_end.SessionEnd.{SessionEnd}
use Rattle.green_top.specs.Summary.{replies_of}
use Rattle.green_top.specs.inside.Summing.{IsOutput, IsInnerRun}
use Rattle.green_top.proofs.EndedSessions.{alone_on}
use Rattle.green_top.specs.Times.{steps_in}
use Rattle.green_top.proofs.Endurings.{runs_on, runs_unsummed}
use Rattle.green_top.specs.GeneratedRun.{inner_end}
use Rattle.green_top.proofs.RunSteps.{all_written}
use Rattle.green_top.proofs.Generateds.{is_output, summed_later, unsummed}
use Rattle.green_top.proofs.generate.serve_generated.Goals as goal

pub write_summary-end-requires : goal.write_summary-end-requires
write_summary-end-requires g c =
    let served = c.serve_input-outcome in
    let run = served.ensures.run in
    let answered = subst (λ (r : Result (Unit {0}) SessionEnd). IsInnerRun c.args.start served.new.serves.session r served.new.serves.store.history run.0 served.result.points.items served.new.output.taken) c.in-Ok.is run.1 in
    (replies_of run.0, subst (λ (output : List ℕ). IsOutput output (replies_of run.0)) (sym c.bytes.ensures) (is_output _ _ _ _ _ _ answered))

pub returns-in-Ok-clause-run : goal.returns-in-Ok-clause-run
returns-in-Ok-clause-run g c =
    let served = c.serve_input-outcome in
    let run = served.ensures.run in
    let answered = subst (λ (r : Result (Unit {0}) SessionEnd). IsInnerRun c.args.start served.new.serves.session r served.new.serves.store.history run.0 served.result.points.items served.new.output.taken) c.in-Ok.is run.1 in
    let still : g.D.Disk.fault_count served.new.disk ≤ g.D.Disk.fault_count c.settle.new.disk = (c.settle.ensures.settles.endures c.args.serves.now.store.limits 0).never_falls in
    let rises : g.D.Disk.fault_count c.args.disk.now ≤ g.D.Disk.fault_count c.settle.new.disk = omega (arith, run.5.endures.never_falls, still) in (
      run.0,
      (λ left faults.
          summed_later c.args.start _ _ run.0 _ left _ _ faults _ _ _ _ rises _ _ c.settle.ensures.number c.settle.ensures.history c.write_summary-end.result served.new.output.taken answered
          (c.write_summary-end.ensures (replies_of run.0) (subst (λ (output : List ℕ). IsOutput output (replies_of run.0)) (sym c.bytes.ensures) (is_output _ _ _ _ _ _ answered)))),
      alone_on _ _ _ _ _ run.0 _ _ _ c.settle.ensures.number c.settle.ensures.history still run.2,
      steps_in c.settle.ensures.settles.steps,
      c.settle.ensures.settles.only_tends,
      runs_on run.3 (inner_end c.write_summary-end.result) (all_written run.3 _ (sym run.4 ∙ c.in-Ok.is)) _ _ _ _ run.0 _ _ _ _ _ _ _ _ _ _ _ _ c.settle.ensures.number answered.numbered run.5 c.settle.ensures.settles,
    )

pub returns-clause-run : goal.returns-clause-run
returns-clause-run g c =
    let served = c.serve_input-outcome in
    let run = served.ensures.run in
    let none = subst (λ (r : Result (Unit {0}) SessionEnd). IsInnerRun c.args.start served.new.serves.session r served.new.serves.store.history run.0 served.result.points.items served.new.output.taken) c.in-Err.is run.1 in
    (run.0, (λ left faults. unsummed _ _ _ run.0 _ left _ faults _ _ _ c.in-Err.end run.5.endures.never_falls none), run.2, [], tt, runs_unsummed run.3 c.in-Err.end _ _ _ run.0 _ _ _ _ _ _ _ _ (sym run.4 ∙ c.in-Err.is) run.5)
