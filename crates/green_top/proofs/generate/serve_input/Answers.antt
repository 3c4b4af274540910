use Rattle.std.proofs.Common.{[], refl, sym, subst, inl, Result}
use Rattle.febe_wire.specs.Sessions.{IsInputOf}
use Rattle.session_generator.specs.Generated.{generated_requests}
use Rattle.green_top.specs.declared.session_end.SessionEnd.{SessionEnd}
use Rattle.green_top.specs.declared.session_end.SessionEnd.TheVariants as ends
use Rattle.green_top.specs.inside.Summing.{IsInnerRun}
use Rattle.green_top.proofs.Endurings.{runs_not}
use Rattle.green_top.proofs.Generateds.{can_end, inner_run}
use Rattle.green_top.proofs.generate.serve_input.Goals as goal

pub returns-in_default : goal.returns-in_default
returns-in_default g c = record {
  run = ([], inl (record { unnumbered = c.requires.unnumbered; none_answered = refl; no_points = c.new-points.ensures.items; nothing = refl }), inl (c.requires.unnumbered, refl), ends.Memory, refl, runs_not _ _ _ _ _ _ _ c.requires.unnumbered);
}

pub outcome_of-outcome-requires : goal.outcome_of-outcome-requires
outcome_of-outcome-requires g c =
    can_end c.args.start _ _ _ _ _ _ _ _ (subst (IsInputOf (generated_requests c.args.start)) (sym c.new-source.ensures) c.in-Ok.ensures) c.requires.none_yet _ _ _ _ _ c.serve_beside-end.result.end (rw c.requires.limits at c.serve_beside-end.ensures.run.1)

pub returns : goal.returns
returns g c =
    let run = c.serve_beside-end.ensures.run in
    record {
      run = (
        run.0,
        subst (λ (r : Result (Unit {0}) SessionEnd). IsInnerRun c.args.start c.serve_beside-end.new.serves.session r c.serve_beside-end.new.serves.store.history run.0 c.serve_beside-end.result.points.items c.serve_beside-end.new.sink.taken)
            (sym c.outcome_of-outcome.ensures)
            (inner_run c.args.start _ _ _ _ _ _ _ _ (subst (IsInputOf (generated_requests c.args.start)) (sym c.new-source.ensures) c.in-Ok.ensures) c.requires.none_yet _ _ _ _ _ c.serve_beside-end.result.end (rw c.requires.limits at run.1)),
        run.2,
        c.serve_beside-end.result.end,
        c.outcome_of-outcome.ensures,
        run.3,
      );
    }
