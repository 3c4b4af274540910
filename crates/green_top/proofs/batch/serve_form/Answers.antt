use Rattle.std.proofs.Common.{◌∙◌, [], ap, subst}
use Rattle.green_top.specs.declared.words.Form.{Form}
use Rattle.green_top.specs.inside.Forms.{limits_of, own_end, IsGenerated}
use Rattle.green_top.proofs.Batches.{session_runs, generated_runs, nothing_behind, tends_behind}
use Rattle.green_top.proofs.Endurings.{runs_as}
use Rattle.green_top.proofs.batch.serve_form.Goals as goal

pub returns-in-Session-clause-run : goal.returns-in-Session-clause-run
returns-in-Session-clause-run g c =
    let run = c.serve_beside.ensures.run in
    (run.0, session_runs _ _ _ _ _ _ _ run.0 _ _ _ c.in-Session.is c.requires.limits run.1, run.2, [], nothing_behind _ _ c.in-Session.is, runs_as _ _ _ _ _ run.0 _ _ _ _ _ _ _ _ _ (ap (λ (f : Form). own_end f c.serve_beside.result.end) c.in-Session.is) run.3)

pub returns-in-Session-clause-source : goal.returns-in-Session-clause-source
returns-in-Session-clause-source g c = λ generated. absurd (subst IsGenerated c.in-Session.is generated)

pub serve_generated-requires-clause-limits : goal.serve_generated-requires-clause-limits
serve_generated-requires-clause-limits g c = c.requires.limits ∙ ap limits_of c.in-Generate.is

pub returns-in-Generate-clause-run : goal.returns-in-Generate-clause-run
returns-in-Generate-clause-run g c =
    let run = c.serve_generated.ensures.run in
    (run.0, generated_runs _ _ _ _ _ _ run.0 _ _ _ c.in-Generate.is (run.1 _ _) c.serve_generated.ensures.nothing_read, run.2, run.3, tends_behind _ _ run.3 c.in-Generate.is run.4, runs_as _ _ _ _ _ run.0 _ _ _ _ _ _ _ _ _ (ap (λ (f : Form). own_end f c.serve_generated.result.end) c.in-Generate.is) run.5)
