use Rattle.std.proofs.Common.{◌∙◌, ap}
use Rattle.enfilade_sweep.specs.Sweep.{numbers}
use Rattle.tree_world.proofs.Swept.{roots_there, numbers_taken}
use Rattle.tree_world.proofs.sweeping.plan_documents.Goals as goal

pub plan_sweep-requires : goal.plan_sweep-requires
plan_sweep-requires c = roots_there c.args.pooms.now c.arena.result.now c.args.documents.now c.in_ok-roots.roots.items c.arena.ensures c.in_ok-roots.ensures c.requires.roots

pub returns-clause-roots : goal.returns-clause-roots
returns-clause-roots c = c.in_ok-plan.ensures.roots ∙ ap numbers c.in_ok-roots.ensures ∙ numbers_taken c.args.documents.now
