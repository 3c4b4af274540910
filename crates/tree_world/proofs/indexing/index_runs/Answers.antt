use Rattle.std.proofs.Common.{◌∙◌}
use Rattle.tree_world.proofs.Covering.{added_keeps, added_covers}
use Rattle.tree_world.proofs.indexing.index_runs.Goals as goal

pub returns-clause-keeps : goal.returns-clause-keeps
returns-clause-keeps c = added_keeps c.args.document.now c.in_ok-spans-2.spans.items c.args.index.now c.add_all.new.self c.in-Ok.ensures.added

pub returns-clause-covers : goal.returns-clause-covers
returns-clause-covers c =
    added_covers c.args.document.now c.in_ok-spans-2.spans.items c.args.index.now c.add_all.new.self c.in-Ok.ensures.added c.args.runs.now c.as_slice.result.now (c.as_slice.ensures ∙ c.in_ok-spans.ensures.value) c.in_ok-spans-2.ensures.met
