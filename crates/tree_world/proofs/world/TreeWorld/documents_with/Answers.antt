use Rattle.std.proofs.Common.{All, map, subst}
use Rattle.enfilade_core.specs.declared.tree.Node.{Node}
use Rattle.doc_table.specs.declared.rows.DocumentRow.{DocumentRow}
use Rattle.febe_data.specs.Plain.{plain_spec}
use Rattle.poom.specs.Laid.{IsRoot}
use Rattle.tree_world.specs.Trees.{Trees}
use Rattle.tree_world.proofs.DocumentsFound.{documents_are}
use Rattle.tree_world.proofs.world.TreeWorld.documents_with.Goals as goal

pub returns-clause-items : goal.returns-clause-items
returns-clause-items c view stands =
    documents_are c.args.self.now view stands (subst (λ (t : Trees). All (λ (row : DocumentRow Node). IsRoot t.nodes row.root.0) t.documents) c.self.view_is c.self.invariant.0) c.args.session c.account_of_session-account.result
    (c.account_of_session-account.ensures view stands) (map plain_spec c.args.specs.now)
    c.in_ok-runs.runs.items c.in_ok-runs.ensures.content c.in_ok-runs.ensures.bytes c.in_ok-spans.spans.items c.as_slice.result.now c.in_ok-met.met.items c.as_slice-2.result.now c.in_ok-made.made.items c.as_slice-3.result.now
    c.as_slice.ensures c.in_ok-spans.ensures.value c.in_ok-met.ensures c.as_slice-2.ensures c.as_slice-3.ensures c.in_ok-made.ensures.items
