use Rattle.std.proofs.Common.{◌∙◌, ap}
use Rattle.doc_table.specs.DocumentRows.{has_in}
use Rattle.tree_world.specs.Trees.{Trees}
use Rattle.tree_world.proofs.Looked.{document_seen}
use Rattle.tree_world.proofs.lookups.TreeWorldLookUp.has_document.Goals as goal

pub returns : goal.returns
returns c view stands =
    c.has.ensures ∙ ap (λ (t : Trees). has_in t.documents c.args.document.now) c.self.view_is ∙ document_seen c.args.self.now.documents view.world.documents c.args.document.now stands.documents
