use Rattle.std.proofs.Common.{◌∙◌, ap}
use Rattle.doc_table.specs.DocumentRows.{published_in}
use Rattle.tree_world.specs.Trees.{Trees}
use Rattle.tree_world.proofs.lookups.TreeWorldLookUp.is_published.Goals as goal

pub returns : goal.returns
returns c view stands = c.published.ensures ∙ ap (λ (t : Trees). published_in t.documents c.args.document.now) c.self.view_is ∙ stands.marks c.args.document.now
