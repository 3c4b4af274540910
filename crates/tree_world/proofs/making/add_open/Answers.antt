use Rattle.std.proofs.Common.{◌∙◌, ap}
use Rattle.doc_table.specs.DocumentRows.{has_in, removed}
use Rattle.tree_world.proofs.Tables.{has_added, removed_added}
use Rattle.tree_world.proofs.making.add_open.Goals as goal

pub remove-requires : goal.remove-requires
remove-requires c = ap (λ rows. has_in rows c.args.document.now) c.in_ok-add.ensures.added ∙ has_added c.args.documents.now c.args.document.now c.args.root c.requires.absent

pub returns-in_default-clause-same_documents : goal.returns-in_default-clause-same_documents
returns-in_default-clause-same_documents c =
    c.remove.ensures ∙ ap (λ rows. removed rows c.args.document.now) c.in_ok-add.ensures.added ∙ removed_added c.args.documents.now c.args.document.now c.args.root c.requires.absent
