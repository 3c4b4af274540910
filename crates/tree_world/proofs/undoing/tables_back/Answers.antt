use Rattle.std.proofs.Common.{◌∙◌, ap}
use Rattle.doc_table.specs.DocumentRows.{has_in, with_content}
use Rattle.tree_world.proofs.Undone.{stays_there, as_row, row_back, as_home, home_back, as_mark, mark_back}
use Rattle.tree_world.proofs.undoing.tables_back.Goals as goal

pub set_content-requires : goal.set_content-requires
set_content-requires c =
    ap (λ rows. has_in rows c.in-Row.document) c.set_root.ensures ∙ stays_there c.args.documents.now c.in-Row.document c.in-Row.root ∙ (as_row c.args.undo.now c.in-Row.document c.in-Row.root c.in-Row.content _ _ c.in-Row.is c.requires.were.back).2.there

pub returns-in-Row-clause-documents : goal.returns-in-Row-clause-documents
returns-in-Row-clause-documents c = λ before were.
    c.set_content.ensures ∙ ap (λ rows. with_content rows c.in-Row.document c.in-Row.content) c.set_root.ensures
    ∙ row_back c.args.undo.now.session c.in-Row.document c.in-Row.root c.in-Row.content before _ were.once (as_row c.args.undo.now c.in-Row.document c.in-Row.root c.in-Row.content before _ c.in-Row.is were.back)

pub returns-in-Link-clause-documents : goal.returns-in-Link-clause-documents
returns-in-Link-clause-documents c = λ before were.
    c.set_root-in-Link.ensures ∙ home_back c.args.undo.now.session c.in-Link.home c.in-Link.root c.in-Link.id before _ were.once (as_home c.args.undo.now c.in-Link.home c.in-Link.root c.in-Link.id before _ c.in-Link.is were.back)

pub set_published-requires : goal.set_published-requires
set_published-requires c = (as_mark c.args.undo.now c.in-Mark.document c.in-Mark.mark _ _ c.in-Mark.is c.requires.were.back).1.there

pub returns-in-Mark-clause-documents : goal.returns-in-Mark-clause-documents
returns-in-Mark-clause-documents c = λ before were.
    c.set_published.ensures ∙ mark_back c.args.undo.now.session c.in-Mark.document c.in-Mark.mark before _ were.once (as_mark c.args.undo.now c.in-Mark.document c.in-Mark.mark before _ c.in-Mark.is were.back)
