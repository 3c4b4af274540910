use Rattle.std.proofs.Common.{◌++◌, ◌∷◌, []}
use Rattle.doc_table.specs.DocumentRows.{documents_in}
use Rattle.doc_table.proofs.Changed.{next_made, ok_value}
use Rattle.doc_table.proofs.table.DocTable.next_document.Goals as goal

pub returns : goal.returns
returns g c =
    next_made (documents_in c.args.self.now) c.args.account.now c.unwrap-first.result c.unwrap.result c.next_number.result
    (ok_value c.extended.result c.unwrap-first.result (c.args.account.now ++ 0 ∷ 1 ∷ []) c.unwrap-first.ensures c.extended.ensures.value)
    c.next_number.ensures.number
    (ok_value c.extended-2.result c.unwrap.result (c.args.account.now ++ 0 ∷ c.next_number.result ∷ []) c.unwrap.ensures c.extended-2.ensures.value)
