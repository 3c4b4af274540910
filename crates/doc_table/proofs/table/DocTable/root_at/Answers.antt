use Rattle.std.proofs.Common.{◌≡◌, ◌∙◌, ◌≤◌, ◌<◌, List, ap, sym, subst, Some, ltb-true, ltb-false, get_or}
use Rattle.std.specs.Prelude.{slice_get, length}
use Rattle.std.specs.Option.{option_map}
use Rattle.doc_table.specs.declared.rows.DocumentRow.{DocumentRow}
use Rattle.doc_table.proofs.RootsSet.{root_some, root_none}
use Rattle.doc_table.proofs.table.DocTable.root_at.Goals as goal

pub returns-in-Some : goal.returns-in-Some
returns-in-Some g c =
    let items = c.as_slice.ensures.value in
    let within = subst (λ xs. c.args.k < length xs) items (ltb-true c.args.k (length c.as_slice.result.now) (sym c.in-Some.ensures.lookup.0)) in
    ap (λ row. Some row.root) c.deref.ensures
    ∙ root_some c.self.inside.rows.items c.args.k c.in-Some.row.now within (subst (λ xs. c.in-Some.row.now ≡ get_or xs c.args.k c.in-Some.row.now) items c.in-Some.ensures.lookup.1)
    ∙ ap (λ (rows : List (DocumentRow g.row.R.Denot)). option_map (λ (row : DocumentRow g.row.R.Denot). row.root) (slice_get rows c.args.k)) c.self.view_is

pub returns-in-None : goal.returns-in-None
returns-in-None g c =
    root_none c.self.inside.rows.items c.args.k (subst (λ xs. length xs ≤ c.args.k) c.as_slice.ensures.value (ltb-false c.args.k (length c.as_slice.result.now) (sym c.in-None.ensures.lookup.0)))
    ∙ ap (λ (rows : List (DocumentRow g.row.R.Denot)). option_map (λ (row : DocumentRow g.row.R.Denot). row.root) (slice_get rows c.args.k)) c.self.view_is
