use Rattle.std.proofs.Common.{◌∙◌, ◌≤◌, ap, sym, subst}
use Rattle.std.specs.List.{insert, prefix_len}
use Rattle.doc_table.specs.DocumentRows.{has_in}
use Rattle.doc_table.specs.inside.Kept.{is_before}
use Rattle.doc_table.proofs.Changed.{place_fits, add_holds, add_shows, room_below}
use Rattle.doc_table.proofs.table.DocTable.add.Goals as goal

pub insert-requires : goal.insert-requires
insert-requires g c =
    subst (λ n. c.place-at.result ≤ n) (c.as_slice.ensures.len ∙ sym c.in_ok-reserve.ensures.len) (place_fits c.args.document.now c.as_slice.result.now c.place-at.result c.place-at.ensures)

pub invariant_of-self-2 : goal.invariant_of-self-2
invariant_of-self-2 g c =
    add_holds c.args.document.now c.self.inside.rows.items c.place-at.result c.in_ok-row.row (c.place-at.ensures ∙ ap (prefix_len (is_before c.args.document.now)) c.as_slice.ensures.value) (ap (λ row. row.document) c.in_ok-row.ensures.ok ∙ c.copy.ensures)
    (ap (λ rows. has_in rows c.args.document.now) c.self.view_is ∙ c.requires.absent) c.insert.new.self.items c.first_sibling.result c.self.inside.counts c.count_up.new.counts
    (c.in-Ok.ensures.items ∙ ap (λ xs. insert xs c.place-at.result c.in_ok-row.row) c.in_ok-reserve.ensures.items) (room_below c.self.inside.rows.items c.args.self.now c.self.view_is c.requires.room) c.first_sibling.ensures c.self.invariant
    c.in_ok-count_up.ensures.counted

pub returns-clause-added : goal.returns-clause-added
returns-clause-added g c =
    add_shows c.args.document.now c.copy.result c.self.inside.rows.items c.insert.new.self.items c.place-at.result c.in_ok-row.row c.args.self.now c.args.root
    (c.place-at.ensures ∙ ap (prefix_len (is_before c.args.document.now)) c.as_slice.ensures.value) c.requires.absent c.in_ok-row.ensures.ok c.copy.ensures
    (c.in-Ok.ensures.items ∙ ap (λ xs. insert xs c.place-at.result c.in_ok-row.row) c.in_ok-reserve.ensures.items) c.self.view_is
