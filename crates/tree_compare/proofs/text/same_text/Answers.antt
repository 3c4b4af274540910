use Rattle.enfilade_core.specs.Rows.{rows_of}
use Rattle.tree_compare.proofs.RowParts.{rows-are, rows-each}
use Rattle.tree_compare.proofs.RowsBeside.{same-told}
use Rattle.tree_compare.proofs.text.same_text.Goals as goal

pub same_addresses-requires-clause-one : goal.same_addresses-requires-clause-one
same_addresses-requires-clause-one c = rows-each c.in_ok-rows.rows.items c.as_slice.result.now (rows_of c.args.one.now c.args.root.0) c.requires.one.document c.in_ok-rows.ensures c.as_slice.ensures

pub same_addresses-requires-clause-other : goal.same_addresses-requires-clause-other
same_addresses-requires-clause-other c = rows-each c.in_ok-others.others.items c.as_slice-2.result.now (rows_of c.args.other.now c.args.other_root.0) c.requires.other.document c.in_ok-others.ensures c.as_slice-2.ensures

pub returns : goal.returns
returns c =
    same-told (rows_of c.args.one.now c.args.root.0) (rows_of c.args.other.now c.args.other_root.0) c.as_slice.result.now c.as_slice-2.result.now c.same_addresses.result c.requires.one.document c.requires.other.document
    (rows-are c.in_ok-rows.rows.items c.as_slice.result.now (rows_of c.args.one.now c.args.root.0) c.in_ok-rows.ensures c.as_slice.ensures)
    (rows-are c.in_ok-others.others.items c.as_slice-2.result.now (rows_of c.args.other.now c.args.other_root.0) c.in_ok-others.ensures c.as_slice-2.ensures) c.same_addresses.ensures
