use Rattle.flat_rows.proofs.Found.{showing_yes, showing_no}
use Rattle.flat_rows.proofs.finding.documents_showing.Goals as goal
use Rattle.flat_rows.proofs.finding.documents_showing.Goals.{then-has_address+in_ok-insert, else-has_address}

pub loop-row-preserved : goal.loop-row-preserved
loop-row-preserved c =
    let addresses = c.args.addresses.now in
    let rows = c.args.rows.now in
    let i = c.loop-row.row-index in
    let row = c.row-item.result in
    let old = c.loop-row.shown in
    elim c.if-has_address.branch [
      | then-has_address+in_ok-insert w ↦
          rw w.shown-is (showing_yes addresses rows i row w.copy.result c.has_address.result old w.insert.new.self c.loop-row-test.true c.row-item.is w.copy.ensures c.has_address.ensures w.if-has_address.true c.loop-row.invariant w.in_ok-insert.ensures.updates)
      | else-has_address w ↦ rw w.shown-is (showing_no addresses rows i row c.has_address.result old c.loop-row-test.true c.row-item.is c.has_address.ensures w.if-has_address.false c.loop-row.invariant)
    ]
