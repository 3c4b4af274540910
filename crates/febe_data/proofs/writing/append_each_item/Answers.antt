use Rattle.febe_data.specs.Plain.{plain_item}
use Rattle.febe_data.specs.Validity.{IsItem}
use Rattle.febe_data.proofs.Fronts.{each_plain, begins, whatever}
use Rattle.febe_data.proofs.writing.append_each_item.Goals as goal

pub append_item-requires : goal.append_item-requires
append_item-requires c =
    rw c.item-item.is (each_plain plain_item IsItem c.args.items.now c.requires c.loop-item.item-index _ c.loop-item-test.true)

pub returns-in_err-append_item-clause-err : goal.returns-in_err-append_item-clause-err
returns-in_err-append_item-clause-err c =
    whatever c.from_residual.result (begins _ _ _ _ c.in_err-append_item.ensures.err c.loop-item.invariant)
