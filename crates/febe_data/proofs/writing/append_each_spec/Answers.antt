use Rattle.febe_data.specs.Plain.{plain_spec}
use Rattle.febe_data.specs.Validity.{IsSpec}
use Rattle.febe_data.proofs.Fronts.{each_plain, begins, whatever}
use Rattle.febe_data.proofs.writing.append_each_spec.Goals as goal

pub append_spec-requires : goal.append_spec-requires
append_spec-requires c =
    let is : IsSpec (plain_spec c.spec-item.result) = rw c.spec-item.is (each_plain plain_spec IsSpec c.args.specs.now c.requires c.loop-spec.spec-index _ c.loop-spec-test.true) in
    is.spans.few

pub returns-in_err-append_spec-clause-err : goal.returns-in_err-append_spec-clause-err
returns-in_err-append_spec-clause-err c =
    whatever c.from_residual.result (begins _ _ _ _ c.in_err-append_spec.ensures.err c.loop-spec.invariant)
