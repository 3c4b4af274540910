use Rattle.febe_data.specs.Plain.{plain_spec}
use Rattle.febe_data.specs.Validity.{IsSpec}
use Rattle.entry_codec.proofs.Spans.{each_plain}
use Rattle.entry_codec.proofs.writing.append_each_spec.Goals as goal

pub append_spec-requires : goal.append_spec-requires
append_spec-requires c =
    let is : IsSpec (plain_spec c.spec-item.result) = rw c.spec-item.is (each_plain plain_spec IsSpec c.args.specs.now c.requires c.loop-spec.spec-index _ c.loop-spec-test.true) in
    is.spans.few
