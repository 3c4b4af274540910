use Rattle.febe_data.specs.Plain.{plain_spec}
use Rattle.febe_data.specs.Validity.{IsSpec}
use Rattle.entry_codec.proofs.Spans.{each_plain}
use Rattle.entry_codec.proofs.counting.each_spec_size.Goals as goal

pub spec_size-size-requires : goal.spec_size-size-requires
spec_size-size-requires c =
    let is : IsSpec (plain_spec c.spec-item.result) = rw c.spec-item.is (each_plain plain_spec IsSpec c.args.specs.now c.requires.each c.loop-spec.spec-index _ c.loop-spec-test.true) in
    is.spans.few
