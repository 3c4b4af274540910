use Rattle.std.proofs.Common.{map}
use Rattle.febe_data.specs.Plain.{plain_spec}
use Rattle.world_rules.proofs.Valid.{retrieved_valid}
use Rattle.world_rules.proofs.reading.serve_retrieve.Goals as goal

pub returns-clause-valid : goal.returns-clause-valid
returns-clause-valid g c view stands = (
  retrieved_valid view.world (map plain_spec c.args.specs.now) c.in_ok-items.items.items c.retrieved_size-size.result.bytes c.retrieved_size-size.result.items
      (c.retrieved_size-size.ensures.bytes view stands) (c.retrieved_size-size.ensures.items view stands) c.if-size.false c.if-size-2.false
      (c.in_ok-items.ensures.items view stands) c.in_ok-items.ensures.valid,
  tt,
)
