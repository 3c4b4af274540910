use Rattle.std.proofs.Common.{map, arith}
use Rattle.febe_data.specs.Plain.{plain_spec}
use Rattle.entry_codec.proofs.Lengths.{specs_counted}
use Rattle.entry_codec.proofs.counting.specs_size.Goals as goal

pub overflow_add-result : goal.overflow_add-result
overflow_add-result c = omega (arith, specs_counted (map plain_spec c.args.specs.now) c.each_spec_size.result c.each_spec_size.ensures c.requires)

pub returns-clause-few : goal.returns-clause-few
returns-clause-few c = specs_counted (map plain_spec c.args.specs.now) c.each_spec_size.result c.each_spec_size.ensures c.requires
