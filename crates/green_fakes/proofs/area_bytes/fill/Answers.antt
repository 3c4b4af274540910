-- Other bytes stand between the two places.
use Rattle.green_fakes.proofs.Bytes.{mid_parts}
use Rattle.green_fakes.proofs.area_bytes.fill.Goals as goal

pub returns-clause-others : goal.returns-clause-others
returns-clause-others c = (c.draw_each.new.bytes, mid_parts c.args.from c.args.to c.args.bytes.now c.draw_each.new.bytes c.requires.0)
