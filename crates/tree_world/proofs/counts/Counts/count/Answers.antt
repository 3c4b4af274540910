use Rattle.std.proofs.Common.{◌+◌, ap, refl}
use Rattle.tree_world.proofs.Counted.{counted_more, known_here}
use Rattle.tree_world.proofs.counts.Counts.count.Goals as goal

pub unreachable-requires : goal.unreachable-requires
unreachable-requires c = known_here c.args.session c.self.inside.held c.args.self.now c.self.view_is c.requires c.in_default.ensures.absent

pub returns : goal.returns
returns c = counted_more c.args.session c.self.inside.held c.insert.new.self c.args.self.now _ c.self.view_is refl _ c.in-Ok.ensures.updates.0 (ap (λ n. n + 1) c.get-entries.ensures)
