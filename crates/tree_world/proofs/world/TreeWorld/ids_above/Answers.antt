use Rattle.std.proofs.Common.{ℕ, ◌<◌, ap, subst}
use Rattle.febe_data.specs.Plain.{plain_want}
use Rattle.tree_world.specs.Trees.{Trees}
use Rattle.tree_world.proofs.Linked.{met_above}
use Rattle.tree_world.proofs.world.TreeWorld.ids_above.Goals as goal

pub returns : goal.returns
returns c view stands =
    met_above c.self.inside.links c.args.self.now view (plain_want c.args.want.now) c.args.runs.now c.in_ok-ends.ends c.args.after.now 4294967295 c.in_ok-found.found.items (ap (λ (t : Trees). t.links) c.self.view_is) c.in_order.ensures.runs (c.requires view stands)
    c.in_ok-ends.ensures c.in_ok-found.ensures (subst (λ (n : ℕ). n < 4294967295) c.len.ensures c.if-len.false)
