use Rattle.std.proofs.Common.{◌∙◌}
use Rattle.tree_world.proofs.Looked.{root_stands}
use Rattle.tree_world.proofs.NowShown.{shown_now, nothing_now}
use Rattle.tree_world.proofs.world.TreeWorld.spans_now.Goals as goal

pub returns-in_default : goal.returns-in_default
returns-in_default c view stands = c.new.ensures.items ∙ nothing_now _ c.args.self.now view c.args.run.now c.self.view_is c.in_default.ensures stands

pub v_of-requires-clause-root : goal.v_of-requires-clause-root
v_of-requires-clause-root c = root_stands c.self.inside.pooms c.self.inside.documents c.args.run.now.origin c.in-Some.root c.self.invariant.0 c.in-Some.ensures

pub returns : goal.returns
returns c view stands =
    shown_now _ c.args.self.now view c.args.run.now c.args.bytes.now c.in-Some.root c.in_ok-spans.spans.items c.self.view_is c.in-Some.ensures (root_stands c.self.inside.pooms c.self.inside.documents c.args.run.now.origin c.in-Some.root c.self.invariant.0 c.in-Some.ensures)
    c.requires.right c.requires.bytes c.in_ok-spans.ensures stands
