use Rattle.std.proofs.Common.{◌∙◌, true, sym, subst}
use Rattle.tree_world.specs.Standing.{Stands}
use Rattle.tree_world.specs.Undone.{DocumentMarked}
use Rattle.tree_world.proofs.MarkSet.{holds_marked, published_as}
use Rattle.tree_world.proofs.Undone.{of_old, was_published}
use Rattle.tree_world.proofs.world.TreeWorld.publish.Goals as goal

pub publish-requires : goal.publish-requires
publish-requires c = sym c.has.ensures ∙ c.if-not-has.false

pub invariant_of-self : goal.invariant_of-self
invariant_of-self c = holds_marked c.self.inside.pooms c.self.inside.documents c.publish.new.self c.self.inside.contents c.self.inside.due.items c.args.document.now true c.publish.ensures c.self.invariant

pub returns-clause-ok : goal.returns-clause-ok
returns-clause-ok c view session stands = published_as _ view (subst (λ t. Stands t view) (sym c.self.view_is) stands) c.args.document.now (sym c.has.ensures ∙ c.if-not-has.false) c.publish.new.self _ session c.publish.ensures c.in_ok-counted.ensures

pub returns-clause-came : goal.returns-clause-came
returns-clause-came c = of_old (DocumentMarked c.args.document.now) _ _ _ c.self.view_is (was_published _ c.args.document.now c.publish.new.self _ (sym c.has.ensures ∙ c.if-not-has.false) c.publish.ensures)
