use Rattle.std.proofs.Common.{◌∙◌, ap}
use Rattle.enfilade_core.specs.declared.tree.Node.{Node}
use Rattle.enfilade_core.specs.BalanceState.{tree_allows}
use Rattle.spanfilade.specs.Index.{IndexTree}
use Rattle.tree_world.specs.Trees.{Trees}
use Rattle.tree_world.specs.Condition.{allows_of, documents_allow}
use Rattle.tree_world.proofs.Balanced.{tree_off, last_allows}
use Rattle.tree_world.proofs.world.TreeWorld.may_balance.Goals as goal

pub returns : goal.returns
returns c =
    c.some_due.ensures
    ∙ last_allows (tree_allows c.self.inside.contents.nodes c.self.inside.contents.root) (tree_allows c.self.inside.index.nodes c.self.inside.index.root.0) (tree_allows c.self.inside.links.from.nodes c.self.inside.links.from.root.0) (tree_allows c.self.inside.links.to.nodes c.self.inside.links.to.root.0) (tree_allows c.self.inside.links.three.nodes c.self.inside.links.three.root.0) (documents_allow c.self.inside.pooms c.self.inside.documents)
    (tree_off c.parts.result.0.now c.self.inside.contents.nodes c.parts.result.1.0 c.self.inside.contents.root c.allows.result (c.parts.ensures.arena) (c.parts.ensures.root) c.allows.ensures c.if-allows.false)
    (tree_off c.parts-2.result.0.now c.self.inside.index.nodes c.parts-2.result.1.0 c.self.inside.index.root.0 c.allows-2.result (c.parts-2.ensures.arena) (ap (λ (n : Node). n.0) c.parts-2.ensures.root) c.allows-2.ensures c.if-allows-2.false)
    (tree_off c.parts-3.result.0.now c.self.inside.links.from.nodes c.parts-3.result.1.0 c.self.inside.links.from.root.0 c.allows-3.result (c.parts-3.ensures.arena ∙ ap (λ (t : IndexTree). t.nodes) c.index.ensures.index) (ap (λ (n : Node). n.0) (c.parts-3.ensures.root ∙ ap (λ (t : IndexTree). t.root) c.index.ensures.index)) c.allows-3.ensures c.if-allows-3.false)
    (tree_off c.parts-4.result.0.now c.self.inside.links.to.nodes c.parts-4.result.1.0 c.self.inside.links.to.root.0 c.allows-4.result (c.parts-4.ensures.arena ∙ ap (λ (t : IndexTree). t.nodes) c.index-2.ensures.index) (ap (λ (n : Node). n.0) (c.parts-4.ensures.root ∙ ap (λ (t : IndexTree). t.root) c.index-2.ensures.index)) c.allows-4.ensures c.if-allows-4.false)
    (tree_off c.parts-5.result.0.now c.self.inside.links.three.nodes c.parts-5.result.1.0 c.self.inside.links.three.root.0 c.allows-5.result (c.parts-5.ensures.arena ∙ ap (λ (t : IndexTree). t.nodes) c.index-3.ensures.index) (ap (λ (n : Node). n.0) (c.parts-5.ensures.root ∙ ap (λ (t : IndexTree). t.root) c.index-3.ensures.index)) c.allows-5.ensures c.if-allows-5.false)
    ∙ ap (λ (t : Trees). allows_of t) c.self.view_is
