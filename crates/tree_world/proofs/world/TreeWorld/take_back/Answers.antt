use Rattle.std.proofs.Common.{◌∙◌, sym, subst}
use Rattle.tree_world.specs.Undone.{ComesBack, MayComeBack, ComesTo, ComesToNodes}
use Rattle.tree_world.proofs.Roots.{taken_back}
use Rattle.tree_world.proofs.Undone.{tables_may, tables_were, contents_were, sound_again, all_back}
use Rattle.tree_world.proofs.Restored.{comes_to_was}
use Rattle.tree_world.proofs.Grown.{nodes_were}
use Rattle.tree_world.proofs.world.TreeWorld.take_back.Goals as goal

pub tables_back-requires : goal.tables_back-requires
tables_back-requires c = tables_may _ c.args.undo.now (subst (λ t. MayComeBack t c.args.undo.now) (sym c.self.view_is) c.requires)

pub invariant_of-self : goal.invariant_of-self
invariant_of-self c =
    let may = subst (λ t. MayComeBack t c.args.undo.now) (sym c.self.view_is) c.requires in
    let back = may.back in
    sound_again back.before _ _ _ c.self.inside.due.items back.sound (c.back-2.ensures ∙ taken_back back.before.nodes c.self.inside.pooms c.args.undo.now.nodes back.came.0.grown.documents back.kept.nodes)
    (c.tables_back.ensures.documents _ (tables_were _ c.args.undo.now may.view back))
    (contents_were back.before.contents c.self.inside.contents _ c.args.undo.now.contents back.kept.contents_root back.kept.contents_count back.came.0.grown.contents c.back.ensures.nodes c.back.ensures.root)
    back.came.0.due

pub returns-clause-stands : goal.returns-clause-stands
returns-clause-stands c view now =
    let back = subst (λ t. ComesBack t c.args.undo.now view) (sym c.self.view_is) now in
    let were = tables_were _ c.args.undo.now view back in
    all_back back.before view _ back.stood (contents_were back.before.contents c.self.inside.contents _ c.args.undo.now.contents back.kept.contents_root back.kept.contents_count back.came.0.grown.contents c.back.ensures.nodes c.back.ensures.root) back.kept.content
    (c.back-2.ensures ∙ taken_back back.before.nodes c.self.inside.pooms c.args.undo.now.nodes back.came.0.grown.documents back.kept.nodes) (c.tables_back.ensures.documents _ were) (c.back-3.ensures.restored back.before.index back.came.0.grown.index back.kept.index)
    (c.tables_back.ensures.links _ were) (c.tables_back.ensures.access _ were) back.kept.counted (c.uncount.ensures view.sessions back.entries)

pub returns-clause-condition : goal.returns-clause-condition
returns-clause-condition c was now =
    let to = subst (λ t. ComesTo t c.args.undo.now was) (sym c.self.view_is) now in
    let back = to.may.back in
    let were = tables_were _ c.args.undo.now to.may.view back in
    comes_to_was _ c.args.undo.now was to _ _ _ _ _ (contents_were back.before.contents c.self.inside.contents _ c.args.undo.now.contents back.kept.contents_root back.kept.contents_count back.came.0.grown.contents c.back.ensures.nodes c.back.ensures.root)
    (c.back-2.ensures ∙ taken_back back.before.nodes c.self.inside.pooms c.args.undo.now.nodes back.came.0.grown.documents back.kept.nodes) (c.tables_back.ensures.documents _ were) (c.back-3.ensures.restored back.before.index back.came.0.grown.index back.kept.index) (c.tables_back.ensures.links _ were)

pub returns-clause-nodes : goal.returns-clause-nodes
returns-clause-nodes c were now =
    let to = subst (λ t. ComesToNodes t c.args.undo.now were) (sym c.self.view_is) now in
    let back = to.may.back in
    let tables = tables_were _ c.args.undo.now to.may.view back in
    nodes_were _ c.args.undo.now were to _ _ _ _ (contents_were back.before.contents c.self.inside.contents _ c.args.undo.now.contents back.kept.contents_root back.kept.contents_count back.came.0.grown.contents c.back.ensures.nodes c.back.ensures.root)
    (c.back-2.ensures ∙ taken_back back.before.nodes c.self.inside.pooms c.args.undo.now.nodes back.came.0.grown.documents back.kept.nodes) (c.back-3.ensures.restored back.before.index back.came.0.grown.index back.kept.index) (c.tables_back.ensures.links _ tables)
