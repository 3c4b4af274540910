use Rattle.std.proofs.Common.{◌∙◌, refl}
use Rattle.enfilade_core.specs.declared.tree.Node.{Node}
use Rattle.enfilade_sweep.proofs.Marking.{marked_more, marked_all}
use Rattle.enfilade_sweep.proofs.marks.mark_roots.Goals as goal

pub loop-root-preserved : goal.loop-root-preserved
loop-root-preserved g c = record {
  long = c.mark.ensures.long ∙ c.loop-root.invariant.long;
  marked =
      marked_more (λ (node : Node). node.0) c.args.roots.now c.loop-root.root-index _ _ c.args.marks.now.items c.loop-root.marks.items c.mark.new.marks.items c.loop-root-test.true refl c.loop-root.invariant.marked c.mark.ensures.marked;
}

pub returns-clause-marked : goal.returns-clause-marked
returns-clause-marked g c =
    marked_all (λ (node : Node). node.0) c.args.roots.now c.loop-root.root-index c.args.marks.now.items c.loop-root.marks.items c.loop-root-test.false c.loop-root.invariant.marked
