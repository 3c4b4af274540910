use Rattle.std.proofs.Common.{◌<◌, min, ap, sym, subst, ◌∙◌}
use Rattle.enfilade_core.specs.Planes.{text_widths}
use Rattle.enfilade_core.specs.Summary.{depth_of}
use Rattle.tree_world.proofs.Measured.{depth_more}
use Rattle.tree_world.proofs.measures.documents_depth.Goals as goal

pub loop-k-preserved : goal.loop-k-preserved
loop-k-preserved c =
    depth_more c.args.pooms.now c.args.documents.now c.loop-k.k c.loop-k.deepest c.max-deepest.result c.depth.result c.in-Some.root
    (subst (λ n. c.loop-k.k < n) c.len-k-end.ensures.value c.loop-k-test.true) (sym c.root_at.ensures ∙ c.in-Some.is) c.loop-k.invariant
    (c.depth.ensures ∙ ap (λ nodes. min (depth_of text_widths nodes c.in-Some.root.0) 4294967295) c.arena.ensures) c.max-deepest.ensures
