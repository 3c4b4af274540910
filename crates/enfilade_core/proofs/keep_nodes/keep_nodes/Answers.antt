use Rattle.std.proofs.Common.{◌∙◌, length, List, get_or, ap, sym, subst}
use Rattle.enfilade_core.specs.declared.stored_node.StoredNode.{StoredNode}
use Rattle.enfilade_core.specs.StoredNode.{IsArena}
use Rattle.enfilade_core.specs.KeptMarked.{AreMoved}
use Rattle.enfilade_core.specs.NewNumbers.{rank}
use Rattle.enfilade_core.proofs.KeptMarked.{hang_below, cut_off}
use Rattle.enfilade_core.proofs.keep_nodes.keep_nodes.Goals as goal

pub move_marked-count-requires-clause-named : goal.move_marked-count-requires-clause-named
move_marked-count-requires-clause-named g c = hang_below g.P.Plane.plain g.P.Plane.widths c.as_mut_slice.result.now (subst (IsArena g.P.Plane.plain g.P.Plane.widths) (sym c.as_mut_slice.ensures.value) c.requires.arena)

pub returns-clause-arena : goal.returns-clause-arena
returns-clause-arena g c =
    (cut_off g.P.Plane.plain g.P.Plane.widths c.args.marks.now c.args.ranks.now c.args.nodes.now.items c.move_marked-count.new.nodes c.truncate.new.self.items c.move_marked-count.result c.requires.arena c.requires.long c.requires.closed c.requires.ranks
    (subst (λ (ns : List (StoredNode _)). AreMoved g.P.Plane.plain c.args.marks.now (λ k. get_or c.args.ranks.now k 0) ns c.move_marked-count.new.nodes (length ns)) c.as_mut_slice.ensures.value c.move_marked-count.ensures.moved)
    (c.move_marked-count.ensures.count ∙ ap (λ (ns : List (StoredNode _)). rank c.args.marks.now (length ns)) c.as_mut_slice.ensures.value) c.truncate.ensures.items).0

pub returns-clause-kept : goal.returns-clause-kept
returns-clause-kept g c =
    (cut_off g.P.Plane.plain g.P.Plane.widths c.args.marks.now c.args.ranks.now c.args.nodes.now.items c.move_marked-count.new.nodes c.truncate.new.self.items c.move_marked-count.result c.requires.arena c.requires.long c.requires.closed c.requires.ranks
    (subst (λ (ns : List (StoredNode _)). AreMoved g.P.Plane.plain c.args.marks.now (λ k. get_or c.args.ranks.now k 0) ns c.move_marked-count.new.nodes (length ns)) c.as_mut_slice.ensures.value c.move_marked-count.ensures.moved)
    (c.move_marked-count.ensures.count ∙ ap (λ (ns : List (StoredNode _)). rank c.args.marks.now (length ns)) c.as_mut_slice.ensures.value) c.truncate.ensures.items).1
