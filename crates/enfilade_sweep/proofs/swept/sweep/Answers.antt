use Rattle.std.proofs.Common.{◌∙◌, ℕ, ◌<◌, List, Bool, length, map, get_or, ap, sym, subst}
use Rattle.std.specs.Prelude.{All}
use Rattle.enfilade_core.specs.declared.tree.Node.{Node}
use Rattle.enfilade_sweep.specs.Sweep.{numbers}
use Rattle.enfilade_core.specs.NewNumbers.{AreRanks, AreAtRanks}
use Rattle.enfilade_sweep.specs.Marks.{AreMarked}
use Rattle.enfilade_sweep.proofs.Counted.{marked_count, none_unreached}
use Rattle.enfilade_sweep.proofs.StillReached.{all_reached, hangs_before}
use Rattle.enfilade_sweep.proofs.Whole.{reached_marked, is_swept, same_rows, same_debts, same_allowed, same_depths, root_there, roots_there}
use Rattle.enfilade_sweep.proofs.swept.sweep.Goals as goal

pub renamed_roots-requires-clause-there : goal.renamed_roots-requires-clause-there
renamed_roots-requires-clause-there g c =
    let old = c.args.old.now in
    let marked = subst (λ (rs : List Node). AreMarked old (numbers rs) c.in_ok-marks.marks.items 0) (c.as_slice.ensures ∙ sym c.as_slice-6.ensures) c.in_ok-marks.ensures in
    let exact = subst (λ (ms : List Bool). AreRanks ms c.in_ok-ranks.ranks.items) c.as_slice-2.ensures.value c.in_ok-ranks.ensures in
    let copied = subst (λ (ms : List Bool). AreAtRanks ms old c.in_ok-new.new (length old)) c.as_slice-3.ensures.value c.in_ok-new.ensures in
    subst (λ (rs : List ℕ). All (λ (root : Node). get_or rs root.0 0 < length c.in_ok-new.new) c.as_slice-6.result.now) (sym c.as_slice-5.ensures.value)
    (roots_there c.as_slice-6.result.now c.in_ok-marks.marks.items c.in_ok-ranks.ranks.items (length c.in_ok-new.new) marked.rooted
    (root_there g.P.Plane.widths old c.in_ok-new.new (numbers c.as_slice-6.result.now) c.in_ok-marks.marks.items c.in_ok-ranks.ranks.items c.nodes_are_well_formed.ensures c.nodes_are_well_formed-2.ensures marked exact copied))

pub returns-clause-swept : goal.returns-clause-swept
returns-clause-swept g c =
    let old = c.args.old.now in
    let marked = subst (λ (rs : List Node). AreMarked old (numbers rs) c.in_ok-marks.marks.items 0) c.as_slice.ensures c.in_ok-marks.ensures in
    let exact = subst (λ (ms : List Bool). AreRanks ms c.in_ok-ranks.ranks.items) c.as_slice-2.ensures.value c.in_ok-ranks.ensures in
    let copied = subst (λ (ms : List Bool). AreAtRanks ms old c.in_ok-new.new (length old)) c.as_slice-3.ensures.value c.in_ok-new.ensures in
    is_swept g.P.Plane.widths old c.in_ok-new.new (numbers c.args.roots.now.items) c.in_ok-marks.marks.items c.in_ok-ranks.ranks.items c.nodes_are_well_formed.ensures c.nodes_are_well_formed-2.ensures marked exact copied (numbers c.in_ok-roots.roots.items)
    (c.in_ok-roots.ensures ∙ ap (λ (rs : List ℕ). map (λ k. get_or rs k 0) (numbers c.as_slice-6.result.now)) c.as_slice-5.ensures.value ∙ ap (λ (rs : List Node). map (λ k. get_or c.in_ok-ranks.ranks.items k 0) (numbers rs)) c.as_slice-6.ensures)

pub returns-clause-rows : goal.returns-clause-rows
returns-clause-rows g c =
    let old = c.args.old.now in
    let marked = subst (λ (rs : List Node). AreMarked old (numbers rs) c.in_ok-marks.marks.items 0) c.as_slice.ensures c.in_ok-marks.ensures in
    let exact = subst (λ (ms : List Bool). AreRanks ms c.in_ok-ranks.ranks.items) c.as_slice-2.ensures.value c.in_ok-ranks.ensures in
    let copied = subst (λ (ms : List Bool). AreAtRanks ms old c.in_ok-new.new (length old)) c.as_slice-3.ensures.value c.in_ok-new.ensures in
    same_rows g.P.Plane.widths old c.in_ok-new.new (numbers c.args.roots.now.items) c.in_ok-marks.marks.items c.in_ok-ranks.ranks.items c.nodes_are_well_formed.ensures c.nodes_are_well_formed-2.ensures marked exact copied (numbers c.in_ok-roots.roots.items)
    (c.in_ok-roots.ensures ∙ ap (λ (rs : List ℕ). map (λ k. get_or rs k 0) (numbers c.as_slice-6.result.now)) c.as_slice-5.ensures.value ∙ ap (λ (rs : List Node). map (λ k. get_or c.in_ok-ranks.ranks.items k 0) (numbers rs)) c.as_slice-6.ensures)

pub returns-clause-debts : goal.returns-clause-debts
returns-clause-debts g c =
    let old = c.args.old.now in
    let marked = subst (λ (rs : List Node). AreMarked old (numbers rs) c.in_ok-marks.marks.items 0) c.as_slice.ensures c.in_ok-marks.ensures in
    let exact = subst (λ (ms : List Bool). AreRanks ms c.in_ok-ranks.ranks.items) c.as_slice-2.ensures.value c.in_ok-ranks.ensures in
    let copied = subst (λ (ms : List Bool). AreAtRanks ms old c.in_ok-new.new (length old)) c.as_slice-3.ensures.value c.in_ok-new.ensures in
    same_debts g.P.Plane.widths old c.in_ok-new.new (numbers c.args.roots.now.items) c.in_ok-marks.marks.items c.in_ok-ranks.ranks.items c.nodes_are_well_formed.ensures c.nodes_are_well_formed-2.ensures marked exact copied (numbers c.in_ok-roots.roots.items)
    (c.in_ok-roots.ensures ∙ ap (λ (rs : List ℕ). map (λ k. get_or rs k 0) (numbers c.as_slice-6.result.now)) c.as_slice-5.ensures.value ∙ ap (λ (rs : List Node). map (λ k. get_or c.in_ok-ranks.ranks.items k 0) (numbers rs)) c.as_slice-6.ensures)

pub returns-clause-allowed : goal.returns-clause-allowed
returns-clause-allowed g c =
    let old = c.args.old.now in
    let marked = subst (λ (rs : List Node). AreMarked old (numbers rs) c.in_ok-marks.marks.items 0) c.as_slice.ensures c.in_ok-marks.ensures in
    let exact = subst (λ (ms : List Bool). AreRanks ms c.in_ok-ranks.ranks.items) c.as_slice-2.ensures.value c.in_ok-ranks.ensures in
    let copied = subst (λ (ms : List Bool). AreAtRanks ms old c.in_ok-new.new (length old)) c.as_slice-3.ensures.value c.in_ok-new.ensures in
    same_allowed g.P.Plane.widths old c.in_ok-new.new (numbers c.args.roots.now.items) c.in_ok-marks.marks.items c.in_ok-ranks.ranks.items c.nodes_are_well_formed.ensures c.nodes_are_well_formed-2.ensures marked exact copied (numbers c.in_ok-roots.roots.items)
    (c.in_ok-roots.ensures ∙ ap (λ (rs : List ℕ). map (λ k. get_or rs k 0) (numbers c.as_slice-6.result.now)) c.as_slice-5.ensures.value ∙ ap (λ (rs : List Node). map (λ k. get_or c.in_ok-ranks.ranks.items k 0) (numbers rs)) c.as_slice-6.ensures)

pub returns-clause-depths : goal.returns-clause-depths
returns-clause-depths g c =
    let old = c.args.old.now in
    let marked = subst (λ (rs : List Node). AreMarked old (numbers rs) c.in_ok-marks.marks.items 0) c.as_slice.ensures c.in_ok-marks.ensures in
    let exact = subst (λ (ms : List Bool). AreRanks ms c.in_ok-ranks.ranks.items) c.as_slice-2.ensures.value c.in_ok-ranks.ensures in
    let copied = subst (λ (ms : List Bool). AreAtRanks ms old c.in_ok-new.new (length old)) c.as_slice-3.ensures.value c.in_ok-new.ensures in
    same_depths g.P.Plane.widths old c.in_ok-new.new (numbers c.args.roots.now.items) c.in_ok-marks.marks.items c.in_ok-ranks.ranks.items c.nodes_are_well_formed.ensures c.nodes_are_well_formed-2.ensures marked exact copied (numbers c.in_ok-roots.roots.items)
    (c.in_ok-roots.ensures ∙ ap (λ (rs : List ℕ). map (λ k. get_or rs k 0) (numbers c.as_slice-6.result.now)) c.as_slice-5.ensures.value ∙ ap (λ (rs : List Node). map (λ k. get_or c.in_ok-ranks.ranks.items k 0) (numbers rs)) c.as_slice-6.ensures)

pub returns-clause-reached : goal.returns-clause-reached
returns-clause-reached g c = all_reached c.args.old.now (numbers c.args.roots.now.items) c.in_ok-new.new (numbers c.in_ok-roots.roots.items) (returns-clause-swept g c)

pub returns-clause-count : goal.returns-clause-count
returns-clause-count g c =
    let old = c.args.old.now in
    let marked = subst (λ (rs : List Node). AreMarked old (numbers rs) c.in_ok-marks.marks.items 0) c.as_slice.ensures c.in_ok-marks.ensures in
    let copied = subst (λ (ms : List Bool). AreAtRanks ms old c.in_ok-new.new (length old)) c.as_slice-3.ensures.value c.in_ok-new.ensures in
    copied.long ∙ marked_count old (numbers c.args.roots.now.items) (hangs_before g.P.Plane.widths old c.nodes_are_well_formed.ensures) c.in_ok-marks.marks.items marked.long marked.sound (reached_marked old (numbers c.args.roots.now.items) c.in_ok-marks.marks.items marked)

pub returns-clause-none_left : goal.returns-clause-none_left
returns-clause-none_left g c =
    none_unreached c.in_ok-new.new (numbers c.in_ok-roots.roots.items) (hangs_before g.P.Plane.widths c.in_ok-new.new c.nodes_are_well_formed-2.ensures) (returns-clause-reached g c)
