use Rattle.std.proofs.Common.{◌∙◌, ℕ, ◌<◌, List, Bool, length, map, get_or, ap, sym, subst, arith}
use Rattle.std.specs.Prelude.{All}
use Rattle.std.specs.List.{refill}
use Rattle.enfilade_core.specs.declared.tree.Node.{Node}
use Rattle.enfilade_core.specs.NewNumbers.{AreAtRanks}
use Rattle.enfilade_sweep.specs.Sweep.{numbers}
use Rattle.enfilade_sweep.specs.Plan.{PlannedSweep, IsPlanFor}
use Rattle.enfilade_core.proofs.Ranks.{marked_within}
use Rattle.enfilade_sweep.proofs.Whole.{root_there}
use Rattle.enfilade_sweep.proofs.Renamed.{lent_back, rooted_all}
use Rattle.enfilade_sweep.proofs.Finished.{IsFinished, finished}
use Rattle.enfilade_sweep.proofs.in_place.finish_sweep.Goals as goal

pub rename_roots-requires-clause-known : goal.rename_roots-requires-clause-known
rename_roots-requires-clause-known g c =
    let old = c.args.arena.now in
    let new = c.keep_marked.new.self in
    let marks = c.plan.inside.marks.items in
    let ranks = c.plan.inside.ranks.items in
    let roots = c.plan.inside.roots.items in
    let marked = subst (IsPlanFor old) (sym c.plan.view_is) c.requires in
    subst (λ (ns : List Node). All (λ (root : Node). root.0 < length c.as_slice-3.result.now) ns) (sym c.as_mut_slice.ensures.value)
    (rooted_all (λ k. k < length c.as_slice-3.result.now) roots marks marked.rooted (λ k here. let lt = marked_within marks k here in omega (arith, lt, c.plan.invariant.0, ap length c.as_slice-3.ensures.value)))

pub rename_roots-requires-clause-there : goal.rename_roots-requires-clause-there
rename_roots-requires-clause-there g c =
    let old = c.args.arena.now in
    let new = c.keep_marked.new.self in
    let marks = c.plan.inside.marks.items in
    let ranks = c.plan.inside.ranks.items in
    let roots = c.plan.inside.roots.items in
    let marked = subst (IsPlanFor old) (sym c.plan.view_is) c.requires in
    let at = subst (λ (ms : List Bool). AreAtRanks ms old new (length old)) c.as_slice.ensures.value c.keep_marked.ensures in
    subst (λ (rs : List ℕ). All (λ (root : Node). get_or rs root.0 0 < length new) c.as_mut_slice.result.now) (sym c.as_slice-3.ensures.value)
    (subst (λ (ns : List Node). All (λ (root : Node). get_or ranks root.0 0 < length new) ns) (sym c.as_mut_slice.ensures.value)
    (rooted_all (λ k. get_or ranks k 0 < length new) roots marks marked.rooted (root_there g.P.Plane.widths old new (numbers roots) marks ranks c.nodes_are_well_formed.ensures c.nodes_are_well_formed-2.ensures marked c.plan.invariant at)))

pub returns-clause-swept : goal.returns-clause-swept
returns-clause-swept g c =
    let old = c.args.arena.now in
    let new = c.keep_marked.new.self in
    let marks = c.plan.inside.marks.items in
    let ranks = c.plan.inside.ranks.items in
    let roots = c.plan.inside.roots.items in
    let marked = subst (IsPlanFor old) (sym c.plan.view_is) c.requires in
    let at = subst (λ (ms : List Bool). AreAtRanks ms old new (length old)) c.as_slice.ensures.value c.keep_marked.ensures in
    let nows = numbers (refill (length roots) roots c.rename_roots.new.roots) in
    let made = ap numbers (lent_back roots c.rename_roots.new.roots (c.rename_roots.auto.roots ∙ ap length c.as_mut_slice.ensures.value)) ∙ c.rename_roots.ensures ∙ ap (λ (rs : List ℕ). map (λ k. get_or rs k 0) (numbers c.as_mut_slice.result.now)) c.as_slice-3.ensures.value
    ∙ ap (λ (ns : List Node). map (λ k. get_or ranks k 0) (numbers ns)) c.as_mut_slice.ensures.value in
    (subst (λ (plan : PlannedSweep). IsFinished g.P.Plane.widths old new plan.roots nows) c.plan.view_is
    (finished g.P.Plane.widths old new (numbers roots) nows marks ranks c.nodes_are_well_formed.ensures c.nodes_are_well_formed-2.ensures marked c.plan.invariant at made)).swept

pub returns-clause-rows : goal.returns-clause-rows
returns-clause-rows g c =
    let old = c.args.arena.now in
    let new = c.keep_marked.new.self in
    let marks = c.plan.inside.marks.items in
    let ranks = c.plan.inside.ranks.items in
    let roots = c.plan.inside.roots.items in
    let marked = subst (IsPlanFor old) (sym c.plan.view_is) c.requires in
    let at = subst (λ (ms : List Bool). AreAtRanks ms old new (length old)) c.as_slice.ensures.value c.keep_marked.ensures in
    let nows = numbers (refill (length roots) roots c.rename_roots.new.roots) in
    let made = ap numbers (lent_back roots c.rename_roots.new.roots (c.rename_roots.auto.roots ∙ ap length c.as_mut_slice.ensures.value)) ∙ c.rename_roots.ensures ∙ ap (λ (rs : List ℕ). map (λ k. get_or rs k 0) (numbers c.as_mut_slice.result.now)) c.as_slice-3.ensures.value
    ∙ ap (λ (ns : List Node). map (λ k. get_or ranks k 0) (numbers ns)) c.as_mut_slice.ensures.value in
    (subst (λ (plan : PlannedSweep). IsFinished g.P.Plane.widths old new plan.roots nows) c.plan.view_is
    (finished g.P.Plane.widths old new (numbers roots) nows marks ranks c.nodes_are_well_formed.ensures c.nodes_are_well_formed-2.ensures marked c.plan.invariant at made)).rows

pub returns-clause-debts : goal.returns-clause-debts
returns-clause-debts g c =
    let old = c.args.arena.now in
    let new = c.keep_marked.new.self in
    let marks = c.plan.inside.marks.items in
    let ranks = c.plan.inside.ranks.items in
    let roots = c.plan.inside.roots.items in
    let marked = subst (IsPlanFor old) (sym c.plan.view_is) c.requires in
    let at = subst (λ (ms : List Bool). AreAtRanks ms old new (length old)) c.as_slice.ensures.value c.keep_marked.ensures in
    let nows = numbers (refill (length roots) roots c.rename_roots.new.roots) in
    let made = ap numbers (lent_back roots c.rename_roots.new.roots (c.rename_roots.auto.roots ∙ ap length c.as_mut_slice.ensures.value)) ∙ c.rename_roots.ensures ∙ ap (λ (rs : List ℕ). map (λ k. get_or rs k 0) (numbers c.as_mut_slice.result.now)) c.as_slice-3.ensures.value
    ∙ ap (λ (ns : List Node). map (λ k. get_or ranks k 0) (numbers ns)) c.as_mut_slice.ensures.value in
    (subst (λ (plan : PlannedSweep). IsFinished g.P.Plane.widths old new plan.roots nows) c.plan.view_is
    (finished g.P.Plane.widths old new (numbers roots) nows marks ranks c.nodes_are_well_formed.ensures c.nodes_are_well_formed-2.ensures marked c.plan.invariant at made)).debts

pub returns-clause-allowed : goal.returns-clause-allowed
returns-clause-allowed g c =
    let old = c.args.arena.now in
    let new = c.keep_marked.new.self in
    let marks = c.plan.inside.marks.items in
    let ranks = c.plan.inside.ranks.items in
    let roots = c.plan.inside.roots.items in
    let marked = subst (IsPlanFor old) (sym c.plan.view_is) c.requires in
    let at = subst (λ (ms : List Bool). AreAtRanks ms old new (length old)) c.as_slice.ensures.value c.keep_marked.ensures in
    let nows = numbers (refill (length roots) roots c.rename_roots.new.roots) in
    let made = ap numbers (lent_back roots c.rename_roots.new.roots (c.rename_roots.auto.roots ∙ ap length c.as_mut_slice.ensures.value)) ∙ c.rename_roots.ensures ∙ ap (λ (rs : List ℕ). map (λ k. get_or rs k 0) (numbers c.as_mut_slice.result.now)) c.as_slice-3.ensures.value
    ∙ ap (λ (ns : List Node). map (λ k. get_or ranks k 0) (numbers ns)) c.as_mut_slice.ensures.value in
    (subst (λ (plan : PlannedSweep). IsFinished g.P.Plane.widths old new plan.roots nows) c.plan.view_is
    (finished g.P.Plane.widths old new (numbers roots) nows marks ranks c.nodes_are_well_formed.ensures c.nodes_are_well_formed-2.ensures marked c.plan.invariant at made)).allowed

pub returns-clause-depths : goal.returns-clause-depths
returns-clause-depths g c =
    let old = c.args.arena.now in
    let new = c.keep_marked.new.self in
    let marks = c.plan.inside.marks.items in
    let ranks = c.plan.inside.ranks.items in
    let roots = c.plan.inside.roots.items in
    let marked = subst (IsPlanFor old) (sym c.plan.view_is) c.requires in
    let at = subst (λ (ms : List Bool). AreAtRanks ms old new (length old)) c.as_slice.ensures.value c.keep_marked.ensures in
    let nows = numbers (refill (length roots) roots c.rename_roots.new.roots) in
    let made = ap numbers (lent_back roots c.rename_roots.new.roots (c.rename_roots.auto.roots ∙ ap length c.as_mut_slice.ensures.value)) ∙ c.rename_roots.ensures ∙ ap (λ (rs : List ℕ). map (λ k. get_or rs k 0) (numbers c.as_mut_slice.result.now)) c.as_slice-3.ensures.value
    ∙ ap (λ (ns : List Node). map (λ k. get_or ranks k 0) (numbers ns)) c.as_mut_slice.ensures.value in
    (subst (λ (plan : PlannedSweep). IsFinished g.P.Plane.widths old new plan.roots nows) c.plan.view_is
    (finished g.P.Plane.widths old new (numbers roots) nows marks ranks c.nodes_are_well_formed.ensures c.nodes_are_well_formed-2.ensures marked c.plan.invariant at made)).depths

pub returns-clause-reached : goal.returns-clause-reached
returns-clause-reached g c =
    let old = c.args.arena.now in
    let new = c.keep_marked.new.self in
    let marks = c.plan.inside.marks.items in
    let ranks = c.plan.inside.ranks.items in
    let roots = c.plan.inside.roots.items in
    let marked = subst (IsPlanFor old) (sym c.plan.view_is) c.requires in
    let at = subst (λ (ms : List Bool). AreAtRanks ms old new (length old)) c.as_slice.ensures.value c.keep_marked.ensures in
    let nows = numbers (refill (length roots) roots c.rename_roots.new.roots) in
    let made = ap numbers (lent_back roots c.rename_roots.new.roots (c.rename_roots.auto.roots ∙ ap length c.as_mut_slice.ensures.value)) ∙ c.rename_roots.ensures ∙ ap (λ (rs : List ℕ). map (λ k. get_or rs k 0) (numbers c.as_mut_slice.result.now)) c.as_slice-3.ensures.value
    ∙ ap (λ (ns : List Node). map (λ k. get_or ranks k 0) (numbers ns)) c.as_mut_slice.ensures.value in
    (subst (λ (plan : PlannedSweep). IsFinished g.P.Plane.widths old new plan.roots nows) c.plan.view_is
    (finished g.P.Plane.widths old new (numbers roots) nows marks ranks c.nodes_are_well_formed.ensures c.nodes_are_well_formed-2.ensures marked c.plan.invariant at made)).reached

pub returns-clause-count : goal.returns-clause-count
returns-clause-count g c =
    let old = c.args.arena.now in
    let new = c.keep_marked.new.self in
    let marks = c.plan.inside.marks.items in
    let ranks = c.plan.inside.ranks.items in
    let roots = c.plan.inside.roots.items in
    let marked = subst (IsPlanFor old) (sym c.plan.view_is) c.requires in
    let at = subst (λ (ms : List Bool). AreAtRanks ms old new (length old)) c.as_slice.ensures.value c.keep_marked.ensures in
    let nows = numbers (refill (length roots) roots c.rename_roots.new.roots) in
    let made = ap numbers (lent_back roots c.rename_roots.new.roots (c.rename_roots.auto.roots ∙ ap length c.as_mut_slice.ensures.value)) ∙ c.rename_roots.ensures ∙ ap (λ (rs : List ℕ). map (λ k. get_or rs k 0) (numbers c.as_mut_slice.result.now)) c.as_slice-3.ensures.value
    ∙ ap (λ (ns : List Node). map (λ k. get_or ranks k 0) (numbers ns)) c.as_mut_slice.ensures.value in
    (subst (λ (plan : PlannedSweep). IsFinished g.P.Plane.widths old new plan.roots nows) c.plan.view_is
    (finished g.P.Plane.widths old new (numbers roots) nows marks ranks c.nodes_are_well_formed.ensures c.nodes_are_well_formed-2.ensures marked c.plan.invariant at made)).count

pub returns-clause-none_left : goal.returns-clause-none_left
returns-clause-none_left g c =
    let old = c.args.arena.now in
    let new = c.keep_marked.new.self in
    let marks = c.plan.inside.marks.items in
    let ranks = c.plan.inside.ranks.items in
    let roots = c.plan.inside.roots.items in
    let marked = subst (IsPlanFor old) (sym c.plan.view_is) c.requires in
    let at = subst (λ (ms : List Bool). AreAtRanks ms old new (length old)) c.as_slice.ensures.value c.keep_marked.ensures in
    let nows = numbers (refill (length roots) roots c.rename_roots.new.roots) in
    let made = ap numbers (lent_back roots c.rename_roots.new.roots (c.rename_roots.auto.roots ∙ ap length c.as_mut_slice.ensures.value)) ∙ c.rename_roots.ensures ∙ ap (λ (rs : List ℕ). map (λ k. get_or rs k 0) (numbers c.as_mut_slice.result.now)) c.as_slice-3.ensures.value
    ∙ ap (λ (ns : List Node). map (λ k. get_or ranks k 0) (numbers ns)) c.as_mut_slice.ensures.value in
    (subst (λ (plan : PlannedSweep). IsFinished g.P.Plane.widths old new plan.roots nows) c.plan.view_is
    (finished g.P.Plane.widths old new (numbers roots) nows marks ranks c.nodes_are_well_formed.ensures c.nodes_are_well_formed-2.ensures marked c.plan.invariant at made)).none_left
