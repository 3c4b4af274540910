use Rattle.std.proofs.Common.{◌∙◌, ◌<◌, ℕ, length, get_or, ap, sym, subst}
use Rattle.std.specs.Prelude.{All}
use Rattle.enfilade_core.specs.declared.tree.Branch.{Branch}
use Rattle.enfilade_core.specs.Rows.{Shape, node_at, branches_under}
use Rattle.enfilade_core.specs.WellFormed.{IsWellFormed}
use Rattle.enfilade_core.specs.NewNumbers.{renamed}
use Rattle.enfilade_core.proofs.AtRanks.{places_there, well_formed_there, named_alike, copied_next}
use Rattle.enfilade_sweep.proofs.copying.copy_node.Goals as goal

pub add_renamed-requires-clause-there : goal.add_renamed-requires-clause-there
add_renamed-requires-clause-there g c =
    subst (λ (node : Shape _). All (λ (branch : Branch). get_or c.args.ranks.now branch.node.0 0 < length c.args.new.now) (branches_under node)) (sym (ap (node_at c.args.old.now) c.in-Some.ensures.found.0))
    (places_there g.P.Plane.widths c.args.marks.now c.args.old.now c.args.new.now c.args.number c.nodes_are_well_formed.ensures c.nodes_are_well_formed-2.ensures c.requires.closed c.requires.copied c.requires.there c.if-not-marks-number.false
    c.args.ranks.now c.requires.ranks c.requires.long)

pub add_renamed-requires-clause-well_formed : goal.add_renamed-requires-clause-well_formed
add_renamed-requires-clause-well_formed g c =
    let place : ℕ → ℕ = λ k. get_or c.args.ranks.now k 0 in
    subst (IsWellFormed g.P.Plane.widths c.args.new.now)
    (sym (ap (λ (k : ℕ). renamed place (node_at c.args.old.now k)) c.in-Some.ensures.found.0
    ∙ named_alike g.P.Plane.widths c.args.marks.now c.args.old.now c.args.new.now c.args.number c.nodes_are_well_formed.ensures c.nodes_are_well_formed-2.ensures c.requires.closed c.requires.copied c.requires.there c.if-not-marks-number.false
    c.args.ranks.now c.requires.ranks c.requires.long))
    (well_formed_there g.P.Plane.widths c.args.marks.now c.args.old.now c.args.new.now c.args.number c.nodes_are_well_formed.ensures c.nodes_are_well_formed-2.ensures c.requires.closed c.requires.copied c.requires.there c.if-not-marks-number.false)

pub returns : goal.returns
returns g c =
    let place : ℕ → ℕ = λ k. get_or c.args.ranks.now k 0 in
    copied_next g.P.Plane.widths c.args.marks.now c.args.old.now c.args.new.now c.args.number c.nodes_are_well_formed.ensures c.nodes_are_well_formed-2.ensures c.requires.closed c.requires.copied c.requires.there c.if-not-marks-number.false _
    c.add_renamed.new.new c.in_ok-add_renamed.ensures
    (ap (λ (k : ℕ). renamed place (node_at c.args.old.now k)) c.in-Some.ensures.found.0
    ∙ named_alike g.P.Plane.widths c.args.marks.now c.args.old.now c.args.new.now c.args.number c.nodes_are_well_formed.ensures c.nodes_are_well_formed-2.ensures c.requires.closed c.requires.copied c.requires.there c.if-not-marks-number.false
    c.args.ranks.now c.requires.ranks c.requires.long)
