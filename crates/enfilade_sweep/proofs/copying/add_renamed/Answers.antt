use Rattle.std.proofs.Common.{◌∷◌, ◌++◌, [], ℕ, map, get_or, ap, ◌∙◌, sym, subst}
use Rattle.enfilade_core.specs.Rows.{Shape, Branches}
use Rattle.enfilade_core.specs.WellFormed.{IsWellFormed}
use Rattle.enfilade_core.specs.Plain.{shape}
use Rattle.enfilade_core.specs.NewNumbers.{renamed_branch, renamed}
use Rattle.enfilade_sweep.proofs.copying.add_renamed.Goals as goal

pub add_node-requires : goal.add_node-requires
add_node-requires g c =
    let place : ℕ → ℕ = λ k. get_or c.args.ranks.now k 0 in
    subst (IsWellFormed g.P.Plane.widths c.args.new.now)
    (sym (ap Branches (c.in_ok-branches-in-Inner.ensures ∙ ap (map (renamed_branch place)) c.as_slice.ensures) ∙ ap (renamed place) (sym (ap (shape g.P.Plane.plain) c.in-Inner.is) ∙ c.node.ensures)))
    c.requires.well_formed

pub returns-in_ok-add_node-in-Inner : goal.returns-in_ok-add_node-in-Inner
returns-in_ok-add_node-in-Inner g c =
    let place : ℕ → ℕ = λ k. get_or c.args.ranks.now k 0 in
    c.in_ok-add_node-in-Inner.ensures.ok
    ∙ ap (λ (node : Shape _). c.args.new.now ++ node ∷ []) (ap Branches (c.in_ok-branches-in-Inner.ensures ∙ ap (map (renamed_branch place)) c.as_slice.ensures) ∙ ap (renamed place) (sym (ap (shape g.P.Plane.plain) c.in-Inner.is) ∙ c.node.ensures))
