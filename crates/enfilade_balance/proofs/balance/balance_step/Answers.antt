use Rattle.std.proofs.Common.{◌≡◌, ℕ, ◌+◌, ◌≤◌, false, ◌∙◌, List, map, ap, sym, subst, inl}
use Rattle.enfilade_core.specs.declared.tree.Row.{Row}
use Rattle.std.proofs.lemmas.Result.{IfOk-weaker}
use Rattle.enfilade_core.specs.declared.tree.Branch.{Branch}
use Rattle.enfilade_core.specs.Rows.{Shape, Rows, Branches, rows_in, rows_table, rows_of, node_at}
use Rattle.enfilade_core.specs.WellFormed.{IsWellFormed}
use Rattle.enfilade_core.specs.Plain.{shape, plain_row}
use Rattle.enfilade_core.proofs.Rooted.{at_root, grows_keeps}
use Rattle.enfilade_core.specs.BalanceState.{balance_states, root_debt, tree_debt}
use Rattle.enfilade_balance.specs.Laws.{IsStep}
use Rattle.enfilade_balance.specs.Steps.{root_after, is_idle}
use Rattle.enfilade_balance.specs.OneStep.{SplitsRoot, IsOneStep}
use Rattle.enfilade_balance.specs.Path.{IsBalanced}
use Rattle.enfilade_balance.proofs.Rooting.{opened-rows, not-moved}
use Rattle.enfilade_balance.proofs.balance.balance_step.Goals as goal

pub opened-requires : goal.opened-requires
opened-requires g c = at_root g.P.Plane.widths c.args.arena.now c.args.root.0 c.zero-zero.result c.zero-zero.result c.zero-zero.ensures c.zero-zero.ensures c.allocator.ensures.well_formed c.requires

pub root_of_rows-requires-clause-well_formed : goal.root_of_rows-requires-clause-well_formed
root_of_rows-requires-clause-well_formed g c =
    let plain = g.P.Plane.plain in
    let node : shape plain c.in_ok-children.children ≡ Rows (map (plain_row plain) c.as_slice.result.now) =
    ap (shape plain) c.in-Bottom.is ∙ ap (λ (rs : List (Row _)). Rows (map (plain_row plain) rs)) (sym c.as_slice.ensures) in
    let well_formed = subst (IsWellFormed g.P.Plane.widths c.args.arena.now) node c.in_ok-children.ensures.opened.well_formed in
    record { each = well_formed.rows; ordered = well_formed.ordered }

pub returns-in_err-made-in-Bottom-clause-kept : goal.returns-in_err-made-in-Bottom-clause-kept
returns-in_err-made-in-Bottom-clause-kept g c = grows_keeps c.args.arena.now c.root_of_rows.new.arena c.root_of_rows.ensures.grows

pub returns-in_ok-made-in-Bottom-clause-kept : goal.returns-in_ok-made-in-Bottom-clause-kept
returns-in_ok-made-in-Bottom-clause-kept g c = grows_keeps c.args.arena.now c.root_of_rows.new.arena c.root_of_rows.ensures.grows

pub returns-in_ok-made-in-Bottom-clause-rows : goal.returns-in_ok-made-in-Bottom-clause-rows
returns-in_ok-made-in-Bottom-clause-rows g c =
    let plain = g.P.Plane.plain in
    let old = c.args.arena.now in
    let node : shape plain c.in_ok-children.children ≡ Rows (map (plain_row plain) c.as_slice.result.now) =
    ap (shape plain) c.in-Bottom.is ∙ ap (λ (rs : List (Row _)). Rows (map (plain_row plain) rs)) (sym c.as_slice.ensures) in
    c.in_ok-made-in-Bottom.ensures.root.is.rows_are ∙ sym (ap (rows_in (rows_table old)) node)
    ∙ opened-rows g.P.Plane.widths old c.args.root.0 c.zero-zero.result c.zero-zero.result (shape plain c.in_ok-children.children) c.zero-zero.ensures c.zero-zero.ensures c.in_ok-children.ensures.opened

pub returns-in-Inner-clause-kept : goal.returns-in-Inner-clause-kept
returns-in-Inner-clause-kept g c = grows_keeps c.args.arena.now c.inner_balanced.new.arena c.inner_balanced.ensures.grows

pub returns-in-Inner-clause-rows : goal.returns-in-Inner-clause-rows
returns-in-Inner-clause-rows g c =
    let plain = g.P.Plane.plain in
    let old = c.args.arena.now in
    let new = c.inner_balanced.new.arena in
    let branches = c.as_slice-in-Inner.result.now in
    let node : shape plain c.in_ok-children.children ≡ Branches branches = ap (shape plain) c.in-Inner.is ∙ ap (λ (bs : List Branch). Branches bs) (sym c.as_slice-in-Inner.ensures) in
    let rows = sym (ap (rows_in (rows_table old)) node)
    ∙ opened-rows g.P.Plane.widths old c.args.root.0 c.zero-zero.result c.zero-zero.result (shape plain c.in_ok-children.children) c.zero-zero.ensures c.zero-zero.ensures c.in_ok-children.ensures.opened in
    IfOk-weaker c.inner_balanced.result (IsBalanced old new (Branches branches) c.args.root) (λ made. rows_of new (root_after c.args.root made).0 ≡ rows_of old c.args.root.0) (λ made b. b.lighter.is.rows_are ∙ rows) c.inner_balanced.ensures.balanced

pub returns-in_ok-made-in-Bottom-clause-one : goal.returns-in_ok-made-in-Bottom-clause-one
returns-in_ok-made-in-Bottom-clause-one g c =
    let plain = g.P.Plane.plain in
    let old = c.args.arena.now in
    let node : shape plain c.in_ok-children.children ≡ Rows (map (plain_row plain) c.as_slice.result.now) =
    ap (shape plain) c.in-Bottom.is ∙ ap (λ (rs : List (Row _)). Rows (map (plain_row plain) rs)) (sym c.as_slice.ensures) in
    let root = node_at old c.args.root.0 in
    let same = sym node ∙ c.in_ok-children.ensures.is ∙ not-moved c.zero-zero.result c.zero-zero.result root c.zero-zero.ensures c.zero-zero.ensures in
    inl (subst (λ (n : Shape _). SplitsRoot g.P.Plane.widths c.root_of_rows.new.arena n c.in_ok-made-in-Bottom.made.0) same c.in_ok-made-in-Bottom.ensures.splits)

pub returns-in-Inner-clause-one : goal.returns-in-Inner-clause-one
returns-in-Inner-clause-one g c =
    let plain = g.P.Plane.plain in
    let w = g.P.Plane.widths in
    let old = c.args.arena.now in
    let new = c.inner_balanced.new.arena in
    let branches = c.as_slice-in-Inner.result.now in
    let node : shape plain c.in_ok-children.children ≡ Branches branches = ap (shape plain) c.in-Inner.is ∙ ap (λ (bs : List Branch). Branches bs) (sym c.as_slice-in-Inner.ensures) in
    let root = node_at old c.args.root.0 in
    let same = sym node ∙ c.in_ok-children.ensures.is ∙ not-moved c.zero-zero.result c.zero-zero.result root c.zero-zero.ensures c.zero-zero.ensures in
    IfOk-weaker c.inner_balanced.result (IsOneStep w new (Branches branches)) (IsOneStep w new root) (λ made is. subst (λ (n : Shape _). IsOneStep w new n made) same is) c.inner_balanced.ensures.one

pub returns-in_ok-made-in-Bottom-clause-step : goal.returns-in_ok-made-in-Bottom-clause-step
returns-in_ok-made-in-Bottom-clause-step g c busy =
    let plain = g.P.Plane.plain in
    let old = c.args.arena.now in
    let made = c.in_ok-made-in-Bottom in
    let node : shape plain c.in_ok-children.children ≡ Rows (map (plain_row plain) c.as_slice.result.now) =
    ap (shape plain) c.in-Bottom.is ∙ ap (λ (rs : List (Row _)). Rows (map (plain_row plain) rs)) (sym c.as_slice.ensures) in
    record {
      grows = made.ensures.grows;
      rows = returns-in_ok-made-in-Bottom-clause-rows g c;
      lowers = subst (λ (n : ℕ). tree_debt c.root_of_rows.new.arena made.made.0 + 1 ≤ n) (sym (ap (root_debt (balance_states old)) node) ∙ c.in_ok-children.ensures.stands.debt) made.ensures.root.owes;
    }

pub returns-in-Inner-clause-step : goal.returns-in-Inner-clause-step
returns-in-Inner-clause-step g c =
    let plain = g.P.Plane.plain in
    let old = c.args.arena.now in
    let new = c.inner_balanced.new.arena in
    let branches = c.as_slice-in-Inner.result.now in
    let node : shape plain c.in_ok-children.children ≡ Branches branches = ap (shape plain) c.in-Inner.is ∙ ap (λ (bs : List Branch). Branches bs) (sym c.as_slice-in-Inner.ensures) in
    let rows = sym (ap (rows_in (rows_table old)) node)
    ∙ opened-rows g.P.Plane.widths old c.args.root.0 c.zero-zero.result c.zero-zero.result (shape plain c.in_ok-children.children) c.zero-zero.ensures c.zero-zero.ensures c.in_ok-children.ensures.opened in
    let owed = sym (ap (root_debt (balance_states old)) node) ∙ c.in_ok-children.ensures.stands.debt in
    IfOk-weaker c.inner_balanced.result (IsBalanced old new (Branches branches) c.args.root) (λ made. is_idle made ≡ false → IsStep old c.args.root.0 new (root_after c.args.root made).0) (λ made b busy. record {
      grows = c.inner_balanced.ensures.grows;
      rows = b.lighter.is.rows_are ∙ rows;
      lowers = subst (λ (n : ℕ). tree_debt new (root_after c.args.root made).0 + 1 ≤ n) owed b.lighter.owes;
    }) c.inner_balanced.ensures.balanced
