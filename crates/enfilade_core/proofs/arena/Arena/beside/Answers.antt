use Rattle.std.proofs.Common.{◌≡◌, true, false, ◌∙◌, sym, subst}
use Rattle.tumbler.specs.Places.{comes_before}
use Rattle.enfilade_core.specs.Rows.{branch_rows, rows_table}
use Rattle.enfilade_core.proofs.BesideRows.{all_before, all_past, all_within}
use Rattle.enfilade_core.proofs.arena.Arena.beside.Goals as goal

pub returns-then-is_before : goal.returns-then-is_before
returns-then-is_before g c =
    let from = c.args.gap.now.from in
    all_before from (branch_rows (rows_table c.args.self.now) c.args.branch.now) c.last_of-last.ensures.ordered
    (subst (λ x. comes_before x from ≡ true) c.last_of-last.ensures.value (sym c.is_before.ensures.value ∙ c.if-is_before.true))

pub returns-then-not-starts_before : goal.returns-then-not-starts_before
returns-then-not-starts_before g c =
    all_past c.args.gap.now.to (branch_rows (rows_table c.args.self.now) c.args.branch.now) c.starts_before.ensures.ordered
    (sym c.starts_before.ensures.value ∙ c.if-not-starts_before.true)

pub returns-then-is_before-3 : goal.returns-then-is_before-3
returns-then-is_before-3 g c =
    let from = c.args.gap.now.from in
    let to = c.args.gap.now.to in
    all_within from to (branch_rows (rows_table c.args.self.now) c.args.branch.now) c.first_of-first.ensures.ordered
    (subst (λ x. comes_before x from ≡ false) c.first_of-first.ensures.value (sym c.is_before-2.ensures.value ∙ c.if-is_before-2.false))
    (subst (λ x. comes_before x to ≡ true) c.last_of-last.ensures.value (sym c.is_before-3.ensures.value ∙ c.if-is_before-3.true))
