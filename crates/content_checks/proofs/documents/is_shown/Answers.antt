-- The rows are those of the tree.
use Rattle.std.proofs.Common.{◌↔◌, ◌∙◌, ◌<◌, ℕ, sym, subst, length, IsTrue, false}
use Rattle.page_tables.specs.Plain.{plain_tables}
use Rattle.content_checks.specs.Sound.{IsShown}
use Rattle.content_checks.proofs.SeenRoots.{same_rows, not_there, too_many_rows, shown_there}
use Rattle.content_checks.proofs.documents.is_shown.Goals as goal

pub returns-in_default : goal.returns-in_default
returns-in_default c = not_there c.args.poom.now (plain_tables c.args.tables.now) c.args.root c.in_default.ensures.none

pub returns-then-leaves-gt-MOST_ROWS : goal.returns-then-leaves-gt-MOST_ROWS
returns-then-leaves-gt-MOST_ROWS c =
    let found = c.in-Some.ensures.found in
    subst (λ (k : ℕ). IsTrue false ↔ IsShown c.args.poom.now (plain_tables c.args.tables.now) k) found.0
    (too_many_rows c.args.poom.now (plain_tables c.args.tables.now) c.in-Some.node.0 c.leaves.result c.leaves.ensures c.if-leaves-gt-MOST_ROWS.true)

pub returns : goal.returns
returns c =
    let found = c.in-Some.ensures.found in
    let rows = c.as_slice.ensures ∙ (sym (same_rows c.in_ok-rows.rows.items) ∙ c.in_ok-rows.ensures) in
    subst (λ (k : ℕ). IsTrue c.are_shown.result ↔ IsShown c.args.poom.now (plain_tables c.args.tables.now) k) found.0
    (shown_there c.args.poom.now (plain_tables c.args.tables.now) c.in-Some.node.0 c.as_slice.result.now c.are_shown.result (subst (λ (k : ℕ). k < length c.args.poom.now) (sym found.0) found.1) rows c.are_shown.ensures)
