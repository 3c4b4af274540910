use Rattle.std.proofs.Common.{◌≡◌, ◌∙◌, true, List, length, subst}
use Rattle.std.specs.Prelude.{IfSome, IfNone}
use Rattle.febe_data.specs.declared.run.Diagonal.{Diagonal}
use Rattle.world_rules.specs.Refusals.{is_too_long}
use Rattle.enfilade_core.specs.Rows.{rows_of}
use Rattle.febe_data.specs.Plain.{plain_spec}
use Rattle.poom.specs.Laid.{texts}
use Rattle.poom_compare.specs.Shared.{shared}
use Rattle.tree_world.proofs.Looked.{root_stands}
use Rattle.tree_world.proofs.Related.{left_none, right_none, both_there}
use Rattle.tree_world.proofs.world.TreeWorld.relation.Goals as goal

pub returns-in_default-clause-value : goal.returns-in_default-clause-value
returns-in_default-clause-value c view stands =
    c.new.ensures.items ∙ left_none _ c.args.self.now c.self.view_is view stands (plain_spec c.args.left.now) (plain_spec c.args.right.now) c.in_default.ensures

pub returns-in_default-root-clause-value : goal.returns-in_default-root-clause-value
returns-in_default-root-clause-value c view stands =
    c.new-in_default-root.ensures.items ∙ right_none _ c.args.self.now c.self.view_is view stands (plain_spec c.args.left.now) (plain_spec c.args.right.now) c.in_default-root.ensures

pub diagonals-requires-clause-left : goal.diagonals-requires-clause-left
diagonals-requires-clause-left c = root_stands c.self.inside.pooms c.self.inside.documents c.args.left.now.document c.in-Some.left_root c.self.invariant.0 c.in-Some.ensures

pub diagonals-requires-clause-right : goal.diagonals-requires-clause-right
diagonals-requires-clause-right c = root_stands c.self.inside.pooms c.self.inside.documents c.args.right.now.document c.in-Some-root.right_root c.self.invariant.0 c.in-Some-root.ensures

pub returns-clause-value : goal.returns-clause-value
returns-clause-value c view stands =
    subst (λ (wanted : List Diagonal). IfSome c.listed.result (λ made. made.items ≡ wanted))
    (both_there _ c.args.self.now c.self.view_is view stands (plain_spec c.args.left.now) (plain_spec c.args.right.now) c.in-Some.left_root c.in-Some-root.right_root c.in-Some.ensures c.in-Some-root.ensures)
    (c.listed.ensures.value (shared (texts (rows_of c.self.inside.pooms c.in-Some.left_root.0)) c.args.left.now.spans.items (texts (rows_of c.self.inside.pooms c.in-Some-root.right_root.0)) c.args.right.now.spans.items) c.in_ok-found.ensures.value)

pub returns-clause-few : goal.returns-clause-few
returns-clause-few c =
    c.listed.ensures.few (shared (texts (rows_of c.self.inside.pooms c.in-Some.left_root.0)) c.args.left.now.spans.items (texts (rows_of c.self.inside.pooms c.in-Some-root.right_root.0)) c.args.right.now.spans.items) c.in_ok-found.ensures.value

pub returns-clause-many : goal.returns-clause-many
returns-clause-many c view stands =
    subst (λ (wanted : List Diagonal). IfNone c.listed.result (is_too_long (length wanted) ≡ true))
    (both_there _ c.args.self.now c.self.view_is view stands (plain_spec c.args.left.now) (plain_spec c.args.right.now) c.in-Some.left_root c.in-Some-root.right_root c.in-Some.ensures c.in-Some-root.ensures)
    (c.listed.ensures.many (shared (texts (rows_of c.self.inside.pooms c.in-Some.left_root.0)) c.args.left.now.spans.items (texts (rows_of c.self.inside.pooms c.in-Some-root.right_root.0)) c.args.right.now.spans.items) c.in_ok-found.ensures.value)
