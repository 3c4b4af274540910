-- What holds of the trees alone after a document got another root, and perhaps a mark.
use Rattle.std.proofs.Common.{◌≡◌, ℕ, List, refl}
use Rattle.enfilade_core.specs.declared.tree.Node.{Node}
use Rattle.enfilade_core.specs.Rows.{Shape}
use Rattle.enfilade_core.specs.Edits.{KeepsRows}
use Rattle.enfilade_core.specs.Exchange.{Grows}
use Rattle.granfilade.specs.Content.{ContentTree}
use Rattle.poom.specs.Laid.{IsRoot}
use Rattle.doc_table.specs.declared.rows.DocumentRow.{DocumentRow}
use Rattle.doc_table.specs.DocumentRows.{with_root}
use Rattle.tree_world.specs.Trees.{AreDue}
use Rattle.tree_world.proofs.Holds.{HoldsDue, unmarked, with_due, holds_same, holds_rooted}
use Rattle.tree_world.proofs.Marked.{due_same, due_grown}

-- `room` are the marks once there was room for one more, `marks` those that are there at last
pub rerooted : (nodes more : List (Shape ℕ)) (documents now : List (DocumentRow Node)) (contents : ContentTree) (due room marks : List (List ℕ)) (document : List ℕ) (made : Node) → HoldsDue nodes documents contents due → KeepsRows nodes more → Grows nodes more → IsRoot more made.0
    → now ≡ with_root documents document made → room ≡ due → (AreDue more documents room → AreDue more now marks) → HoldsDue more now contents marks
rerooted nodes more documents now contents due room marks document made holds kept grows root is same marked =
    with_due more now contents marks
    (holds_same more more (with_root documents document made) now contents refl is (holds_rooted nodes more documents contents (unmarked nodes documents contents due holds) kept grows document made root))
    (marked (due_grown nodes more documents room grows holds.0 (due_same nodes nodes documents documents due room refl refl same holds.4)))
