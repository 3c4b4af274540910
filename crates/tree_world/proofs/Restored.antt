-- Where trees are as they were, so is their condition.
use Rattle.std.proofs.Common.{◌≡◌, ◌∙◌, ℕ, List, Result, Ok, Err, ap, sym}
use Rattle.std.specs.Prelude.{OnErr}
use Rattle.enfilade_core.specs.Rows.{Shape}
use Rattle.enfilade_core.specs.declared.tree.Node.{Node}
use Rattle.granfilade.specs.Content.{ContentTree}
use Rattle.spanfilade.specs.Index.{IndexTree}
use Rattle.links.specs.LinkLists.{LinkLists}
use Rattle.doc_table.specs.declared.rows.DocumentRow.{DocumentRow}
use Rattle.world_rules.specs.declared.rows.SessionRow.{SessionRow}
use Rattle.world_rules.specs.FlatView.{FlatView, with_entry}
use Rattle.febe_data.specs.Plain.{PlainChange}
use Rattle.tree_world.specs.declared.undoing.UndoRecord.{UndoRecord}
use Rattle.tree_world.specs.Condition.{Condition, condition_of}
use Rattle.tree_world.specs.Trees.{Trees, AreSound}
use Rattle.tree_world.specs.Standing.{Stands, CountsStand}
use Rattle.tree_world.specs.Undone.{ChangeCame, IsKept, IsTouched, ComesTo}
use Rattle.tree_world.proofs.Undone.{comes_back}

-- it is of the trees alone
pub condition_back : (before : Trees) (contents : ContentTree) (nodes : List (Shape ℕ)) (documents : List (DocumentRow Node)) (index : IndexTree) (links : LinkLists)
    → contents ≡ before.contents → nodes ≡ before.nodes → documents ≡ before.documents → index ≡ before.index → links ≡ before.links
    → condition_of (record before { contents = contents; nodes = nodes; documents = documents; index = index; links = links }) ≡ condition_of before
condition_back before contents nodes documents index links ec en ed ei el = λ i. condition_of (record before { contents = ec i; nodes = en i; documents = ed i; index = ei i; links = el i })

-- where all trees are as they were before the entry
pub comes_to_was : (after : Trees) (undo : UndoRecord) (was : Condition) (to : ComesTo after undo was) (contents : ContentTree) (nodes : List (Shape ℕ)) (documents : List (DocumentRow Node)) (index : IndexTree) (links : LinkLists)
    → contents ≡ to.may.back.before.contents → nodes ≡ to.may.back.before.nodes → documents ≡ to.may.back.before.documents → index ≡ to.may.back.before.index → links ≡ to.may.back.before.links
    → condition_of (record to.may.back.before { contents = contents; nodes = nodes; documents = documents; index = index; links = links }) ≡ was
comes_to_was after undo was to contents nodes documents index links ec en ed ei el = condition_back to.may.back.before contents nodes documents index links ec en ed ei el ∙ sym to.was

-- an entry that came of trees in this condition goes back to it
pub comes_to : (before : Trees) (view : FlatView) (session : ℕ) (change : PlainChange) (undo : UndoRecord) (after : Trees) (held : List SessionRow) → Stands before view → AreSound before → IsKept before undo → undo.session ≡ session → IsTouched before change undo.touched
    → ChangeCame session change before after → CountsStand held (with_entry session view.sessions) → (was : Condition) → was ≡ condition_of before → ComesTo (record after { sessions = held }) undo was
comes_to before view session change undo after held stood sound kept own is came counts was same = record {
  may = record { view = view; back = comes_back before view session change undo after held stood sound kept own is came counts };
  was = same;
}

-- where nothing changed
pub same_condition : {A E : Type 0} (r : Result A E) (old new : Trees) → OnErr r (new ≡ old) → OnErr r (condition_of new ≡ condition_of old)
same_condition (Ok done) old new same = tt
same_condition (Err error) old new same = ap condition_of same
