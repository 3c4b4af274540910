-- Nodes that only come in behind those that are there.
use Rattle.std.proofs.Common.{◌≡◌, ◌∙◌, ℕ, ◌++◌, List, Result, Ok, Err, ap, sym, subst, append_assoc}
use Rattle.std.specs.Prelude.{OnOk}
use Rattle.enfilade_core.specs.Rows.{Shape}
use Rattle.enfilade_core.specs.Exchange.{Grows}
use Rattle.granfilade.specs.Content.{ContentTree}
use Rattle.spanfilade.specs.Index.{IndexTree}
use Rattle.links.specs.LinkLists.{LinkLists}
use Rattle.world_rules.specs.declared.rows.SessionRow.{SessionRow}
use Rattle.world_rules.specs.FlatView.{FlatView, with_entry}
use Rattle.febe_data.specs.Plain.{PlainChange}
use Rattle.tree_world.specs.declared.undoing.UndoRecord.{UndoRecord}
use Rattle.tree_world.specs.Trees.{Trees, AreSound}
use Rattle.tree_world.specs.Nodes.{WorldNodes, nodes_in, AllGrown}
use Rattle.tree_world.specs.Standing.{Stands, CountsStand}
use Rattle.tree_world.specs.Undone.{Tables, EntryCame, ChangeCame, IsKept, IsTouched, ComesToNodes}
use Rattle.tree_world.proofs.Undone.{grown_none, comes_back}

-- none came
pub all_same : (nodes : WorldNodes) → AllGrown nodes nodes
all_same nodes = record {
  contents = grown_none nodes.contents;
  documents = grown_none nodes.documents;
  index = grown_none nodes.index;
  from = grown_none nodes.from;
  to = grown_none nodes.to;
  three = grown_none nodes.three;
}

-- some came, and then some more
grown_again : {L : Type 0} (old mid new : List (Shape L)) → Grows old mid → Grows mid new → Grows old new
grown_again {L} old mid new first then_more = record {
  more = first.more ++ then_more.more;
  is = then_more.is ∙ ap (λ (nodes : List (Shape L)). nodes ++ then_more.more) first.is ∙ append_assoc old first.more then_more.more;
}

pub all_again : (old mid new : WorldNodes) → AllGrown old mid → AllGrown mid new → AllGrown old new
all_again old mid new first then_more = record {
  contents = grown_again old.contents mid.contents new.contents first.contents then_more.contents;
  documents = grown_again old.documents mid.documents new.documents first.documents then_more.documents;
  index = grown_again old.index mid.index new.index first.index then_more.index;
  from = grown_again old.from mid.from new.from first.from then_more.from;
  to = grown_again old.to mid.to new.to first.to then_more.to;
  three = grown_again old.three mid.three new.three first.three then_more.three;
}

-- the nodes by other names
pub grown_as : (old new before after : WorldNodes) → old ≡ before → new ≡ after → AllGrown old new → AllGrown before after
grown_as old new before after was is grown = subst (λ (nodes : WorldNodes). AllGrown nodes after) was (subst (AllGrown old) is grown)

-- the very nodes
pub still_grown : {A E : Type 0} (r : Result A E) (old new : WorldNodes) → new ≡ old → OnOk r (AllGrown old new)
still_grown (Ok done) old new same = subst (AllGrown old) (sym same) (all_same old)
still_grown (Err error) old new same = tt

-- where the documents' nodes are as they were, all are
pub documents_back : (all before : WorldNodes) (nodes : List (Shape ℕ)) → all ≡ before → nodes ≡ all.documents → record all { documents = nodes } ≡ before
documents_back all before nodes is same = (λ i. record all { documents = same i }) ∙ is

-- ---- an entry's

pub entry_grown : {A E : Type 0} (r : Result A E) (IsChange : Tables → Tables → Type 0) (before after : Trees) → OnOk r (EntryCame IsChange before after) → OnOk r (AllGrown (nodes_in before) (nodes_in after))
entry_grown (Ok done) IsChange before after came = came.0.grown
entry_grown (Err error) IsChange before after came = tt

-- ---- an entry that goes

-- where all trees are as they were before the entry
pub nodes_were : (after : Trees) (undo : UndoRecord) (were : WorldNodes) (to : ComesToNodes after undo were) (contents : ContentTree) (nodes : List (Shape ℕ)) (index : IndexTree) (links : LinkLists)
    → contents ≡ to.may.back.before.contents → nodes ≡ to.may.back.before.nodes → index ≡ to.may.back.before.index → links ≡ to.may.back.before.links
    → nodes_in (record to.may.back.before { contents = contents; nodes = nodes; index = index; links = links }) ≡ were
nodes_were after undo were to contents nodes index links ec en ei el = (λ i. nodes_in (record to.may.back.before { contents = ec i; nodes = en i; index = ei i; links = el i })) ∙ sym to.were

-- an entry that came of trees with these nodes goes back to them
pub comes_to_nodes : (before : Trees) (view : FlatView) (session : ℕ) (change : PlainChange) (undo : UndoRecord) (after : Trees) (held : List SessionRow) → Stands before view → AreSound before → IsKept before undo → undo.session ≡ session → IsTouched before change undo.touched
    → ChangeCame session change before after → CountsStand held (with_entry session view.sessions) → (were : WorldNodes) → were ≡ nodes_in before → ComesToNodes (record after { sessions = held }) undo were
comes_to_nodes before view session change undo after held stood sound kept own is came counts were same = record {
  may = record { view = view; back = comes_back before view session change undo after held stood sound kept own is came counts };
  were = same;
}
