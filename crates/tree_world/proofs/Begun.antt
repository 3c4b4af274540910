-- Trees and tables of nothing stand for the view before any entry.
use Rattle.std.proofs.Common.{◌≡◌, ℕ, List, [], map, refl, sym, subst}
use Rattle.std.specs.Prelude.{IsPermutation}
use Rattle.std.proofs.lemmas.List.Elements.{All-nil}
use Rattle.std.proofs.lemmas.List.Sorted.{IsPermutation-refl}
use Rattle.febe_data.specs.declared.access.Mode.TheVariants.{Write}
use Rattle.enfilade_core.specs.declared.tree.Node.{Node}
use Rattle.enfilade_core.specs.Rows.{Shape}
use Rattle.granfilade.specs.Content.{ContentTree, ByteAt, content}
use Rattle.spanfilade.specs.Index.{IndexTree}
use Rattle.links.specs.LinkLists.{LinkLists, HoldsRuns}
use Rattle.poom.specs.Laid.{IsRoot}
use Rattle.doc_table.specs.declared.rows.DocumentRow.{DocumentRow}
use Rattle.access_table.specs.AccessRows.{AccessRows, no_rows}
use Rattle.world_rules.specs.declared.rows.SessionRow.{SessionRow}
use Rattle.world_rules.specs.World.{LinkRow}
use Rattle.world_rules.specs.FlatView.{nothing_yet}
use Rattle.tree_world.specs.Trees.{Trees}
use Rattle.tree_world.specs.Standing.{Stands, EachIdOnce, IsCovered, byte_row}
use Rattle.tree_world.proofs.Options.{none_there}

abbrev first : ContentTree → List (Shape ℕ) → List (DocumentRow Node) → IndexTree → LinkLists → AccessRows → List SessionRow → List (List ℕ) → Trees
first contents nodes documents index links access sessions due =
    record { contents = contents; content = 0; nodes = nodes; documents = documents; index = index; links = links; access = access; counted = 0; sessions = sessions; due = due }

module _ (contents : ContentTree) (nodes : List (Shape ℕ)) (index : IndexTree) (links : LinkLists) (none : content contents ≡ []) (unlinked : links.links ≡ []) (due : List (List ℕ)) where
  begun_so : HoldsRuns 1 links.links links.from → HoldsRuns 2 links.links links.to → HoldsRuns 3 links.links links.three → Stands (first contents nodes [] index links no_rows [] due) nothing_yet
  begun_so from to three = record {
    documents = IsPermutation-refl [];
    documents_once = tt;
    roots = All-nil (λ (row : DocumentRow Node). IsRoot nodes row.root.0);
    texts = λ d. refl;
    links = λ d. refl;
    covered = λ d. All-nil (IsCovered index d);
    bytes = subst (λ (bytes : List ByteAt). IsPermutation (map byte_row bytes) []) (sym none) (IsPermutation-refl []);
    bytes_once = tt;
    total = refl;
    counts = λ d. refl;
    marks = λ d. refl;
    link_table = subst (λ (ls : List LinkRow). IsPermutation ls []) (sym unlinked) (IsPermutation-refl []);
    ids = subst EachIdOnce (sym unlinked) tt;
    ends = record { from = from; to = to; three = three };
    access = record { modes = λ s d. refl; accounts = λ s. refl; once = tt; account_once = tt; one_writer = λ d s o e f. absurd (none_there Write (sym e)) };
    counted = refl;
    entries = λ s. refl;
    known = λ s there. there;
  }

  pub begun : (documents : List (DocumentRow Node)) (access : AccessRows) (sessions : List SessionRow) → documents ≡ [] → access ≡ no_rows → sessions ≡ []
      → HoldsRuns 1 links.links links.from → HoldsRuns 2 links.links links.to → HoldsRuns 3 links.links links.three → Stands (first contents nodes documents index links access sessions due) nothing_yet
  begun documents access sessions d a s from to three =
      subst (λ ds. Stands (first contents nodes ds index links access sessions due) nothing_yet) (sym d)
      (subst (λ table. Stands (first contents nodes [] index links table sessions due) nothing_yet) (sym a)
      (subst (λ ss. Stands (first contents nodes [] index links no_rows ss due) nothing_yet) (sym s) (begun_so from to three)))
