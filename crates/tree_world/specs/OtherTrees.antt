-- Other trees in the place of a world's own.
use Rattle.std.specs.Prelude.{ℕ, List}
use Rattle.doc_table.specs.DocumentRows.{with_roots}
use Rattle.tree_world.specs.declared.going_on.OtherTrees.{OtherTrees}
use Rattle.tree_world.specs.Trees.{Trees}

-- A world with these trees and these marks. Its tables are as they were but for the documents' roots, and so are its links.
abbrev pub with_others : OtherTrees → List (List ℕ) → Trees → Trees
with_others other due trees = record trees {
  contents = other.contents;
  nodes = other.pooms;
  documents = with_roots other.roots.items trees.documents;
  index = other.index;
  links = record { links = trees.links.links; from = other.from; to = other.to; three = other.three };
  due = due;
}
