-- The condition of a world's trees: what they owe for their shape, how deep they are, and which nodes are there.
use Rattle.std.specs.Prelude.{◌≡◌, ℕ, ◌+◌, ◌||◌, min, max, Bool, List, [], ◌∷◌, length, map, sum_by, fold}
use Rattle.std.specs.List.{list_any}
use Rattle.enfilade_core.specs.declared.tree.Node.{Node}
use Rattle.enfilade_core.specs.Rows.{Shape}
use Rattle.enfilade_core.specs.Planes.{content_widths, text_widths, key_widths}
use Rattle.enfilade_core.specs.BalanceState.{tree_debt, tree_allows}
use Rattle.enfilade_core.specs.Summary.{depth_of, most_count}
use Rattle.enfilade_sweep.specs.Sweep.{reached_count, unreached_count}
use Rattle.doc_table.specs.declared.rows.DocumentRow.{DocumentRow}
use Rattle.tree_world.specs.Trees.{Trees}

-- what contracts see of trees, beside what they stand for: what all of them owe together; whether one of them allows a
-- step of the balancer; the depth of the deepest; how many nodes their arenas hold, and how many of these the trees' roots
-- reach, each up to the most that a count keeps; and how many no root reaches
pub record Condition : Type 0 where
  pub debt : ℕ
  pub allows : Bool
  pub depth : ℕ
  pub nodes : ℕ
  pub reached : ℕ
  pub unreached : ℕ

-- trees owe what they owed together, one allows a step where one did, and the deepest is as deep
pub record StaysInShape (old new : Condition) : Type 0 where
  pub debt : new.debt ≡ old.debt
  pub allows : new.allows ≡ old.allows
  pub depth : new.depth ≡ old.depth

-- ---- documents: versions that share a tree count for each of them

abbrev pub documents_debt : List (Shape ℕ) → List (DocumentRow Node) → ℕ
documents_debt nodes rows = sum_by (λ (row : DocumentRow Node). tree_debt nodes row.root.0) rows

abbrev pub documents_allow : List (Shape ℕ) → List (DocumentRow Node) → Bool
documents_allow nodes rows = list_any (λ (row : DocumentRow Node). tree_allows nodes row.root.0) rows

-- the depth of the deepest document's tree, 0 where there is no document
abbrev pub documents_depth : List (Shape ℕ) → List (DocumentRow Node) → ℕ
documents_depth nodes rows = fold (λ depth (row : DocumentRow Node). max depth (depth_of text_widths nodes row.root.0)) 0 rows

abbrev pub roots_in : List (DocumentRow Node) → List ℕ
roots_in rows = map (λ (row : DocumentRow Node). row.root.0) rows

-- ---- all trees

abbrev pub debt_of : Trees → ℕ
debt_of trees =
    tree_debt trees.contents.nodes trees.contents.root + tree_debt trees.index.nodes trees.index.root.0
    + tree_debt trees.links.from.nodes trees.links.from.root.0 + tree_debt trees.links.to.nodes trees.links.to.root.0
    + tree_debt trees.links.three.nodes trees.links.three.root.0 + documents_debt trees.nodes trees.documents

abbrev pub allows_of : Trees → Bool
allows_of trees =
    tree_allows trees.contents.nodes trees.contents.root || tree_allows trees.index.nodes trees.index.root.0
    || tree_allows trees.links.from.nodes trees.links.from.root.0 || tree_allows trees.links.to.nodes trees.links.to.root.0
    || tree_allows trees.links.three.nodes trees.links.three.root.0 || documents_allow trees.nodes trees.documents

abbrev pub depth_in : Trees → ℕ
depth_in trees =
    max (depth_of content_widths trees.contents.nodes trees.contents.root) (max (depth_of key_widths trees.index.nodes trees.index.root.0)
    (max (depth_of key_widths trees.links.from.nodes trees.links.from.root.0) (max (depth_of key_widths trees.links.to.nodes trees.links.to.root.0)
    (max (depth_of key_widths trees.links.three.nodes trees.links.three.root.0) (documents_depth trees.nodes trees.documents)))))

abbrev pub nodes_of : Trees → ℕ
nodes_of trees =
    length trees.contents.nodes + length trees.index.nodes + length trees.links.from.nodes + length trees.links.to.nodes
    + length trees.links.three.nodes + length trees.nodes

-- how many nodes are reached in their arenas from the roots of the trees that stand there, each once however many trees
-- share it, and how many are not
abbrev pub reached_of : Trees → ℕ
reached_of trees =
    reached_count trees.contents.nodes (trees.contents.root ∷ []) + reached_count trees.index.nodes (trees.index.root.0 ∷ [])
    + reached_count trees.links.from.nodes (trees.links.from.root.0 ∷ []) + reached_count trees.links.to.nodes (trees.links.to.root.0 ∷ [])
    + reached_count trees.links.three.nodes (trees.links.three.root.0 ∷ []) + reached_count trees.nodes (roots_in trees.documents)

abbrev pub unreached_of : Trees → ℕ
unreached_of trees =
    unreached_count trees.contents.nodes (trees.contents.root ∷ []) + unreached_count trees.index.nodes (trees.index.root.0 ∷ [])
    + unreached_count trees.links.from.nodes (trees.links.from.root.0 ∷ []) + unreached_count trees.links.to.nodes (trees.links.to.root.0 ∷ [])
    + unreached_count trees.links.three.nodes (trees.links.three.root.0 ∷ []) + unreached_count trees.nodes (roots_in trees.documents)

abbrev pub condition_of : Trees → Condition
condition_of trees = record {
  debt = debt_of trees;
  allows = allows_of trees;
  depth = depth_in trees;
  nodes = min (nodes_of trees) most_count;
  reached = min (reached_of trees) most_count;
  unreached = unreached_of trees;
}
