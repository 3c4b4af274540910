-- What a sweep of an arena leaves: the nodes that are reached from its roots, each once.
use Rattle.std.specs.Prelude.{◌≡◌, ℕ, zero, suc, ◌-◌, ◌<◌, ◌==◌, ◌||◌, ◌&&◌, Bool, List, [], ◌∷◌, length, map, count_by}
use Rattle.std.specs.List.{Contains, list_any, range_with_len}
use Rattle.enfilade_core.specs.declared.tree.Node.{Node}
use Rattle.enfilade_core.specs.Rows.{Shape, node_at, rows_of}
use Rattle.enfilade_core.specs.Axes.{Widths}
use Rattle.enfilade_core.specs.Summary.{depth_of}
use Rattle.enfilade_core.specs.BalanceState.{tree_debt, tree_allows}
use Rattle.enfilade_core.specs.NewNumbers.{under, renamed}

-- the nodes' numbers
abbrev pub numbers : List Node → List ℕ
numbers nodes = map (λ (node : Node). node.0) nodes

-- a node is reached where it is a root, or hangs under one that is reached
pub data Reached {L : Type 0} (nodes : List (Shape L)) (roots : List ℕ) : ℕ → Type 0 where
  is_root : {k : ℕ} → Contains roots k → Reached nodes roots k
  hangs : {j k : ℕ} → Reached nodes roots j → Contains (under (node_at nodes j)) k → Reached nodes roots k

-- each node is
abbrev pub AllReached : {L : Type 0} → List (Shape L) → List ℕ → Type 0
AllReached nodes roots = (k : ℕ) → k < length nodes → Reached nodes roots k

-- whether a number is one of these
abbrev pub is_among : List ℕ → ℕ → Bool
is_among numbers k = list_any (λ number. number == k) numbers

-- whether a node is reached in at most so many steps: it is a root, or hangs under one that is reached in fewer
unfoldable pub is_reached_in : {L : Type 0} → List (Shape L) → List ℕ → ℕ → ℕ → Bool
is_reached_in nodes roots zero k = is_among roots k
is_reached_in nodes roots (suc steps) k =
    is_among roots k || list_any (λ j. is_reached_in nodes roots steps j && is_among (under (node_at nodes j)) k) (range_with_len 0 (length nodes))

-- Whether a node is reached. What hangs under a node has a lesser number, so as many steps as there are nodes lead everywhere.
abbrev pub is_reached : {L : Type 0} → List (Shape L) → List ℕ → ℕ → Bool
is_reached nodes roots k = is_reached_in nodes roots (length nodes) k

-- how many nodes are reached, and how many are not
unfoldable pub reached_count : {L : Type 0} → List (Shape L) → List ℕ → ℕ
reached_count nodes roots = count_by (is_reached nodes roots) (range_with_len 0 (length nodes))

unfoldable pub unreached_count : {L : Type 0} → List (Shape L) → List ℕ → ℕ
unreached_count nodes roots = length nodes - reached_count nodes roots

-- Each node that was reached has its place in the new arena, no two have one place, and no place is another's. What
-- hangs under it is what hung there, by the new places; so nodes that were shared still are. Each root is where it was.
pub record IsSwept {L : Type 0} (old : List (Shape L)) (roots : List ℕ) (new : List (Shape L)) (new_roots : List ℕ) : Type 0 where
  pub place : ℕ → ℕ
  pub there : (k : ℕ) → Reached old roots k → place k < length new
  pub once : (j k : ℕ) → Reached old roots j → Reached old roots k → place j ≡ place k → j ≡ k
  pub only : (p : ℕ) → p < length new → (k : ℕ) × Reached old roots k × (place k ≡ p)
  pub same : (k : ℕ) → Reached old roots k → node_at new (place k) ≡ renamed place (node_at old k)
  pub at : new_roots ≡ map place roots

-- A tree as it was, among the nodes that its root reached and no others: with the rows and the shape that it had.
pub record IsSweptTree {L : Type 0} (w : Widths L) (old : List (Shape L)) (root : ℕ) (new : List (Shape L)) (new_root : ℕ) : Type 0 where
  pub below : new_root < length new
  pub rows : rows_of new new_root ≡ rows_of old root
  pub debt : tree_debt new new_root ≡ tree_debt old root
  pub allows : tree_allows new new_root ≡ tree_allows old root
  pub depth : depth_of w new new_root ≡ depth_of w old root
  pub count : length new ≡ reached_count old (root ∷ [])
  pub none_left : unreached_count new (new_root ∷ []) ≡ 0
