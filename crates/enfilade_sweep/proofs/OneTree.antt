-- A sweep with one root.
use Rattle.std.proofs.Common.{◌≡◌, ◌≢◌, ◌∙◌, ℕ, ◌<◌, Bool, true, false, List, [], ◌∷◌, length, map, slice_get, Option, Some, None, sym, ap, subst, true≢false, arith}
use Rattle.std.specs.Prelude.{All}
use Rattle.std.specs.List.{Contains}
use Rattle.std.proofs.lemmas.List.Elements.{All-head, All-weaker, All-map, All-contains_itself}
use Rattle.enfilade_core.specs.declared.tree.Node.{Node}
use Rattle.enfilade_core.specs.Rows.{Shape, rows_of}
use Rattle.enfilade_core.specs.Axes.{Widths}
use Rattle.enfilade_core.specs.BalanceState.{tree_debt, tree_allows}
use Rattle.enfilade_core.specs.Summary.{depth_of}
use Rattle.enfilade_sweep.specs.Sweep.{is_root, numbers, IsSwept, IsSweptTree, reached_count, unreached_count}

is_some : Option Node → Bool
is_some (Some x) = true
is_some None = false

some_none : (x : Node) → Some x ≢ None
unfolding is_some
some_none x h = true≢false (ap is_some h)

abbrev value_of : Node → Option Node → Node
value_of d (Some x) = x
value_of d None = d

abbrev first_of : {X : Type 0} → X → List X → X
first_of d [] = d
first_of d (x ∷ xs) = x

-- each new root is one of the new nodes
pub roots_below : {L : Type 0} (old new : List (Shape L)) (roots made : List ℕ) → IsSwept old roots new made → All (λ k. k < length new) made
roots_below old new roots made swept =
    subst (All (λ k. k < length new)) (sym swept.at)
    (All-map (λ k. k < length new) swept.place roots (All-weaker (Contains roots) (λ k. swept.place k < length new) (λ k has. swept.there k (is_root has)) roots (All-contains_itself roots)))

module _ {L : Type 0} (w : Widths L) (old new : List (Shape L)) (root : ℕ) (roots : List ℕ) (one : roots ≡ root ∷ []) where
  pub one_tree : (made : List Node) (first : Node) → Some first ≡ slice_get made 0 → IsSwept old roots new (numbers made) → map (rows_of new) (numbers made) ≡ map (rows_of old) roots → map (tree_debt new) (numbers made) ≡ map (tree_debt old) roots
      → map (tree_allows new) (numbers made) ≡ map (tree_allows old) roots → map (depth_of w new) (numbers made) ≡ map (depth_of w old) roots → length new ≡ reached_count old roots → unreached_count new (numbers made) ≡ 0 → IsSweptTree w old root new first.0
  one_tree [] first e swept rows debts allowed depths count none_left = absurd (some_none first e)
  one_tree (r ∷ s ∷ more) first e swept rows debts allowed depths count none_left = let long = ap length (swept.at ∙ ap (map swept.place) one) in absurd (omega (arith, long))
  one_tree (r ∷ []) first e swept rows debts allowed depths count none_left =
      let is : first ≡ r = ap (value_of r) e in
      subst (λ (node : Node). IsSweptTree w old root new node.0) (sym is)
      (record {
        below = All-head (λ k. k < length new) r.0 [] (roots_below old new roots (r.0 ∷ []) swept);
        rows = ap (first_of (rows_of old root)) (rows ∙ ap (map (rows_of old)) one);
        debt = ap (first_of (tree_debt old root)) (debts ∙ ap (map (tree_debt old)) one);
        allows = ap (first_of (tree_allows old root)) (allowed ∙ ap (map (tree_allows old)) one);
        depth = ap (first_of (depth_of w old root)) (depths ∙ ap (map (depth_of w old)) one);
        count = count ∙ ap (reached_count old) one;
        none_left = none_left;
      })
