-- Each node of a sweep is reached from the roots.
use Rattle.std.proofs.Common.{◌≡◌, ◌∙◌, ℕ, ◌<◌, List, [], ◌∷◌, length, map, ap, sym, subst, refl, arith}
use Rattle.std.specs.List.{Contains}
use Rattle.std.proofs.lemmas.List.{get_or-map, length-map}
use Rattle.std.proofs.lemmas.List.Elements.{All-contains, All-map}
use Rattle.enfilade_core.specs.declared.tree.Branch.{Branch}
use Rattle.enfilade_core.specs.Rows.{Shape, Rows, Branches, node_at, branches_under}
use Rattle.enfilade_core.specs.Axes.{Widths}
use Rattle.enfilade_core.specs.WellFormed.{AreWellFormed}
use Rattle.enfilade_core.proofs.Parts.{names_below}
use Rattle.enfilade_core.specs.NewNumbers.{under, renamed, renamed_branch}
use Rattle.enfilade_sweep.specs.Sweep.{Reached, is_root, hangs, AllReached, IsSwept}
use Rattle.enfilade_core.proofs.AtRanks.{named_all}

placed_there : (place : ℕ → ℕ) (xs : List ℕ) (k : ℕ) → Contains xs k → Contains (map place xs) (place k)
placed_there place xs k c = (c.0, omega (arith, c.1, length-map xs place), get_or-map place xs c.0 k (place k) c.1 ∙ ap place c.2)

-- ---- a sweep

under_renamed : {L : Type 0} (place : ℕ → ℕ) (node : Shape L) → under (renamed place node) ≡ map place (under node)
under_renamed place (Rows rows) = refl
under_renamed place (Branches branches) = by branches
  where
    by : (bs : List Branch) → map (λ (branch : Branch). branch.node.0) (map (renamed_branch place) bs) ≡ map place (map (λ (branch : Branch). branch.node.0) bs)
    by [] = refl
    by (b ∷ bs) = ap (λ (r : List ℕ). place b.node.0 ∷ r) (by bs)

module _ {L : Type 0} (old : List (Shape L)) (roots : List ℕ) (new : List (Shape L)) (new_roots : List ℕ) (swept : IsSwept old roots new new_roots) where
  still_reached : (k : ℕ) → Reached old roots k → Reached new new_roots (swept.place k)
  still_reached k (is_root c) = is_root (subst (λ (rs : List ℕ). Contains rs (swept.place k)) (sym swept.at) (placed_there swept.place roots k c))
  still_reached k (hangs {j = j} r c) =
      hangs (still_reached j r)
      (subst (λ (ks : List ℕ). Contains ks (swept.place k)) (sym (ap under (swept.same j r) ∙ under_renamed swept.place (node_at old j))) (placed_there swept.place (under (node_at old j)) k c))

  pub all_reached : AllReached new new_roots
  all_reached p lt = let found = swept.only p lt in subst (Reached new new_roots) found.2 (still_reached found.0 found.1)

-- ---- what hangs under a node has a lesser number

pub hangs_before : {L : Type 0} (w : Widths L) (nodes : List (Shape L)) → AreWellFormed w nodes → (j k : ℕ) → j < length nodes → Contains (under (node_at nodes j)) k → k < j
hangs_before w nodes well_formed j k lt c =
    All-contains (λ (i : ℕ). i < j) (under (node_at nodes j)) k (All-map (λ (i : ℕ). i < j) (λ (branch : Branch). branch.node.0) (branches_under (node_at nodes j)) (named_all j (node_at nodes j) (names_below w nodes j well_formed lt))) c
