-- The reaches of nodes stay where a node comes in, so a list of them goes on.
use Rattle.std.proofs.Common.{◌≡◌, ℕ, ◌+◌, ◌<◌, ◌≤◌, List, [], ◌∷◌, ◌++◌, length, get_or, take, drop, refl, ap, ◌∙◌, sym, subst, arith, inl, inr}
use Rattle.std.proofs.lemmas.List.{take-append-drop, length-take-le, length-append, get_or_append_left}
use Rattle.std.proofs.Math.Nat.{eq-or-lt_of_le}
use Rattle.std.proofs.Math.Seq.{get_or-append_seam, take-append_seam}
use Rattle.enfilade_core.specs.declared.reach.Reach.{Reach}
use Rattle.enfilade_core.specs.Rows.{Shape, rows_in, rows_of}
use Rattle.enfilade_core.specs.Axes.{Widths, Axis, first_axis, second_axis}
use Rattle.enfilade_core.specs.WellFormed.{origins_in, origins_table}
use Rattle.enfilade_core.specs.Reach.{reach_of, reach_below, AreReaches}
use Rattle.enfilade_core.proofs.Tables.{table-later}

pub reach-later : {L : Type 0} (axis : Axis L) (nodes more : List (Shape L)) (k : ℕ) → k < length nodes → reach_below axis (nodes ++ more) k ≡ reach_below axis nodes k
reach-later axis nodes more k lt =
    ap (λ (o : List (List ℕ)). reach_of axis o (rows_of (nodes ++ more) k)) (table-later (origins_in axis) nodes more k [] lt)
    ∙ ap (reach_of axis (get_or (origins_table axis nodes) k [])) (table-later rows_in nodes more k [] lt)

pub reach-front : {L : Type 0} (axis : Axis L) (nodes : List (Shape L)) (n k : ℕ) → n ≤ length nodes → k < n → reach_below axis (take n nodes) k ≡ reach_below axis nodes k
reach-front {L} axis nodes n k le lt =
    let short : k < length (take n nodes) = subst (λ (m : ℕ). k < m) (sym (length-take-le n nodes le)) lt in
    sym (reach-later axis (take n nodes) (drop n nodes) k short) ∙ ap (λ (x : List (Shape L)). reach_below axis x k) (take-append-drop n nodes)

-- the reach that a list of the reaches of the first nodes has at a place
pub record IsTold {L : Type 0} (w : Widths L) (nodes : List (Shape L)) (k : ℕ) (reach : Reach) : Type 0 where
  pub first : reach.first ≡ reach_below (first_axis w) nodes k
  pub second : reach.second ≡ reach_below (second_axis w) nodes k

pub told-at : {L : Type 0} (w : Widths L) (nodes : List (Shape L)) (n : ℕ) (reaches : List Reach) → n ≤ length nodes → AreReaches w (take n nodes) reaches → (k : ℕ) (reach : Reach) → k < n → reach ≡ get_or reaches k reach → IsTold w nodes k reach
told-at w nodes n reaches le told k reach lt at =
    let short : k < length (take n nodes) = subst (λ (m : ℕ). k < m) (sym (length-take-le n nodes le)) lt in
    record {
      first = told.first k reach short at ∙ reach-front (first_axis w) nodes n k le lt;
      second = told.second k reach short at ∙ reach-front (second_axis w) nodes n k le lt;
    }

pub reaches-more : {L : Type 0} (w : Widths L) (nodes : List (Shape L)) (n : ℕ) (reaches now : List Reach) (last : Reach) → length nodes ≡ n + 1 → AreReaches w (take n nodes) reaches → now ≡ reaches ++ last ∷ []
    → IsTold w nodes n last → AreReaches w nodes now
reaches-more {L} w nodes n reaches now last is told more new =
    let le : n ≤ length nodes = omega (arith, is) in
    let many : length reaches ≡ n = told.many ∙ length-take-le n nodes le in
    let at : (k : ℕ) (reach : Reach) → k < length nodes → reach ≡ get_or now k reach → IsTold w nodes k reach =
    λ k reach lt item.
    let le_last : k ≤ n = omega (arith, lt, is) in
    elim (eq-or-lt_of_le le_last) [
      | inr under ↦ told-at w nodes n reaches le told k reach under (item ∙ ap (λ (x : List Reach). get_or x k reach) more ∙ get_or_append_left reaches (last ∷ []) reach k (subst (λ (m : ℕ). k < m) (sym many) under))
      | inl same ↦
          let seam : reach ≡ last = item ∙ ap (λ (x : List Reach). get_or x k reach) more ∙ ap (λ (j : ℕ). get_or (reaches ++ last ∷ []) j reach) (same ∙ sym many) ∙ get_or-append_seam reaches last [] reach in
          subst (λ (j : ℕ). IsTold w nodes j reach) (sym same) (subst (IsTold w nodes n) (sym seam) new)
    ]
    in
    record {
      many = ap length more ∙ length-append reaches (last ∷ []) ∙ omega (arith, many, is);
      first = λ k reach lt item. (at k reach lt item).first;
      second = λ k reach lt item. (at k reach lt item).second;
    }

-- no node has no reach to be told
pub no-reaches : {L : Type 0} (w : Widths L) (nodes : List (Shape L)) (reaches : List Reach) → nodes ≡ [] → reaches ≡ [] → AreReaches w nodes reaches
no-reaches {L} w nodes reaches none empty =
    let start : AreReaches {L = L} w [] [] = record { many = refl; first = λ k reach lt item. absurd (omega (arith, lt)); second = λ k reach lt item. absurd (omega (arith, lt)) } in
    subst (λ (x : List (Shape L)). AreReaches w x reaches) (sym none) (subst (AreReaches w []) (sym empty) start)

-- the reaches of the nodes in front of a new one
pub reaches-in_front : {L : Type 0} (w : Widths L) (nodes now : List (Shape L)) (node : Shape L) (n : ℕ) (reaches : List Reach) → AreReaches w nodes reaches → now ≡ nodes ++ node ∷ [] → n ≡ length nodes → AreReaches w (take n now) reaches
reaches-in_front {L} w nodes now node n reaches told more last =
    subst (λ (x : List (Shape L)). AreReaches w x reaches) (sym (ap (λ (x : List (Shape L)). take n x) more ∙ ap (λ (m : ℕ). take m (nodes ++ node ∷ [])) last ∙ take-append_seam nodes (node ∷ []))) told

-- and there is one node more
pub one-more : {L : Type 0} (nodes now : List (Shape L)) (node : Shape L) (n : ℕ) → now ≡ nodes ++ node ∷ [] → n ≡ length nodes → length now ≡ n + 1
one-more nodes now node n more last = ap length more ∙ length-append nodes (node ∷ []) ∙ omega (arith, last)
