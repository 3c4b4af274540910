-- Starts and the ends that belong to them.
use Rattle.std.proofs.Common.{◌≡◌, ℕ, zero, suc, ◌+◌, ◌<◌, ◌≤◌, ◌∙◌, ◌++◌, ◌∷◌, [], List, length, take, ap, sym, refl, subst, arith, get_or, inl, inr}
use Rattle.std.specs.Prelude.{Some, None, ◌⊎◌}
use Rattle.std.specs.Global.{Vec}
use Rattle.std.specs.List.Sorted.{IsPermutation, IsNonDecreasingBy}
use Rattle.febe_data.specs.declared.run.Diagonal.{Diagonal}
use Rattle.world_rules.specs.declared.pairs.Pair.{Pair}
use Rattle.world_rules.specs.Relation.{diagonals_of}
use Rattle.poom_compare.specs.declared.segment.Segment.{Segment}
use Rattle.poom_compare.specs.declared.compared.Compared.TheVariants.{TooMany}
use Rattle.poom_compare.specs.Segments.{AreSegmentsOf, AreStarts, AreEnds, AreFound, AreFoundEnds, ArePairsOf, ComparesSegments, by_difference, by_left, diagonal_to, paired}
use Rattle.poom_compare.proofs.Whole.{starts_in_order, ends_in_order, whole, as_many_starts, as_many_ends}

-- ---- one by one

paired_push : (ss es : List Pair) (k : ℕ) (d e : Pair) → k < length ss → k < length es → paired (take (suc k) ss) (take (suc k) es) ≡ paired (take k ss) (take k es) ++ diagonal_to (get_or ss k d) (get_or es k e) ∷ []
paired_push [] es k d e lt lt' = absurd (omega arith)
paired_push (s ∷ ss) [] k d e lt lt' = absurd (omega arith)
paired_push (s ∷ ss) (x ∷ es) zero d e lt lt' = refl
paired_push (s ∷ ss) (x ∷ es) (suc k) d e lt lt' = ap (λ (ds : List Diagonal). diagonal_to s x ∷ ds) (paired_push ss es k d e (omega arith) (omega arith))

pub paired_more : (ss es : List Pair) (k n : ℕ) (d e : Pair) (now new : List Diagonal) → k < length ss → k < length es → now ≡ paired (take k ss) (take k es) → new ≡ now ++ diagonal_to (get_or ss k d) (get_or es k e) ∷ [] → n ≡ k + 1
    → new ≡ paired (take n ss) (take n es)
paired_more ss es k n d e now new lt lt' so more next =
    let is : n ≡ suc k = omega arith in
    more ∙ (ap (λ (ds : List Diagonal). ds ++ diagonal_to (get_or ss k d) (get_or es k e) ∷ []) so ∙ (sym (paired_push ss es k d e lt lt') ∙ ap (λ (m : ℕ). paired (take m ss) (take m es)) (sym is)))

paired_up : (ss es : List Pair) (k : ℕ) → (length ss ≤ k) ⊎ (length es ≤ k) → paired (take k ss) (take k es) ≡ paired ss es
paired_up [] es zero le = refl
paired_up [] es (suc k) le = refl
paired_up (s ∷ ss) [] zero le = refl
paired_up (s ∷ ss) [] (suc k) le = refl
paired_up (s ∷ ss) (e ∷ es) zero (inl le) = absurd (omega arith)
paired_up (s ∷ ss) (e ∷ es) zero (inr le) = absurd (omega arith)
paired_up (s ∷ ss) (e ∷ es) (suc k) le = ap (λ (ds : List Diagonal). diagonal_to s e ∷ ds) (paired_up ss es k (less (length ss) (length es) k le))
  where
    less : (a b k : ℕ) → (suc a ≤ suc k) ⊎ (suc b ≤ suc k) → (a ≤ k) ⊎ (b ≤ k)
    less a b k (inl l) = inl (omega arith)
    less a b k (inr l) = inr (omega arith)

pub paired_all : (ss es : List Pair) (k : ℕ) (now : List Diagonal) → (length ss ≤ k) ⊎ (length es ≤ k) → now ≡ paired (take k ss) (take k es) → now ≡ paired ss es
paired_all ss es k now le so = so ∙ paired_up ss es k le

-- ---- all

pub too_many_starts : (lefts rights : List Segment) → AreFound lefts rights None → ComparesSegments lefts rights TooMany
too_many_starts lefts rights more f g pairs are are' of =
    let found = more f g are are' in
    let long = as_many_starts f g lefts rights are are' pairs of found.pairs found.are in
    let many = found.many in
    omega arith

pub too_many_ends : (lefts rights : List Segment) (found : Vec Pair) → AreFound lefts rights (Some found) → AreFoundEnds lefts rights None → ComparesSegments lefts rights TooMany
too_many_ends lefts rights found all more f g pairs are are' of =
    let ends = more f g are are' in
    let starts = all.2 f g are are' in
    let long = as_many_ends f g lefts rights are are' pairs of found.items ends.pairs starts ends.are in
    let many = ends.many in
    let few = all.1 in
    absurd (omega arith)

pub whole_compared : (lefts rights : List Segment) (found ended : Vec Pair) (ss es : List Pair) (ds made : List Diagonal) → AreFound lefts rights (Some found) → AreFoundEnds lefts rights (Some ended) → IsPermutation found.items ss → IsNonDecreasingBy by_difference ss
    → IsPermutation ended.items es → IsNonDecreasingBy by_difference es → ds ≡ paired ss es → IsPermutation ds made → IsNonDecreasingBy by_left made
    → (f g : ℕ → ℕ) (pairs : List Pair) → AreSegmentsOf f lefts → AreSegmentsOf g rights → ArePairsOf f g pairs → (made ≡ diagonals_of pairs) × (length (diagonals_of pairs) ≤ 65536)
whole_compared lefts rights found ended ss es ds made all all' moved up moved' up' is moved_on rise f g pairs are are' of =
    let starts : AreStarts f g found.items = all.2 f g are are' in
    let ends : AreEnds f g ended.items = all'.1 f g are are' in
    let long = as_many_starts f g lefts rights are are' pairs of found.items starts in
    let few = all.1 in (
      whole f g lefts rights are are' pairs of ss es made (starts_in_order f g found.items ss moved starts) up (ends_in_order f g ended.items es moved' ends) up' (subst (λ (l : List Diagonal). IsPermutation l made) is moved_on) rise,
      omega arith,
    )

pub paired_of : {ss us es vs : List Pair} → ss ≡ us → es ≡ vs → paired ss es ≡ paired us vs
paired_of is is' = λ i. paired (is i) (is' i)
