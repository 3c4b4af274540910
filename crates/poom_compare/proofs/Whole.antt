-- Starts and ends that are in order belong together, and are the diagonals.
use Rattle.std.proofs.Common.{◌≡◌, ℕ, zero, suc, ◌+◌, ◌-◌, ◌*◌, ◌<◌, ◌≤◌, ◌∙◌, ◌==◌, ◌&&◌, ◌||◌, ◌∷◌, [], Bool, List, length, map, not, true, false, ap, sym, refl, subst, arith, All, get_or, inl, inr}
use Rattle.std.specs.Prelude.{Contains, filter, ◌⊎◌}
use Rattle.std.specs.List.{AllPairs}
use Rattle.std.specs.List.Sorted.{IsPermutation, IsNonDecreasingBy}
use Rattle.std.specs.Cmp.{IsEquivalence}
use Rattle.std.proofs.lemmas.Bool.{true≢false, or_right}
use Rattle.std.proofs.lemmas.Bool.Decides.{nat_tests}
use Rattle.std.proofs.lemmas.List.{length-map}
use Rattle.std.proofs.lemmas.List.Elements.{All-map, All-head, All-tail, All-contains, All-contains_itself}
use Rattle.std.proofs.lemmas.List.Kept.{AllPairs-filter}
use Rattle.std.proofs.lemmas.List.Sorted.{All-permutation, Contains-permutation, IsPermutation-sym}
use Rattle.std.proofs.lemmas.Map.Keys.{IsDistinct-from_apart}
use Rattle.std.proofs.lemmas.Map.Made.{length-from_same_keys}
use Rattle.std.proofs.lemmas.Map.Views.{Contains-from_any}
use Rattle.febe_data.specs.declared.run.Diagonal.{Diagonal}
use Rattle.world_rules.specs.declared.pairs.Pair.{Pair}
use Rattle.poom_compare.specs.declared.segment.Segment.{Segment}
use Rattle.world_rules.specs.Relation.{is_pair, has_pair, is_start, reach, diagonal_from, diagonals_of}
use Rattle.world_rules.specs.RelationLaws.{pair_at, IsPairBefore}
use Rattle.poom_compare.specs.Segments.{is_shared, AreSegmentsOf, IsStart, AreStarts, IsEnd, AreEnds, ArePairsOf, by_difference, by_left, paired}
use Rattle.world_rules.proofs.Diagonals.{start_further}
use Rattle.world_rules.proofs.RelationLaws.{have_pairs, nothing_behind, on_diagonals}
use Rattle.poom_compare.proofs.Lists.{contains_map, contains_filter, all_passed, pairs_map, apart_in_order, Rises, same_list, rises_from_sorted}
use Rattle.poom_compare.proofs.Beginnings.{pair_same, pair_parts, pair_yes}
use Rattle.poom_compare.proofs.Mirror.{in_bounds}

-- ---- pairs as keys

pub pair_decides : (a b : Pair) → is_pair a b ≡ true → a ≡ b
pair_decides a b e = let parts = pair_parts a.left b.left a.right b.right e in pair_same a b parts.0 parts.1

pub pair_flips : (a b : Pair) → is_pair a b ≡ is_pair b a
pair_flips a b = both a.left b.left a.right b.right
  where
    both : (p q r s : ℕ) → (p == q && r == s) ≡ (q == p && s == r)
    both p q r s = grind (arith, nat_tests)

pair_laws : IsEquivalence is_pair
pair_laws = record {
  refl = λ a. pair_yes a.left a.left a.right a.right refl refl;
  symm = pair_flips;
  congr = λ a b c e. ap (λ (p : Pair). is_pair p c) (pair_decides a b e);
}

differ_if : (a b : Pair) → (a ≡ b → ⊥) → is_pair a b ≡ false
differ_if a b other = go (is_pair a b) refl
  where
    go : (t : Bool) → is_pair a b ≡ t → t ≡ false
    go true e = absurd (other (pair_decides a b e))
    go false e = refl

not_both : (a b : Pair) → is_pair a b ≡ false → a.left ≡ b.left → a.right ≡ b.right → ⊥
not_both a b apart e f = true≢false (sym (pair_yes a.left b.left a.right b.right e f) ∙ apart)

has_from : (pairs : List Pair) (pair : Pair) → Contains pairs pair → has_pair pairs pair ≡ true
has_from pairs pair found = go pairs found.0 found.1 found.2
  where
    go : (ps : List Pair) (k : ℕ) → k < length ps → get_or ps k pair ≡ pair → has_pair ps pair ≡ true
    go [] k within is = absurd (omega arith)
    go (p ∷ ps) zero within is = ap (λ (t : Bool). t || has_pair ps pair) (ap (is_pair pair) is ∙ pair_yes pair.left pair.left pair.right pair.right refl refl)
    go (p ∷ ps) (suc k) within is = or_right (is_pair pair p) (has_pair ps pair) (go ps k (omega arith) is)

in_from : (pairs : List Pair) (pair : Pair) → has_pair pairs pair ≡ true → Contains pairs pair
in_from pairs pair has = Contains-from_any pair_decides pair pairs has

-- lists with the same pairs, each once, are as long
same_long : (ps qs : List Pair) → AllPairs (λ a b. is_pair a b ≡ false) ps → AllPairs (λ a b. is_pair a b ≡ false) qs → ((p : Pair) → Contains ps p → Contains qs p) → ((p : Pair) → Contains qs p → Contains ps p) → length ps ≡ length qs
same_long ps qs once once' to from = length-from_same_keys pair_laws ps qs (IsDistinct-from_apart is_pair ps once) (IsDistinct-from_apart is_pair qs once') (λ q. same q (has_pair ps q) (has_pair qs q) refl refl)
  where
    same : (q : Pair) (a b : Bool) → has_pair ps q ≡ a → has_pair qs q ≡ b → a ≡ b
    same q true true e h = refl
    same q false false e h = refl
    same q true false e h = absurd (true≢false (sym (has_from qs q (to q (in_from ps q e))) ∙ h))
    same q false true e h = absurd (true≢false (sym (has_from ps q (from q (in_from qs q h))) ∙ e))

-- starts and ends in another order
pub starts_in_order : (f g : ℕ → ℕ) (ps qs : List Pair) → IsPermutation ps qs → AreStarts f g ps → AreStarts f g qs
starts_in_order f g ps qs moved are = record {
  each = All-permutation (IsStart f g) ps qs moved are.each;
  all = λ pair start. Contains-permutation ps qs pair moved (are.all pair start);
  once = apart_in_order is_pair pair_flips ps qs moved are.once;
}

pub ends_in_order : (f g : ℕ → ℕ) (ps qs : List Pair) → IsPermutation ps qs → AreEnds f g ps → AreEnds f g qs
ends_in_order f g ps qs moved are = record {
  each = All-permutation (IsEnd f g) ps qs moved are.each;
  all = λ pair end. Contains-permutation ps qs pair moved (are.all pair end);
  once = apart_in_order is_pair pair_flips ps qs moved are.once;
}

-- the key of a pair below the bound tells it
key_parts : (al ar bl br : ℕ) → al < 4294967296 → bl < 4294967296 → ar < 4294967296 → br < 4294967296 → (ar + 4294967296 - al) * 4294967296 + al ≡ (br + 4294967296 - bl) * 4294967296 + bl → (al ≡ bl) × (ar ≡ br)
key_parts al ar bl br i j k l e = (omega arith, omega arith)

left_parts : (al ar bl br : ℕ) → ar < 4294967296 → br < 4294967296 → al * 4294967296 + ar ≡ bl * 4294967296 + br → (al ≡ bl) × (ar ≡ br)
left_parts al ar bl br i j e = (omega arith, omega arith)

-- ---- of two texts

-- the last pair of the diagonal that begins at a start
pub last_of : List Pair → Pair → Pair
last_of pairs start = record { left = start.left + (reach pairs (length pairs) start - 1); right = start.right + (reach pairs (length pairs) start - 1) }

module _ (f g : ℕ → ℕ) (lefts rights : List Segment) (are : AreSegmentsOf f lefts) (are' : AreSegmentsOf g rights) (pairs : List Pair) (of : ArePairsOf f g pairs) where
  starting : List Pair
  starting = filter (is_start pairs) pairs

  long : Pair → ℕ
  long start = reach pairs (length pairs) start

  step_to : Pair → ℕ → Pair
  step_to start t = record { left = start.left + t; right = start.right + t }

  -- ---- starts

  begins : (p : Pair) → IsStart f g p → is_start pairs p ≡ true
  begins p start =
      let bounds = in_bounds f g lefts rights are are' p.left p.right start.here in
      let a = bounds.left_from in
      let b = bounds.right_from in
      start_further pairs p (p.left - 1) (p.right - 1) (omega arith) (omega arith) ∙ ap not (of.same (record { left = p.left - 1; right = p.right - 1 }) ∙ start.none_before)

  start_has : (p : Pair) → IsStart f g p → has_pair pairs p ≡ true
  start_has p start = of.same p ∙ start.here

  start_in : (p : Pair) → IsStart f g p → Contains (filter (is_start pairs) pairs) p
  start_in p start = contains_filter (is_start pairs) pairs p (in_from pairs p (start_has p start)) (begins p start)

  is_starting : (p : Pair) → Contains pairs p → is_start pairs p ≡ true → IsStart f g p
  is_starting p found e =
      let here : is_shared f g p.left p.right ≡ true = sym (of.same p) ∙ has_from pairs p found in
      let bounds = in_bounds f g lefts rights are are' p.left p.right here in
      let a = bounds.left_from in
      let b = bounds.right_from in
      let before : not (is_shared f g (p.left - 1) (p.right - 1)) ≡ true =
      ap not (sym (of.same (record { left = p.left - 1; right = p.right - 1 }))) ∙ (sym (start_further pairs p (p.left - 1) (p.right - 1) (omega arith) (omega arith)) ∙ e) in
      record { here = here; none_before = no_longer (is_shared f g (p.left - 1) (p.right - 1)) before }
    where
      no_longer : (t : Bool) → not t ≡ true → t ≡ false
      no_longer true e = absurd (true≢false (sym e))
      no_longer false e = refl

  all_starting : All (IsStart f g) (filter (is_start pairs) pairs)
  all_starting = all_passed (is_start pairs) (Contains pairs) (IsStart f g) is_starting pairs (All-contains_itself pairs)

  pub starting_are : AreStarts f g (filter (is_start pairs) pairs)
  starting_are = record { each = all_starting; all = start_in; once = AllPairs-filter (λ a b. is_pair a b ≡ false) (is_start pairs) pairs (λ i j d lt within. differ (get_or pairs i d) (get_or pairs j d) (of.in_order i j d lt within)) }
    where
      differ : (a b : Pair) → IsPairBefore a b → is_pair a b ≡ false
      differ a b (inl lt) = differ_if a b (λ e. let is : a.left ≡ b.left = ap (λ (p : Pair). p.left) e in omega arith)
      differ a b (inr lt) = differ_if a b (λ e. let is : a.right ≡ b.right = ap (λ (p : Pair). p.right) e in omega (arith, lt.1))

  -- ---- how far they go

  made_in : (p : Pair) → IsStart f g p → Contains (diagonals_of pairs) (diagonal_from pairs p)
  made_in p start = contains_map (diagonal_from pairs) (filter (is_start pairs) pairs) p (start_in p start)

  goes_on : (p : Pair) → IsStart f g p → (t : ℕ) → t < reach pairs (length pairs) p → is_shared f g (p.left + t) (p.right + t) ≡ true
  goes_on p start t lt =
      sym (of.same (record { left = p.left + t; right = p.right + t }))
      ∙ have_pairs pairs (diagonal_from pairs p) (record { left = p.left + t; right = p.right + t }) (made_in p start) (record { steps = t; within = lt; is_here = refl })

  stops : (p : Pair) → IsStart f g p → is_shared f g (p.left + reach pairs (length pairs) p) (p.right + reach pairs (length pairs) p) ≡ false
  stops p start = sym (of.same (record { left = p.left + reach pairs (length pairs) p; right = p.right + reach pairs (length pairs) p })) ∙ nothing_behind pairs (diagonal_from pairs p) (made_in p start)

  some_long : (p : Pair) → IsStart f g p → 1 ≤ reach pairs (length pairs) p
  some_long p start = go (reach pairs (length pairs) p) refl
    where
      go : (n : ℕ) → reach pairs (length pairs) p ≡ n → 1 ≤ n
      go (suc n) e = omega arith
      go zero e =
          let left : p.left + reach pairs (length pairs) p ≡ p.left = omega arith in
          let right : p.right + reach pairs (length pairs) p ≡ p.right = omega arith in
          absurd (true≢false (sym start.here ∙ ((λ i. is_shared f g (sym left i) (sym right i)) ∙ stops p start)))

  last_ends : (p : Pair) → IsStart f g p → IsEnd f g (last_of pairs p)
  unfolding last_of
  last_ends p start =
      let some = some_long p start in
      let left : p.left + (reach pairs (length pairs) p - 1) + 1 ≡ p.left + reach pairs (length pairs) p = omega arith in
      let right : p.right + (reach pairs (length pairs) p - 1) + 1 ≡ p.right + reach pairs (length pairs) p = omega arith in
      record { here = goes_on p start (reach pairs (length pairs) p - 1) (omega arith); none_behind = (λ i. is_shared f g (left i) (right i)) ∙ stops p start }

  record IsLast (e : Pair) : Type 0 where
    start : Pair
    starts : IsStart f g start
    is : last_of pairs start ≡ e

  record IsFromStart (d : Diagonal) : Type 0 where
    start : Pair
    starts : IsStart f g start
    is : diagonal_from pairs start ≡ d

  all_from : All IsFromStart (diagonals_of pairs)
  all_from = All-map IsFromStart (diagonal_from pairs) (filter (is_start pairs) pairs) (λ k d within. record { start = get_or (filter (is_start pairs) pairs) k d; starts = all_starting k d within; is = refl })

  end_is_last : (e : Pair) → IsEnd f g e → IsLast e
  unfolding last_of
  end_is_last e end =
      let on = on_diagonals pairs e (of.same e ∙ end.here) in
      let from : IsFromStart on.diagonal = All-contains IsFromStart (diagonals_of pairs) on.diagonal all_from on.is_one in
      let p = from.start in
      let t = on.is_on.steps in
      let here : e ≡ record { left = p.left + t; right = p.right + t } = on.is_on.is_here ∙ ap (λ (d : Diagonal). pair_at d t) (sym from.is) in
      let left : e.left ≡ p.left + t = ap (λ (q : Pair). q.left) here in
      let right : e.right ≡ p.right + t = ap (λ (q : Pair). q.right) here in
      let same : on.diagonal.length ≡ reach pairs (length pairs) p = ap (λ (d : Diagonal). d.length) (sym from.is) in
      let lt = on.is_on.within in
      let not_further : t + 1 < reach pairs (length pairs) p → ⊥ = (λ further.
      let x : e.left + 1 ≡ p.left + (t + 1) = omega arith in
      let y : e.right + 1 ≡ p.right + (t + 1) = omega arith in
      true≢false (sym (goes_on p from.starts (t + 1) further) ∙ ((λ i. is_shared f g (sym x i) (sym y i)) ∙ end.none_behind))) in
      record { start = p; starts = from.starts; is = pair_same (last_of pairs p) e (last_is p.left t (reach pairs (length pairs) p) e.left left (omega arith) not_further) (last_is p.right t (reach pairs (length pairs) p) e.right right (omega arith) not_further) }
    where
      last_is : (x t n y : ℕ) → y ≡ x + t → t < n → (t + 1 < n → ⊥) → x + (n - 1) ≡ y
      last_is x t n y e lt no_more = omega arith

  -- ---- in the order of differences

  bounded : (p : Pair) → is_shared f g p.left p.right ≡ true → (p.left < 2147483648) × (p.right < 2147483648)
  bounded p here = let bounds = in_bounds f g lefts rights are are' p.left p.right here in (bounds.left_to, bounds.right_to)

  lasts_later : (a b : Pair) → IsStart f g a → IsStart f g b → by_difference a < by_difference b → by_difference (last_of pairs a) < by_difference (last_of pairs b)
  unfolding last_of
  lasts_later a b start start' lt =
      let some = some_long a start in
      let some' = some_long b start' in
      let end = bounded (last_of pairs a) (last_ends a start).here in
      let end' = bounded (last_of pairs b) (last_ends b start').here in
      let al = end.0 in
      let ar = end.1 in
      let bl = end'.0 in
      let br = end'.1 in
      in_order a.left a.right b.left b.right (reach pairs (length pairs) a) (reach pairs (length pairs) b) some some' al ar bl br lt
      (λ same lt' le.
      let x : a.left + (b.left - a.left - 1) ≡ b.left - 1 = omega arith in
      let y : a.right + (b.left - a.left - 1) ≡ b.right - 1 = omega arith in
      true≢false (sym (goes_on a start (b.left - a.left - 1) (omega arith)) ∙ ((λ i. is_shared f g (x i) (y i)) ∙ start'.none_before)))
    where
      in_order : (al ar bl br n m : ℕ) → 1 ≤ n → 1 ≤ m → al + (n - 1) < 2147483648 → ar + (n - 1) < 2147483648 → bl + (m - 1) < 2147483648 → br + (m - 1) < 2147483648
          → (ar + 4294967296 - al) * 4294967296 + al < (br + 4294967296 - bl) * 4294967296 + bl → (ar + bl ≡ br + al → al < bl → bl ≤ al + (n - 1) → ⊥)
          → (ar + (n - 1) + 4294967296 - (al + (n - 1))) * 4294967296 + (al + (n - 1)) < (br + (m - 1) + 4294967296 - (bl + (m - 1))) * 4294967296 + (bl + (m - 1))
      in_order al ar bl br n m one one' a b c d lt never = go (split (ar + bl) (br + al))
        where
          split : (p q : ℕ) → (p ≡ q) ⊎ ((p < q) ⊎ (q < p))
          split p q = grind arith

          beyond : (p q : ℕ) → (p < q) ⊎ (q ≤ p)
          beyond p q = grind arith

          go : (ar + bl ≡ br + al) ⊎ ((ar + bl < br + al) ⊎ (br + al < ar + bl)) → (ar + (n - 1) + 4294967296 - (al + (n - 1))) * 4294967296 + (al + (n - 1)) < (br + (m - 1) + 4294967296 - (bl + (m - 1))) * 4294967296 + (bl + (m - 1))
          go (inl same) = then (beyond (al + (n - 1)) bl)
            where
              then : (al + (n - 1) < bl) ⊎ (bl ≤ al + (n - 1)) → (ar + (n - 1) + 4294967296 - (al + (n - 1))) * 4294967296 + (al + (n - 1)) < (br + (m - 1) + 4294967296 - (bl + (m - 1))) * 4294967296 + (bl + (m - 1))
              then (inl further) = omega arith
              then (inr inside) = absurd (never same (omega arith) inside)
          go (inr (inl less)) = omega arith
          go (inr (inr more)) = omega arith

  pub ends_are : (starts ends : List Pair) → AreStarts f g starts → Rises by_difference starts → AreEnds f g ends → Rises by_difference ends → ends ≡ map (last_of pairs) starts
  ends_are starts ends are_starts up are_ends up' =
      same_list by_difference ends (map (last_of pairs) starts) up' (pairs_map (IsStart f g) (λ a b. by_difference a < by_difference b) (λ a b. by_difference a < by_difference b) (last_of pairs) lasts_later starts are_starts.each up)
      (λ e found.
      let last = end_is_last e (All-contains (IsEnd f g) ends e are_ends.each found) in
      subst (Contains (map (last_of pairs) starts)) last.is (contains_map (last_of pairs) starts last.start (are_starts.all last.start last.starts)))
      (λ e found. are_ends.all e (All-contains (IsEnd f g) (map (last_of pairs) starts) e (All-map (IsEnd f g) (last_of pairs) starts (λ k d within. last_ends (get_or starts k d) (are_starts.each k d within))) found))

  -- what rises by difference is that where each stands once
  pub starts_rise : (starts : List Pair) → AreStarts f g starts → IsNonDecreasingBy by_difference starts → Rises by_difference starts
  starts_rise starts are_starts up =
      rises_from_sorted by_difference (IsStart f g) is_pair
      (λ a b start start' apart same.
      let one = bounded a start.here in
      let two = bounded b start'.here in
      let parts = key_parts a.left a.right b.left b.right (omega (arith, one.0)) (omega (arith, two.0)) (omega (arith, one.1)) (omega (arith, two.1)) same in
      not_both a b apart parts.0 parts.1) starts are_starts.each up are_starts.once

  pub ends_rise : (ends : List Pair) → AreEnds f g ends → IsNonDecreasingBy by_difference ends → Rises by_difference ends
  ends_rise ends are_ends up =
      rises_from_sorted by_difference (IsEnd f g) is_pair
      (λ a b end end' apart same.
      let one = bounded a end.here in
      let two = bounded b end'.here in
      let parts = key_parts a.left a.right b.left b.right (omega (arith, one.0)) (omega (arith, two.0)) (omega (arith, one.1)) (omega (arith, two.1)) same in
      not_both a b apart parts.0 parts.1) ends are_ends.each up are_ends.once

  paired_lasts : (starts : List Pair) → All (IsStart f g) starts → paired starts (map (last_of pairs) starts) ≡ map (diagonal_from pairs) starts
  unfolding last_of
  paired_lasts [] each = refl
  paired_lasts (p ∷ ps) each =
      let some = some_long p (All-head (IsStart f g) p ps each) in
      let is : p.left + (reach pairs (length pairs) p - 1) + 1 - p.left ≡ reach pairs (length pairs) p = omega arith in
      let rest = paired_lasts ps (All-tail (IsStart f g) p ps each) in
      λ i. record { left = p.left; right = p.right; length = is i } ∷ rest i

  -- ---- in the order of left and right

  abbrev BeginTogether : Diagonal → Diagonal → Bool
  BeginTogether a b = a.left == b.left && a.right == b.right

  from_start : (p : Pair) → IsStart f g p → IsFromStart (diagonal_from pairs p)
  from_start p start = record { start = p; starts = start; is = refl }

  below_bound : (d : Diagonal) → IsFromStart d → d.right < 4294967296
  below_bound d from =
      let bounds = bounded from.start from.starts.here in
      let is : from.start.right ≡ d.right = ap (λ (e : Diagonal). e.right) from.is in
      omega (arith, bounds.1)

  diagonals_rise : Rises by_left (diagonals_of pairs)
  diagonals_rise =
      pairs_map (IsStart f g) IsPairBefore (λ a b. by_left a < by_left b) (diagonal_from pairs) keeps (filter (is_start pairs) pairs) all_starting (AllPairs-filter IsPairBefore (is_start pairs) pairs of.in_order)
    where
      keeps : (a b : Pair) → IsStart f g a → IsStart f g b → IsPairBefore a b → a.left * 4294967296 + a.right < b.left * 4294967296 + b.right
      keeps a b start start' (inl lt) = let bounds = bounded a start.here in let le = bounds.1 in omega arith
      keeps a b start start' (inr lt) = let one = lt.0 in let two = lt.1 in omega arith

  made_rise : (starts : List Pair) (made : List Diagonal) → AreStarts f g starts → IsPermutation (map (diagonal_from pairs) starts) made → IsNonDecreasingBy by_left made → Rises by_left made
  made_rise starts made are_starts moved up =
      rises_from_sorted by_left IsFromStart BeginTogether
      (λ a b from from' apart same.
      let parts = left_parts a.left a.right b.left b.right (below_bound a from) (below_bound b from') same in
      true≢false (sym (pair_yes a.left b.left a.right b.right parts.0 parts.1) ∙ apart)) made
      (All-permutation IsFromStart (map (diagonal_from pairs) starts) made moved (All-map IsFromStart (diagonal_from pairs) starts (λ k d within. from_start (get_or starts k d) (are_starts.each k d within)))) up
      (apart_in_order BeginTogether flips (map (diagonal_from pairs) starts) made moved
      (pairs_map (IsStart f g) (λ a b. is_pair a b ≡ false) (λ a b. BeginTogether a b ≡ false) (diagonal_from pairs) (λ a b start start' apart. apart) starts are_starts.each are_starts.once))
    where
      flips : (a b : Diagonal) → BeginTogether a b ≡ BeginTogether b a
      flips a b = pair_flips (record { left = a.left; right = a.right }) (record { left = b.left; right = b.right })

  pub made_are : (starts : List Pair) (made : List Diagonal) → AreStarts f g starts → IsPermutation (map (diagonal_from pairs) starts) made → IsNonDecreasingBy by_left made → made ≡ diagonals_of pairs
  made_are starts made are_starts moved up =
      same_list by_left made (diagonals_of pairs) (made_rise starts made are_starts moved up) diagonals_rise
      (λ d found. All-contains (Contains (diagonals_of pairs)) (map (diagonal_from pairs) starts) d
      (All-map (Contains (diagonals_of pairs)) (diagonal_from pairs) starts (λ k e within. made_in (get_or starts k e) (are_starts.each k e within)))
      (Contains-permutation made (map (diagonal_from pairs) starts) d (IsPermutation-sym (map (diagonal_from pairs) starts) made moved) found))
      (λ d found.
      let from : IsFromStart d = All-contains IsFromStart (diagonals_of pairs) d all_from found in
      subst (Contains made) from.is (Contains-permutation (map (diagonal_from pairs) starts) made (diagonal_from pairs from.start) moved (contains_map (diagonal_from pairs) starts from.start (are_starts.all from.start from.starts))))

  -- ---- how many

  pub as_many_starts : (starts : List Pair) → AreStarts f g starts → length starts ≡ length (diagonals_of pairs)
  as_many_starts starts are_starts =
      same_long starts (filter (is_start pairs) pairs) are_starts.once starting_are.once
      (λ p found. start_in p (All-contains (IsStart f g) starts p are_starts.each found))
      (λ p found. are_starts.all p (All-contains (IsStart f g) (filter (is_start pairs) pairs) p all_starting found))
      ∙ sym (length-map (filter (is_start pairs) pairs) (diagonal_from pairs))

  lasts_differ : (a b : Pair) → IsStart f g a → IsStart f g b → is_pair a b ≡ false → is_pair (last_of pairs a) (last_of pairs b) ≡ false
  lasts_differ a b start start' apart = differ_if (last_of pairs a) (last_of pairs b) (λ e. go (ap by_difference e) (three (by_difference a) (by_difference b)))
    where
      three : (p q : ℕ) → (p ≡ q) ⊎ ((p < q) ⊎ (q < p))
      three p q = grind arith

      go : by_difference (last_of pairs a) ≡ by_difference (last_of pairs b) → (by_difference a ≡ by_difference b) ⊎ ((by_difference a < by_difference b) ⊎ (by_difference b < by_difference a)) → ⊥
      go e (inl same) =
          let one = bounded a start.here in
          let two = bounded b start'.here in
          let parts = key_parts a.left a.right b.left b.right (omega (arith, one.0)) (omega (arith, two.0)) (omega (arith, one.1)) (omega (arith, two.1)) same in
          not_both a b apart parts.0 parts.1
      go e (inr (inl less)) = let lt = lasts_later a b start start' less in omega arith
      go e (inr (inr more)) = let lt = lasts_later b a start' start more in omega arith

  lasts_once : (starts : List Pair) → AreStarts f g starts → AllPairs (λ a b. is_pair a b ≡ false) (map (last_of pairs) starts)
  lasts_once starts are_starts = pairs_map (IsStart f g) (λ a b. is_pair a b ≡ false) (λ a b. is_pair a b ≡ false) (last_of pairs) lasts_differ starts are_starts.each are_starts.once

  pub as_many_ends : (starts ends : List Pair) → AreStarts f g starts → AreEnds f g ends → length ends ≡ length starts
  as_many_ends starts ends are_starts are_ends =
      same_long ends (map (last_of pairs) starts) are_ends.once (lasts_once starts are_starts)
      (λ e found.
      let last = end_is_last e (All-contains (IsEnd f g) ends e are_ends.each found) in
      subst (Contains (map (last_of pairs) starts)) last.is (contains_map (last_of pairs) starts last.start (are_starts.all last.start last.starts)))
      (λ e found. are_ends.all e (All-contains (IsEnd f g) (map (last_of pairs) starts) e (All-map (IsEnd f g) (last_of pairs) starts (λ k d within. last_ends (get_or starts k d) (are_starts.each k d within))) found))
      ∙ length-map starts (last_of pairs)

  -- starts with their ends, in order
  pub whole : (starts ends : List Pair) (made : List Diagonal) → AreStarts f g starts → IsNonDecreasingBy by_difference starts → AreEnds f g ends → IsNonDecreasingBy by_difference ends → IsPermutation (paired starts ends) made
      → IsNonDecreasingBy by_left made → made ≡ diagonals_of pairs
  whole starts ends made are_starts up are_ends up' moved rise =
      let belong : ends ≡ map (last_of pairs) starts = ends_are starts ends are_starts (starts_rise starts are_starts up) are_ends (ends_rise ends are_ends up') in
      let is : paired starts ends ≡ map (diagonal_from pairs) starts = ap (paired starts) belong ∙ paired_lasts starts are_starts.each in
      made_are starts made are_starts (subst (λ (ds : List Diagonal). IsPermutation ds made) is moved) rise
