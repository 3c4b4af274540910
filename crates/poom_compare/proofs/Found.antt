-- All that is found.
use Rattle.std.proofs.Common.{◌≡◌, ℕ, zero, suc, ◌+◌, ◌-◌, ◌<◌, ◌≤◌, ◌∙◌, ◌++◌, ◌∷◌, [], Bool, List, length, take, true, false, ap, sym, subst, arith, All, get_or, append-nil, append_assoc, length-append}
use Rattle.std.specs.Prelude.{filter, Option, Some, None}
use Rattle.std.specs.Bool.{MatchBool}
use Rattle.std.specs.Global.{Vec}
use Rattle.std.specs.List.{flat_map}
use Rattle.std.specs.List.Sorted.{IsPermutation}
use Rattle.std.proofs.lemmas.Bool.{true≢false}
use Rattle.std.proofs.lemmas.List.{take_all, take_more}
use Rattle.std.proofs.lemmas.List.Concat.{flat_map-append}
use Rattle.std.proofs.lemmas.List.Elements.{All-append, All-map}
use Rattle.std.proofs.lemmas.List.Sorted.{All-permutation}
use Rattle.world_rules.specs.declared.pairs.Pair.{Pair}
use Rattle.poom_compare.specs.declared.segment.Segment.{Segment}
use Rattle.poom_compare.specs.declared.segment.Side.{Side}
use Rattle.poom_compare.specs.declared.segment.Side.TheVariants.{Left, Right}
use Rattle.poom_compare.specs.Segments.{IsSegment, IsSmall, AreSegmentsOf, AreStarts, AreFound, IsWhole, pair_of, is_start_in, starts_in, starts_of, all_starts}
use Rattle.poom_compare.proofs.Lists.{all_flat, all_passed}
use Rattle.poom_compare.proofs.Beginnings.{bounds_in}
use Rattle.poom_compare.proofs.Once.{are_starts, segments_in_order}

-- ---- one outer segment after another

pub all_more : (side : Side) (outers inners : List Segment) (k n : ℕ) (d : Segment) (old now new : List Pair) → k < length outers → now ≡ old ++ starts_of side (take k outers) inners → new ≡ now ++ starts_in side inners (get_or outers k d) → n ≡ k + 1
    → new ≡ old ++ starts_of side (take n outers) inners
all_more side outers inners k n d old now new lt so more next =
    let one : starts_of side (get_or outers k d ∷ []) inners ≡ starts_in side inners (get_or outers k d) = append-nil (starts_in side inners (get_or outers k d)) in
    more
    ∙ (ap (λ (ps : List Pair). ps ++ starts_in side inners (get_or outers k d)) so
    ∙ (append_assoc old (starts_of side (take k outers) inners) (starts_in side inners (get_or outers k d))
    ∙ ap (λ (ps : List Pair). old ++ ps)
    (ap (λ (ps : List Pair). starts_of side (take k outers) inners ++ ps) (sym one)
    ∙ (sym (flat_map-append (starts_in side inners) (take k outers) (get_or outers k d ∷ []))
    ∙ ap (λ (ss : List Segment). starts_of side ss inners) (sym (ap (λ (m : ℕ). take m outers) next ∙ take_more outers k d lt))))))

pub all_done : (side : Side) (outers inners : List Segment) (k : ℕ) (old now : List Pair) → length outers ≤ k → now ≡ old ++ starts_of side (take k outers) inners → now ≡ old ++ starts_of side outers inners
all_done side outers inners k old now le so = so ∙ ap (λ (ss : List Segment). old ++ starts_of side ss inners) (take_all k outers le)

pub front_shorter : {X Y : Type 0} (f : X → List Y) (k : ℕ) (xs : List X) → length (flat_map f (take k xs)) ≤ length (flat_map f xs)
front_shorter f zero xs = omega arith
front_shorter f (suc k) [] = omega arith
front_shorter f (suc k) (x ∷ xs) =
    let rest = front_shorter f k xs in
    let a : length (f x ++ flat_map f (take k xs)) ≡ length (f x) + length (flat_map f (take k xs)) = length-append (f x) (flat_map f (take k xs)) in
    let b : length (f x ++ flat_map f xs) ≡ length (f x) + length (flat_map f xs) = length-append (f x) (flat_map f xs) in
    omega arith

pub more_than : (side : Side) (outers inners : List Segment) (k : ℕ) (old now : List Pair) → now ≡ old ++ starts_of side (take k outers) inners → 65536 < length now → 65536 < length (old ++ starts_of side outers inners)
more_than side outers inners k old now so many =
    let shorter = front_shorter (starts_in side inners) k outers in
    let a : length now ≡ length old + length (starts_of side (take k outers) inners) = ap length so ∙ length-append old (starts_of side (take k outers) inners) in
    let b : length (old ++ starts_of side outers inners) ≡ length old + length (starts_of side outers inners) = length-append old (starts_of side outers inners) in
    omega arith

-- ---- bounds

small_in : (side : Side) (outer inner : Segment) → IsSegment outer → IsSegment inner → is_start_in side outer inner ≡ true → IsSmall (pair_of side outer inner)
small_in side outer inner right right' e =
    let bounds = bounds_in side outer inner e in
    let from = bounds.0 in
    let to = bounds.1 in
    let ends = right.ends in
    let ends' = right'.ends in
    let position : outer.at + (inner.first - outer.first) ≤ 2147483648 = omega arith in
    let other : inner.at ≤ 2147483648 = omega arith in
    by_side side position other
  where
    by_side : (s : Side) → outer.at + (inner.first - outer.first) ≤ 2147483648 → inner.at ≤ 2147483648 → IsSmall (pair_of s outer inner)
    by_side Left position other = record { left = position; right = other }
    by_side Right position other = record { left = other; right = position }

small_on : (side : Side) (outers inners : List Segment) → All IsSegment outers → All IsSegment inners → All IsSmall (starts_of side outers inners)
small_on side outers inners right right' =
    all_flat IsSmall (starts_in side inners) outers
    (λ k d within. All-map IsSmall (pair_of side (get_or outers k d)) (filter (is_start_in side (get_or outers k d)) inners)
    (all_passed (is_start_in side (get_or outers k d)) IsSegment (λ inner. IsSmall (pair_of side (get_or outers k d) inner)) (λ inner i e. small_in side (get_or outers k d) inner (right k d within) i e) inners right'))

small_all : (lefts rights : List Segment) → All IsSegment lefts → All IsSegment rights → All IsSmall (all_starts lefts rights)
small_all lefts rights right right' = All-append IsSmall (starts_of Left lefts rights) (starts_of Right rights lefts) (small_on Left lefts rights right right') (small_on Right rights lefts right' right)

-- ---- both sides

pub are_right : (xs ys : List Segment) → IsPermutation xs ys → All IsSegment xs → All IsSegment ys
are_right xs ys moved right = All-permutation IsSegment xs ys moved right

pub found_all : (lefts rights ls rs : List Segment) (found : List Pair) → IsPermutation lefts ls → IsPermutation rights rs → All IsSegment lefts → All IsSegment rights → found ≡ all_starts ls rs → length found ≤ 65536
    → (All IsSmall found) × (length found ≤ 65536) × ((f g : ℕ → ℕ) → AreSegmentsOf f lefts → AreSegmentsOf g rights → AreStarts f g found)
found_all lefts rights ls rs found moved moved' right right' is few = (
  subst (All IsSmall) (sym is) (small_all ls rs (are_right lefts ls moved right) (are_right rights rs moved' right')),
  few,
  λ f g are are'. subst (AreStarts f g) (sym is) (are_starts f g ls rs (segments_in_order f lefts ls moved are) (segments_in_order g rights rs moved' are')),
)

too_many : (lefts rights ls rs : List Segment) → IsPermutation lefts ls → IsPermutation rights rs → 65536 < length (all_starts ls rs) → AreFound lefts rights None
too_many lefts rights ls rs moved moved' many f g are are' = record { pairs = all_starts ls rs; are = are_starts f g ls rs (segments_in_order f lefts ls moved are) (segments_in_order g rights rs moved' are'); many = many }

pub whole_found : (lefts rights ls rs : List Segment) → IsPermutation lefts ls → IsPermutation rights rs → All IsSegment lefts → All IsSegment rights → (o : Option (Vec Pair)) → IsWhole (all_starts ls rs) o → AreFound lefts rights o
whole_found lefts rights ls rs moved moved' right right' (Some found) whole = found_all lefts rights ls rs found.items moved moved' right right' whole.0 (subst (λ (ps : List Pair). length ps ≤ 65536) (sym whole.0) whole.1)
whole_found lefts rights ls rs moved moved' right right' None whole = too_many lefts rights ls rs moved moved' whole

not_whole : (P Q : Type 0) (b : Bool) → MatchBool b P Q → b ≡ false → Q
not_whole P Q true is e = absurd (true≢false e)
not_whole P Q false is e = is

is_whole : (P Q : Type 0) (b : Bool) → MatchBool b P Q → b ≡ true → P
is_whole P Q true is e = is
is_whole P Q false is e = absurd (true≢false (sym e))

pub left_stops : (b : Bool) (old now ps qs : List Pair) → old ≡ [] → MatchBool b (now ≡ old ++ ps) (65536 < length (old ++ ps)) → b ≡ false → 65536 < length (ps ++ qs)
left_stops b old now ps qs none is e =
    let many : 65536 < length (old ++ ps) = not_whole (now ≡ old ++ ps) (65536 < length (old ++ ps)) b is e in
    let at : length (old ++ ps) ≡ length ps = ap (λ (o : List Pair). length (o ++ ps)) none in
    let long : length (ps ++ qs) ≡ length ps + length qs = length-append ps qs in
    omega arith

left_whole : (b : Bool) (old now ps : List Pair) → old ≡ [] → MatchBool b (now ≡ old ++ ps) (65536 < length (old ++ ps)) → b ≡ true → now ≡ ps
left_whole b old now ps none is e = is_whole (now ≡ old ++ ps) (65536 < length (old ++ ps)) b is e ∙ ap (λ (o : List Pair). o ++ ps) none

pub right_stops : (b c : Bool) (old now new ps qs : List Pair) → old ≡ [] → MatchBool b (now ≡ old ++ ps) (65536 < length (old ++ ps)) → b ≡ true → MatchBool c (new ≡ now ++ qs) (65536 < length (now ++ qs)) → c ≡ false
    → 65536 < length (ps ++ qs)
right_stops b c old now new ps qs none is e is' e' =
    let many : 65536 < length (now ++ qs) = not_whole (new ≡ now ++ qs) (65536 < length (now ++ qs)) c is' e' in
    subst (λ (o : List Pair). 65536 < length (o ++ qs)) (left_whole b old now ps none is e) many

pub both_whole : (b c : Bool) (old now new ps qs : List Pair) → old ≡ [] → MatchBool b (now ≡ old ++ ps) (65536 < length (old ++ ps)) → b ≡ true → MatchBool c (new ≡ now ++ qs) (65536 < length (now ++ qs)) → c ≡ true → new ≡ ps ++ qs
both_whole b c old now new ps qs none is e is' e' = is_whole (new ≡ now ++ qs) (65536 < length (now ++ qs)) c is' e' ∙ ap (λ (o : List Pair). o ++ qs) (left_whole b old now ps none is e)

pub ruleset pushed = (all_more, all_done, more_than)
