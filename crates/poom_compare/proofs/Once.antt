-- What begins diagonals is found once.
use Rattle.std.proofs.Common.{◌≡◌, ℕ, zero, suc, ◌+◌, ◌-◌, ◌<◌, ◌≤◌, ◌∙◌, ◌∷◌, [], List, length, true, false, ap, sym, refl, subst, arith, All, get_or, inl, inr}
use Rattle.std.specs.Prelude.{filter, Contains, ◌⊎◌}
use Rattle.std.specs.List.{AllPairs}
use Rattle.std.specs.List.Sorted.{IsPermutation}
use Rattle.std.proofs.lemmas.List.Elements.{All-map, All-filter, All-contains_itself}
use Rattle.std.proofs.lemmas.List.Kept.{AllPairs-filter}
use Rattle.std.proofs.lemmas.List.Sorted.{All-permutation, Contains-permutation}
use Rattle.world_rules.specs.declared.pairs.Pair.{Pair}
use Rattle.poom_compare.specs.declared.segment.Segment.{Segment}
use Rattle.poom_compare.specs.declared.segment.Side.{Side}
use Rattle.poom_compare.specs.declared.segment.Side.TheVariants.{Left, Right}
use Rattle.world_rules.specs.Relation.{is_pair}
use Rattle.world_rules.proofs.Later.{pairs_append}
use Rattle.poom_compare.specs.Segments.{IsSegment, IsSegmentOf, is_meeting, AreSegmentsOf, AreStarts, pair_of, is_start_in, starts_in, starts_of, all_starts}
use Rattle.poom_compare.proofs.Lists.{all_flat, all_passed, pairs_map, pairs_flat, apart_in_order}
use Rattle.poom_compare.proofs.Beginnings.{pairs_differ_left, pairs_differ_right, meeting_flips, meet_not, bounds_in, found_each, find}

-- the position of the outer segment's text, and that of the inner one's
outer_place : Side → Pair → ℕ
outer_place Left pair = pair.left
outer_place Right pair = pair.right

inner_place : Side → Pair → ℕ
inner_place Left pair = pair.right
inner_place Right pair = pair.left

abbrev Differ : Pair → Pair → Type 0
Differ a b = is_pair a b ≡ false

abbrev Apart : Segment → Segment → Type 0
Apart a b = is_meeting a b ≡ false

outer_differ : (side : Side) (a b : Pair) → (outer_place side a ≡ outer_place side b → ⊥) → Differ a b
unfolding outer_place
outer_differ Left a b other = pairs_differ_left a b other
outer_differ Right a b other = pairs_differ_right a b other

inner_differ : (side : Side) (a b : Pair) → (inner_place side a ≡ inner_place side b → ⊥) → Differ a b
unfolding inner_place
inner_differ Left a b other = pairs_differ_right a b other
inner_differ Right a b other = pairs_differ_left a b other

outer_is : (side : Side) (outer inner : Segment) → outer_place side (pair_of side outer inner) ≡ outer.at + (inner.first - outer.first)
unfolding outer_place
outer_is Left outer inner = refl
outer_is Right outer inner = refl

inner_is : (side : Side) (outer inner : Segment) → inner_place side (pair_of side outer inner) ≡ inner.at
unfolding inner_place
inner_is Left outer inner = refl
inner_is Right outer inner = refl

-- ---- on one side

-- in one outer segment
once_in : (side : Side) (inners : List Segment) → All IsSegment inners → AllPairs Apart inners → (outer : Segment) → AllPairs Differ (starts_in side inners outer)
once_in side inners all apart outer =
    pairs_map IsSegment Apart Differ (pair_of side outer) keeps (filter (is_start_in side outer) inners) (All-filter (is_start_in side outer) IsSegment inners all) (AllPairs-filter Apart (is_start_in side outer) inners apart)
  where
    keeps : (x y : Segment) → IsSegment x → IsSegment y → Apart x y → Differ (pair_of side outer x) (pair_of side outer y)
    keeps x y right right' apart' =
        inner_differ side (pair_of side outer x) (pair_of side outer y)
        (λ same.
        let at : x.at ≡ y.at = sym (inner_is side outer x) ∙ (same ∙ inner_is side outer y) in
        let filled = right.filled in
        let filled' = right'.filled in
        meet_not x y apart' x.at (omega arith) (omega arith) (omega arith) (omega arith))

-- the places of outer segments
record IsInSegment (side : Side) (outer : Segment) (pair : Pair) : Type 0 where
  from : outer.at ≤ outer_place side pair
  to : outer_place side pair < outer.at + outer.length

in_outer : (side : Side) (inners : List Segment) (outer : Segment) → IsSegment outer → All IsSegment inners → All (IsInSegment side outer) (starts_in side inners outer)
in_outer side inners outer right all =
    All-map (IsInSegment side outer) (pair_of side outer) (filter (is_start_in side outer) inners)
    (all_passed (is_start_in side outer) IsSegment (λ inner. IsInSegment side outer (pair_of side outer inner)) says inners all)
  where
    says : (inner : Segment) → IsSegment inner → is_start_in side outer inner ≡ true → IsInSegment side outer (pair_of side outer inner)
    says inner right' e =
        let bounds = bounds_in side outer inner e in
        let from = bounds.0 in
        let to = bounds.1 in
        let is = outer_is side outer inner in
        record { from = omega arith; to = omega arith }

once_on : (side : Side) (outers inners : List Segment) → All IsSegment outers → AllPairs Apart outers → All IsSegment inners → AllPairs Apart inners → AllPairs Differ (starts_of side outers inners)
once_on side outers inners right apart right' apart' = pairs_flat IsSegment Apart Differ (starts_in side inners) (λ outer _. once_in side inners right' apart' outer) across outers right apart
  where
    across : (x y : Segment) → IsSegment x → IsSegment y → Apart x y → All (λ a. All (Differ a) (starts_in side inners y)) (starts_in side inners x)
    across x y rx ry away k d within j e inside =
        let a = in_outer side inners x rx right' k d within in
        let b = in_outer side inners y ry right' j e inside in
        outer_differ side (get_or (starts_in side inners x) k d) (get_or (starts_in side inners y) j e)
        (λ same.
        let af = a.from in
        let at = a.to in
        let bf = b.from in
        let bt = b.to in
        meet_not x y away (outer_place side (get_or (starts_in side inners x) k d)) (omega arith) (omega arith) (omega arith) (omega arith))

-- ---- on both

-- a segment of the list begins there
record BeginsAt (list : List Segment) (x : ℕ) : Type 0 where
  segment : Segment
  is_one : Contains list segment
  at : x ≡ segment.at

-- and one has it inside, behind its first position
record IsInside (list : List Segment) (x : ℕ) : Type 0 where
  segment : Segment
  is_one : Contains list segment
  from : segment.at < x
  to : x < segment.at + segment.length

left_begin : (rights lefts : List Segment) → All (λ (pair : Pair). BeginsAt rights pair.right) (starts_of Left lefts rights)
left_begin rights lefts =
    all_flat (λ (pair : Pair). BeginsAt rights pair.right) (starts_in Left rights) lefts
    (λ k d within. All-map (λ (pair : Pair). BeginsAt rights pair.right) (pair_of Left (get_or lefts k d)) (filter (is_start_in Left (get_or lefts k d)) rights)
    (all_passed (is_start_in Left (get_or lefts k d)) (Contains rights) (λ inner. BeginsAt rights inner.at) (λ inner one e. record { segment = inner; is_one = one; at = refl }) rights (All-contains_itself rights)))

right_inside : (rights lefts : List Segment) → All (λ (pair : Pair). IsInside rights pair.right) (starts_of Right rights lefts)
right_inside rights lefts =
    all_flat (λ (pair : Pair). IsInside rights pair.right) (starts_in Right lefts) rights
    (λ k d within. All-map (λ (pair : Pair). IsInside rights pair.right) (pair_of Right (get_or rights k d)) (filter (is_start_in Right (get_or rights k d)) lefts)
    (all_passed (is_start_in Right (get_or rights k d)) (Contains lefts) (λ inner. IsInside rights ((get_or rights k d).at + (inner.first - (get_or rights k d).first)))
    (λ inner one e.
    let bounds = bounds_in Right (get_or rights k d) inner e in
    let low = bounds.2 in
    let to = bounds.1 in
    record { segment = get_or rights k d; is_one = All-contains_itself rights k d within; from = omega arith; to = omega arith }) lefts (All-contains_itself lefts)))

-- two segments of the list are one or apart
one_or_apart : (list : List Segment) → AllPairs Apart list → (a b : Segment) → Contains list a → Contains list b → (a ≡ b) ⊎ Apart a b
one_or_apart list apart a b in_a in_b = go (three in_a.0 in_b.0)
  where
    three : (i j : ℕ) → ((i < j) ⊎ (j < i)) ⊎ (i ≡ j)
    three i j = grind arith

    other : (k : ℕ) (x y : Segment) → k < length list → get_or list k x ≡ get_or list k y
    other k x y within = same list k within
      where
        same : (xs : List Segment) (n : ℕ) → n < length xs → get_or xs n x ≡ get_or xs n y
        same [] n lt = absurd (omega arith)
        same (z ∷ zs) zero lt = refl
        same (z ∷ zs) (suc n) lt = same zs n (omega arith)

    first : get_or list in_a.0 b ≡ a
    first = other in_a.0 b a in_a.1 ∙ in_a.2

    go : ((in_a.0 < in_b.0) ⊎ (in_b.0 < in_a.0)) ⊎ (in_a.0 ≡ in_b.0) → (a ≡ b) ⊎ Apart a b
    go (inr e) = inl (sym first ∙ (ap (λ (k : ℕ). get_or list k b) e ∙ in_b.2))
    go (inl (inl lt)) = inr (subst (λ (s : Segment). Apart s b) first (subst (λ (s : Segment). Apart (get_or list in_a.0 b) s) in_b.2 (apart in_a.0 in_b.0 b lt in_b.1)))
    go (inl (inr lt)) = inr (meeting_flips a b ∙ subst (λ (s : Segment). Apart b s) first (subst (λ (s : Segment). Apart s (get_or list in_a.0 b)) in_b.2 (apart in_b.0 in_a.0 b lt in_a.1)))

never_both : (list : List Segment) → All IsSegment list → AllPairs Apart list → (x : ℕ) → BeginsAt list x → IsInside list x → ⊥
never_both list right apart x begin inside =
    go (one_or_apart list apart begin.segment inside.segment begin.is_one inside.is_one)
  where
    at : x ≡ begin.segment.at
    at = begin.at

    go : (begin.segment ≡ inside.segment) ⊎ Apart begin.segment inside.segment → ⊥
    go (inl e) =
        let is : begin.segment.at ≡ inside.segment.at = ap (λ (s : Segment). s.at) e in
        let from = inside.from in
        let here = at in
        omega arith
    go (inr away) =
        let filled : IsSegment begin.segment = subst IsSegment begin.is_one.2 (right begin.is_one.0 begin.segment begin.is_one.1) in
        let some = filled.filled in
        let from = inside.from in
        let to = inside.to in
        let here = at in
        meet_not begin.segment inside.segment away x (omega arith) (omega arith) (omega arith) (omega arith)

once_all : (f g : ℕ → ℕ) (lefts rights : List Segment) → AreSegmentsOf f lefts → AreSegmentsOf g rights → AllPairs Differ (all_starts lefts rights)
once_all f g lefts rights are are' =
    pairs_append Differ (starts_of Left lefts rights) (starts_of Right rights lefts) (once_on Left lefts rights are.right are.apart are'.right are'.apart) (once_on Right rights lefts are'.right are'.apart are.right are.apart)
    (λ k d within j e inside. pairs_differ_right (get_or (starts_of Left lefts rights) k d) (get_or (starts_of Right rights lefts) j e)
    (λ same. never_both rights are'.right are'.apart (get_or (starts_of Left lefts rights) k d).right (left_begin rights lefts k d within)
    (subst (IsInside rights) (sym same) (right_inside rights lefts j e inside))))

-- ---- all

pub are_starts : (f g : ℕ → ℕ) (lefts rights : List Segment) → AreSegmentsOf f lefts → AreSegmentsOf g rights → AreStarts f g (all_starts lefts rights)
are_starts f g lefts rights are are' = record { each = found_each f g lefts rights are are'; all = find f g lefts rights are are'; once = once_all f g lefts rights are are' }

-- in another order they are segments of the text still
pub segments_in_order : (f : ℕ → ℕ) (xs ys : List Segment) → IsPermutation xs ys → AreSegmentsOf f xs → AreSegmentsOf f ys
segments_in_order f xs ys moved are = record {
  right = All-permutation IsSegment xs ys moved are.right;
  each = All-permutation (IsSegmentOf f) xs ys moved are.each;
  cover = λ x some. let found = are.cover x some in record { segment = found.segment; is_one = Contains-permutation xs ys found.segment moved found.is_one; from = found.from; to = found.to };
  apart = apart_in_order is_meeting meeting_flips xs ys moved are.apart;
}
