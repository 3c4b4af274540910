-- Ends of diagonals are the starts of the texts from behind.
use Rattle.std.proofs.Common.{◌≡◌, ℕ, zero, suc, ◌+◌, ◌-◌, ◌<◌, ◌≤◌, ◌∙◌, ◌==◌, ◌&&◌, Bool, List, map, true, false, ap, sym, refl, subst, cond, arith, get_or}
use Rattle.std.specs.Prelude.{Contains, nat_lt}
use Rattle.std.proofs.lemmas.Bool.{true≢false}
use Rattle.std.proofs.lemmas.Bool.Decides.{nat_tests}
use Rattle.std.proofs.lemmas.List.Elements.{All-map, All-contains}
use Rattle.world_rules.specs.declared.pairs.Pair.{Pair}
use Rattle.poom_compare.specs.declared.segment.Segment.{Segment}
use Rattle.world_rules.specs.Relation.{is_pair}
use Rattle.poom_compare.specs.Segments.{is_same_byte, is_shared, IsSegment, IsSegmentOf, IsWithin, is_meeting, AreSegmentsOf, IsStart, AreStarts, IsEnd, AreEnds, flipped, flipped_text, flipped_segment, flipped_pair}
use Rattle.poom_compare.proofs.Lists.{contains_map, pairs_map}
use Rattle.poom_compare.proofs.Beginnings.{same_is, same_some, none_same, pair_same, pair_parts, pair_yes}

-- ---- numbers

cases_some : (n : ℕ) → (P : Type 0) → (n ≡ 0 → P) → (1 ≤ n → P) → P
cases_some zero P none some = none refl
cases_some (suc n) P none some = some (omega arith)

flip_some : (n : ℕ) → 1 ≤ n → flipped n ≡ 4611686018427387904 - n
flip_some n some = go (n == 0) refl
  where
    go : (b : Bool) → (n == 0) ≡ b → cond b 0 (4611686018427387904 - n) ≡ 4611686018427387904 - n
    go true e = absurd (is_none n e some)
      where
        is_none : (m : ℕ) → (m == 0) ≡ true → 1 ≤ m → ⊥
        is_none m t l = grind (arith, nat_tests)
    go false e = refl

flip_below : (n : ℕ) → flipped n < 4611686018427387904
flip_below n = cases_some n (flipped n < 4611686018427387904) (λ e. subst (λ (m : ℕ). flipped m < 4611686018427387904) (sym e) (omega arith)) (λ some. let is = flip_some n some in omega arith)

flip_from_some : (n : ℕ) → 1 ≤ flipped n → 1 ≤ n
flip_from_some zero some = some
flip_from_some (suc n) some = omega arith

flip_same : (a b : ℕ) → a < 4611686018427387904 → b < 4611686018427387904 → is_same_byte (flipped a) (flipped b) ≡ is_same_byte a b
flip_same a b l m =
    cases_some a (is_same_byte (flipped a) (flipped b) ≡ is_same_byte a b)
    (λ e. subst (λ (n : ℕ). is_same_byte (flipped n) (flipped b) ≡ is_same_byte n b) (sym e) (none_same (flipped b) ∙ sym (none_same b)))
    (λ some. cases_some b (is_same_byte (flipped a) (flipped b) ≡ is_same_byte a b)
    (λ e. let fa = flip_some a some in subst (λ (n : ℕ). is_same_byte (flipped a) (flipped n) ≡ is_same_byte a n) (sym e) (other (flipped a) a (omega arith) some))
    (λ some'. let fa = flip_some a some in let fb = flip_some b some' in both a b (flipped a) (flipped b) some some' (omega arith) (omega arith) (omega arith) (omega arith)))
  where
    other : (p q : ℕ) → 1 ≤ p → 1 ≤ q → is_same_byte p 0 ≡ is_same_byte q 0
    other p q o r = grind (arith, nat_tests)

    both : (p q r s : ℕ) → 1 ≤ p → 1 ≤ q → 1 ≤ r → 1 ≤ s → p + r ≡ 4611686018427387904 → q + s ≡ 4611686018427387904 → is_same_byte r s ≡ is_same_byte p q
    both p q r s op oq or os e f = grind (arith, nat_tests)

-- what a text shows is below the bound, and it shows something only inside of the bounds of positions
record IsShown (f : ℕ → ℕ) (x : ℕ) : Type 0 where
  below : f x < 4611686018427387904
  from : 1 ≤ x
  to : x < 2147483648

shown_in : (f : ℕ → ℕ) (list : List Segment) → AreSegmentsOf f list → (x : ℕ) → 1 ≤ f x → IsShown f x
shown_in f list are x some =
    let found = are.cover x some in
    let right : IsSegment found.segment = All-contains IsSegment list found.segment are.right found.is_one in
    let shows : IsSegmentOf f found.segment = All-contains (IsSegmentOf f) list found.segment are.each found.is_one in
    let from = found.from in
    let to = found.to in
    let at : x ≡ found.segment.at + (x - found.segment.at) = omega arith in
    let number : f x ≡ found.segment.first + (x - found.segment.at) = ap f at ∙ shows.shows (x - found.segment.at) (omega arith) in
    let one = right.from_one in
    let ends = right.ends in
    let last = right.numbers_end in
    record { below = omega arith; from = omega arith; to = omega arith }

pub number_below : (f : ℕ → ℕ) (list : List Segment) → AreSegmentsOf f list → (x : ℕ) → f x < 4611686018427387904
number_below f list are x = cases_some (f x) (f x < 4611686018427387904) (λ e. omega arith) (λ some. (shown_in f list are x some).below)

pub shown_from : (f : ℕ → ℕ) (list : List Segment) → AreSegmentsOf f list → (x : ℕ) → 1 ≤ f x → 1 ≤ x
shown_from f list are x some = (shown_in f list are x some).from

pub shown_to : (f : ℕ → ℕ) (list : List Segment) → AreSegmentsOf f list → (x : ℕ) → 1 ≤ f x → x < 2147483648
shown_to f list are x some = (shown_in f list are x some).to

-- ---- segments from behind

pub flipped_right : (s : Segment) → IsSegment s → IsSegment (flipped_segment s)
flipped_right s is =
    let a = is.from_one in
    let b = is.filled in
    let c = is.ends in
    let d = is.numbered in
    let e = is.numbers_end in
    record { from_one = omega arith; filled = is.filled; ends = omega arith; numbered = omega arith; numbers_end = omega arith; before_fits = flip_below s.after; after_fits = flip_below s.before }

flipped_shows : (f : ℕ → ℕ) (s : Segment) → IsSegment s → IsSegmentOf f s → IsSegmentOf (flipped_text f) (flipped_segment s)
flipped_shows f s is shows =
    let a = is.from_one in
    let b = is.filled in
    let c = is.ends in
    let d = is.numbered in
    let e = is.numbers_end in
    record {
      shows = λ k lt.
          let at : 2147483648 - (2147483649 - (s.at + s.length) + k) ≡ s.at + (s.length - 1 - k) = omega arith in
          let number : f (2147483648 - (2147483649 - (s.at + s.length) + k)) ≡ s.first + (s.length - 1 - k) = ap f at ∙ shows.shows (s.length - 1 - k) (omega arith) in
          flip_some (f (2147483648 - (2147483649 - (s.at + s.length) + k))) (omega arith) ∙ omega arith;
      before =
          let at : s.at + s.length ≡ 2147483648 - (2147483649 - (s.at + s.length) - 1) = omega arith in
          ap flipped (shows.after ∙ ap f at);
      after =
          let at : s.at - 1 ≡ 2147483648 - (2147483649 - (s.at + s.length) + s.length) = omega arith in
          ap flipped (shows.before ∙ ap f at);
    }

flipped_cover : (f : ℕ → ℕ) (list : List Segment) → AreSegmentsOf f list → (x : ℕ) → 1 ≤ flipped_text f x → IsWithin (map flipped_segment list) x
flipped_cover f list are x some =
    let found = are.cover (2147483648 - x) (flip_from_some (f (2147483648 - x)) some) in
    let right : IsSegment found.segment = All-contains IsSegment list found.segment are.right found.is_one in
    let a = right.from_one in
    let b = right.ends in
    let from = found.from in
    let to = found.to in
    record { segment = flipped_segment found.segment; is_one = contains_map flipped_segment list found.segment found.is_one; from = omega arith; to = omega arith }

flipped_apart : (a b : Segment) → IsSegment a → IsSegment b → is_meeting a b ≡ false → is_meeting (flipped_segment a) (flipped_segment b) ≡ false
flipped_apart a b right right' apart = go (is_meeting (flipped_segment a) (flipped_segment b)) refl
  where
    both : (p q r s : ℕ) → (nat_lt p q && nat_lt r s) ≡ true → (p < q) × (r < s)
    both p q r s e = (grind (arith, nat_tests), grind (arith, nat_tests))

    go : (t : Bool) → is_meeting (flipped_segment a) (flipped_segment b) ≡ t → t ≡ false
    go false e = refl
    go true e =
        let lts = both (flipped_segment a).at ((flipped_segment b).at + b.length) (flipped_segment b).at ((flipped_segment a).at + a.length) e in
        let one = lts.0 in
        let two = lts.1 in
        let ae = right.ends in
        let be = right'.ends in
        let af = right.filled in
        let bf = right'.filled in
        absurd (two_cases a.at b.at apart (omega arith) (omega arith))
      where
        two_cases : (p q : ℕ) → is_meeting a b ≡ false → a.at < b.at + b.length → b.at < a.at + a.length → ⊥
        two_cases p q away l m = true≢false (sym (yes a.at (b.at + b.length) b.at (a.at + a.length) l m) ∙ away)
          where
            yes : (p q r s : ℕ) → p < q → r < s → (nat_lt p q && nat_lt r s) ≡ true
            yes p q r s l m = grind (arith, nat_tests)

pub flipped_segments : (f : ℕ → ℕ) (list : List Segment) → AreSegmentsOf f list → AreSegmentsOf (flipped_text f) (map flipped_segment list)
flipped_segments f list are = record {
  right = All-map IsSegment flipped_segment list (λ k d within. flipped_right (get_or list k d) (are.right k d within));
  each = All-map (IsSegmentOf (flipped_text f)) flipped_segment list (λ k d within. flipped_shows f (get_or list k d) (are.right k d within) (are.each k d within));
  cover = flipped_cover f list are;
  apart = pairs_map IsSegment (λ a b. is_meeting a b ≡ false) (λ a b. is_meeting a b ≡ false) flipped_segment flipped_apart list are.right are.apart;
}

-- ---- ends

module _ (f g : ℕ → ℕ) (lefts rights : List Segment) (are : AreSegmentsOf f lefts) (are' : AreSegmentsOf g rights) where
  flipped_shared : (x y : ℕ) → is_shared (flipped_text f) (flipped_text g) x y ≡ is_shared f g (2147483648 - x) (2147483648 - y)
  flipped_shared x y = flip_same (f (2147483648 - x)) (g (2147483648 - y)) (number_below f lefts are (2147483648 - x)) (number_below g rights are' (2147483648 - y))

  -- both positions of a shared pair are inside of the bounds
  pub record IsInBounds (x y : ℕ) : Type 0 where
    pub left_from : 1 ≤ x
    pub left_to : x < 2147483648
    pub right_from : 1 ≤ y
    pub right_to : y < 2147483648

  pub in_bounds : (x y : ℕ) → is_shared f g x y ≡ true → IsInBounds x y
  in_bounds x y e =
      let some : 1 ≤ f x = same_some (f x) (g y) e in
      let some' : 1 ≤ g y = subst (λ (n : ℕ). 1 ≤ n) (same_is (f x) (g y) e) some in
      record { left_from = shown_from f lefts are x some; left_to = shown_to f lefts are x some; right_from = shown_from g rights are' y some'; right_to = shown_to g rights are' y some' }

  start_bounds : (pair : Pair) → IsStart (flipped_text f) (flipped_text g) pair → IsInBounds (2147483648 - pair.left) (2147483648 - pair.right)
  start_bounds pair start = in_bounds (2147483648 - pair.left) (2147483648 - pair.right) (sym (flipped_shared pair.left pair.right) ∙ start.here)

  end_from : (pair : Pair) → IsStart (flipped_text f) (flipped_text g) pair → IsEnd f g (flipped_pair pair)
  end_from pair start =
      let bounds = start_bounds pair start in
      let a = bounds.left_to in
      let b = bounds.right_to in
      let c = bounds.left_from in
      let d = bounds.right_from in
      let x : 2147483648 - (pair.left - 1) ≡ 2147483648 - pair.left + 1 = omega arith in
      let y : 2147483648 - (pair.right - 1) ≡ 2147483648 - pair.right + 1 = omega arith in
      record {
        here = sym (flipped_shared pair.left pair.right) ∙ start.here;
        none_behind = (λ i. is_shared f g (sym x i) (sym y i)) ∙ (sym (flipped_shared (pair.left - 1) (pair.right - 1)) ∙ start.none_before);
      }

  start_from : (pair : Pair) → IsEnd f g pair → IsStart (flipped_text f) (flipped_text g) (flipped_pair pair)
  start_from pair end =
      let bounds = in_bounds pair.left pair.right end.here in
      let a = bounds.left_to in
      let b = bounds.right_to in
      let c = bounds.left_from in
      let d = bounds.right_from in
      let x : 2147483648 - (2147483648 - pair.left) ≡ pair.left = omega arith in
      let y : 2147483648 - (2147483648 - pair.right) ≡ pair.right = omega arith in
      let x' : 2147483648 - (2147483648 - pair.left - 1) ≡ pair.left + 1 = omega arith in
      let y' : 2147483648 - (2147483648 - pair.right - 1) ≡ pair.right + 1 = omega arith in
      record {
        here = flipped_shared (2147483648 - pair.left) (2147483648 - pair.right) ∙ ((λ i. is_shared f g (x i) (y i)) ∙ end.here);
        none_before = flipped_shared (2147483648 - pair.left - 1) (2147483648 - pair.right - 1) ∙ ((λ i. is_shared f g (x' i) (y' i)) ∙ end.none_behind);
      }

  flipped_back : (pair : Pair) → IsEnd f g pair → flipped_pair (flipped_pair pair) ≡ pair
  flipped_back pair end =
      let bounds = in_bounds pair.left pair.right end.here in
      let a = bounds.left_to in
      let b = bounds.right_to in
      pair_same (flipped_pair (flipped_pair pair)) pair (omega arith) (omega arith)

  stay_apart : (a b : Pair) → IsStart (flipped_text f) (flipped_text g) a → IsStart (flipped_text f) (flipped_text g) b → is_pair a b ≡ false → is_pair (flipped_pair a) (flipped_pair b) ≡ false
  stay_apart a b start start' apart =
      let one = start_bounds a start in
      let two = start_bounds b start' in
      let al = one.left_from in
      let ar = one.right_from in
      let bl = two.left_from in
      let br = two.right_from in
      go (is_pair (flipped_pair a) (flipped_pair b)) refl (omega arith) (omega arith) (omega arith) (omega arith)
    where
      go : (t : Bool) → is_pair (flipped_pair a) (flipped_pair b) ≡ t → a.left < 2147483648 → a.right < 2147483648 → b.left < 2147483648 → b.right < 2147483648 → t ≡ false
      go false e i j k l = refl
      go true e i j k l =
          let parts = pair_parts (2147483648 - a.left) (2147483648 - b.left) (2147483648 - a.right) (2147483648 - b.right) e in
          let left = parts.0 in
          let right = parts.1 in
          absurd (true≢false (sym (pair_yes a.left b.left a.right b.right (omega arith) (omega arith)) ∙ apart))

  pub ends_from : (pairs : List Pair) → AreStarts (flipped_text f) (flipped_text g) pairs → AreEnds f g (map flipped_pair pairs)
  ends_from pairs starts = record {
    each = All-map (IsEnd f g) flipped_pair pairs (λ k d within. end_from (get_or pairs k d) (starts.each k d within));
    all = λ pair end. subst (Contains (map flipped_pair pairs)) (flipped_back pair end) (contains_map flipped_pair pairs (flipped_pair pair) (starts.all (flipped_pair pair) (start_from pair end)));
    once = pairs_map (IsStart (flipped_text f) (flipped_text g)) (λ a b. is_pair a b ≡ false) (λ a b. is_pair a b ≡ false) flipped_pair stay_apart pairs starts.each starts.once;
  }
