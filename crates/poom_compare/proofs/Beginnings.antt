-- Where diagonals begin, among segments.
use Rattle.std.proofs.Common.{◌≡◌, ℕ, ◌+◌, ◌-◌, ◌<◌, ◌≤◌, ◌∙◌, ◌==◌, ◌&&◌, Bool, List, not, true, false, ap, sym, refl, subst, cond, arith, All, get_or, inl, inr}
use Rattle.std.specs.Prelude.{filter, Contains, ◌⊎◌, nat_lt, nat_le}
use Rattle.std.proofs.lemmas.Bool.{true≢false}
use Rattle.std.proofs.lemmas.Bool.Decides.{nat_tests}
use Rattle.std.proofs.lemmas.List.Elements.{All-append, All-map, Contains-append_left, Contains-append_right, All-contains}
use Rattle.world_rules.specs.declared.pairs.Pair.{Pair}
use Rattle.poom_compare.specs.declared.segment.Segment.{Segment}
use Rattle.poom_compare.specs.declared.segment.Side.{Side}
use Rattle.poom_compare.specs.declared.segment.Side.TheVariants.{Left, Right}
use Rattle.world_rules.specs.Relation.{is_pair}
use Rattle.poom_compare.specs.Segments.{is_same_byte, is_shared, IsSegment, IsSegmentOf, IsWithin, is_meeting, AreSegmentsOf, IsStart, number_before, pair_of, least_of, is_start_in, starts_in, starts_of, all_starts}
use Rattle.poom_compare.proofs.Lists.{contains_map, contains_filter, contains_flat, all_flat, all_passed}

-- ---- tests

pub same_yes : (a b : ℕ) → a ≡ b → 1 ≤ a → is_same_byte a b ≡ true
same_yes a b e l = grind (arith, nat_tests)

pub same_is : (a b : ℕ) → is_same_byte a b ≡ true → a ≡ b
same_is a b e = grind (arith, nat_tests)

pub same_some : (a b : ℕ) → is_same_byte a b ≡ true → 1 ≤ a
same_some a b e = grind (arith, nat_tests)

pub same_flips : (a b : ℕ) → is_same_byte a b ≡ is_same_byte b a
same_flips a b = grind (arith, nat_tests)

pub none_same : (b : ℕ) → is_same_byte 0 b ≡ false
none_same b = grind (arith, nat_tests)

pub pair_same : (a b : Pair) → a.left ≡ b.left → a.right ≡ b.right → a ≡ b
pair_same a b e f = λ i. record { left = e i; right = f i }

pub pairs_differ_left : (a b : Pair) → (a.left ≡ b.left → ⊥) → is_pair a b ≡ false
pairs_differ_left a b other = grind (arith, nat_tests)

pub pairs_differ_right : (a b : Pair) → (a.right ≡ b.right → ⊥) → is_pair a b ≡ false
pairs_differ_right a b other = grind (arith, nat_tests)

pub pair_parts : (p q r s : ℕ) → (p == q && r == s) ≡ true → (p ≡ q) × (r ≡ s)
pair_parts p q r s e = (grind (arith, nat_tests), grind (arith, nat_tests))

pub pair_yes : (p q r s : ℕ) → p ≡ q → r ≡ s → (p == q && r == s) ≡ true
pair_yes p q r s e h = grind (arith, nat_tests)

and_both : (a b c : Bool) → (a && (b && not c)) ≡ true → (a ≡ true) × (b ≡ true) × (c ≡ false)
and_both true true false e = (refl, refl, refl)
and_both true true true e = absurd (true≢false (sym e))
and_both true false c e = absurd (true≢false (sym e))
and_both false b c e = absurd (true≢false (sym e))

le_is : (a b : ℕ) → nat_le a b ≡ true → a ≤ b
le_is a b e = grind (arith, nat_tests)

lt_is : (a b : ℕ) → nat_lt a b ≡ true → a < b
lt_is a b e = grind (arith, nat_tests)

passes : (a b c d : ℕ) (t : Bool) → a ≤ b → c < d → t ≡ false → (nat_le a b && (nat_lt c d && not t)) ≡ true
passes a b c d t l m e = grind (arith, nat_tests)

-- segments that do not meet
pub meet_not : (a b : Segment) → is_meeting a b ≡ false → (x : ℕ) → a.at ≤ x → x < a.at + a.length → b.at ≤ x → x < b.at + b.length → ⊥
meet_not a b e x al am bl bm =
    let yes : is_meeting a b ≡ true = both a.at (b.at + b.length) b.at (a.at + a.length) (omega arith) (omega arith) in
    true≢false (sym yes ∙ e)
  where
    both : (p q r s : ℕ) → p < q → r < s → (nat_lt p q && nat_lt r s) ≡ true
    both p q r s l m = grind (arith, nat_tests)

pub meeting_flips : (a b : Segment) → is_meeting a b ≡ is_meeting b a
meeting_flips a b = flips (nat_lt a.at (b.at + b.length)) (nat_lt b.at (a.at + a.length))
  where
    flips : (p q : Bool) → (p && q) ≡ (q && p)
    flips true true = refl
    flips true false = refl
    flips false true = refl
    flips false false = refl

-- ---- one segment in another

record BeginsIn (f g : ℕ → ℕ) (outer inner : Segment) : Type 0 where
  outer_right : IsSegment outer
  outer_shows : IsSegmentOf f outer
  inner_right : IsSegment inner
  inner_shows : IsSegmentOf g inner
  from : outer.first ≤ inner.first
  to : inner.first < outer.first + outer.length

shown_outer : (f g : ℕ → ℕ) (outer inner : Segment) → BeginsIn f g outer inner → f (outer.at + (inner.first - outer.first)) ≡ inner.first
shown_outer f g outer inner is =
    let from = is.from in
    let to = is.to in
    is.outer_shows.shows (inner.first - outer.first) (omega arith) ∙ omega arith

shown_first : (g : ℕ → ℕ) (inner : Segment) → IsSegment inner → IsSegmentOf g inner → g inner.at ≡ inner.first
shown_first g inner right shows =
    let filled = right.filled in
    let at : inner.at ≡ inner.at + 0 = omega arith in
    ap g at ∙ shows.shows 0 (omega arith) ∙ omega arith

shown_before : (f g : ℕ → ℕ) (outer inner : Segment) → BeginsIn f g outer inner → f (outer.at + (inner.first - outer.first) - 1) ≡ number_before outer inner.first
shown_before f g outer inner is = go (nat_lt outer.first inner.first) refl
  where
    go : (b : Bool) → nat_lt outer.first inner.first ≡ b → f (outer.at + (inner.first - outer.first) - 1) ≡ cond b (inner.first - 1) outer.before
    go true e =
        let lt : outer.first < inner.first = lt_is outer.first inner.first e in
        let to = is.to in
        let at : outer.at + (inner.first - outer.first) - 1 ≡ outer.at + (inner.first - outer.first - 1) = omega arith in
        ap f at ∙ is.outer_shows.shows (inner.first - outer.first - 1) (omega arith) ∙ omega arith
    go false e =
        let from = is.from in
        let same : inner.first ≡ outer.first = not_less outer.first inner.first e from in
        let at : outer.at + (inner.first - outer.first) - 1 ≡ outer.at - 1 = omega arith in
        ap f at ∙ sym is.outer_shows.before
      where
        not_less : (a b : ℕ) → nat_lt a b ≡ false → a ≤ b → b ≡ a
        not_less a b n l = grind (arith, nat_tests)

begin_shared : (f g : ℕ → ℕ) (outer inner : Segment) → BeginsIn f g outer inner → is_shared f g (outer.at + (inner.first - outer.first)) inner.at ≡ true
begin_shared f g outer inner is =
    let numbered = is.inner_right.numbered in
    let left = shown_outer f g outer inner is in
    same_yes (f (outer.at + (inner.first - outer.first))) (g inner.at) (left ∙ sym (shown_first g inner is.inner_right is.inner_shows)) (omega arith)

before_begin : (f g : ℕ → ℕ) (outer inner : Segment) → BeginsIn f g outer inner → is_shared f g (outer.at + (inner.first - outer.first) - 1) (inner.at - 1) ≡ is_same_byte (number_before outer inner.first) inner.before
before_begin f g outer inner is =
    ap (λ (n : ℕ). is_same_byte n (g (inner.at - 1))) (shown_before f g outer inner is) ∙ ap (λ (n : ℕ). is_same_byte (number_before outer inner.first) n) (sym is.inner_shows.before)

-- where an inner segment may begin
pub bounds_in : (side : Side) (outer inner : Segment) → is_start_in side outer inner ≡ true → (outer.first ≤ inner.first) × (inner.first < outer.first + outer.length) × (least_of side outer ≤ inner.first)
bounds_in side outer inner e =
    let parts = and_both (nat_le (least_of side outer) inner.first) (nat_lt inner.first (outer.first + outer.length)) (is_same_byte (number_before outer inner.first) inner.before) e in
    let low : least_of side outer ≤ inner.first = le_is (least_of side outer) inner.first parts.0 in
    let le : outer.first ≤ least_of side outer = least side in
    (omega arith, lt_is inner.first (outer.first + outer.length) parts.1, low)
  where
    least : (s : Side) → outer.first ≤ least_of s outer
    least Left = omega arith
    least Right = omega arith

-- ---- what is found begins diagonals

record Both (f : ℕ → ℕ) (s : Segment) : Type 0 where
  right : IsSegment s
  shows : IsSegmentOf f s

both_of : (f : ℕ → ℕ) (list : List Segment) → AreSegmentsOf f list → All (Both f) list
both_of f list are k d within = record { right = are.right k d within; shows = are.each k d within }

begins : (side : Side) (f g : ℕ → ℕ) (outer inner : Segment) → Both f outer → Both g inner → is_start_in side outer inner ≡ true → BeginsIn f g outer inner
begins side f g outer inner o i e =
    let bounds = bounds_in side outer inner e in
    record { outer_right = o.right; outer_shows = o.shows; inner_right = i.right; inner_shows = i.shows; from = bounds.0; to = bounds.1 }

starts_left : (f g : ℕ → ℕ) (outer inner : Segment) → Both f outer → Both g inner → is_start_in Left outer inner ≡ true → IsStart f g (pair_of Left outer inner)
starts_left f g outer inner o i e =
    let is = begins Left f g outer inner o i e in
    let parts = and_both (nat_le (least_of Left outer) inner.first) (nat_lt inner.first (outer.first + outer.length)) (is_same_byte (number_before outer inner.first) inner.before) e in
    record { here = begin_shared f g outer inner is; none_before = before_begin f g outer inner is ∙ parts.2 }

starts_right : (f g : ℕ → ℕ) (outer inner : Segment) → Both g outer → Both f inner → is_start_in Right outer inner ≡ true → IsStart f g (pair_of Right outer inner)
starts_right f g outer inner o i e =
    let is = begins Right g f outer inner o i e in
    let parts = and_both (nat_le (least_of Right outer) inner.first) (nat_lt inner.first (outer.first + outer.length)) (is_same_byte (number_before outer inner.first) inner.before) e in
    let x = outer.at + (inner.first - outer.first) in
    record {
      here = same_flips (f inner.at) (g x) ∙ begin_shared g f outer inner is;
      none_before = same_flips (f (inner.at - 1)) (g (x - 1)) ∙ (before_begin g f outer inner is ∙ parts.2);
    }

left_each : (f g : ℕ → ℕ) (inners : List Segment) → All (Both g) inners → (outers : List Segment) → All (Both f) outers → All (IsStart f g) (starts_of Left outers inners)
left_each f g inners all outers each =
    all_flat (IsStart f g) (starts_in Left inners) outers
    (λ k d within. All-map (IsStart f g) (pair_of Left (get_or outers k d)) (filter (is_start_in Left (get_or outers k d)) inners)
    (all_passed (is_start_in Left (get_or outers k d)) (Both g) (λ inner. IsStart f g (pair_of Left (get_or outers k d) inner)) (λ inner i e. starts_left f g (get_or outers k d) inner (each k d within) i e) inners all))

right_each : (f g : ℕ → ℕ) (inners : List Segment) → All (Both f) inners → (outers : List Segment) → All (Both g) outers → All (IsStart f g) (starts_of Right outers inners)
right_each f g inners all outers each =
    all_flat (IsStart f g) (starts_in Right inners) outers
    (λ k d within. All-map (IsStart f g) (pair_of Right (get_or outers k d)) (filter (is_start_in Right (get_or outers k d)) inners)
    (all_passed (is_start_in Right (get_or outers k d)) (Both f) (λ inner. IsStart f g (pair_of Right (get_or outers k d) inner)) (λ inner i e. starts_right f g (get_or outers k d) inner (each k d within) i e) inners all))

pub found_each : (f g : ℕ → ℕ) (lefts rights : List Segment) → AreSegmentsOf f lefts → AreSegmentsOf g rights → All (IsStart f g) (all_starts lefts rights)
found_each f g lefts rights are are' =
    All-append (IsStart f g) (starts_of Left lefts rights) (starts_of Right rights lefts) (left_each f g rights (both_of g rights are') lefts (both_of f lefts are)) (right_each f g lefts (both_of f lefts are) rights (both_of g rights are'))

-- ---- all that begin diagonals are found

found_in : (side : Side) (outers inners : List Segment) (outer inner : Segment) → Contains outers outer → Contains inners inner → is_start_in side outer inner ≡ true → Contains (starts_of side outers inners) (pair_of side outer inner)
found_in side outers inners outer inner in_outers in_inners e =
    contains_flat (starts_in side inners) outers outer (pair_of side outer inner) in_outers
    (contains_map (pair_of side outer) (filter (is_start_in side outer) inners) inner (contains_filter (is_start_in side outer) inners inner in_inners e))

-- the number at a position of a segment
number_at : (f : ℕ → ℕ) (s : Segment) → IsSegmentOf f s → (x : ℕ) → s.at ≤ x → x < s.at + s.length → f x ≡ s.first + (x - s.at)
number_at f s shows x from to =
    let at : x ≡ s.at + (x - s.at) = omega arith in
    ap f at ∙ shows.shows (x - s.at) (omega arith)

pub find : (f g : ℕ → ℕ) (lefts rights : List Segment) → AreSegmentsOf f lefts → AreSegmentsOf g rights → (pair : Pair) → IsStart f g pair → Contains (all_starts lefts rights) pair
find f g lefts rights are are' pair start = cases split
  where
    numbers : f pair.left ≡ g pair.right
    numbers = same_is (f pair.left) (g pair.right) start.here

    some : 1 ≤ f pair.left
    some = same_some (f pair.left) (g pair.right) start.here

    l : IsWithin lefts pair.left
    l = are.cover pair.left some

    r : IsWithin rights pair.right
    r = are'.cover pair.right (subst (λ (n : ℕ). 1 ≤ n) numbers some)

    left : Both f l.segment
    left = All-contains (Both f) lefts l.segment (both_of f lefts are) l.is_one

    right : Both g r.segment
    right = All-contains (Both g) rights r.segment (both_of g rights are') r.is_one

    left_number : f pair.left ≡ l.segment.first + (pair.left - l.segment.at)
    left_number = number_at f l.segment left.shows pair.left l.from l.to

    right_number : g pair.right ≡ r.segment.first + (pair.right - r.segment.at)
    right_number = number_at g r.segment right.shows pair.right r.from r.to

    -- not both are inside of their segments: then the pair before would be shared
    split : (pair.right ≡ r.segment.at) ⊎ ((pair.left ≡ l.segment.at) × (r.segment.at < pair.right))
    split = go (cases_of pair.right r.segment.at r.from) (cases_of pair.left l.segment.at l.from)
      where
        cases_of : (x at : ℕ) → at ≤ x → (x ≡ at) ⊎ (at < x)
        cases_of x at from = grind arith

        go : (pair.right ≡ r.segment.at) ⊎ (r.segment.at < pair.right) → (pair.left ≡ l.segment.at) ⊎ (l.segment.at < pair.left) → (pair.right ≡ r.segment.at) ⊎ ((pair.left ≡ l.segment.at) × (r.segment.at < pair.right))
        go (inl e) other = inl e
        go (inr later) (inl e) = inr (e, later)
        go (inr later) (inr later') =
            let to = l.to in
            let to' = r.to in
            let one = left.right.numbered in
            let a : f (pair.left - 1) ≡ l.segment.first + (pair.left - 1 - l.segment.at) = number_at f l.segment left.shows (pair.left - 1) (omega arith) (omega arith) in
            let b : g (pair.right - 1) ≡ r.segment.first + (pair.right - 1 - r.segment.at) = number_at g r.segment right.shows (pair.right - 1) (omega arith) (omega arith) in
            let is = numbers in
            let ln = left_number in
            let rn = right_number in
            absurd (true≢false (sym (same_yes (f (pair.left - 1)) (g (pair.right - 1)) (omega arith) (omega arith)) ∙ start.none_before))

    cases : (pair.right ≡ r.segment.at) ⊎ ((pair.left ≡ l.segment.at) × (r.segment.at < pair.right)) → Contains (all_starts lefts rights) pair
    cases (inl e) =
        let from = l.from in
        let to = l.to in
        let is = numbers in
        let ln = left_number in
        let rn = right_number in
        let number : r.segment.first ≡ l.segment.first + (pair.left - l.segment.at) = omega arith in
        let inside : BeginsIn f g l.segment r.segment = record { outer_right = left.right; outer_shows = left.shows; inner_right = right.right; inner_shows = right.shows; from = omega arith; to = omega arith } in
        let place : pair_of Left l.segment r.segment ≡ pair = pair_same (pair_of Left l.segment r.segment) pair (omega arith) (sym e) in
        let none : is_same_byte (number_before l.segment r.segment.first) r.segment.before ≡ false =
        sym (before_begin f g l.segment r.segment inside) ∙ (ap (λ (p : Pair). is_shared f g (p.left - 1) (p.right - 1)) place ∙ start.none_before) in
        let test : is_start_in Left l.segment r.segment ≡ true =
        passes l.segment.first r.segment.first r.segment.first (l.segment.first + l.segment.length) (is_same_byte (number_before l.segment r.segment.first) r.segment.before) (omega arith) (omega arith) none in
        Contains-append_left (starts_of Left lefts rights) (starts_of Right rights lefts) pair
        (subst (Contains (starts_of Left lefts rights)) place (found_in Left lefts rights l.segment r.segment l.is_one r.is_one test))
    cases (inr (e, later)) =
        let to = r.to in
        let is = numbers in
        let ln = left_number in
        let rn = right_number in
        let number : l.segment.first ≡ r.segment.first + (pair.right - r.segment.at) = omega arith in
        let inside : BeginsIn g f r.segment l.segment = record { outer_right = right.right; outer_shows = right.shows; inner_right = left.right; inner_shows = left.shows; from = omega arith; to = omega arith } in
        let place : pair_of Right r.segment l.segment ≡ pair = pair_same (pair_of Right r.segment l.segment) pair (sym e) (omega arith) in
        let none : is_same_byte (number_before r.segment l.segment.first) l.segment.before ≡ false =
        sym (before_begin g f r.segment l.segment inside)
        ∙ (same_flips (g (r.segment.at + (l.segment.first - r.segment.first) - 1)) (f (l.segment.at - 1))
        ∙ (ap (λ (p : Pair). is_shared f g (p.left - 1) (p.right - 1)) place ∙ start.none_before)) in
        let test : is_start_in Right r.segment l.segment ≡ true =
        passes (r.segment.first + 1) l.segment.first l.segment.first (r.segment.first + r.segment.length) (is_same_byte (number_before r.segment l.segment.first) l.segment.before) (omega arith) (omega arith) none in
        Contains-append_right (starts_of Left lefts rights) (starts_of Right rights lefts) pair
        (subst (Contains (starts_of Right rights lefts)) place (found_in Right rights lefts r.segment l.segment r.is_one l.is_one test))
