-- Which positions of a row show addresses of a span.
use Rattle.std.proofs.Common.{◌≡◌, ◌≢◌, ℕ, zero, suc, ◌+◌, ◌-◌, ◌^◌, ◌<◌, ◌≤◌, ◌==◌, not, true, false, List, [], ◌∷◌, ◌++◌, length, take, refl, arith, ap, sym, subst, ◌∙◌, inl, inr, append_assoc}
use Rattle.std.specs.Prelude.{◌⊎◌, nat_lt}
use Rattle.std.proofs.lemmas.Bool.{and_from, and_left, and_right, not_from_true, not_from_false}
use Rattle.std.proofs.lemmas.Bool.Decides.{nat_tests}
use Rattle.std.proofs.lemmas.List.{length-append, take_at}
use Rattle.tumbler.specs.Places.{place, comes_before}
use Rattle.tumbler.specs.Span.{end_of}
use Rattle.tumbler.specs.declared.span.Span.{Span}
use Rattle.enfilade_core.specs.declared.tree.Row.{Row}
use Rattle.poom.specs.declared.piece.Piece.{Piece}
use Rattle.poom.specs.declared.shown.Interval.{Interval}
use Rattle.poom.specs.Pieces.{address_in, addresses_from, piece_addresses, piece_row, row_piece}
use Rattle.poom.specs.Picked.{is_picked}
use Rattle.poom.specs.Runs.{number_of}
use Rattle.poom.specs.Shown.{positions_in}
use Rattle.poom.specs.Positions.{positions_from, positions_of, IsInterval, shown_by, IsPieceRow, so_far_on}
use Rattle.poom.proofs.Places.{if_true, if_false}
use Rattle.poom.proofs.Back.{same_piece}

-- ---- addresses that follow one

pub in_front : (xs : List ℕ) (part n : ℕ) → xs ++ 0 ∷ part ∷ n ∷ [] ≡ (xs ++ 0 ∷ part ∷ []) ++ n ∷ []
in_front xs part n = sym (append_assoc xs (0 ∷ part ∷ []) (n ∷ []))

pub so_far_is : (part : ℕ) (document : List ℕ) (first k : ℕ) → so_far_on (address_in part document first) k ≡ address_in part document (first + k)
so_far_is part document first k =
    let a = address_in part document first in
    let front = document ++ 0 ∷ part ∷ [] in
    let long : length front ≡ length a - 1 = omega (arith, length-append document (0 ∷ part ∷ []), length-append document (0 ∷ part ∷ first ∷ [])) in
    let number : number_of a ≡ first = ap (λ (p : Piece). p.first) (same_piece part 1 (record { document = document; first = first; count = 0 })) in
    let before : take (length a - 1) a ≡ front = ap (take (length a - 1)) (in_front document part first) ∙ take_at front (first ∷ []) (length a - 1) long in
    ap (λ (f : List ℕ). f ++ (number_of a + k) ∷ []) before ∙ (ap (λ (n : ℕ). front ++ (n + k) ∷ []) number ∙ sym (in_front document part (first + k)))

-- ---- addresses of which those from `from` on and before `to` are in the span

pub record IsClip (span : Span) (part : ℕ) (document : List ℕ) (first count from to : ℕ) : Type 0 where
  pub front : (k : ℕ) → k < count → k < from → is_picked span (address_in part document (first + k)) ≡ false
  pub inside : (k : ℕ) → k < count → from ≤ k → k < to → is_picked span (address_in part document (first + k)) ≡ true
  pub back : (k : ℕ) → k < count → to ≤ k → is_picked span (address_in part document (first + k)) ≡ false

-- k is how many addresses are behind, r how many are left
clip_inside : (span : Span) (part : ℕ) (document : List ℕ) (first count from to n k g r : ℕ) → IsClip span part document first count from to → to ≤ count → from ≤ k → k + r ≡ count → g ≡ first + k
    → positions_in span n (addresses_from part document g r) ≡ positions_from n (to - k)
clip_inside span part document first count from to n k g zero clip le h e at = let none : to - k ≡ 0 = omega arith in sym (ap (positions_from n) none)
clip_inside span part document first count from to n k g (suc r) clip le h e at =
    let more = positions_in span (n + 1) (addresses_from part document (g + 1) r) in
    let rest : more ≡ positions_from (n + 1) (to - (k + 1)) = clip_inside span part document first count from to (n + 1) (k + 1) (g + 1) r clip le (omega arith) (omega arith) (omega arith) in
    let test = is_picked span (address_in part document g) in
    let same : is_picked span (address_in part document (first + k)) ≡ test = ap (λ (m : ℕ). is_picked span (address_in part document m)) (sym at) in
    let split : (k < to) ⊎ (to ≤ k) = grind arith in
    elim split [
      | inl less ↦
          let one : to - k ≡ suc (to - (k + 1)) = omega arith in
          if_true test (n ∷ more) more (sym same ∙ clip.inside k (omega arith) h less) ∙ (ap (λ (ps : List ℕ). n ∷ ps) rest ∙ sym (ap (positions_from n) one))
      | inr past ↦
          let none : to - k ≡ 0 = omega arith in
          let still : to - (k + 1) ≡ 0 = omega arith in
          if_false test (n ∷ more) more (sym same ∙ clip.back k (omega arith) past) ∙ (rest ∙ (ap (positions_from (n + 1)) still ∙ sym (ap (positions_from n) none)))
    ]

clip_front : (span : Span) (part : ℕ) (document : List ℕ) (first count from to n k g r : ℕ) → IsClip span part document first count from to → to ≤ count → k ≤ from → k + r ≡ count → g ≡ first + k
    → positions_in span n (addresses_from part document g r) ≡ positions_from (n + (from - k)) (to - from)
clip_front span part document first count from to n k g zero clip le h e at = let none : to - from ≡ 0 = omega arith in sym (ap (positions_from (n + (from - k))) none)
clip_front span part document first count from to n k g (suc r) clip le h e at =
    let more = positions_in span (n + 1) (addresses_from part document (g + 1) r) in
    let test = is_picked span (address_in part document g) in
    let same : is_picked span (address_in part document (first + k)) ≡ test = ap (λ (m : ℕ). is_picked span (address_in part document m)) (sym at) in
    let split : (k < from) ⊎ (k ≡ from) = grind arith in
    elim split [
      | inl less ↦
          let there : (n + 1) + (from - (k + 1)) ≡ n + (from - k) = omega arith in
          if_false test (n ∷ more) more (sym same ∙ clip.front k (omega arith) less)
          ∙ (clip_front span part document first count from to (n + 1) (k + 1) (g + 1) r clip le (omega arith) (omega arith) (omega arith) ∙ ap (λ (m : ℕ). positions_from m (to - from)) there)
      | inr here ↦
          let start : n ≡ n + (from - k) = omega arith in
          let long : to - k ≡ to - from = omega arith in
          clip_inside span part document first count from to n k g (suc r) clip le (omega arith) e at ∙ (ap (λ (m : ℕ). positions_from m (to - k)) start ∙ ap (positions_from (n + (from - k))) long)
    ]

pub clipped : (span : Span) (part : ℕ) (document : List ℕ) (first count from to n : ℕ) → IsClip span part document first count from to → to ≤ count
    → positions_in span n (addresses_from part document first count) ≡ positions_from (n + from) (to - from)
clipped span part document first count from to n clip le =
    let at : first ≡ first + 0 = omega arith in
    let start : n + (from - 0) ≡ n + from = omega arith in
    let whole : 0 + count ≡ count = omega arith in
    clip_front span part document first count from to n 0 first count clip le (omega arith) whole at ∙ ap (λ (m : ℕ). positions_from m (to - from)) start

-- ---- a row

-- how many of a row's addresses come before the place
abbrev CountsBefore : List ℕ → ℕ → List ℕ → ℕ → Type 0
CountsBefore address count at n = (k : ℕ) → k < count → comes_before (so_far_on address k) at ≡ nat_lt k n

lt_true : (k n : ℕ) → k < n → nat_lt k n ≡ true
lt_true k n h = grind (arith, nat_tests)

lt_false : (k n : ℕ) → n ≤ k → nat_lt k n ≡ false
lt_false k n h = grind (arith, nat_tests)

clip_of : (span : Span) (part : ℕ) (x : Piece) (from to : ℕ) → CountsBefore (address_in part x.document x.first) x.count span.start from → CountsBefore (address_in part x.document x.first) x.count (end_of span) to
    → IsClip span part x.document x.first x.count from to
clip_of span part x from to f t =
    let a = address_in part x.document x.first in
    let starts = (λ (k : ℕ) (l : k < x.count). ap (λ (b : List ℕ). comes_before b span.start) (sym (so_far_is part x.document x.first k)) ∙ f k l) in
    let ends = (λ (k : ℕ) (l : k < x.count). ap (λ (b : List ℕ). comes_before b (end_of span)) (sym (so_far_is part x.document x.first k)) ∙ t k l) in
    record {
      front = λ k l h. and_left (not (comes_before (address_in part x.document (x.first + k)) span.start)) (comes_before (address_in part x.document (x.first + k)) (end_of span))
          (not_from_true (comes_before (address_in part x.document (x.first + k)) span.start) (starts k l ∙ lt_true k from h));
      inside = λ k l h less. and_from (not (comes_before (address_in part x.document (x.first + k)) span.start)) (comes_before (address_in part x.document (x.first + k)) (end_of span))
          (not_from_false (comes_before (address_in part x.document (x.first + k)) span.start) (starts k l ∙ lt_false k from h)) (ends k l ∙ lt_true k to less);
      back = λ k l h. and_right (not (comes_before (address_in part x.document (x.first + k)) span.start)) (comes_before (address_in part x.document (x.first + k)) (end_of span)) (ends k l ∙ lt_false k to h);
    }

itself : (part : ℕ) → (part == part) ≡ true
itself part = grind (arith, nat_tests)

differs : (a b : ℕ) → a ≢ b → (a == b) ≡ false
differs a b h = grind (arith, nat_tests)

-- what the row of a piece shows in its own part
pub shown-own : (part n : ℕ) (span : Span) (x : Piece) → shown_by part span (piece_row part n x) ≡ positions_in span n (piece_addresses part x)
shown-own part n span x =
    if_true (part == part) (positions_in span n (piece_addresses part (row_piece (piece_row part n x)))) [] (itself part)
    ∙ ap (λ (p : Piece). positions_in span n (piece_addresses part p)) (same_piece part n x)

pub shown-other : (part : ℕ) (span : Span) (row : Row ℕ) → place row.first 0 ≢ part → shown_by part span row ≡ []
shown-other part span row h = if_false (place row.first 0 == part) (positions_in span (place row.first 1) (piece_addresses part (row_piece row))) [] (differs (place row.first 0) part h)

shown_piece : (part n : ℕ) (span : Span) (x : Piece) (from to : ℕ) → to ≤ x.count → CountsBefore (address_in part x.document x.first) x.count span.start from → CountsBefore (address_in part x.document x.first) x.count (end_of span) to
    → positions_from (n + from) (to - from) ≡ shown_by part span (piece_row part n x)
shown_piece part n span x from to le f t = sym (shown-own part n span x ∙ clipped span part x.document x.first x.count from to n (clip_of span part x from to f t) le)

-- ---- what the code asks of a row

pub record RowTold (row : Row ℕ) : Type 0 where
  pub two : length row.first ≡ 2
  pub some : 1 ≤ length row.second
  pub from_one : 1 ≤ place row.first 1
  pub fits : place row.first 1 + row.leaf < 2 ^ 32

pub row_told : (row : Row ℕ) → IsPieceRow row → RowTold row
row_told row r = subst RowTold (sym r.is) (record { two = refl; some = omega (arith, length-append r.piece.document (0 ∷ r.part ∷ r.piece.first ∷ [])); from_one = r.from_one; fits = r.fits })

pub two_places : (row : Row ℕ) → IsPieceRow row → length row.first ≡ 2
two_places row r = (row_told row r).two

pub has_address : (row : Row ℕ) → IsPieceRow row → 1 ≤ length row.second
has_address row r = (row_told row r).some

pub shown_nowhere : (part : ℕ) (span : Span) (row : Row ℕ) (shown : Interval) → place row.first 0 ≢ part → shown.count ≡ 0 → positions_of shown ≡ shown_by part span row
shown_nowhere part span row shown h e = ap (positions_from shown.start) e ∙ sym (shown-other part span row h)

abbrev ShownIs : ℕ → Span → ℕ → ℕ → Row ℕ → Type 0
ShownIs part span from to row =
    place row.first 0 ≡ part → to ≤ row.leaf → CountsBefore row.second row.leaf span.start from → CountsBefore row.second row.leaf (end_of span) to → positions_from (place row.first 1 + from) (to - from) ≡ shown_by part span row

shown_row : (part : ℕ) (span : Span) (from to : ℕ) (row : Row ℕ) → IsPieceRow row → ShownIs part span from to row
shown_row part span from to row r = subst (ShownIs part span from to) (sym r.is) (λ own.
    subst (λ (p : ℕ). r.n ≡ r.n → to ≤ r.piece.count → CountsBefore (address_in r.part r.piece.document r.piece.first) r.piece.count span.start from → CountsBefore (address_in r.part r.piece.document r.piece.first) r.piece.count (end_of span) to
    → positions_from (r.n + from) (to - from) ≡ shown_by p span (piece_row r.part r.n r.piece)) own (λ _ le f t. shown_piece r.part r.n span r.piece from to le f t) refl)

pub shown_here : (part from to : ℕ) (span : Span) (end : List ℕ) (row : Row ℕ) (shown : Interval) → IsPieceRow row → place row.first 0 ≡ part → end ≡ end_of span → to ≤ row.leaf
    → CountsBefore row.second row.leaf span.start from → CountsBefore row.second row.leaf end to → shown.start ≡ place row.first 1 + from → shown.count ≡ to - from → positions_of shown ≡ shown_by part span row
shown_here part from to span end row shown r own e le f t start count =
    ap (λ (n : ℕ). positions_from n shown.count) start ∙ (ap (positions_from (place row.first 1 + from)) count
    ∙ shown_row part span from to row r own le f (subst (λ (b : List ℕ). CountsBefore row.second row.leaf b to) e t))

pub shown_well_formed : (from to : ℕ) (row : Row ℕ) (shown : Interval) → IsPieceRow row → from ≤ row.leaf → to ≤ row.leaf → shown.start ≡ place row.first 1 + from → shown.count ≡ to - from → IsInterval shown
shown_well_formed from to row shown r f t start count =
    let told = row_told row r in
    let one = told.from_one in
    let room = told.fits in
    record { from_one = omega arith; fits = omega arith }

pub nowhere_well_formed : (row : Row ℕ) (shown : Interval) → IsPieceRow row → shown.start ≡ place row.first 1 → shown.count ≡ 0 → IsInterval shown
nowhere_well_formed row shown r start count =
    let told = row_told row r in
    let one = told.from_one in
    let room = told.fits in
    record { from_one = omega arith; fits = omega arith }

pub start_room : (from : ℕ) (row : Row ℕ) → IsPieceRow row → from ≤ row.leaf → place row.first 1 + from < 2 ^ 32
start_room from row r f = let room = (row_told row r).fits in omega arith

pub ruleset clips = (two_places, has_address, shown_nowhere, shown_here, shown_well_formed, nowhere_well_formed, start_room)
