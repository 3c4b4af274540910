-- The rows of pieces are ones that a tree may have.
use Rattle.std.proofs.Common.{◌≡◌, ℕ, zero, suc, ◌+◌, ◌-◌, ◌^◌, ◌<◌, ◌≤◌, List, [], ◌∷◌, ◌++◌, length, replicate, refl, arith, ap, sym, subst, ◌∙◌}
use Rattle.std.specs.List.{All}
use Rattle.std.proofs.lemmas.List.{length-append}
use Rattle.std.proofs.lemmas.List.Elements.{All-nil, All-cons, All-append}
use Rattle.tumbler.specs.Places.{place_bound, EndsWell, IsTumbler, sum, width_at}
use Rattle.tumbler.proofs.Tumblers.{EndsWell-one, EndsWell-more}
use Rattle.tumbler.proofs.Widths.{width_at-is_tumbler, length-width_at, width_at-not_zero, width_at-filled}
use Rattle.enfilade_core.specs.Axes.{IsWellFormedRow, IsWellFormedRows}
use Rattle.enfilade_core.specs.Planes.{text_widths}
use Rattle.poom.specs.declared.piece.Piece.{Piece}
use Rattle.poom.specs.Pieces.{IsPiece, address_in, total, piece_row, rows_from}
use Rattle.poom.proofs.Places.{place-is_tumbler}
use Rattle.poom.proofs.RowsFrom.{each_row, document_ordered}

EndsWell-behind : (xs : List ℕ) (n : ℕ) → 0 < n → EndsWell (xs ++ n ∷ [])
EndsWell-behind [] n h = EndsWell-one n (omega arith)
EndsWell-behind (x ∷ xs) n h = EndsWell-more x (xs ++ n ∷ []) (omega (arith, length-append xs (n ∷ []))) (EndsWell-behind xs n h)

-- three places more
EndsWell-address : (xs : List ℕ) (part n : ℕ) → 0 < n → EndsWell (xs ++ 0 ∷ part ∷ n ∷ [])
EndsWell-address [] part n h = EndsWell-behind (0 ∷ part ∷ []) n h
EndsWell-address (x ∷ xs) part n h = EndsWell-more x (xs ++ 0 ∷ part ∷ n ∷ []) (omega (arith, length-append xs (0 ∷ part ∷ n ∷ []))) (EndsWell-address xs part n h)

pub address-is_tumbler : (part n : ℕ) (document : List ℕ) → part < 3 → 1 ≤ n → n < 2 ^ 32 → length document ≤ 20 → IsTumbler document → IsTumbler (address_in part document n)
address-is_tumbler part n document p h k short is = record {
  few = omega (arith, length-append document (0 ∷ part ∷ n ∷ []));
  small = All-append (λ x. x < place_bound) document (0 ∷ part ∷ n ∷ []) is.small
      (All-cons (λ x. x < place_bound) 0 (part ∷ n ∷ []) (omega arith) (All-cons (λ x. x < place_bound) part (n ∷ []) (omega arith) (All-cons (λ x. x < place_bound) n [] k (All-nil (λ x. x < place_bound)))));
  ends = EndsWell-address document part n h;
}

-- a width is added at the last of the places
sum-last : (xs : List ℕ) (n d : ℕ) → 0 < d → sum (xs ++ n ∷ []) (replicate (length xs) 0 ++ d ∷ []) ≡ xs ++ (n + d) ∷ []
sum-last [] n zero h = absurd (omega arith)
sum-last [] n (suc d) h = refl
sum-last (x ∷ xs) n d h = ap (λ (s : List ℕ). x ∷ s) (sum-last xs n d h)

length-address : (part n : ℕ) (document : List ℕ) → length (address_in part document n) ≡ length document + 3
length-address part n document = length-append document (0 ∷ part ∷ n ∷ [])

in_front : (xs : List ℕ) (part n : ℕ) → xs ++ 0 ∷ part ∷ n ∷ [] ≡ (xs ++ 0 ∷ part ∷ []) ++ n ∷ []
in_front [] part n = refl
in_front (x ∷ xs) part n = ap (λ (s : List ℕ). x ∷ s) (in_front xs part n)

pub sum-address : (part n d : ℕ) (document : List ℕ) → 0 < d → sum (address_in part document n) (width_at (length (address_in part document n)) d) ≡ address_in part document (n + d)
sum-address part n d document h =
    let long : length (address_in part document n) - 1 ≡ length (document ++ 0 ∷ part ∷ []) = omega (arith, length-address part n document, length-append document (0 ∷ part ∷ [])) in
    let some : 0 < length (address_in part document n) = omega (arith, length-address part n document) in
    ap (sum (address_in part document n)) (width_at-filled (length (address_in part document n)) d some h ∙ ap (λ (k : ℕ). replicate k 0 ++ d ∷ []) long)
    ∙ (ap (λ (s : List ℕ). sum s (replicate (length (document ++ 0 ∷ part ∷ [])) 0 ++ d ∷ [])) (in_front document part n)
    ∙ (sum-last (document ++ 0 ∷ part ∷ []) n d h ∙ sym (in_front document part (n + d))))

pub sum-place : (part n d : ℕ) → 0 < d → sum (part ∷ n ∷ []) (width_at 2 d) ≡ part ∷ (n + d) ∷ []
sum-place part n zero h = absurd (omega arith)
sum-place part n (suc d) h = refl

pub short_document : (x : Piece) → IsPiece x → length x.document ≤ 20
short_document x is = let short = is.document.1.short in omega arith

pub well_formed_row : (part n : ℕ) (x : Piece) → part < 3 → 1 ≤ n → n + x.count < 2 ^ 32 → IsPiece x → IsWellFormedRow text_widths (piece_row part n x)
well_formed_row part n x p h k is =
    let filled : 0 < x.count = let f = is.filled in omega arith in
    let room = is.fits in
    let from_one = is.from_one in
    let short = short_document x is in
    let long : length (address_in part x.document x.first) ≤ 24 = omega (arith, length-address part x.first x.document) in
    let some : 0 < length (address_in part x.document x.first) = omega (arith, length-address part x.first x.document) in
    record {
      first_coordinate = place-is_tumbler part n p h (omega arith);
      second_coordinate = address-is_tumbler part x.first x.document p from_one (omega arith) short is.is_tumbler;
      first_width = width_at-is_tumbler 2 x.count (omega arith) (omega arith);
      second_width = width_at-is_tumbler (length (address_in part x.document x.first)) x.count long (omega arith);
      first_end = subst IsTumbler (sym (sum-place part n x.count filled)) (place-is_tumbler part (n + x.count) p (omega arith) k);
      second_end = subst IsTumbler (sym (sum-address part x.first x.count x.document filled)) (address-is_tumbler part (x.first + x.count) x.document p (omega arith) room short is.is_tumbler);
      proper = (λ e. cc, λ _. (width_at-not_zero (length (address_in part x.document x.first)) x.count some filled, length-width_at (length (address_in part x.document x.first)) x.count filled));
    }

pub well_formed_rows : (part n : ℕ) (xs : List Piece) → part < 3 → 1 ≤ n → n + total xs < 2 ^ 32 → All IsPiece xs → All (IsWellFormedRow text_widths) (rows_from part n xs)
well_formed_rows part n xs p h k each = each_row part (IsWellFormedRow text_widths) n (n + total xs) n xs (omega arith) (omega arith) each (λ m x lo hi is. well_formed_row part m x p (omega arith) (omega arith) is)

pub well_formed_document : (xs zs : List Piece) → All IsPiece xs → All IsPiece zs → 1 + total xs < 2 ^ 32 → 1 + total zs < 2 ^ 32 → IsWellFormedRows text_widths (rows_from 1 1 xs ++ rows_from 2 1 zs)
well_formed_document xs zs each also few fewer = record {
  each = All-append (IsWellFormedRow text_widths) (rows_from 1 1 xs) (rows_from 2 1 zs) (well_formed_rows 1 1 xs (omega arith) (omega arith) few each) (well_formed_rows 2 1 zs (omega arith) (omega arith) fewer also);
  ordered = document_ordered 1 xs zs each also;
}
