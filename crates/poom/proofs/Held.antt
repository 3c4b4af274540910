-- The last row before a position is that of the piece in front of it.
use Rattle.std.proofs.Common.{◌≡◌, ◌≢◌, ℕ, ◌+◌, ◌<◌, ◌≤◌, Bool, true, false, List, [], ◌∷◌, ◌++◌, refl, arith, ap, sym, subst, ◌∙◌, inl, inr}
use Rattle.std.specs.Prelude.{◌⊎◌, Option, Some, None, if◌then◌else◌}
use Rattle.std.specs.List.{All}
use Rattle.std.proofs.lemmas.List.Elements.{All-head, All-tail, All-nil, All-cons}
use Rattle.tumbler.specs.Places.{comes_before, place}
use Rattle.enfilade_core.specs.declared.tree.Row.{Row}
use Rattle.enfilade_core.specs.Edits.{or_else, last_before}
use Rattle.poom.specs.declared.piece.Piece.{Piece}
use Rattle.poom.specs.declared.part.Part.{Part}
use Rattle.poom.specs.declared.part.Part.TheVariants.{Text, Links}
use Rattle.poom.specs.Pieces.{IsPiece, total, piece_row, rows_from, pieces_in}
use Rattle.poom.specs.Laid.{part_number, IsOneDocument}
use Rattle.poom.specs.Cuts.{HoldsPiece, HoldsNone}
use Rattle.poom.proofs.Places.{if_true, if_false, before_there}
use Rattle.poom.proofs.RowsFrom.{IsFront, IsPast, all_past, text_front, links_past}
use Rattle.poom.proofs.Documents.{IsMadeOf, made_of}

-- ---- the last row before a place

pub last-past : (at : List ℕ) (rows : List (Row ℕ)) → All (IsPast at) rows → last_before at rows ≡ None
last-past at [] h = refl
last-past at (row ∷ rows) h = if_false (comes_before row.first at) (or_else (last_before at rows) row) None (All-head (IsPast at) row rows h)

-- of two lists, where the second has none
pub last-first : (at : List ℕ) (a b : List (Row ℕ)) → last_before at b ≡ None → last_before at (a ++ b) ≡ last_before at a
last-first at [] b e = e
last-first at (row ∷ a) b e = ap (λ (found : Option (Row ℕ)). if comes_before row.first at then or_else found row else None) (last-first at a b e)

-- of two lists, where the second has one
pub last-second : (at : List ℕ) (a b : List (Row ℕ)) (found : Row ℕ) → All (IsFront at) a → last_before at b ≡ Some found → last_before at (a ++ b) ≡ Some found
last-second at [] b found h e = e
last-second at (row ∷ a) b found h e =
    if_true (comes_before row.first at) (or_else (last_before at (a ++ b)) row) None (All-head (IsFront at) row a h)
    ∙ ap (λ (some : Option (Row ℕ)). or_else some row) (last-second at a b found (All-tail (IsFront at) row a h) e)

or_else-some : (P : Row ℕ → Type 0) (other : Option (Row ℕ)) (row found : Row ℕ) → P row → ((r : Row ℕ) → other ≡ Some r → P r) → or_else other row ≡ Some found → P found
or_else-some P None row found p ps e = let same : row ≡ found = cc in subst P same p
or_else-some P (Some r) row found p ps e = let same : r ≡ found = cc in subst P same (ps r refl)

none_some : (b : Bool) (x : Option (Row ℕ)) (found : Row ℕ) → (if b then x else None) ≡ Some found → x ≡ Some found
none_some true x found e = e
none_some false x found e = cc

-- what holds of all rows holds of the last one before a place
pub last-in : (P : Row ℕ → Type 0) (at : List ℕ) (rows : List (Row ℕ)) (found : Row ℕ) → All P rows → last_before at rows ≡ Some found → P found
last-in P at [] found h e = cc
last-in P at (row ∷ rows) found h e =
    or_else-some P (last_before at rows) row found (All-head P row rows h) (λ r s. last-in P at rows r (All-tail P row rows h) s) (none_some (comes_before row.first at) (or_else (last_before at rows) row) found e)

-- ---- among the rows of pieces

pub record IsNone (part n start : ℕ) (xs : List Piece) : Type 0 where
  pub early : (n ≤ start) ⊎ (xs ≡ [])
  pub last : last_before (part ∷ n ∷ []) (rows_from part start xs) ≡ None

pub record IsFound (part n start : ℕ) (xs : List Piece) : Type 0 where
  pub front : List Piece
  pub piece : Piece
  pub back : List Piece
  pub at : ℕ
  pub parts : xs ≡ front ++ (piece ∷ back)
  pub at_is : at ≡ start + total front
  pub before : at < n
  pub reaches : (n ≤ at + piece.count) ⊎ (back ≡ [])
  pub last : last_before (part ∷ n ∷ []) (rows_from part start xs) ≡ Some (piece_row part at piece)

late : (part n start : ℕ) (x : Piece) (xs : List Piece) (found : Option (Row ℕ)) → start < n → last_before (part ∷ n ∷ []) (rows_from part (start + x.count) xs) ≡ found
    → last_before (part ∷ n ∷ []) (rows_from part start (x ∷ xs)) ≡ or_else found (piece_row part start x)
late part n start x xs found h e =
    if_true (comes_before (part ∷ start ∷ []) (part ∷ n ∷ [])) (or_else (last_before (part ∷ n ∷ []) (rows_from part (start + x.count) xs)) (piece_row part start x)) None (before_there part start n h)
    ∙ ap (λ (o : Option (Row ℕ)). or_else o (piece_row part start x)) e

found_first : (part n start : ℕ) (x : Piece) (xs : List Piece) → start < n → IsNone part n (start + x.count) xs → IsFound part n start (x ∷ xs)
found_first part n start x xs h none = record {
  front = [];
  piece = x;
  back = xs;
  at = start;
  parts = refl;
  at_is = omega arith;
  before = h;
  reaches = none.early;
  last = late part n start x xs None h none.last;
}

found_later : (part n start : ℕ) (x : Piece) (xs : List Piece) → start < n → IsFound part n (start + x.count) xs → IsFound part n start (x ∷ xs)
found_later part n start x xs h found = record {
  front = x ∷ found.front;
  piece = found.piece;
  back = found.back;
  at = found.at;
  parts = ap (λ (ps : List Piece). x ∷ ps) found.parts;
  at_is = let at = found.at_is in omega arith;
  before = found.before;
  reaches = found.reaches;
  last = late part n start x xs (Some (piece_row part found.at found.piece)) h found.last;
}

pub found_in : (part n start : ℕ) (xs : List Piece) → All IsPiece xs → IsNone part n start xs ⊎ IsFound part n start xs
found_in part n start [] each = inl (record { early = inr refl; last = refl })
found_in part n start (x ∷ xs) each =
    let split : (n ≤ start) ⊎ (start < n) = grind arith in
    elim split [
      | inl early ↦ inl (record { early = inl early; last = last-past (part ∷ n ∷ []) (rows_from part start (x ∷ xs)) (all_past part start n (x ∷ xs) early each) })
      | inr h ↦ elim (found_in part n (start + x.count) xs (All-tail IsPiece x xs each)) [
        | inl none ↦ inr (found_first part n start x xs h none)
        | inr found ↦ inr (found_later part n start x xs h found)
      ]
    ]

-- ---- in a document

pub record IsHeld (part n : ℕ) (pieces : List Piece) (found : Option (Row ℕ)) : Type 0 where
  pub start : ℕ
  pub piece : Piece
  pub holds : HoldsPiece pieces n start piece
  pub row : found ≡ Some (piece_row part start piece)

-- a row of another part is found, or none
pub record IsNotHeld (part n : ℕ) (pieces : List Piece) (found : Option (Row ℕ)) : Type 0 where
  pub none : HoldsNone pieces n
  pub other : (row : Row ℕ) → found ≡ Some row → place row.first 0 ≢ part

holds_found : (part n : ℕ) (xs : List Piece) (found : IsFound part n 1 xs) → HoldsPiece xs n found.at found.piece
holds_found part n xs found = record { front = found.front; back = found.back; parts = found.parts; start_is = found.at_is; before = found.before; reaches = found.reaches }

text_other : (n start : ℕ) (xs : List Piece) → All (λ (row : Row ℕ). place row.first 0 ≢ 2) (rows_from 1 start xs)
text_other n start [] = All-nil (λ (row : Row ℕ). place row.first 0 ≢ 2)
text_other n start (x ∷ xs) = All-cons (λ (row : Row ℕ). place row.first 0 ≢ 2) (piece_row 1 start x) (rows_from 1 (start + x.count) xs) (λ e. absurd (omega arith)) (text_other n (start + x.count) xs)

held_in_text : (n : ℕ) (rows : List (Row ℕ)) (xs zs : List Piece) → IsMadeOf rows xs zs → IsHeld 1 n xs (last_before (1 ∷ n ∷ []) rows) ⊎ IsNotHeld 1 n xs (last_before (1 ∷ n ∷ []) rows)
held_in_text n rows xs zs made =
    let same : last_before (1 ∷ n ∷ []) rows ≡ last_before (1 ∷ n ∷ []) (rows_from 1 1 xs) =
    ap (last_before (1 ∷ n ∷ [])) made.are ∙ last-first (1 ∷ n ∷ []) (rows_from 1 1 xs) (rows_from 2 1 zs) (last-past (1 ∷ n ∷ []) (rows_from 2 1 zs) (links_past 1 n zs)) in
    elim (found_in 1 n 1 xs made.each) [
      | inl none ↦ inr (record { none = none.early; other = λ row e. absurd (let nothing : None ≡ Some row = sym none.last ∙ (sym same ∙ e) in cc) })
      | inr found ↦ inl (record { start = found.at; piece = found.piece; holds = holds_found 1 n xs found; row = same ∙ found.last })
    ]

held_in_links : (n : ℕ) (rows : List (Row ℕ)) (xs zs : List Piece) → IsMadeOf rows xs zs → IsHeld 2 n zs (last_before (2 ∷ n ∷ []) rows) ⊎ IsNotHeld 2 n zs (last_before (2 ∷ n ∷ []) rows)
held_in_links n rows xs zs made =
    let at = 2 ∷ n ∷ [] in
    let same : last_before at rows ≡ last_before at (rows_from 1 1 xs ++ rows_from 2 1 zs) = ap (last_before at) made.are in
    elim (found_in 2 n 1 zs made.also) [
      | inl none ↦ inr (record {
        none = none.early;
        other = λ row e. last-in (λ (r : Row ℕ). place r.first 0 ≢ 2) at (rows_from 1 1 xs) row (text_other n 1 xs) (sym (same ∙ last-first at (rows_from 1 1 xs) (rows_from 2 1 zs) none.last) ∙ e);
      })
      | inr found ↦ inl (record {
        start = found.at;
        piece = found.piece;
        holds = holds_found 2 n zs found;
        row = same ∙ last-second at (rows_from 1 1 xs) (rows_from 2 1 zs) (piece_row 2 found.at found.piece) (text_front 1 n xs) found.last;
      })
    ]

pub held_in : (part : Part) (n : ℕ) (rows : List (Row ℕ)) → IsOneDocument rows
    → IsHeld (part_number part) n (pieces_in (part_number part) rows) (last_before (part_number part ∷ n ∷ []) rows) ⊎ IsNotHeld (part_number part) n (pieces_in (part_number part) rows) (last_before (part_number part ∷ n ∷ []) rows)
held_in Text n rows one = held_in_text n rows (pieces_in 1 rows) (pieces_in 2 rows) (made_of rows one)
held_in Links n rows one = held_in_links n rows (pieces_in 1 rows) (pieces_in 2 rows) (made_of rows one)

pub ruleset found = (held_in, last-in)
