-- What a row that was looked up says of a document.
use Rattle.std.proofs.Common.{◌≡◌, ◌≢◌, ℕ, zero, suc, ◌+◌, ◌-◌, ◌^◌, ◌<◌, ◌≤◌, List, [], ◌∷◌, ◌++◌, length, take, get_or, refl, arith, ap, sym, subst, ◌∙◌, inl, inr}
use Rattle.std.specs.Prelude.{◌⊎◌, Some, None, slice_get}
use Rattle.std.specs.List.{All}
use Rattle.std.proofs.lemmas.Option.{same_Some, none-some, slice_get-get_or}
use Rattle.std.proofs.lemmas.List.{length-append, take_at, get_or-append-add, get_or_append_left}
use Rattle.tumbler.specs.Places.{place}
use Rattle.tumbler.specs.Address.{IsMadeIn}
use Rattle.enfilade_core.specs.declared.tree.Row.{Row}
use Rattle.enfilade_core.specs.Rows.{Shape, rows_of}
use Rattle.enfilade_core.specs.Edits.{last_before}
use Rattle.poom.specs.declared.piece.Piece.{Piece}
use Rattle.poom.specs.declared.part.Part.{Part}
use Rattle.poom.specs.declared.part.Part.TheVariants.{Text, Links}
use Rattle.poom.specs.Pieces.{IsPiece, address_in, addresses_from, piece_addresses, laid, total, piece_row, row_piece, pieces_in}
use Rattle.poom.specs.Laid.{part_number, standing_in, texts, IsOneDocument, IsRoot}
use Rattle.poom.specs.Cuts.{HoldsPiece, HoldsNone}
use Rattle.poom.proofs.RowsFrom.{total-append}
use Rattle.poom.proofs.Back.{same_piece, length-addresses, laid-append, length-laid}
use Rattle.poom.proofs.Held.{held_in}
use Rattle.poom.proofs.Cutting.{piece_held}

-- ---- addresses that are taken apart

pub made-long : (places document : List ℕ) → IsMadeIn places document → 3 ≤ length places
made-long places document m = let long = ap length m.parts in omega (arith, length-append document (0 ∷ m.part ∷ m.number ∷ []))

pub made-document : (places document : List ℕ) → IsMadeIn places document → take (length places - 3) places ≡ document
made-document places document m =
    let long = ap length m.parts in
    let short : length document ≡ length places - 3 = omega (arith, length-append document (0 ∷ m.part ∷ m.number ∷ [])) in
    ap (take (length places - 3)) m.parts ∙ take_at document (0 ∷ m.part ∷ m.number ∷ []) (length places - 3) short

pub piece_taken : (address document : List ℕ) (first n count : ℕ) → IsMadeIn address document → n ≡ length address → first ≡ get_or address (n - 1) 0
    → (let piece : Piece = record { document = document; first = first; count = count } in piece) ≡ row_piece (record { first = []; second = address; leaf = count })
piece_taken address document first n count m e f =
    let last : first ≡ place address (length address - 1) = f ∙ ap (λ (k : ℕ). get_or address (k - 1) 0) e in
    ap (λ (d : List ℕ). let piece : Piece = record { document = d; first = first; count = count } in piece) (sym (made-document address document m))
    ∙ ap (λ (k : ℕ). let piece : Piece = record { document = take (length address - 3) address; first = k; count = count } in piece) last

-- ---- the row that was found

part_is : (part : Part) → (part_number part ≡ 1) ⊎ (part_number part ≡ 2)
part_is Text = inl refl
part_is Links = inr refl

abbrev pub found_at : List ℕ → List ℕ → ℕ → Row ℕ
found_at first second count = record { first = first; second = second; leaf = count }

pub record IsHere (part : Part) (pieces : List Piece) (n : ℕ) (first second : List ℕ) (count : ℕ) : Type 0 where
  pub holds : HoldsPiece pieces n (place first 1) (row_piece (record { first = []; second = second; leaf = count }))
  pub made : (document : List ℕ) × IsMadeIn second document

pub all_pieces : (part : Part) (rows : List (Row ℕ)) → IsOneDocument rows → All IsPiece (pieces_in (part_number part) rows)
all_pieces Text rows one = one.text_pieces
all_pieces Links rows one = one.link_pieces

here_held : (part : Part) (n : ℕ) (pieces : List Piece) (first second : List ℕ) (count start : ℕ) (x : Piece) → All IsPiece pieces → HoldsPiece pieces n start x
    → piece_row (part_number part) start x ≡ found_at first second count → IsHere part pieces n first second count
here_held part n pieces first second count start x each holds e =
    let p = part_number part in
    let is = piece_held pieces n start x each holds in
    let at : start ≡ place first 1 = ap (λ (row : Row ℕ). place row.first 1) e in
    let second_is : address_in p x.document x.first ≡ second = ap (λ (row : Row ℕ). row.second) e in
    let piece_is : x ≡ row_piece (record { first = []; second = second; leaf = count }) = sym (same_piece p start x) ∙ ap row_piece e in
    record {
      holds = subst (λ (k : ℕ). HoldsPiece pieces n k (row_piece (record { first = []; second = second; leaf = count }))) at (subst (HoldsPiece pieces n start) piece_is holds);
      made = (x.document, record { part = p; number = x.first; parts = sym second_is; byte_or_link = part_is part; counted = is.from_one; document_address = is.document });
    }

pub here_of : (part : Part) (n : ℕ) (nodes : List (Shape ℕ)) (k : ℕ) (first second : List ℕ) (count : ℕ) → IsRoot nodes k
    → last_before (part_number part ∷ n ∷ []) (rows_of nodes k) ≡ Some (record { first = first; second = second; leaf = count }) → place first 0 ≡ part_number part
    → IsHere part (pieces_in (part_number part) (rows_of nodes k)) n first second count
here_of part n nodes k first second count root e own = elim (held_in part n (rows_of nodes k) root.document) [
  | inl held ↦ here_held part n (pieces_in (part_number part) (rows_of nodes k)) first second count held.start held.piece (all_pieces part (rows_of nodes k) root.document) held.holds
      (same_Some (piece_row (part_number part) held.start held.piece) (found_at first second count) (sym held.row ∙ e))
  | inr other ↦ absurd (other.other (found_at first second count) e own)
]

pub elsewhere : (part : Part) (n : ℕ) (nodes : List (Shape ℕ)) (k : ℕ) (first second : List ℕ) (count : ℕ) → IsRoot nodes k
    → last_before (part_number part ∷ n ∷ []) (rows_of nodes k) ≡ Some (record { first = first; second = second; leaf = count }) → (place first 0 ≢ part_number part) ⊎ (length first ≢ 2)
    → HoldsNone (pieces_in (part_number part) (rows_of nodes k)) n
elsewhere part n nodes k first second count root e other = elim (held_in part n (rows_of nodes k) root.document) [
  | inl held ↦ absurd (
      let same = same_Some (piece_row (part_number part) held.start held.piece) (found_at first second count) (sym held.row ∙ e) in
      let first_is : part_number part ∷ held.start ∷ [] ≡ first = ap (λ (row : Row ℕ). row.first) same in
      elim other [
        | inl not_part ↦ not_part (sym (ap (λ (f : List ℕ). place f 0) first_is))
        | inr not_two ↦ not_two (sym (ap length first_is))
      ])
  | inr not_held ↦ not_held.none
]

pub nothing_before : (part : Part) (n : ℕ) (nodes : List (Shape ℕ)) (k : ℕ) → IsRoot nodes k → last_before (part_number part ∷ n ∷ []) (rows_of nodes k) ≡ None → HoldsNone (pieces_in (part_number part) (rows_of nodes k)) n
nothing_before part n nodes k root e = elim (held_in part n (rows_of nodes k) root.document) [
  | inl held ↦ absurd (none-some (piece_row (part_number part) held.start held.piece) (sym e ∙ held.row))
  | inr not_held ↦ not_held.none
]

pub ruleset looks = (made-long, made-document, piece_taken, here_of, elsewhere, nothing_before)

-- ---- lengths

pub fits_in : (part : Part) (rows : List (Row ℕ)) → IsOneDocument rows → length (standing_in part rows) ≤ 4294967294
fits_in Text rows one = let few = one.text_fits in omega arith
fits_in Links rows one = one.links_fit

pub nothing_long : (part : Part) (nodes : List (Shape ℕ)) (k : ℕ) → HoldsNone (pieces_in (part_number part) (rows_of nodes k)) 4294967295 → 0 ≡ length (standing_in part (rows_of nodes k))
nothing_long part nodes k (inl early) = absurd (omega arith)
nothing_long part nodes k (inr none) = let same = ap (laid (part_number part)) none in sym (ap length same)

-- a held piece ends within the part
pub record EndsIn (part : ℕ) (pieces : List Piece) (start : ℕ) (x : Piece) : Type 0 where
  pub from_one : 1 ≤ start
  pub within : (start - 1) + x.count ≤ length (laid part pieces)

pub held_ends : (part : ℕ) (pieces : List Piece) (n start : ℕ) (x : Piece) → HoldsPiece pieces n start x → EndsIn part pieces start x
held_ends part pieces n start x held =
    let at = held.start_is in
    let same = ap total held.parts in
    let sum = total-append held.front (x ∷ held.back) in
    let long = length-laid part pieces in
    record { from_one = omega arith; within = omega arith }

pub last_ends : (part : Part) (nodes : List (Shape ℕ)) (k start : ℕ) (x : Piece) → IsRoot nodes k → HoldsPiece (pieces_in (part_number part) (rows_of nodes k)) 4294967295 start x
    → (start - 1) + x.count ≡ length (standing_in part (rows_of nodes k))
last_ends part nodes k start x root held =
    let pieces = pieces_in (part_number part) (rows_of nodes k) in
    let at = held.start_is in
    let same = ap total held.parts in
    let sum = total-append held.front (x ∷ held.back) in
    let long = length-laid (part_number part) pieces in
    let few = fits_in part (rows_of nodes k) root.document in
    elim held.reaches [
      | inl le ↦ omega arith
      | inr last ↦ let none = ap total last in omega arith
    ]

pub last_fits : (part : Part) (nodes : List (Shape ℕ)) (k start : ℕ) (x : Piece) → IsRoot nodes k → HoldsPiece (pieces_in (part_number part) (rows_of nodes k)) 4294967295 start x → (start - 1) + x.count < 2 ^ 32
last_fits part nodes k start x root held = let e = last_ends part nodes k start x root held in let few = fits_in part (rows_of nodes k) root.document in omega arith

pub held_from_one : (pieces : List Piece) (n start : ℕ) (x : Piece) → HoldsPiece pieces n start x → 1 ≤ start
held_from_one pieces n start x held = let at = held.start_is in omega arith

pub ruleset lengths = (nothing_long, last_ends, last_fits, held_from_one)

-- ---- what a position shows

get-address : (part : ℕ) (document : List ℕ) (first count k : ℕ) (d : List ℕ) → k < count → get_or (addresses_from part document first count) k d ≡ address_in part document (first + k)
get-address part document first zero k d h = absurd (omega arith)
get-address part document first (suc count) zero d h = let same : first ≡ first + 0 = omega arith in ap (address_in part document) same
get-address part document first (suc count) (suc k) d h = let same : (first + 1) + k ≡ first + suc k = omega arith in get-address part document (first + 1) count k d (omega arith) ∙ ap (address_in part document) same

pub shows_at : (part n : ℕ) (pieces : List Piece) (start : ℕ) (x : Piece) → HoldsPiece pieces (n + 1) start x → 1 ≤ n → n - start < x.count
    → slice_get (laid part pieces) (n - 1) ≡ Some (address_in part x.document (x.first + (n - start)))
shows_at part n pieces start x held h l =
    let at = held.start_is in
    let late = held.before in
    let long = length-laid part held.front in
    let has = length-addresses part x.document x.first x.count in
    let k = n - start in
    let whole : laid part pieces ≡ laid part held.front ++ (piece_addresses part x ++ laid part held.back) = ap (laid part) held.parts ∙ laid-append part held.front (x ∷ held.back) in
    let here : n - 1 ≡ length (laid part held.front) + k = omega arith in
    let room : n - 1 < length (laid part held.front ++ (piece_addresses part x ++ laid part held.back)) =
    omega (arith, length-append (laid part held.front) (piece_addresses part x ++ laid part held.back), length-append (piece_addresses part x) (laid part held.back)) in
    let inside : k < length (piece_addresses part x) = omega arith in
    ap (λ (xs : List (List ℕ)). slice_get xs (n - 1)) whole
    ∙ (slice_get-get_or (laid part held.front ++ (piece_addresses part x ++ laid part held.back)) (n - 1) [] room
    ∙ ap (λ (a : List ℕ). Some a)
    (ap (λ (i : ℕ). get_or (laid part held.front ++ (piece_addresses part x ++ laid part held.back)) i []) here
    ∙ (get_or-append-add (laid part held.front) (piece_addresses part x ++ laid part held.back) k []
    ∙ (get_or_append_left (piece_addresses part x) (laid part held.back) [] k inside ∙ get-address part x.document x.first x.count k [] l))))

pub ends_before : (part n : ℕ) (pieces : List Piece) (start : ℕ) (x : Piece) → HoldsPiece pieces (n + 1) start x → x.count ≤ n - start → length (laid part pieces) < n
ends_before part n pieces start x held h =
    let at = held.start_is in
    let late = held.before in
    let same = ap total held.parts in
    let sum = total-append held.front (x ∷ held.back) in
    let long = length-laid part pieces in
    elim held.reaches [
      | inl le ↦ absurd (omega arith)
      | inr last ↦ let none = ap total last in omega arith
    ]

pub none_before : (n : ℕ) (pieces : List Piece) → HoldsNone pieces (n + 1) → n ≢ 0 → length (laid 1 pieces) < n
none_before n pieces (inl early) h = absurd (omega arith)
none_before n pieces (inr none) h = let same = ap (λ (ps : List Piece). length (laid 1 ps)) none in omega arith

pub text_short : (nodes : List (Shape ℕ)) (k : ℕ) → IsRoot nodes k → length (texts (rows_of nodes k)) ≤ 1073741824
text_short nodes k root = root.document.text_fits

pub held_in_text : (nodes : List (Shape ℕ)) (k n start : ℕ) (x : Piece) → IsRoot nodes k → HoldsPiece (pieces_in 1 (rows_of nodes k)) n start x → IsPiece x
held_in_text nodes k n start x root held = piece_held (pieces_in 1 (rows_of nodes k)) n start x root.document.text_pieces held

pub held_before : (pieces : List Piece) (n start : ℕ) (x : Piece) → HoldsPiece pieces n start x → start < n
held_before pieces n start x held = held.before

pub ruleset shown = (shows_at, ends_before, none_before, text_short, held_in_text, held_before)
