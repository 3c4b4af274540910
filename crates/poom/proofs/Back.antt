-- Back from rows to their pieces, and what pieces are address by address.
use Rattle.std.proofs.Common.{◌≡◌, ℕ, zero, suc, ◌+◌, ◌-◌, ◌==◌, true, List, [], ◌∷◌, ◌++◌, length, map, take, drop, refl, arith, ap, sym, ◌∙◌, append_assoc, append-nil}
use Rattle.std.specs.List.{filter}
use Rattle.std.proofs.lemmas.List.{length-append, map-append, take_at, drop_at, get_or-append-add}
use Rattle.std.proofs.lemmas.List.Elements.{filter-append}
use Rattle.std.proofs.lemmas.Grind.{flat_map-append}
use Rattle.std.proofs.lemmas.Bool.Decides.{nat_tests}
use Rattle.tumbler.specs.Places.{place}
use Rattle.enfilade_core.specs.declared.tree.Row.{Row}
use Rattle.poom.specs.declared.piece.Piece.{Piece}
use Rattle.poom.specs.Pieces.{address_in, addresses_from, piece_addresses, laid, total, piece_row, rows_from, stands_in, row_piece, pieces_in}
use Rattle.poom.specs.Laid.{exchanged_at}

-- ---- pieces of rows

pub same_piece : (part n : ℕ) (x : Piece) → row_piece (piece_row part n x) ≡ x
same_piece part n x =
    let long = length-append x.document (0 ∷ part ∷ x.first ∷ []) in
    let short : length x.document ≡ length (address_in part x.document x.first) - 3 = omega arith in
    let at : length (address_in part x.document x.first) - 1 ≡ length x.document + 2 = omega arith in
    let document : take (length (address_in part x.document x.first) - 3) (address_in part x.document x.first) ≡ x.document =
    take_at x.document (0 ∷ part ∷ x.first ∷ []) (length (address_in part x.document x.first) - 3) short in
    let first : place (address_in part x.document x.first) (length (address_in part x.document x.first) - 1) ≡ x.first =
    ap (place (address_in part x.document x.first)) at ∙ get_or-append-add x.document (0 ∷ part ∷ x.first ∷ []) 2 0 in
    ap (λ (d : List ℕ). record { document = d; first = place (address_in part x.document x.first) (length (address_in part x.document x.first) - 1); count = x.count }) document
    ∙ ap (λ (f : ℕ). record { document = x.document; first = f; count = x.count }) first

itself : (part : ℕ) → (part == part) ≡ true
itself part = grind (arith, nat_tests)

pub pieces-append : (part : ℕ) (a b : List (Row ℕ)) → pieces_in part (a ++ b) ≡ pieces_in part a ++ pieces_in part b
pieces-append part a b = ap (map row_piece) (filter-append (stands_in part) a b) ∙ map-append row_piece (filter (stands_in part) a) (filter (stands_in part) b)

pub own_pieces : (part n : ℕ) (xs : List Piece) → pieces_in part (rows_from part n xs) ≡ xs
own_pieces part n [] = refl
own_pieces part n (x ∷ xs) =
    let here = itself part in
    let rest = own_pieces part (n + x.count) xs in
    rw here (ap (λ (p : Piece). p ∷ pieces_in part (rows_from part (n + x.count) xs)) (same_piece part n x) ∙ ap (λ (ps : List Piece). x ∷ ps) rest)

pub no_text_pieces : (n : ℕ) (zs : List Piece) → pieces_in 1 (rows_from 2 n zs) ≡ []
no_text_pieces n [] = refl
no_text_pieces n (z ∷ zs) = no_text_pieces (n + z.count) zs

pub no_link_pieces : (n : ℕ) (xs : List Piece) → pieces_in 2 (rows_from 1 n xs) ≡ []
no_link_pieces n [] = refl
no_link_pieces n (x ∷ xs) = no_link_pieces (n + x.count) xs

pub text_pieces : (xs zs : List Piece) → pieces_in 1 (rows_from 1 1 xs ++ rows_from 2 1 zs) ≡ xs
text_pieces xs zs =
    pieces-append 1 (rows_from 1 1 xs) (rows_from 2 1 zs)
    ∙ (ap (λ (ps : List Piece). pieces_in 1 (rows_from 1 1 xs) ++ ps) (no_text_pieces 1 zs) ∙ (append-nil (pieces_in 1 (rows_from 1 1 xs)) ∙ own_pieces 1 1 xs))

pub link_pieces : (xs zs : List Piece) → pieces_in 2 (rows_from 1 1 xs ++ rows_from 2 1 zs) ≡ zs
link_pieces xs zs =
    pieces-append 2 (rows_from 1 1 xs) (rows_from 2 1 zs)
    ∙ (ap (λ (ps : List Piece). ps ++ pieces_in 2 (rows_from 2 1 zs)) (no_link_pieces 1 xs) ∙ own_pieces 2 1 zs)

-- ---- address by address

pub length-addresses : (part : ℕ) (document : List ℕ) (first count : ℕ) → length (addresses_from part document first count) ≡ count
length-addresses part document first zero = refl
length-addresses part document first (suc count) = ap suc (length-addresses part document (first + 1) count)

pub laid-append : (part : ℕ) (xs ys : List Piece) → laid part (xs ++ ys) ≡ laid part xs ++ laid part ys
laid-append part xs ys = flat_map-append (piece_addresses part) xs ys

pub length-laid : (part : ℕ) (xs : List Piece) → length (laid part xs) ≡ total xs
length-laid part [] = refl
length-laid part (x ∷ xs) =
    let rest = length-laid part xs in
    let here = length-addresses part x.document x.first x.count in
    length-append (piece_addresses part x) (laid part xs) ∙ omega arith

-- an exchange of whole pieces is one of their addresses
pub laid_exchanged : (part from to : ℕ) (front gone back new : List Piece) → from ≡ 1 + total front → to ≡ from + total gone
    → laid part (front ++ (new ++ back)) ≡ exchanged_at from to (laid part new) (laid part (front ++ (gone ++ back)))
laid_exchanged part from to front gone back new f t =
    let whole : laid part (front ++ (gone ++ back)) ≡ laid part front ++ (laid part gone ++ laid part back) =
    laid-append part front (gone ++ back) ∙ ap (λ (rest : List (List ℕ)). laid part front ++ rest) (laid-append part gone back) in
    let long : length (laid part front) ≡ from - 1 = length-laid part front ∙ omega arith in
    let longer : length (laid part front ++ laid part gone) ≡ to - 1 = length-append (laid part front) (laid part gone) ∙ (let a = length-laid part front in let b = length-laid part gone in omega arith) in
    let head : take (from - 1) (laid part (front ++ (gone ++ back))) ≡ laid part front =
    ap (take (from - 1)) whole ∙ take_at (laid part front) (laid part gone ++ laid part back) (from - 1) long in
    let tail : drop (to - 1) (laid part (front ++ (gone ++ back))) ≡ laid part back =
    ap (drop (to - 1)) (whole ∙ sym (append_assoc (laid part front) (laid part gone) (laid part back))) ∙ drop_at (laid part front ++ laid part gone) (laid part back) (to - 1) longer in
    laid-append part front (new ++ back)
    ∙ (ap (λ (rest : List (List ℕ)). laid part front ++ rest) (laid-append part new back)
    ∙ (ap (λ (h : List (List ℕ)). h ++ (laid part new ++ laid part back)) (sym head)
    ∙ ap (λ (r : List (List ℕ)). take (from - 1) (laid part (front ++ (gone ++ back))) ++ (laid part new ++ r)) (sym tail)))
