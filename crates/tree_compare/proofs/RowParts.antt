-- Parts of what rows show, and what documents show by that.
use Rattle.std.proofs.Common.{◌≡◌, ◌≢◌, ℕ, zero, suc, ◌+◌, ◌-◌, ◌≤◌, ◌<◌, List, [], ◌∷◌, ◌++◌, length, get_or, map, take, drop, refl, arith, ap, ◌∙◌, sym, subst, append_assoc}
use Rattle.std.specs.List.{All, flat_map}
use Rattle.std.proofs.lemmas.List.{length-append, same_from_push, get_or-append-add}
use Rattle.std.proofs.lemmas.List.Concat.{flat_map-append}
use Rattle.std.proofs.lemmas.List.Elements.{All-nil, All-cons, All-head, All-tail, All-append}
use Rattle.tumbler.specs.Places.{place}
use Rattle.enfilade_core.specs.declared.tree.Row.{Row}
use Rattle.granfilade.specs.Content.{so_far_on}
use Rattle.enfilade_core.specs.Plain.{plain_row}
use Rattle.poom.specs.declared.piece.Piece.{Piece}
use Rattle.poom.specs.Pieces.{address_in, addresses_from, piece_addresses, laid, piece_row, rows_from, row_piece, pieces_in}
use Rattle.poom.specs.Laid.{texts, links, IsOneDocument}
use Rattle.poom.specs.Positions.{IsPieceRow}
use Rattle.poom.proofs.Back.{same_piece, length-addresses}
use Rattle.poom.proofs.Showing.{document_rows, plain_rows}
use Rattle.tree_compare.specs.RowAddresses.{row_addresses, addresses_of, address_count, ShowSame}
use Rattle.tree_compare.proofs.Addresses.{step-last}

-- ---- addresses that follow one another

addresses-drop : (part : ℕ) (document : List ℕ) (first k count total : ℕ) → k + count ≡ total → drop k (addresses_from part document first total) ≡ addresses_from part document (first + k) count
addresses-drop part document first zero count total e =
    let same : total ≡ count = omega arith in
    let at : first ≡ first + 0 = omega arith in
    ap (addresses_from part document first) same ∙ ap (λ (n : ℕ). addresses_from part document n count) at
addresses-drop part document first (suc k) count zero e = absurd (omega arith)
addresses-drop part document first (suc k) count (suc total) e =
    let at : (first + 1) + k ≡ first + suc k = omega arith in
    addresses-drop part document (first + 1) k count total (omega arith) ∙ ap (λ (n : ℕ). addresses_from part document n count) at

addresses-take : (part : ℕ) (document : List ℕ) (first n total : ℕ) → n ≤ total → take n (addresses_from part document first total) ≡ addresses_from part document first n
addresses-take part document first zero total le = refl
addresses-take part document first (suc n) zero le = absurd (omega arith)
addresses-take part document first (suc n) (suc total) le = ap (λ (ads : List (List ℕ)). address_in part document first ∷ ads) (addresses-take part document (first + 1) n total (omega arith))

addresses-part : (part : ℕ) (document : List ℕ) (first k n total : ℕ) → k + n ≤ total → take n (drop k (addresses_from part document first total)) ≡ addresses_from part document (first + k) n
addresses-part part document first k n total le =
    ap (take n) (addresses-drop part document first k (total - k) total (omega arith)) ∙ addresses-take part document (first + k) n (total - k) (omega arith)

in_front : (xs : List ℕ) (part n : ℕ) → xs ++ 0 ∷ part ∷ n ∷ [] ≡ (xs ++ 0 ∷ part ∷ []) ++ n ∷ []
in_front xs part n = sym (append_assoc xs (0 ∷ part ∷ []) (n ∷ []))

part_in_front : (xs : List ℕ) (part : ℕ) → xs ++ 0 ∷ part ∷ [] ≡ (xs ++ 0 ∷ []) ++ part ∷ []
part_in_front xs part = sym (append_assoc xs (0 ∷ []) (part ∷ []))

so_far : (part : ℕ) (document : List ℕ) (first k : ℕ) → so_far_on (address_in part document first) k ≡ address_in part document (first + k)
so_far part document first k =
    ap (λ (a : List ℕ). so_far_on a k) (in_front document part first) ∙ step-last (document ++ 0 ∷ part ∷ []) first k ∙ sym (in_front document part (first + k))

-- an address tells its document, its part and its number
record IsSameAddress (part also : ℕ) (document other : List ℕ) (n m : ℕ) : Type 0 where
  parts : part ≡ also
  documents : document ≡ other
  numbers : n ≡ m

address_parts : (part also : ℕ) (document other : List ℕ) (n m : ℕ) → address_in part document n ≡ address_in also other m → IsSameAddress part also document other n m
address_parts part also document other n m e =
    let one = same_from_push (document ++ 0 ∷ part ∷ []) (other ++ 0 ∷ also ∷ []) n m (sym (in_front document part n) ∙ e ∙ in_front other also m) in
    let two = same_from_push (document ++ 0 ∷ []) (other ++ 0 ∷ []) part also (sym (part_in_front document part) ∙ one.0 ∙ part_in_front other also) in
    let three = same_from_push document other 0 0 two.0 in
    record { parts = two.1; documents = three.0; numbers = one.1 }

addresses-same : (part also : ℕ) (document other : List ℕ) (n m count : ℕ) → address_in part document n ≡ address_in also other m → addresses_from part document n count ≡ addresses_from also other m count
addresses-same part also document other n m count e =
    let same = address_parts part also document other n m e in
    ap (λ (p : ℕ). addresses_from p document n count) same.parts ∙ ap (λ (d : List ℕ). addresses_from also d n count) same.documents ∙ ap (λ (k : ℕ). addresses_from also other k count) same.numbers

addresses-first : (part also : ℕ) (document other : List ℕ) (n m count : ℕ) → 1 ≤ count → addresses_from part document n count ≡ addresses_from also other m count → address_in part document n ≡ address_in also other m
addresses-first part also document other n m zero some e = absurd (omega arith)
addresses-first part also document other n m (suc count) some e = ap (λ (ads : List (List ℕ)). get_or ads 0 []) e

-- ---- the addresses of a row

row-shows : (row : Row ℕ) (r : IsPieceRow row) → row_addresses row ≡ addresses_from r.part r.piece.document r.piece.first r.piece.count
row-shows row r = ap row_addresses r.is ∙ ap (piece_addresses r.part) (same_piece r.part r.n r.piece)

row-so_far : (row : Row ℕ) (r : IsPieceRow row) (k : ℕ) → so_far_on row.second k ≡ address_in r.part r.piece.document (r.piece.first + k)
row-so_far row r k = ap (λ (l : Row ℕ). so_far_on l.second k) r.is ∙ so_far r.part r.piece.document r.piece.first k

row-part : (row : Row ℕ) (r : IsPieceRow row) (k n : ℕ) → k + n ≤ row.leaf → take n (drop k (row_addresses row)) ≡ addresses_from r.part r.piece.document (r.piece.first + k) n
row-part row r k n le =
    let many : row.leaf ≡ r.piece.count = ap (λ (l : Row ℕ). l.leaf) r.is in
    ap (λ (ads : List (List ℕ)). take n (drop k ads)) (row-shows row r) ∙ addresses-part r.part r.piece.document r.piece.first k n r.piece.count (omega arith)

pub row-placed : (row : Row ℕ) → IsPieceRow row → row.second ≢ []
row-placed row r none =
    let long = length-append r.piece.document (0 ∷ r.part ∷ r.piece.first ∷ []) in
    let is = ap (λ (l : Row ℕ). length l.second) r.is in
    let empty = ap length none in
    absurd (omega arith)

pub row-filled : (row : Row ℕ) → IsPieceRow row → 1 ≤ address_count row
row-filled row r =
    let filled = r.is_piece.filled in
    let many = ap (λ (l : Row ℕ). l.leaf) r.is in
    omega arith

pub row-counted : (row : Row ℕ) → address_count row ≡ length (row_addresses row)
row-counted row = sym (length-addresses (place row.first 0) (row_piece row).document (row_piece row).first row.leaf)

pub rows-same : (one other : Row ℕ) → IsPieceRow one → IsPieceRow other → (k m n : ℕ) → k + n ≤ one.leaf → m + n ≤ other.leaf → so_far_on one.second k ≡ so_far_on other.second m → take n (drop k (row_addresses one)) ≡ take n (drop m (row_addresses other))
rows-same one other r s k m n here there e =
    row-part one r k n here
    ∙ addresses-same r.part s.part r.piece.document s.piece.document (r.piece.first + k) (s.piece.first + m) n (sym (row-so_far one r k) ∙ e ∙ row-so_far other s m)
    ∙ sym (row-part other s m n there)

pub rows-first : (one other : Row ℕ) → IsPieceRow one → IsPieceRow other → (k m n : ℕ) → 1 ≤ n → k + n ≤ one.leaf → m + n ≤ other.leaf → take n (drop k (row_addresses one)) ≡ take n (drop m (row_addresses other)) → so_far_on one.second k ≡ so_far_on other.second m
rows-first one other r s k m n some here there e =
    row-so_far one r k
    ∙ addresses-first r.part s.part r.piece.document s.piece.document (r.piece.first + k) (s.piece.first + m) n some (sym (row-part one r k n here) ∙ e ∙ row-part other s m n there)
    ∙ sym (row-so_far other s m)

-- ---- the addresses of a document

own_addresses : (part n : ℕ) (xs : List Piece) → addresses_of (rows_from part n xs) ≡ laid part xs
own_addresses part n [] = refl
own_addresses part n (x ∷ xs) =
    ap (λ (p : Piece). piece_addresses part p ++ addresses_of (rows_from part (n + x.count) xs)) (same_piece part n x) ∙ ap (λ (ads : List (List ℕ)). piece_addresses part x ++ ads) (own_addresses part (n + x.count) xs)

document_addresses : (rows : List (Row ℕ)) → IsOneDocument rows → addresses_of rows ≡ texts rows ++ links rows
document_addresses rows one =
    let xs = pieces_in 1 rows in
    let zs = pieces_in 2 rows in
    ap addresses_of one.gapless ∙ flat_map-append row_addresses (rows_from 1 1 xs) (rows_from 2 1 zs) ∙ ap (λ (ads : List (List ℕ)). ads ++ addresses_of (rows_from 2 1 zs)) (own_addresses 1 1 xs)
    ∙ ap (λ (ads : List (List ℕ)). laid 1 xs ++ ads) (own_addresses 2 1 zs)

-- the address is in this part
abbrev IsIn : ℕ → List ℕ → Type 0
IsIn part address = place address (length address - 2) ≡ part

part-there : (part : ℕ) (document : List ℕ) (n : ℕ) → IsIn part (address_in part document n)
part-there part document n =
    let at : length (address_in part document n) - 2 ≡ length document + 1 = omega (arith, length-append document (0 ∷ part ∷ n ∷ [])) in
    ap (place (address_in part document n)) at ∙ get_or-append-add document (0 ∷ part ∷ n ∷ []) 1 0

all_in : (part : ℕ) (document : List ℕ) (first count : ℕ) → All (IsIn part) (addresses_from part document first count)
all_in part document first zero = All-nil (IsIn part)
all_in part document first (suc count) =
    All-cons (IsIn part) (address_in part document first) (addresses_from part document (first + 1) count) (part-there part document first) (all_in part document (first + 1) count)

laid_in : (part : ℕ) (xs : List Piece) → All (IsIn part) (laid part xs)
laid_in part [] = All-nil (IsIn part)
laid_in part (x ∷ xs) = All-append (IsIn part) (piece_addresses part x) (laid part xs) (all_in part x.document x.first x.count) (laid_in part xs)

none_both : (address : List ℕ) → IsIn 1 address → IsIn 2 address → ⊥
none_both address one two = absurd (omega (arith, one, two))

-- the first is in part 1 and what the rest begins with in part 2
not_alike : (address : List ℕ) (addresses rest : List (List ℕ)) → IsIn 1 address → All (IsIn 2) rest → rest ≡ address ∷ addresses → ⊥
not_alike address addresses rest one two e = none_both address one (All-head (IsIn 2) address addresses (subst (All (IsIn 2)) e two))

apart : (text also link more : List (List ℕ)) → All (IsIn 1) text → All (IsIn 1) also → All (IsIn 2) link → All (IsIn 2) more → text ++ link ≡ also ++ more → (text ≡ also) × (link ≡ more)
apart [] [] link more ts ads ls ms e = (refl, e)
apart [] (x ∷ also) link more ts ads ls ms e = absurd (not_alike x (also ++ more) link (All-head (IsIn 1) x also ads) ls e)
apart (x ∷ text) [] link more ts ads ls ms e = absurd (not_alike x (text ++ link) more (All-head (IsIn 1) x text ts) ms (sym e))
apart (x ∷ text) (y ∷ also) link more ts ads ls ms e =
    let first : x ≡ y = ap (λ (ads : List (List ℕ)). get_or ads 0 x) e in
    let behind : text ++ link ≡ also ++ more = ap (drop 1) e in
    let rest = apart text also link more (All-tail (IsIn 1) x text ts) (All-tail (IsIn 1) y also ads) ls ms behind in
    (ap (λ (a : List ℕ). a ∷ text) first ∙ ap (λ (ads : List (List ℕ)). y ∷ ads) rest.0, rest.1)

pub show-same : (rows others : List (Row ℕ)) → IsOneDocument rows → IsOneDocument others → addresses_of rows ≡ addresses_of others → ShowSame rows others
show-same rows others one other e =
    let both = apart (texts rows) (texts others) (links rows) (links others) (laid_in 1 (pieces_in 1 rows)) (laid_in 1 (pieces_in 1 others)) (laid_in 2 (pieces_in 2 rows)) (laid_in 2 (pieces_in 2 others))
    (sym (document_addresses rows one) ∙ e ∙ document_addresses others other) in
    record { texts = both.0; links = both.1 }

pub show-from : (rows others : List (Row ℕ)) → IsOneDocument rows → IsOneDocument others → ShowSame rows others → addresses_of rows ≡ addresses_of others
show-from rows others one other same =
    document_addresses rows one ∙ ap (λ (ads : List (List ℕ)). ads ++ links rows) same.texts ∙ ap (λ (ads : List (List ℕ)). texts others ++ ads) same.links ∙ sym (document_addresses others other)

-- ---- what the code reads of an arena

pub rows-are : (found slice rows : List (Row ℕ)) → map (plain_row (λ (n : ℕ). n)) found ≡ rows → slice ≡ found → slice ≡ rows
rows-are found slice rows is at = at ∙ sym (plain_rows found) ∙ is

pub rows-each : (found slice rows : List (Row ℕ)) → IsOneDocument rows → map (plain_row (λ (n : ℕ). n)) found ≡ rows → slice ≡ found → All IsPieceRow slice
rows-each found slice rows one is at = subst (All IsPieceRow) (sym (rows-are found slice rows is at)) (document_rows rows one)
