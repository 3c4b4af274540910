-- Where the rows of a document end: behind its links, or behind its text where it has none.
use Rattle.std.proofs.Common.{◌≡◌, ℕ, zero, suc, ◌+◌, ◌-◌, ◌<◌, ◌≤◌, List, [], ◌∷◌, ◌++◌, length, refl, arith, ap, sym, ◌∙◌, append-nil}
use Rattle.std.specs.List.{All}
use Rattle.std.proofs.lemmas.List.Elements.{All-head, All-tail}
use Rattle.tumbler.specs.Places.{IsBefore, place}
use Rattle.tumbler.proofs.Order.{before_by_first, before_by_rest}
use Rattle.enfilade_core.specs.declared.tree.Row.{Row}
use Rattle.enfilade_core.specs.Rows.{Shape, rows_of}
use Rattle.enfilade_core.specs.Axes.{first_axis, end_on, later, greatest_end}
use Rattle.enfilade_core.specs.Planes.{text_widths}
use Rattle.enfilade_core.proofs.Later.{later-none, later-second}
use Rattle.enfilade_core.proofs.Tells.{greatest_end-append}
use Rattle.poom.specs.declared.piece.Piece.{Piece}
use Rattle.poom.specs.declared.part.Part.{Part}
use Rattle.poom.specs.declared.part.Part.TheVariants.{Text, Links}
use Rattle.poom.specs.Pieces.{IsPiece, total, piece_row, rows_from, pieces_in}
use Rattle.poom.specs.Laid.{part_number, standing_in, IsOneDocument, IsRoot}
use Rattle.poom.proofs.Back.{length-laid}

-- the greatest end of rows on the first axis
abbrev pub end_of_rows : List (Row ℕ) → List ℕ
end_of_rows rows = greatest_end (first_axis text_widths) rows

row_end : (part n count : ℕ) (second : List ℕ) → 1 ≤ count → end_on (first_axis text_widths) (record { first = part ∷ n ∷ []; second = second; leaf = count }) ≡ part ∷ (n + count) ∷ []
row_end part n zero second filled = absurd (omega arith)
row_end part n (suc count) second filled = refl

piece_end : (part n : ℕ) (piece : Piece) → IsPiece piece → end_on (first_axis text_widths) (piece_row part n piece) ≡ part ∷ (n + piece.count) ∷ []
piece_end part n piece is = row_end part n piece.count (piece_row part n piece).second is.filled

pieces_end : (part n : ℕ) (piece : Piece) (pieces : List Piece) → All IsPiece (piece ∷ pieces) → end_of_rows (rows_from part n (piece ∷ pieces)) ≡ part ∷ (n + total (piece ∷ pieces)) ∷ []
pieces_end part n piece [] each =
    let same : n + piece.count ≡ n + (piece.count + 0) = omega arith in
    later-none (end_on (first_axis text_widths) (piece_row part n piece)) ∙ piece_end part n piece (All-head IsPiece piece [] each) ∙ ap (λ (k : ℕ). part ∷ k ∷ []) same
pieces_end part n piece (next ∷ pieces) each =
    let rest = All-tail IsPiece piece (next ∷ pieces) each in
    let filled = (All-head IsPiece next pieces rest).filled in
    let first : List ℕ = part ∷ (n + piece.count) ∷ [] in
    let second : List ℕ = part ∷ ((n + piece.count) + total (next ∷ pieces)) ∷ [] in
    let before : IsBefore first second =
    before_by_rest part ((n + piece.count) ∷ []) (((n + piece.count) + total (next ∷ pieces)) ∷ []) (before_by_first (n + piece.count) ((n + piece.count) + total (next ∷ pieces)) [] [] (omega arith)) in
    let same : (n + piece.count) + total (next ∷ pieces) ≡ n + total (piece ∷ next ∷ pieces) = omega arith in
    ap (λ (e : List ℕ). later e (end_of_rows (rows_from part (n + piece.count) (next ∷ pieces)))) (piece_end part n piece (All-head IsPiece piece (next ∷ pieces) each))
    ∙ ap (later first) (pieces_end part (n + piece.count) next pieces rest)
    ∙ later-second first second before
    ∙ ap (λ (k : ℕ). part ∷ k ∷ []) same

-- where pieces of text and of links end together
abbrev pub end_of_pieces : List Piece → List Piece → List ℕ
end_of_pieces [] [] = []
end_of_pieces (x ∷ xs) [] = 1 ∷ (1 + total (x ∷ xs)) ∷ []
end_of_pieces xs (z ∷ zs) = 2 ∷ (1 + total (z ∷ zs)) ∷ []

parts_end : (xs zs : List Piece) → All IsPiece xs → All IsPiece zs → end_of_rows (rows_from 1 1 xs ++ rows_from 2 1 zs) ≡ end_of_pieces xs zs
parts_end [] [] each also = refl
parts_end (x ∷ xs) [] each also = ap end_of_rows (append-nil (rows_from 1 1 (x ∷ xs))) ∙ pieces_end 1 1 x xs each
parts_end [] (z ∷ zs) each also = pieces_end 2 1 z zs also
parts_end (x ∷ xs) (z ∷ zs) each also =
    let first : List ℕ = 1 ∷ (1 + total (x ∷ xs)) ∷ [] in
    let second : List ℕ = 2 ∷ (1 + total (z ∷ zs)) ∷ [] in
    let before : IsBefore first second = before_by_first 1 2 ((1 + total (x ∷ xs)) ∷ []) ((1 + total (z ∷ zs)) ∷ []) (omega arith) in
    greatest_end-append (first_axis text_widths) (rows_from 1 1 (x ∷ xs)) (rows_from 2 1 (z ∷ zs))
    ∙ ap (λ (e : List ℕ). later e (end_of_rows (rows_from 2 1 (z ∷ zs)))) (pieces_end 1 1 x xs each)
    ∙ ap (later first) (pieces_end 2 1 z zs also)
    ∙ later-second first second before

document_end : (rows : List (Row ℕ)) → IsOneDocument rows → end_of_rows rows ≡ end_of_pieces (pieces_in 1 rows) (pieces_in 2 rows)
document_end rows one = ap end_of_rows one.gapless ∙ parts_end (pieces_in 1 rows) (pieces_in 2 rows) one.text_pieces one.link_pieces

-- ---- an end of fewer than two places

none_in : (part : Part) (xs zs : List Piece) → length (end_of_pieces xs zs) < 2 → (rows : List (Row ℕ)) → xs ≡ pieces_in 1 rows → zs ≡ pieces_in 2 rows → total (pieces_in (part_number part) rows) ≡ 0
none_in Text [] [] short rows e f = ap total (sym e)
none_in Links [] [] short rows e f = ap total (sym f)
none_in part (x ∷ xs) [] short rows e f = absurd (omega (arith, short))
none_in part [] (z ∷ zs) short rows e f = absurd (omega (arith, short))
none_in part (x ∷ xs) (z ∷ zs) short rows e f = absurd (omega (arith, short))

pub none_at : (part : Part) (nodes : List (Shape ℕ)) (k : ℕ) (end : List ℕ) → IsRoot nodes k → end ≡ end_of_rows (rows_of nodes k) → length end < 2 → 0 ≡ length (standing_in part (rows_of nodes k))
none_at part nodes k end root is short =
    let rows = rows_of nodes k in
    let whole = ap length (is ∙ document_end rows root.document) in
    let none = none_in part (pieces_in 1 rows) (pieces_in 2 rows) (omega (arith, short, whole)) rows refl refl in
    omega (arith, length-laid (part_number part) (pieces_in (part_number part) rows), none)

-- ---- an end in the part

tells_in : (part : Part) (xs zs : List Piece) → place (end_of_pieces xs zs) 0 ≡ part_number part → (rows : List (Row ℕ)) → xs ≡ pieces_in 1 rows → zs ≡ pieces_in 2 rows → place (end_of_pieces xs zs) 1 ≡ 1 + total (pieces_in (part_number part) rows)
tells_in Text [] [] at rows e f = absurd (omega (arith, at))
tells_in Links [] [] at rows e f = absurd (omega (arith, at))
tells_in Text (x ∷ xs) [] at rows e f = ap (λ (ps : List Piece). 1 + total ps) e
tells_in Links (x ∷ xs) [] at rows e f = absurd (omega (arith, at))
tells_in Text [] (z ∷ zs) at rows e f = absurd (omega (arith, at))
tells_in Text (x ∷ xs) (z ∷ zs) at rows e f = absurd (omega (arith, at))
tells_in Links [] (z ∷ zs) at rows e f = ap (λ (ps : List Piece). 1 + total ps) f
tells_in Links (x ∷ xs) (z ∷ zs) at rows e f = ap (λ (ps : List Piece). 1 + total ps) f

end_told : (part : Part) (nodes : List (Shape ℕ)) (k : ℕ) (end : List ℕ) → IsRoot nodes k → end ≡ end_of_rows (rows_of nodes k) → place end 0 ≡ part_number part → place end 1 ≡ 1 + total (pieces_in (part_number part) (rows_of nodes k))
end_told part nodes k end root is at =
    let rows = rows_of nodes k in
    let whole = is ∙ document_end rows root.document in
    ap (λ (e : List ℕ). place e 1) whole ∙ tells_in part (pieces_in 1 rows) (pieces_in 2 rows) (sym (ap (λ (e : List ℕ). place e 0) whole) ∙ at) rows refl refl

pub long_at : (part : Part) (nodes : List (Shape ℕ)) (k : ℕ) (end : List ℕ) → IsRoot nodes k → end ≡ end_of_rows (rows_of nodes k) → place end 0 ≡ part_number part → place end 1 - 1 ≡ length (standing_in part (rows_of nodes k))
long_at part nodes k end root is at =
    omega (arith, end_told part nodes k end root is at, length-laid (part_number part) (pieces_in (part_number part) (rows_of nodes k)))

pub from_one_at : (part : Part) (nodes : List (Shape ℕ)) (k : ℕ) (end : List ℕ) → IsRoot nodes k → end ≡ end_of_rows (rows_of nodes k) → place end 0 ≡ part_number part → 1 ≤ place end 1
from_one_at part nodes k end root is at = omega (arith, end_told part nodes k end root is at)
