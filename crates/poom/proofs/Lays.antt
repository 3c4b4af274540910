-- Pieces laid out one after another, so far.
use Rattle.std.proofs.Common.{◌≡◌, ℕ, ◌+◌, ◌<◌, ◌≤◌, List, [], ◌∷◌, ◌++◌, length, take, drop, get_or, map, refl, arith, ap, sym, ◌∙◌}
use Rattle.std.proofs.lemmas.List.{take_more, take-append-drop}
use Rattle.enfilade_core.specs.declared.tree.Row.{Row}
use Rattle.enfilade_core.specs.Plain.{plain_row}
use Rattle.poom.specs.declared.piece.Piece.{Piece}
use Rattle.poom.specs.Pieces.{total, piece_row, rows_from}
use Rattle.poom.proofs.RowsFrom.{rows-append, total-append}

pub rows_more : (part from : ℕ) (xs : List Piece) (i n : ℕ) (x : Piece) → i < length xs → x ≡ get_or xs i x → n ≡ from + total (take i xs)
    → rows_from part from (take (i + 1) xs) ≡ rows_from part from (take i xs) ++ piece_row part n x ∷ []
rows_more part from xs i n x h is at =
    ap (rows_from part from) (take_more xs i x h)
    ∙ (rows-append part from (take i xs) (get_or xs i x ∷ [])
    ∙ (ap (λ (m : ℕ). rows_from part from (take i xs) ++ piece_row part m (get_or xs i x) ∷ []) (sym at)
    ∙ ap (λ (y : Piece). rows_from part from (take i xs) ++ piece_row part n y ∷ []) (sym is)))

pub total_more : (xs : List Piece) (i : ℕ) (x : Piece) → i < length xs → x ≡ get_or xs i x → total (take (i + 1) xs) ≡ total (take i xs) + x.count
total_more xs i x h is =
    let same : (get_or xs i x).count ≡ x.count = ap (λ (y : Piece). y.count) (sym is) in
    let both = total-append (take i xs) (get_or xs i x ∷ []) in
    ap total (take_more xs i x h) ∙ omega arith

pub total_up_to : (xs : List Piece) (i : ℕ) → total (take i xs) ≤ total xs
total_up_to xs i =
    let both = total-append (take i xs) (drop i xs) in
    let whole : total (take i xs ++ drop i xs) ≡ total xs = ap total (take-append-drop i xs) in
    omega arith

pub total_room : (xs : List Piece) (i : ℕ) (x : Piece) → i < length xs → x ≡ get_or xs i x → total (take i xs) + x.count ≤ total xs
total_room xs i x h is = let more = total_more xs i x h is in let most = total_up_to xs (i + 1) in omega arith

-- a run's length is its own plain form
pub plain_rows : (rows : List (Row ℕ)) → map (plain_row (λ (n : ℕ). n)) rows ≡ rows
plain_rows [] = refl
plain_rows (row ∷ rows) = ap (λ (more : List (Row ℕ)). row ∷ more) (plain_rows rows)

pub ruleset lays = (rows_more, total_more, total_up_to, total_room, plain_rows)
