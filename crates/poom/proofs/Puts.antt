-- What is kept of pieces that are cut, and what a put gives.
use Rattle.std.proofs.Common.{◌≡◌, ◌≢◌, ℕ, ◌+◌, ◌-◌, ◌^◌, ◌<◌, ◌≤◌, List, [], ◌∷◌, ◌++◌, length, arith, ap, sym, subst, ◌∙◌, append-nil}
use Rattle.std.specs.List.{All}
use Rattle.std.proofs.lemmas.List.Elements.{All-head, All-nil}
use Rattle.enfilade_core.specs.Rows.{Shape, rows_of}
use Rattle.poom.specs.declared.piece.Piece.{Piece}
use Rattle.poom.specs.declared.part.Part.{Part}
use Rattle.poom.specs.Pieces.{IsPiece, piece_addresses, laid, total, pieces_in}
use Rattle.poom.specs.Laid.{part_number, standing_in, exchanged_at, IsRoot, HasBorders}
use Rattle.poom.specs.Cuts.{HoldsPiece, HoldsNone, IsHead, IsTail}
use Rattle.poom.proofs.Back.{length-laid}
use Rattle.poom.proofs.Looks.{all_pieces, held_ends, fits_in}
use Rattle.poom.proofs.Cutting.{piece_held, head_kept, head_at_border, tail_at_border, first_border, end_border, held_reaches, tail_kept, two_borders, put_in}

in_total : (part : Part) (nodes : List (Shape ℕ)) (k n : ℕ) → n ≤ 1 + length (standing_in part (rows_of nodes k)) → n ≤ 1 + total (pieces_in (part_number part) (rows_of nodes k))
in_total part nodes k n h = let long = length-laid (part_number part) (pieces_in (part_number part) (rows_of nodes k)) in omega arith

pub held_by : (part : Part) (nodes : List (Shape ℕ)) (k n start : ℕ) (x : Piece) → IsRoot nodes k → HoldsPiece (pieces_in (part_number part) (rows_of nodes k)) n start x → IsPiece x
held_by part nodes k n start x root held = piece_held (pieces_in (part_number part) (rows_of nodes k)) n start x (all_pieces part (rows_of nodes k) root.document) held

pub begins : (pieces : List Piece) (n start : ℕ) (x : Piece) → HoldsPiece pieces n start x → start < n
begins pieces n start x held = held.before

pub head_none : (part : Part) (nodes : List (Shape ℕ)) (k n : ℕ) → HoldsNone (pieces_in (part_number part) (rows_of nodes k)) n → 1 ≤ n → n ≤ 1 + length (standing_in part (rows_of nodes k))
    → IsHead (part_number part) (pieces_in (part_number part) (rows_of nodes k)) n n []
head_none part nodes k n none h l = let ps = pieces_in (part_number part) (rows_of nodes k) in head_at_border (part_number part) ps n (first_border ps n none h (in_total part nodes k n l))

pub head_end : (part : Part) (nodes : List (Shape ℕ)) (k n start : ℕ) (x : Piece) → HoldsPiece (pieces_in (part_number part) (rows_of nodes k)) n start x → n - start ≡ x.count
    → IsHead (part_number part) (pieces_in (part_number part) (rows_of nodes k)) n n []
head_end part nodes k n start x held e =
    let ps = pieces_in (part_number part) (rows_of nodes k) in
    let late = held.before in
    head_at_border (part_number part) ps n (end_border ps n start x held (omega arith))

pub head_in : (part : Part) (nodes : List (Shape ℕ)) (k n start : ℕ) (x : Piece) → IsRoot nodes k → HoldsPiece (pieces_in (part_number part) (rows_of nodes k)) n start x → n ≤ 1 + length (standing_in part (rows_of nodes k))
    → (d : List ℕ) → d ≡ x.document → IsHead (part_number part) (pieces_in (part_number part) (rows_of nodes k)) n start (record { document = d; first = x.first; count = n - start } ∷ [])
head_in part nodes k n start x root held l d e =
    let ps = pieces_in (part_number part) (rows_of nodes k) in
    subst (λ (document : List ℕ). IsHead (part_number part) ps n start (record { document = document; first = x.first; count = n - start } ∷ [])) (sym e) (head_kept (part_number part) ps n start x (all_pieces part (rows_of nodes k) root.document) held (held_reaches ps n start x held (in_total part nodes k n l)))

pub ruleset heads = (held_by, begins, head_none, head_end, head_in)

pub tail_none : (part : Part) (nodes : List (Shape ℕ)) (k n : ℕ) → HoldsNone (pieces_in (part_number part) (rows_of nodes k)) n → 1 ≤ n → n ≤ 1 + length (standing_in part (rows_of nodes k))
    → IsTail (part_number part) (pieces_in (part_number part) (rows_of nodes k)) n n []
tail_none part nodes k n none h l = let ps = pieces_in (part_number part) (rows_of nodes k) in tail_at_border (part_number part) ps n (first_border ps n none h (in_total part nodes k n l))

pub tail_end : (part : Part) (nodes : List (Shape ℕ)) (k n start : ℕ) (x : Piece) → HoldsPiece (pieces_in (part_number part) (rows_of nodes k)) n start x → n - start ≡ x.count
    → IsTail (part_number part) (pieces_in (part_number part) (rows_of nodes k)) n n []
tail_end part nodes k n start x held e =
    let ps = pieces_in (part_number part) (rows_of nodes k) in
    let late = held.before in
    tail_at_border (part_number part) ps n (end_border ps n start x held (omega arith))

-- the position is in the piece, or at its end
pub tail_reaches : (part : Part) (nodes : List (Shape ℕ)) (k n start : ℕ) (x : Piece) → HoldsPiece (pieces_in (part_number part) (rows_of nodes k)) n start x → n ≤ 1 + length (standing_in part (rows_of nodes k)) → n ≤ start + x.count
tail_reaches part nodes k n start x held l = held_reaches (pieces_in (part_number part) (rows_of nodes k)) n start x held (in_total part nodes k n l)

pub tail_in : (part : Part) (nodes : List (Shape ℕ)) (k n start : ℕ) (x : Piece) → IsRoot nodes k → HoldsPiece (pieces_in (part_number part) (rows_of nodes k)) n start x → n ≤ 1 + length (standing_in part (rows_of nodes k)) → n - start ≢ x.count
    → (d : List ℕ) → d ≡ x.document → IsTail (part_number part) (pieces_in (part_number part) (rows_of nodes k)) n (start + x.count) (record { document = d; first = x.first + (n - start); count = x.count - (n - start) } ∷ [])
tail_in part nodes k n start x root held l other d e =
    let ps = pieces_in (part_number part) (rows_of nodes k) in
    let late = held.before in
    let reach = tail_reaches part nodes k n start x held l in
    let ends : n < start + x.count = omega arith in
    subst (λ (document : List ℕ). IsTail (part_number part) ps n (start + x.count) (record { document = document; first = x.first + (n - start); count = x.count - (n - start) } ∷ [])) (sym e)
    (tail_kept (part_number part) ps n start x (all_pieces part (rows_of nodes k) root.document) held ends)

-- where a piece ends, and the numbers in it, stay below the bound
pub tail_fits : (part : Part) (nodes : List (Shape ℕ)) (k n start : ℕ) (x : Piece) → IsRoot nodes k → HoldsPiece (pieces_in (part_number part) (rows_of nodes k)) n start x → start + x.count < 2 ^ 32
tail_fits part nodes k n start x root held =
    let ends = held_ends (part_number part) (pieces_in (part_number part) (rows_of nodes k)) n start x held in
    let one = ends.from_one in
    let within = ends.within in
    let few = fits_in part (rows_of nodes k) root.document in
    omega arith

pub rest_fits : (part : Part) (nodes : List (Shape ℕ)) (k n start : ℕ) (x : Piece) → IsRoot nodes k → HoldsPiece (pieces_in (part_number part) (rows_of nodes k)) n start x → n ≤ 1 + length (standing_in part (rows_of nodes k)) → x.first + (n - start) < 2 ^ 32
rest_fits part nodes k n start x root held l =
    let is = held_by part nodes k n start x root held in
    let room = is.fits in
    let reach = tail_reaches part nodes k n start x held l in
    omega arith

pub ruleset tails = (held_by, begins, tail_none, tail_end, tail_reaches, tail_in, tail_fits, rest_fits)

-- ---- what is kept, joined

pub laid-kept : (part : ℕ) (old new : List Piece) (x : Piece) → laid part new ≡ laid part old ++ piece_addresses part x → laid part new ≡ laid part old ++ laid part (x ∷ [])
laid-kept part old new x e = e ∙ ap (λ (r : List (List ℕ)). laid part old ++ r) (sym (append-nil (piece_addresses part x)))

pub laid-nothing : (part : ℕ) (old : List Piece) → laid part old ≡ laid part old ++ laid part []
laid-nothing part old = sym (append-nil (laid part old))

pub laid-joined : (part : ℕ) (none first second third head pieces tail : List Piece) → none ≡ [] → laid part first ≡ laid part none ++ laid part head → laid part second ≡ laid part first ++ laid part pieces → laid part third ≡ laid part second ++ laid part tail
    → laid part third ≡ (laid part head ++ laid part pieces) ++ laid part tail
laid-joined part none first second third head pieces tail n a b c =
    let a' : laid part first ≡ laid part head = a ∙ ap (λ (ps : List Piece). laid part ps ++ laid part head) n in
    c ∙ ap (λ (x : List (List ℕ)). x ++ laid part tail) (b ∙ ap (λ (x : List (List ℕ)). x ++ laid part pieces) a')

pub kept_piece : (x : Piece) → All IsPiece (x ∷ []) → IsPiece x
kept_piece x each = All-head IsPiece x [] each

pub none_each : (ps : List Piece) → ps ≡ [] → All IsPiece ps
none_each ps e = subst (All IsPiece) (sym e) (All-nil IsPiece)

pub ruleset kept = (laid-kept, laid-nothing, laid-joined, kept_piece, none_each)

-- ---- a put

pub put_between : (part : Part) (nodes : List (Shape ℕ)) (k from to left right : ℕ) (head tail : List Piece) → IsRoot nodes k → from ≤ to
    → IsHead (part_number part) (pieces_in (part_number part) (rows_of nodes k)) from left head → IsTail (part_number part) (pieces_in (part_number part) (rows_of nodes k)) to right tail
    → HasBorders part (rows_of nodes k) left right
put_between part nodes k from to left right head tail root h head_is tail_is =
    let before = head_is.up_to in
    let behind = tail_is.up_to in
    two_borders part (rows_of nodes k) left right (all_pieces part (rows_of nodes k) root.document) head_is.at tail_is.at (omega arith)

pub put_same : (part : Part) (nodes : List (Shape ℕ)) (k from to left right : ℕ) (head tail all pieces : List Piece)
    → IsHead (part_number part) (pieces_in (part_number part) (rows_of nodes k)) from left head → IsTail (part_number part) (pieces_in (part_number part) (rows_of nodes k)) to right tail
    → ((p : ℕ) → laid p all ≡ (laid p head ++ laid p pieces) ++ laid p tail)
    → exchanged_at left right (laid (part_number part) all) (standing_in part (rows_of nodes k)) ≡ exchanged_at from to (laid (part_number part) pieces) (standing_in part (rows_of nodes k))
put_same part nodes k from to left right head tail all pieces head_is tail_is e =
    put_in (part_number part) from to left right (pieces_in (part_number part) (rows_of nodes k)) head tail all (laid (part_number part) pieces) head_is tail_is (e (part_number part))

pub head_pieces : (part n border : ℕ) (pieces head : List Piece) → IsHead part pieces n border head → All IsPiece head
head_pieces part n border pieces head h = h.each

pub tail_pieces : (part n border : ℕ) (pieces tail : List Piece) → IsTail part pieces n border tail → All IsPiece tail
tail_pieces part n border pieces tail h = h.each

pub ruleset puts = (put_between, put_same, head_pieces, tail_pieces)

pub ruleset splits = (held_by, begins, head_none, head_end, head_in, tail_none, tail_end, tail_reaches, tail_in, tail_fits, rest_fits)
