-- Pieces that are cut at a position, and what is put between.
use Rattle.std.proofs.Common.{◌≡◌, ℕ, zero, suc, ◌+◌, ◌-◌, ◌<◌, ◌≤◌, List, [], ◌∷◌, ◌++◌, length, take, drop, refl, arith, ap, sym, subst, ◌∙◌, inl, inr, append_assoc, append-nil}
use Rattle.std.specs.List.{All}
use Rattle.std.proofs.lemmas.List.{drop_at, take-append-le, drop-append-le}
use Rattle.std.proofs.lemmas.List.Elements.{All-head, All-tail, All-nil, All-cons}
use Rattle.tumbler.proofs.Alls.{All-front, All-back}
use Rattle.poom.specs.declared.piece.Piece.{Piece}
use Rattle.poom.specs.declared.part.Part.{Part}
use Rattle.poom.specs.Pieces.{IsPiece, addresses_from, piece_addresses, laid, total, pieces_in}
use Rattle.poom.specs.Laid.{part_number, exchanged_at, HasBorders}
use Rattle.poom.specs.Cuts.{HoldsPiece, HoldsNone, IsBorder, IsHead, IsTail}
use Rattle.enfilade_core.specs.declared.tree.Row.{Row}
use Rattle.poom.proofs.RowsFrom.{total-append}
use Rattle.poom.proofs.Back.{length-addresses, laid-append, length-laid}

-- ---- addresses of a part of a piece

pub take-addresses : (part : ℕ) (document : List ℕ) (first k count : ℕ) → k ≤ count → take k (addresses_from part document first count) ≡ addresses_from part document first k
take-addresses part document first zero count h = refl
take-addresses part document first (suc k) zero h = absurd (omega arith)
take-addresses part document first (suc k) (suc count) h = ap (λ (more : List (List ℕ)). (document ++ 0 ∷ part ∷ first ∷ []) ∷ more) (take-addresses part document (first + 1) k count (omega arith))

pub drop-addresses : (part : ℕ) (document : List ℕ) (first k count at left : ℕ) → k ≤ count → at ≡ first + k → left ≡ count - k → drop k (addresses_from part document first count) ≡ addresses_from part document at left
drop-addresses part document first zero count at left h a l =
    ap (λ (n : ℕ). addresses_from part document n count) {x = first} {y = at} (omega arith) ∙ ap (addresses_from part document at) {x = count} {y = left} (omega arith)
drop-addresses part document first (suc k) zero at left h a l = absurd (omega arith)
drop-addresses part document first (suc k) (suc count) at left h a l = drop-addresses part document (first + 1) k count at left (omega arith) (omega arith) (omega arith)

pub take_past : {X : Type 0} (n k : ℕ) (a b : List X) → n ≡ length a + k → take n (a ++ b) ≡ a ++ take k b
take_past n k [] b e = let same : n ≡ k = omega arith in ap (λ (m : ℕ). take m b) same
take_past zero k (x ∷ a) b e = absurd (omega arith)
take_past {X} (suc n) k (x ∷ a) b e = ap (λ (more : List X). x ∷ more) (take_past n k a b (omega arith))

pub drop_past : {X : Type 0} (n k : ℕ) (a b : List X) → n ≡ length a + k → drop n (a ++ b) ≡ drop k b
drop_past n k [] b e = let same : n ≡ k = omega arith in ap (λ (m : ℕ). drop m b) same
drop_past zero k (x ∷ a) b e = absurd (omega arith)
drop_past (suc n) k (x ∷ a) b e = drop_past n k a b (omega arith)

laid-one : (part : ℕ) (x : Piece) → laid part (x ∷ []) ≡ piece_addresses part x
laid-one part x = append-nil (piece_addresses part x)

laid-around : (part : ℕ) (front back pieces : List Piece) (x : Piece) → pieces ≡ front ++ (x ∷ back) → laid part pieces ≡ laid part front ++ (piece_addresses part x ++ laid part back)
laid-around part front back pieces x e = ap (laid part) e ∙ laid-append part front (x ∷ back)

-- ---- the front and the rest of a piece

abbrev pub front_of : Piece → ℕ → Piece
front_of piece k = record { document = piece.document; first = piece.first; count = k }

abbrev pub rest_of : Piece → ℕ → Piece
rest_of piece k = record { document = piece.document; first = piece.first + k; count = piece.count - k }

pub front_is_piece : (x : Piece) (k : ℕ) → IsPiece x → 1 ≤ k → k ≤ x.count → IsPiece (front_of x k)
front_is_piece x k is h l = let room = is.fits in record { document = is.document; is_tumbler = is.is_tumbler; from_one = is.from_one; filled = h; fits = omega arith }

pub rest_is_piece : (x : Piece) (k : ℕ) → IsPiece x → k < x.count → IsPiece (rest_of x k)
rest_is_piece x k is h = let room = is.fits in let one = is.from_one in record { document = is.document; is_tumbler = is.is_tumbler; from_one = omega arith; filled = omega arith; fits = omega arith }

pub piece_held : (pieces : List Piece) (n start : ℕ) (x : Piece) → All IsPiece pieces → HoldsPiece pieces n start x → IsPiece x
piece_held pieces n start x each held = All-head IsPiece x held.back (All-back IsPiece held.front (x ∷ held.back) (subst (All IsPiece) held.parts each))

-- ---- cuts

-- where the piece in front reaches up to n, its front is kept
pub head_kept : (part : ℕ) (pieces : List Piece) (n start : ℕ) (x : Piece) → All IsPiece pieces → HoldsPiece pieces n start x → n ≤ start + x.count → IsHead part pieces n start (front_of x (n - start) ∷ [])
head_kept part pieces n start x each held h =
    let is = piece_held pieces n start x each held in
    let k = n - start in
    let at = held.start_is in
    let late = held.before in
    let long = length-laid part held.front in
    let whole = laid-around part held.front held.back pieces x held.parts in
    let before : start - 1 ≡ length (laid part held.front) + 0 = omega arith in
    let up_to : n - 1 ≡ length (laid part held.front) + k = omega arith in
    let short : k ≤ length (piece_addresses part x) = omega (arith, length-addresses part x.document x.first x.count) in
    let front : take (start - 1) (laid part pieces) ≡ laid part held.front =
    ap (take (start - 1)) whole ∙ (take_past (start - 1) 0 (laid part held.front) (piece_addresses part x ++ laid part held.back) before ∙ append-nil (laid part held.front)) in
    let more : take (n - 1) (laid part pieces) ≡ laid part held.front ++ addresses_from part x.document x.first k =
    ap (take (n - 1)) whole
    ∙ (take_past (n - 1) k (laid part held.front) (piece_addresses part x ++ laid part held.back) up_to
    ∙ ap (λ (rest : List (List ℕ)). laid part held.front ++ rest) (take-append-le k (piece_addresses part x) (laid part held.back) short ∙ take-addresses part x.document x.first k x.count (omega arith))) in
    record {
      at = record { front = held.front; back = x ∷ held.back; parts = held.parts; is = at };
      up_to = omega arith;
      each = All-cons IsPiece (front_of x k) [] (front_is_piece x k is (omega arith) (omega arith)) (All-nil IsPiece);
      front = ap (λ (f : List (List ℕ)). f ++ laid part (front_of x k ∷ [])) front ∙ (ap (λ (r : List (List ℕ)). laid part held.front ++ r) (laid-one part (front_of x k)) ∙ sym more);
    }

-- a border is a head with nothing kept
pub head_at_border : (part : ℕ) (pieces : List Piece) (n : ℕ) → IsBorder pieces n → IsHead part pieces n n []
head_at_border part pieces n border = record { at = border; up_to = omega arith; each = All-nil IsPiece; front = append-nil (take (n - 1) (laid part pieces)) }

pub tail_at_border : (part : ℕ) (pieces : List Piece) (n : ℕ) → IsBorder pieces n → IsTail part pieces n n []
tail_at_border part pieces n border = record { at = border; up_to = omega arith; each = All-nil IsPiece; back = refl }

-- no piece begins before n, and n is not past the end: it is the first position
pub first_border : (pieces : List Piece) (n : ℕ) → HoldsNone pieces n → 1 ≤ n → n ≤ 1 + total pieces → IsBorder pieces n
first_border pieces n (inl early) h l = record { front = []; back = pieces; parts = refl; is = omega arith }
first_border pieces n (inr none) h l = let same = ap total none in record { front = []; back = pieces; parts = refl; is = omega arith }

-- the piece in front ends before n
pub end_border : (pieces : List Piece) (n start : ℕ) (x : Piece) → HoldsPiece pieces n start x → n ≡ start + x.count → IsBorder pieces n
end_border pieces n start x held e =
    let at = held.start_is in
    let sum = total-append held.front (x ∷ []) in
    record { front = held.front ++ x ∷ []; back = held.back; parts = held.parts ∙ sym (append_assoc held.front (x ∷ []) held.back); is = omega arith }

-- a piece that holds a position up to one past the end reaches up to it
pub held_reaches : (pieces : List Piece) (n start : ℕ) (x : Piece) → HoldsPiece pieces n start x → n ≤ 1 + total pieces → n ≤ start + x.count
held_reaches pieces n start x held h =
    let at = held.start_is in
    elim held.reaches [
      | inl le ↦ le
      | inr last ↦ let same = ap total (held.parts ∙ ap (λ (b : List Piece). held.front ++ (x ∷ b)) last) in let sum = total-append held.front (x ∷ []) in omega arith
    ]

-- where the piece in front goes on past n, its rest is kept
pub tail_kept : (part : ℕ) (pieces : List Piece) (n start : ℕ) (x : Piece) → All IsPiece pieces → HoldsPiece pieces n start x → n < start + x.count → IsTail part pieces n (start + x.count) (rest_of x (n - start) ∷ [])
tail_kept part pieces n start x each held h =
    let is = piece_held pieces n start x each held in
    let k = n - start in
    let at = held.start_is in
    let late = held.before in
    let long = length-laid part held.front in
    let has = length-addresses part x.document x.first x.count in
    let whole = laid-around part held.front held.back pieces x held.parts in
    let up_to : n - 1 ≡ length (laid part held.front) + k = omega arith in
    let behind : (start + x.count) - 1 ≡ length (laid part held.front) + x.count = omega arith in
    let short : k ≤ length (piece_addresses part x) = omega arith in
    let rest : drop (n - 1) (laid part pieces) ≡ addresses_from part x.document (x.first + k) (x.count - k) ++ laid part held.back =
    ap (drop (n - 1)) whole
    ∙ (drop_past (n - 1) k (laid part held.front) (piece_addresses part x ++ laid part held.back) up_to
    ∙ (drop-append-le k (piece_addresses part x) (laid part held.back) short
    ∙ ap (λ (f : List (List ℕ)). f ++ laid part held.back) (drop-addresses part x.document x.first k x.count (x.first + k) (x.count - k) (omega arith) refl refl))) in
    let back : drop ((start + x.count) - 1) (laid part pieces) ≡ laid part held.back =
    ap (drop ((start + x.count) - 1)) whole
    ∙ (drop_past ((start + x.count) - 1) x.count (laid part held.front) (piece_addresses part x ++ laid part held.back) behind
    ∙ drop_at (piece_addresses part x) (laid part held.back) x.count has) in
    let sum = total-append held.front (x ∷ []) in
    record {
      at = record { front = held.front ++ x ∷ []; back = held.back; parts = held.parts ∙ sym (append_assoc held.front (x ∷ []) held.back); is = omega arith };
      up_to = omega arith;
      each = All-cons IsPiece (rest_of x k) [] (rest_is_piece x k is (omega arith)) (All-nil IsPiece);
      back = ap (λ (f : List (List ℕ)). f ++ drop ((start + x.count) - 1) (laid part pieces)) (laid-one part (rest_of x k))
          ∙ (ap (λ (b : List (List ℕ)). addresses_from part x.document (x.first + k) (x.count - k) ++ b) back ∙ sym rest);
    }

-- ---- two borders

pub record IsBetween (front back more last : List Piece) : Type 0 where
  pub gone : List Piece
  pub longer : more ≡ front ++ gone
  pub shorter : back ≡ gone ++ last

between_more : (x : Piece) (front back more last : List Piece) → IsBetween front back more last → IsBetween (x ∷ front) back (x ∷ more) last
between_more x front back more last b = record { gone = b.gone; longer = ap (λ (ps : List Piece). x ∷ ps) b.longer; shorter = b.shorter }

two_fronts : (front back more last : List Piece) → front ++ back ≡ more ++ last → total front ≤ total more → All IsPiece front → IsBetween front back more last
two_fronts [] back more last e h each = record { gone = more; longer = refl; shorter = e }
two_fronts (x ∷ front) back [] last e h each = absurd (let filled = (All-head IsPiece x front each).filled in omega arith)
two_fronts (x ∷ front) back (y ∷ more) last e h each =
    let same : x ≡ y = cc in
    let rest : front ++ back ≡ more ++ last = cc in
    let counts = ap (λ (p : Piece). p.count) same in
    subst (λ (z : Piece). IsBetween (x ∷ front) back (z ∷ more) last) same (between_more x front back more last (two_fronts front back more last rest (omega arith) (All-tail IsPiece x front each)))

pub two_borders : (part : Part) (rows : List (Row ℕ)) (from to : ℕ) → All IsPiece (pieces_in (part_number part) rows) → IsBorder (pieces_in (part_number part) rows) from → IsBorder (pieces_in (part_number part) rows) to → from ≤ to → HasBorders part rows from to
two_borders part rows from to each a b h =
    let at = a.is in
    let up = b.is in
    let between = two_fronts a.front a.back b.front b.back (sym a.parts ∙ b.parts) (omega arith) (All-front IsPiece a.front a.back (subst (All IsPiece) a.parts each)) in
    let longer = ap total between.longer in
    let sum = total-append a.front between.gone in
    record {
      front = a.front;
      gone = between.gone;
      back = b.back;
      parts = a.parts ∙ ap (λ (ps : List Piece). a.front ++ ps) between.shorter;
      from_is = at;
      to_is = omega arith;
    }

-- ---- what is put in

-- what is exchanged from border to border, with the fronts and rests kept, is exchanged from position to position
pub put_in : (part from to left right : ℕ) (pieces head tail all : List Piece) (new : List (List ℕ)) → IsHead part pieces from left head → IsTail part pieces to right tail
    → laid part all ≡ (laid part head ++ new) ++ laid part tail
    → exchanged_at left right (laid part all) (laid part pieces) ≡ exchanged_at from to new (laid part pieces)
put_in part from to left right pieces head tail all new h t e =
    let S = laid part pieces in
    let A = take (left - 1) S in
    let H = laid part head in
    let T = laid part tail in
    let D = drop (right - 1) S in
    ap (λ (n : List (List ℕ)). A ++ (n ++ D)) e
    ∙ (ap (λ (n : List (List ℕ)). A ++ n) (append_assoc (H ++ new) T D ∙ append_assoc H new (T ++ D))
    ∙ (sym (append_assoc A H (new ++ (T ++ D)))
    ∙ (ap (λ (f : List (List ℕ)). f ++ (new ++ (T ++ D))) h.front ∙ ap (λ (b : List (List ℕ)). take (from - 1) S ++ (new ++ b)) t.back)))

-- heads and tails of what is held
pub ruleset cuts = (head_kept, head_at_border, tail_at_border, first_border, end_border, held_reaches, tail_kept, two_borders, put_in)
