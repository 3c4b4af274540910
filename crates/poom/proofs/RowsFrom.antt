-- The rows of pieces one after another: what holds of each, their order, and how they are cut and moved.
use Rattle.std.proofs.Common.{◌≡◌, ℕ, ◌+◌, ◌≤◌, Bool, true, false, not, List, [], ◌∷◌, ◌++◌, refl, arith, ap, sym, ◌∙◌, append_assoc, append-nil}
use Rattle.std.specs.List.{All, filter}
use Rattle.std.proofs.lemmas.List.Elements.{All-nil, All-cons, All-head, All-tail, All-append, All-weaker, filter-append}
use Rattle.tumbler.specs.Places.{IsUpTo, comes_before}
use Rattle.enfilade_core.specs.declared.tree.Row.{Row}
use Rattle.enfilade_core.specs.declared.gap.Gap.{Gap}
use Rattle.enfilade_core.specs.Axes.{InOrder}
use Rattle.enfilade_core.specs.Edits.{shift_row, shifted}
use Rattle.enfilade_core.specs.Exchange.{rows_before, rows_past, exchanged}
use Rattle.poom.specs.declared.piece.Piece.{Piece}
use Rattle.poom.specs.Pieces.{IsPiece, total, piece_row, rows_from}
use Rattle.poom.proofs.Places.{before_there, past_there, up_to_there, shift_same}

pub total-append : (xs ys : List Piece) → total (xs ++ ys) ≡ total xs + total ys
total-append [] ys = omega arith
total-append (x ∷ xs) ys = let rest = total-append xs ys in omega arith

pub rows-append : (part n : ℕ) (xs ys : List Piece) → rows_from part n (xs ++ ys) ≡ rows_from part n xs ++ rows_from part (n + total xs) ys
rows-append part n [] ys = let same : n ≡ n + 0 = omega arith in ap (λ (m : ℕ). rows_from part m ys) same
rows-append part n (x ∷ xs) ys =
    let same : (n + x.count) + total xs ≡ n + (x.count + total xs) = omega arith in
    ap (λ (rows : List (Row ℕ)). piece_row part n x ∷ rows)
    (rows-append part (n + x.count) xs ys ∙ ap (λ (m : ℕ). rows_from part (n + x.count) xs ++ rows_from part m ys) same)

-- what holds of each row between two positions holds of all
pub each_row : (part : ℕ) (P : Row ℕ → Type 0) (low high n : ℕ) (xs : List Piece) → low ≤ n → n + total xs ≤ high → All IsPiece xs
    → ((m : ℕ) (x : Piece) → low ≤ m → m + x.count ≤ high → IsPiece x → P (piece_row part m x)) → All P (rows_from part n xs)
each_row part P low high n [] lo hi each says = All-nil P
each_row part P low high n (x ∷ xs) lo hi each says =
    All-cons P (piece_row part n x) (rows_from part (n + x.count) xs)
    (says n x lo (omega arith) (All-head IsPiece x xs each))
    (each_row part P low high (n + x.count) xs (omega arith) (omega arith) (All-tail IsPiece x xs each) says)

-- ---- before and past a place

abbrev pub IsFront : List ℕ → Row ℕ → Type 0
IsFront at row = comes_before row.first at ≡ true

abbrev pub IsPast : List ℕ → Row ℕ → Type 0
IsPast at row = comes_before row.first at ≡ false

pub all_front : (part n m : ℕ) (xs : List Piece) → n + total xs ≤ m → All IsPiece xs → All (IsFront (part ∷ m ∷ [])) (rows_from part n xs)
all_front part n m xs h each = each_row part (IsFront (part ∷ m ∷ [])) n m n xs (omega arith) h each (λ k x lo hi is. let filled = is.filled in before_there part k m (omega arith))

pub all_past : (part n m : ℕ) (xs : List Piece) → m ≤ n → All IsPiece xs → All (IsPast (part ∷ m ∷ [])) (rows_from part n xs)
all_past part n m xs h each = each_row part (IsPast (part ∷ m ∷ [])) m (n + total xs) n xs h (omega arith) each (λ k x lo hi is. past_there part k m lo)

pub text_front : (n m : ℕ) (xs : List Piece) → All (IsFront (2 ∷ m ∷ [])) (rows_from 1 n xs)
text_front n m [] = All-nil (IsFront (2 ∷ m ∷ []))
text_front n m (x ∷ xs) = All-cons (IsFront (2 ∷ m ∷ [])) (piece_row 1 n x) (rows_from 1 (n + x.count) xs) refl (text_front (n + x.count) m xs)

pub links_past : (n m : ℕ) (zs : List Piece) → All (IsPast (1 ∷ m ∷ [])) (rows_from 2 n zs)
links_past n m [] = All-nil (IsPast (1 ∷ m ∷ []))
links_past n m (z ∷ zs) = All-cons (IsPast (1 ∷ m ∷ [])) (piece_row 2 n z) (rows_from 2 (n + z.count) zs) refl (links_past (n + z.count) m zs)

-- ---- filters that keep all or nothing

pub keeps_all : {X : Type 0} (test : X → Bool) (xs : List X) → All (λ x. test x ≡ true) xs → filter test xs ≡ xs
keeps_all test [] h = refl
keeps_all {X} test (x ∷ xs) h = let here : test x ≡ true = All-head (λ y. test y ≡ true) x xs h in rw here (ap (λ (ys : List X). x ∷ ys) (keeps_all test xs (All-tail (λ y. test y ≡ true) x xs h)))

pub keeps_none : {X : Type 0} (test : X → Bool) (xs : List X) → All (λ x. test x ≡ false) xs → filter test xs ≡ []
keeps_none test [] h = refl
keeps_none test (x ∷ xs) h = let here : test x ≡ false = All-head (λ y. test y ≡ false) x xs h in rw here (keeps_none test xs (All-tail (λ y. test y ≡ false) x xs h))

pub before_in_parts : (at : List ℕ) (a b : List (Row ℕ)) → All (IsFront at) a → All (IsPast at) b → rows_before at (a ++ b) ≡ a
before_in_parts at a b h k =
    filter-append (λ row. comes_before row.first at) a b
    ∙ (ap (λ (rows : List (Row ℕ)). rows ++ rows_before at b) (keeps_all (λ row. comes_before row.first at) a h)
    ∙ (ap (λ (rows : List (Row ℕ)). a ++ rows) (keeps_none (λ row. comes_before row.first at) b k) ∙ append-nil a))

pub past_in_parts : (at : List ℕ) (a b : List (Row ℕ)) → All (IsFront at) a → All (IsPast at) b → rows_past at (a ++ b) ≡ b
past_in_parts at a b h k =
    let out = All-weaker (IsFront at) (λ row. not (comes_before row.first at) ≡ false) (λ row e. ap not e) a h in
    let kept = All-weaker (IsPast at) (λ row. not (comes_before row.first at) ≡ true) (λ row e. ap not e) b k in
    filter-append (λ row. not (comes_before row.first at)) a b
    ∙ (ap (λ (rows : List (Row ℕ)). rows ++ rows_past at b) (keeps_none (λ row. not (comes_before row.first at)) a out) ∙ keeps_all (λ row. not (comes_before row.first at)) b kept)

-- an exchange of rows that stand in three parts
pub three_parts : (gap : Gap) (new a b c : List (Row ℕ)) → All (IsFront gap.from) a → All (IsPast gap.from) (b ++ c) → All (IsFront gap.to) (a ++ b) → All (IsPast gap.to) c
    → exchanged gap new (a ++ (b ++ c)) ≡ (a ++ new) ++ shifted gap.to gap.onto c
three_parts gap new a b c front back before past =
    ap (λ (rows : List (Row ℕ)). (rows ++ new) ++ shifted gap.to gap.onto (rows_past gap.to (a ++ (b ++ c)))) (before_in_parts gap.from a (b ++ c) front back)
    ∙ ap (λ (rows : List (Row ℕ)). (a ++ new) ++ shifted gap.to gap.onto rows) (ap (rows_past gap.to) (sym (append_assoc a b c)) ∙ past_in_parts gap.to (a ++ b) c before past)

-- ---- moved rows

pub rows_shifted : (part t o n r : ℕ) (xs : List Piece) → t ≤ n → n + o ≡ t + r → shifted (part ∷ t ∷ []) (part ∷ o ∷ []) (rows_from part n xs) ≡ rows_from part r xs
rows_shifted part t o n r [] h e = refl
rows_shifted part t o n r (x ∷ xs) h e =
    let rest = rows_shifted part t o (n + x.count) (r + x.count) xs (omega arith) (omega arith) in
    let here = shift_same part t o n r h e in
    ap (λ (rows : List (Row ℕ)). shift_row (part ∷ t ∷ []) (part ∷ o ∷ []) (piece_row part n x) ∷ rows) rest
    ∙ ap (λ (place : List ℕ). (record (piece_row part n x) { first = place }) ∷ rows_from part (r + x.count) xs) here

pub links_shifted : (t o n : ℕ) (zs : List Piece) → shifted (1 ∷ t ∷ []) (1 ∷ o ∷ []) (rows_from 2 n zs) ≡ rows_from 2 n zs
links_shifted t o n [] = refl
links_shifted t o n (z ∷ zs) = ap (λ (rows : List (Row ℕ)). piece_row 2 n z ∷ rows) (links_shifted t o (n + z.count) zs)

-- ---- order

pub all_up_to : (part n m : ℕ) (xs : List Piece) → n ≤ m → All IsPiece xs → All (λ row. IsUpTo (part ∷ n ∷ []) row.first) (rows_from part m xs)
all_up_to part n m xs h each = each_row part (λ row. IsUpTo (part ∷ n ∷ []) row.first) n (m + total xs) m xs h (omega arith) each (λ k x lo hi is. up_to_there part n k lo)

pub links_up_to : (n m : ℕ) (zs : List Piece) → All (λ row. IsUpTo (1 ∷ n ∷ []) row.first) (rows_from 2 m zs)
links_up_to n m [] = All-nil (λ row. IsUpTo (1 ∷ n ∷ []) row.first)
links_up_to n m (z ∷ zs) = All-cons (λ row. IsUpTo (1 ∷ n ∷ []) row.first) (piece_row 2 m z) (rows_from 2 (m + z.count) zs) (λ e. cc) (links_up_to n (m + z.count) zs)

pub rows_ordered : (part n : ℕ) (xs : List Piece) → All IsPiece xs → InOrder (rows_from part n xs)
rows_ordered part n [] each = tt
rows_ordered part n (x ∷ xs) each =
    let rest = All-tail IsPiece x xs each in
    (all_up_to part n (n + x.count) xs (omega arith) rest, rows_ordered part (n + x.count) xs rest)

pub document_ordered : (n : ℕ) (xs zs : List Piece) → All IsPiece xs → All IsPiece zs → InOrder (rows_from 1 n xs ++ rows_from 2 1 zs)
document_ordered n [] zs each also = rows_ordered 2 1 zs also
document_ordered n (x ∷ xs) zs each also =
    let rest = All-tail IsPiece x xs each in
    (All-append (λ row. IsUpTo (1 ∷ n ∷ []) row.first) (rows_from 1 (n + x.count) xs) (rows_from 2 1 zs) (all_up_to 1 n (n + x.count) xs (omega arith) rest) (links_up_to n 1 zs), document_ordered (n + x.count) xs zs rest also)
