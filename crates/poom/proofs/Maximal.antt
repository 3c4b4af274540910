-- Pieces of which none goes on where the one in front of it ends are the maximal stretches of their addresses.
use Rattle.std.proofs.Common.{◌≡◌, ℕ, zero, suc, ◌+◌, ◌-◌, ◌≤◌, ◌==◌, ◌&&◌, true, false, List, [], ◌∷◌, ◌++◌, map, refl, arith, ap, sym, subst, ◌∙◌}
use Rattle.std.specs.Prelude.{nat_eq}
use Rattle.std.specs.List.{All}
use Rattle.std.specs.Cmp.Lexicographic.{pointwise, bytes_decides}
use Rattle.std.proofs.lemmas.Bool.{and_parts, and_from, false_from_ne_true}
use Rattle.std.proofs.lemmas.Bool.Decides.{nat_tests}
use Rattle.std.proofs.lemmas.List.Elements.{All-head, All-tail}
use Rattle.febe_data.specs.declared.run.Run.{Run}
use Rattle.poom.specs.declared.piece.Piece.{Piece}
use Rattle.poom.specs.Pieces.{IsPiece, address_in, addresses_from, laid}
use Rattle.poom.specs.Cuts.{AreApart}
use Rattle.poom.specs.Edited.{piece_run}
use Rattle.poom.specs.Runs.{Stretch, stretches, content_of, number_of, is_next_byte, run_of, as_runs}
use Rattle.poom.proofs.Back.{same_piece, length-addresses}
use Rattle.poom.proofs.Stretched.{IsChain, IsBreak, one_stretch}

-- ---- addresses that are taken apart

content_is : (document : List ℕ) (n : ℕ) → content_of (address_in 1 document n) ≡ document
content_is document n = ap (λ (p : Piece). p.document) (same_piece 1 1 (record { document = document; first = n; count = 0 }))

number_is : (document : List ℕ) (n : ℕ) → number_of (address_in 1 document n) ≡ n
number_is document n = ap (λ (p : Piece). p.first) (same_piece 1 1 (record { document = document; first = n; count = 0 }))

next_byte_is : (document other : List ℕ) (n m : ℕ) → is_next_byte (address_in 1 document n) (address_in 1 other m) ≡ (pointwise nat_eq document other && m == n + 1)
next_byte_is document other n m =
    let a = address_in 1 document n in
    let b = address_in 1 other m in
    ap (λ (d : List ℕ). pointwise nat_eq d (content_of b) && number_of b == number_of a + 1) (content_is document n)
    ∙ (ap (λ (d : List ℕ). pointwise nat_eq document d && number_of b == number_of a + 1) (content_is other m)
    ∙ (ap (λ (k : ℕ). pointwise nat_eq document other && k == number_of a + 1) (number_is other m) ∙ ap (λ (k : ℕ). pointwise nat_eq document other && m == k + 1) (number_is document n)))

same_number : (a b : ℕ) → a ≡ b → (a == b) ≡ true
same_number a b e = grind (arith, nat_tests)

is_same_number : (a b : ℕ) → (a == b) ≡ true → a ≡ b
is_same_number a b e = grind (arith, nat_tests)

follows : (document : List ℕ) (n m : ℕ) → m ≡ n + 1 → is_next_byte (address_in 1 document n) (address_in 1 document m) ≡ true
follows document n m e = next_byte_is document document n m ∙ and_from (pointwise nat_eq document document) (m == n + 1) ((bytes_decides document document).1 refl) (same_number m (n + 1) e)

-- ---- one piece

chained : (document : List ℕ) (n count last : ℕ) → last ≡ n + count → IsChain is_next_byte (address_in 1 document n) (addresses_from 1 document (n + 1) count) (address_in 1 document last)
chained document n zero last e = let same : n ≡ last = omega arith in ap (address_in 1 document) same
chained document n (suc count) last e = (follows document n (n + 1) refl, chained document (n + 1) count last (omega arith))

first_of : (document : List ℕ) (n count : ℕ) → 1 ≤ count → addresses_from 1 document n count ≡ address_in 1 document n ∷ addresses_from 1 document (n + 1) (count - 1)
first_of document n zero h = absurd (omega arith)
first_of document n (suc count) h = let same : count ≡ suc count - 1 = omega arith in ap (λ (k : ℕ). address_in 1 document n ∷ addresses_from 1 document (n + 1) k) same

abbrev stretch_of : Piece → Stretch (List ℕ)
stretch_of x = record { first = address_in 1 x.document x.first; count = x.count }

-- what comes behind it does not follow it
broken : (x : Piece) (xs : List Piece) → IsPiece x → All IsPiece xs → AreApart (x ∷ xs) → IsBreak is_next_byte (address_in 1 x.document (x.first + (x.count - 1))) (laid 1 xs)
broken x [] is each apart = tt
broken x (y ∷ ys) is each apart =
    let filled = is.filled in
    let also = All-head IsPiece y ys each in
    let last = address_in 1 x.document (x.first + (x.count - 1)) in
    let no : is_next_byte last (address_in 1 y.document y.first) ≡ false = false_from_ne_true (is_next_byte last (address_in 1 y.document y.first)) (λ yes.
    let parts = and_parts (pointwise nat_eq x.document y.document) (y.first == (x.first + (x.count - 1)) + 1) (sym (next_byte_is x.document y.document (x.first + (x.count - 1)) y.first) ∙ yes) in
    let number = is_same_number y.first ((x.first + (x.count - 1)) + 1) parts.1 in
    apart.0 (record { document = (bytes_decides x.document y.document).0 parts.0; first = omega arith })) in
    subst (λ (addresses : List (List ℕ)). IsBreak is_next_byte last (addresses ++ laid 1 ys)) (sym (first_of y.document y.first y.count also.filled)) no

-- ---- all pieces

behind_apart : (x : Piece) (xs : List Piece) → AreApart (x ∷ xs) → AreApart xs
behind_apart x [] apart = tt
behind_apart x (y ∷ ys) apart = apart.1

are_stretches : (xs : List Piece) → All IsPiece xs → AreApart xs → stretches is_next_byte (laid 1 xs) ≡ map stretch_of xs
are_stretches [] each apart = refl
are_stretches (x ∷ xs) each apart =
    let is = All-head IsPiece x xs each in
    let rest = All-tail IsPiece x xs each in
    let filled = is.filled in
    let long = length-addresses 1 x.document (x.first + 1) (x.count - 1) in
    ap (λ (addresses : List (List ℕ)). stretches is_next_byte (addresses ++ laid 1 xs)) (first_of x.document x.first x.count filled)
    ∙ (one_stretch is_next_byte (address_in 1 x.document x.first) (address_in 1 x.document (x.first + (x.count - 1))) x.count (addresses_from 1 x.document (x.first + 1) (x.count - 1)) (laid 1 xs)
    (chained x.document x.first (x.count - 1) (x.first + (x.count - 1)) refl) (omega arith) (broken x xs is rest apart)
    ∙ ap (λ (more : List (Stretch (List ℕ))). stretch_of x ∷ more) (are_stretches xs rest (behind_apart x xs apart)))

run_is : (origin : List ℕ) (x : Piece) → run_of origin (stretch_of x) ≡ piece_run origin x
run_is origin x =
    ap (λ (d : List ℕ). let run : Run = record { origin = origin; content = d; first = number_of (address_in 1 x.document x.first); length = x.count } in run) (content_is x.document x.first)
    ∙ ap (λ (n : ℕ). let run : Run = record { origin = origin; content = x.document; first = n; length = x.count } in run) (number_is x.document x.first)

runs_are_pieces : (origin : List ℕ) (xs : List Piece) → map (run_of origin) (map stretch_of xs) ≡ map (piece_run origin) xs
runs_are_pieces origin [] = refl
runs_are_pieces origin (x ∷ xs) = ap (λ (run : Run). run ∷ map (run_of origin) (map stretch_of xs)) (run_is origin x) ∙ ap (λ (runs : List Run). piece_run origin x ∷ runs) (runs_are_pieces origin xs)

pub maximal_runs : (origin : List ℕ) (pieces slice : List Piece) (runs : List Run) (picked : List (List ℕ)) → All IsPiece pieces → AreApart pieces → laid 1 pieces ≡ picked → slice ≡ pieces → runs ≡ map (piece_run origin) slice → runs ≡ as_runs origin picked
maximal_runs origin pieces slice runs picked each apart is same e =
    e ∙ (ap (map (piece_run origin)) same ∙ (sym (runs_are_pieces origin pieces) ∙ (ap (map (run_of origin)) (sym (are_stretches pieces each apart)) ∙ ap (as_runs origin) is)))
