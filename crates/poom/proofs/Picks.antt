-- What a span picks, position by position.
use Rattle.std.proofs.Common.{◌≡◌, ℕ, zero, suc, ◌+◌, ◌-◌, ◌^◌, ◌<◌, ◌≤◌, List, [], ◌∷◌, ◌++◌, length, take, drop, map, get_or, refl, arith, ap, sym, subst, ◌∙◌, inl, inr, append_assoc}
use Rattle.std.specs.Prelude.{◌⊎◌}
use Rattle.std.specs.List.{All}
use Rattle.std.proofs.lemmas.List.{take_more, take_all}
use Rattle.std.proofs.lemmas.List.Elements.{All-nil, All-cons, All-head, All-tail}
use Rattle.tumbler.specs.declared.span.Span.{Span}
use Rattle.tumbler.specs.Span.{end_of}
use Rattle.febe_data.specs.declared.run.Run.{Run}
use Rattle.poom.specs.declared.piece.Piece.{Piece}
use Rattle.poom.specs.Pieces.{IsPiece, address_in, addresses_from, piece_addresses, laid}
use Rattle.poom.specs.Picked.{is_picked, picked_from}
use Rattle.poom.specs.Bounds.{IsBound}
use Rattle.poom.specs.Edited.{IsContentRun, piece_run, run_addresses}
use Rattle.poom.proofs.Places.{if_true, if_false}
use Rattle.poom.proofs.WellFormedRows.{short_document}
use Rattle.poom.proofs.Joins.{addresses-more, laid-push, own_piece}
use Rattle.poom.proofs.Looks.{fits_in}
use Rattle.poom.proofs.Betweens.{none_apart}
use Rattle.poom.proofs.Deletes.{Picks, later_picks, picks_by, bound_from_one, bound_to_end}

take-none : {X : Type 0} (n : ℕ) → take {A = X} n [] ≡ []
take-none zero = refl
take-none (suc n) = refl

drop-none : {X : Type 0} (n : ℕ) → drop {A = X} n [] ≡ []
drop-none zero = refl
drop-none (suc n) = refl

picked-inside : (part : ℕ) (span : Span) (a b n : ℕ) (xs : List (List ℕ)) → a ≤ n → Picks part span a b n (length xs) → picked_from part span n xs ≡ take (b - n) xs
picked-inside part span a b n [] h p = sym (take-none (b - n))
picked-inside part span a b n (x ∷ xs) h p =
    let rest = picked-inside part span a b (n + 1) xs (omega arith) (later_picks part span a b n (length xs) p) in
    let more = picked_from part span (n + 1) xs in
    let test = is_picked span (part ∷ n ∷ []) in
    let split : (n < b) ⊎ (b ≤ n) = grind arith in
    elim split [
      | inl to ↦
          let eb : b - n ≡ suc (b - (n + 1)) = omega arith in
          if_true test (x ∷ more) more (p.inside n (omega arith) (omega arith) h to) ∙ (ap (λ (m : List (List ℕ)). x ∷ m) rest ∙ sym (ap (λ (j : ℕ). take j (x ∷ xs)) eb))
      | inr back ↦
          let eb : b - n ≡ 0 = omega arith in
          let ey : b - (n + 1) ≡ 0 = omega arith in
          if_false test (x ∷ more) more (p.back n (omega arith) (omega arith) back) ∙ (rest ∙ (ap (λ (j : ℕ). take j xs) ey ∙ sym (ap (λ (j : ℕ). take j (x ∷ xs)) eb)))
    ]

pub picked-is : (part : ℕ) (span : Span) (a b n : ℕ) (xs : List (List ℕ)) → n ≤ a → Picks part span a b n (length xs) → picked_from part span n xs ≡ take (b - a) (drop (a - n) xs)
picked-is part span a b n [] h p = sym (ap (take (b - a)) (drop-none (a - n)) ∙ take-none (b - a))
picked-is part span a b n (x ∷ xs) h p =
    let split : (n < a) ⊎ (a ≤ n) = grind arith in
    let more = picked_from part span (n + 1) xs in
    let test = is_picked span (part ∷ n ∷ []) in
    elim split [
      | inl front ↦
          let ea : a - n ≡ suc (a - (n + 1)) = omega arith in
          if_false test (x ∷ more) more (p.front n (omega arith) (omega arith) front)
          ∙ (picked-is part span a b (n + 1) xs (omega arith) (later_picks part span a b n (length xs) p) ∙ sym (ap (λ (j : ℕ). take (b - a) (drop j (x ∷ xs))) ea))
      | inr here ↦
          let same : n ≡ a = omega arith in
          let ea : a - n ≡ 0 = omega arith in
          let eb : b - n ≡ b - a = omega arith in
          picked-inside part span a b n (x ∷ xs) here p ∙ (ap (λ (j : ℕ). take j (x ∷ xs)) eb ∙ sym (ap (λ (j : ℕ). take (b - a) (drop j (x ∷ xs))) ea))
    ]

pub picked_between : (part a b : ℕ) (span : Span) (end : List ℕ) (long : ℕ) (S now : List (List ℕ)) → end ≡ end_of span → IsBound part span.start long a → IsBound part end long b → long ≡ length S
    → now ≡ take (b - a) (drop (a - 1) S) → now ≡ picked_from part span 1 S
picked_between part a b span end long S now e f t same is =
    let p : Picks part span a b 1 (length S) = subst (Picks part span a b 1) same (picks_by part span end long a b e f t) in
    is ∙ sym (picked-is part span a b 1 S f.from_one p)

pub none_picked : (part a b : ℕ) (span : Span) (end : List ℕ) (long : ℕ) (S : List (List ℕ)) (none : List Piece) → end ≡ end_of span → IsBound part span.start long a → IsBound part end long b → long ≡ length S → b ≤ a
    → none ≡ [] → laid part none ≡ picked_from part span 1 S
none_picked part a b span end long S none e f t same h n =
    let nothing : b - a ≡ 0 = omega arith in
    picked_between part a b span end long S (laid part none) e f t same (ap (laid part) n ∙ sym (ap (λ (k : ℕ). take k (drop (a - 1) S)) nothing))

pub none_of_them : (none : List Piece) → none ≡ [] → All IsPiece none
none_of_them none e = subst (All IsPiece) (sym e) (All-nil IsPiece)

pub ruleset spans = (picked_between, none_picked, none_of_them, none_apart, bound_from_one, bound_to_end, fits_in)

-- ---- addresses one by one

pub one_more_address : (part : ℕ) (document : List ℕ) (first k next : ℕ) (old now new : List (List ℕ)) (x : List ℕ) → now ≡ old ++ addresses_from part document first k → x ≡ address_in part document (first + k) → new ≡ now ++ x ∷ [] → next ≡ k + 1
    → new ≡ old ++ addresses_from part document first next
one_more_address part document first k next old now new x so is e n =
    let more : addresses_from part document first next ≡ addresses_from part document first k ++ address_in part document (first + k) ∷ [] = ap (addresses_from part document first) n ∙ addresses-more part document first k (first + k) 1 refl in
    e ∙ (ap (λ (f : List (List ℕ)). f ++ x ∷ []) so ∙ (append_assoc old (addresses_from part document first k) (x ∷ [])
    ∙ ap (λ (b : List (List ℕ)). old ++ b) (ap (λ (y : List ℕ). addresses_from part document first k ++ y ∷ []) is ∙ sym more)))

pub pieces_more : (part i : ℕ) (pieces : List Piece) (x : Piece) (now new : List (List ℕ)) → i < length pieces → x ≡ get_or pieces i x → now ≡ laid part (take i pieces) → new ≡ now ++ piece_addresses part x → new ≡ laid part (take (i + 1) pieces)
pieces_more part i pieces x now new h is so e =
    e ∙ (ap (λ (f : List (List ℕ)). f ++ piece_addresses part x) so
    ∙ (ap (λ (y : Piece). laid part (take i pieces) ++ piece_addresses part y) is
    ∙ (sym (laid-push part (take i pieces) (get_or pieces i x)) ∙ ap (laid part) (sym (take_more pieces i x h)))))

pub pieces_done : (part i : ℕ) (pieces : List Piece) (now : List (List ℕ)) → length pieces ≤ i → now ≡ laid part (take i pieces) → now ≡ laid part pieces
pieces_done part i pieces now h e = e ∙ ap (laid part) (take_all i pieces h)

pub document_room : (x : Piece) → IsPiece x → length x.document ≤ 20
document_room x is = short_document x is

pub number_room : (x : Piece) (k : ℕ) → IsPiece x → k < x.count → x.first + k < 2 ^ 32
number_room x k is h = let room = is.fits in omega arith

pub number_counted : (x : Piece) → IsPiece x → 1 ≤ x.first
number_counted x is = is.from_one

pub ruleset picks = (one_more_address, pieces_more, pieces_done, own_piece, document_room, number_room, number_counted)

-- ---- runs

laid-runs : (document : List ℕ) (pieces : List Piece) → run_addresses (map (piece_run document) pieces) ≡ laid 1 pieces
laid-runs document [] = refl
laid-runs document (x ∷ pieces) = ap (λ (rest : List (List ℕ)). piece_addresses 1 x ++ rest) (laid-runs document pieces)

pub runs_are : (document : List ℕ) (pieces : List Piece) (runs : List Run) (picked : List (List ℕ)) → runs ≡ map (piece_run document) pieces → laid 1 pieces ≡ picked → run_addresses runs ≡ picked
runs_are document pieces runs picked e is = ap run_addresses e ∙ (laid-runs document pieces ∙ is)

origins : (document : List ℕ) (pieces : List Piece) → All (λ (run : Run). run.origin ≡ document) (map (piece_run document) pieces)
origins document [] = All-nil (λ (run : Run). run.origin ≡ document)
origins document (x ∷ pieces) = All-cons (λ (run : Run). run.origin ≡ document) (piece_run document x) (map (piece_run document) pieces) refl (origins document pieces)

pub read_through : (document : List ℕ) (pieces : List Piece) (runs : List Run) → runs ≡ map (piece_run document) pieces → All (λ (run : Run). run.origin ≡ document) runs
read_through document pieces runs e = subst (All (λ (run : Run). run.origin ≡ document)) (sym e) (origins document pieces)

contents : (document : List ℕ) (pieces : List Piece) → All IsPiece pieces → All IsContentRun (map (piece_run document) pieces)
contents document [] each = All-nil IsContentRun
contents document (x ∷ pieces) each =
    let is = All-head IsPiece x pieces each in
    All-cons IsContentRun (piece_run document x) (map (piece_run document) pieces) (record { document = is.document; from_one = is.from_one; filled = is.filled; fits = is.fits }) (contents document pieces (All-tail IsPiece x pieces each))

pub are_contents : (document : List ℕ) (pieces : List Piece) (runs : List Run) → runs ≡ map (piece_run document) pieces → All IsPiece pieces → All IsContentRun runs
are_contents document pieces runs e each = subst (All IsContentRun) (sym e) (contents document pieces each)

pub ids_are : (part : ℕ) (pieces : List Piece) (ids picked : List (List ℕ)) → ids ≡ laid part pieces → laid part pieces ≡ picked → ids ≡ picked
ids_are part pieces ids picked e is = e ∙ is

pub ruleset runs = (runs_are, read_through, are_contents, ids_are)
