-- What inserts, copies and links bring in.
use Rattle.std.proofs.Common.{◌≡◌, ◌≢◌, ℕ, ◌+◌, ◌-◌, ◌^◌, ◌<◌, ◌≤◌, List, [], ◌∷◌, ◌++◌, length, take, drop, get_or, refl, arith, ap, sym, subst, ◌∙◌, inr, append-nil}
use Rattle.std.specs.List.{All}
use Rattle.std.proofs.lemmas.List.{length-append, take-append-drop, take_all, drop_all, take_more, get_or-append-add}
use Rattle.std.proofs.lemmas.List.Elements.{All-nil, All-cons, All-push, All-get_or}
use Rattle.std.proofs.lemmas.Grind.{flat_map-append}
use Rattle.tumbler.specs.Places.{IsTumbler}
use Rattle.tumbler.specs.Address.{IsDocument, IsMadeIn}
use Rattle.febe_data.specs.declared.run.Run.{Run}
use Rattle.poom.specs.declared.piece.Piece.{Piece}
use Rattle.poom.specs.Pieces.{IsPiece, address_in, addresses_from, laid}
use Rattle.poom.specs.Laid.{exchanged_at}
use Rattle.poom.specs.Edited.{IsContentRun, run_addresses, IsLinkId}
use Rattle.poom.proofs.Back.{length-addresses, laid-append}
use Rattle.poom.proofs.Looks.{made-document, made-long}

-- ---- exchanges of nothing

pub exchanged-none : (n : ℕ) (xs : List (List ℕ)) → xs ≡ exchanged_at n n [] xs
exchanged-none n xs = sym (take-append-drop (n - 1) xs)

pub length-exchanged : (n : ℕ) (new xs : List (List ℕ)) → length (exchanged_at n n new xs) ≡ length xs + length new
length-exchanged n new xs =
    let front = length-append (take (n - 1) xs) (new ++ drop (n - 1) xs) in
    let back = length-append new (drop (n - 1) xs) in
    let whole = length-append (take (n - 1) xs) (drop (n - 1) xs) in
    let same = ap length (take-append-drop (n - 1) xs) in
    omega arith

pub one_laid : (part : ℕ) (x : Piece) → laid part (x ∷ []) ≡ addresses_from part x.document x.first x.count
one_laid part x = append-nil (addresses_from part x.document x.first x.count)

pub one_piece : (x : Piece) → IsPiece x → All IsPiece (x ∷ [])
one_piece x is = All-cons IsPiece x [] is (All-nil IsPiece)

pub inserted_piece : (document : List ℕ) (first k : ℕ) → IsDocument document → IsTumbler document → 1 ≤ first → k ≢ 0 → first + k < 2 ^ 32 → IsPiece (record { document = document; first = first; count = k })
inserted_piece document first k is tumbler h l room = record { document = is; is_tumbler = tumbler; from_one = h; filled = omega arith; fits = room }

pub inserted_fits : (n : ℕ) (x : Piece) (xs : List (List ℕ)) → length xs + x.count ≤ 1073741824 → length (exchanged_at n n (laid 1 (x ∷ [])) xs) ≤ 1073741824
inserted_fits n x xs h =
    let long = length-exchanged n (laid 1 (x ∷ [])) xs in
    let same = ap length (one_laid 1 x) in
    let count = length-addresses 1 x.document x.first x.count in
    omega arith

pub inserted_text : (n : ℕ) (x : Piece) (xs now : List (List ℕ)) → now ≡ exchanged_at n n (laid 1 (x ∷ [])) xs → now ≡ exchanged_at n n (addresses_from 1 x.document x.first x.count) xs
inserted_text n x xs now e = e ∙ ap (λ (new : List (List ℕ)). exchanged_at n n new xs) (one_laid 1 x)

pub ruleset inserts = (exchanged-none, inserted_piece, one_piece, inserted_fits, inserted_text)

-- ---- runs

pub laid-run : (runs : List Run) (i : ℕ) (pieces new : List Piece) (x : Piece) (run : Run) → i < length runs → run ≡ get_or runs i run → laid 1 pieces ≡ run_addresses (take i runs)
    → x ≡ record { document = run.content; first = run.first; count = run.length } → new ≡ pieces ++ x ∷ [] → laid 1 new ≡ run_addresses (take (i + 1) runs)
laid-run runs i pieces new x run h is so e n =
    let f : Run → List (List ℕ) = λ r. addresses_from 1 r.content r.first r.length in
    let piece_is : addresses_from 1 x.document x.first x.count ≡ f run = ap (λ (y : Piece). addresses_from 1 y.document y.first y.count) e in
    let right : run_addresses (take (i + 1) runs) ≡ run_addresses (take i runs) ++ f run =
    ap run_addresses (take_more runs i run h) ∙ (flat_map-append f (take i runs) (get_or runs i run ∷ []) ∙ ap (λ (r : List (List ℕ)). run_addresses (take i runs) ++ r) (append-nil (f (get_or runs i run)) ∙ ap f (sym is))) in
    ap (laid 1) n ∙ (laid-append 1 pieces (x ∷ []) ∙ (ap (λ (l : List (List ℕ)). l ++ laid 1 (x ∷ [])) so ∙ (ap (λ (r : List (List ℕ)). run_addresses (take i runs) ++ r) (one_laid 1 x ∙ piece_is) ∙ sym right)))

pub pushed_piece : (pieces new : List Piece) (x : Piece) → new ≡ pieces ++ x ∷ [] → All IsPiece pieces → IsPiece x → All IsPiece new
pushed_piece pieces new x e each is = subst (All IsPiece) (sym e) (All-push IsPiece pieces x each is)

pub own_run : (runs : List Run) (i : ℕ) (run : Run) → i < length runs → run ≡ get_or runs i run → All IsContentRun runs → IsContentRun run
own_run runs i run h is each = subst IsContentRun (sym is) (All-get_or IsContentRun runs i run h each)

pub runs_done : (runs : List Run) (i : ℕ) (pieces : List Piece) → length runs ≤ i → laid 1 pieces ≡ run_addresses (take i runs) → laid 1 pieces ≡ run_addresses runs
runs_done runs i pieces h e = e ∙ ap run_addresses (take_all i runs h)

pub nothing_each : (pieces : List Piece) → pieces ≡ [] → All IsPiece pieces
nothing_each pieces e = subst (All IsPiece) (sym e) (All-nil IsPiece)

pub nothing_laid : (pieces : List Piece) → pieces ≡ [] → laid 1 pieces ≡ []
nothing_laid pieces e = ap (laid 1) e

pub copied_fits : (n : ℕ) (pieces : List Piece) (runs : List Run) (xs : List (List ℕ)) → laid 1 pieces ≡ run_addresses runs → length xs + length (run_addresses runs) ≤ 1073741824 → length (exchanged_at n n (laid 1 pieces) xs) ≤ 1073741824
copied_fits n pieces runs xs e h = let long = length-exchanged n (laid 1 pieces) xs in let same = ap length e in omega arith

pub copied_text : (n : ℕ) (pieces : List Piece) (runs : List Run) (xs now : List (List ℕ)) → laid 1 pieces ≡ run_addresses runs → now ≡ exchanged_at n n (laid 1 pieces) xs → now ≡ exchanged_at n n (run_addresses runs) xs
copied_text n pieces runs xs now e is = is ∙ ap (λ (new : List (List ℕ)). exchanged_at n n new xs) e

pub ruleset copies = (laid-run, pushed_piece, own_run, runs_done, nothing_each, nothing_laid, copied_fits, copied_text)

-- ---- links

pub link_made : (link : List ℕ) (id : IsLinkId link) → IsMadeIn link id.home
link_made link id = record { part = 2; number = id.number; parts = id.parts; byte_or_link = inr refl; counted = id.counted; document_address = id.document }

pub link_long : (link : List ℕ) → IsLinkId link → 3 ≤ length link
link_long link id = made-long link id.home (link_made link id)

-- the home and the number, as they are read off
pub record IsRead (link document : List ℕ) (n number : ℕ) : Type 0 where
  pub piece : IsPiece (record { document = document; first = number; count = 1 })
  pub laid_is : laid 2 (record { document = document; first = number; count = 1 } ∷ []) ≡ link ∷ []

pub link_read : (link document : List ℕ) (n number : ℕ) → IsLinkId link → IsMadeIn link document → IsTumbler document → n ≡ length link → number ≡ get_or link (n - 1) 0 → IsRead link document n number
link_read link document n number id made tumbler e f =
    let home : id.home ≡ document = sym (made-document link id.home (link_made link id)) ∙ made-document link document made in
    let long = length-append id.home (0 ∷ 2 ∷ id.number ∷ []) in
    let same = ap length id.parts in
    let at : n - 1 ≡ length id.home + 2 = omega arith in
    let number_is : number ≡ id.number =
    f ∙ (ap (λ (k : ℕ). get_or link k 0) at ∙ (ap (λ (l : List ℕ). get_or l (length id.home + 2) 0) id.parts ∙ get_or-append-add id.home (0 ∷ 2 ∷ id.number ∷ []) 2 0)) in
    let one = id.counted in
    let room = id.fits in
    record {
      piece = record { document = subst IsDocument home id.document; is_tumbler = tumbler; from_one = omega arith; filled = omega arith; fits = omega arith };
      laid_is = ap (λ (k : ℕ). address_in 2 document k ∷ []) number_is ∙ ap (λ (d : List ℕ). address_in 2 d id.number ∷ []) (sym home) ∙ ap (λ (l : List ℕ). l ∷ []) (sym id.parts);
    }

pub linked_fits : (n : ℕ) (x : Piece) (link : List ℕ) (xs : List (List ℕ)) → laid 2 (x ∷ []) ≡ link ∷ [] → length xs < 4294967294 → length (exchanged_at n n (laid 2 (x ∷ [])) xs) ≤ 4294967294
linked_fits n x link xs e h = let long = length-exchanged n (laid 2 (x ∷ [])) xs in let one = ap length e in omega arith

pub linked_behind : (n : ℕ) (x : Piece) (link : List ℕ) (xs now : List (List ℕ)) → laid 2 (x ∷ []) ≡ link ∷ [] → n ≡ length xs + 1 → now ≡ exchanged_at n n (laid 2 (x ∷ [])) xs → now ≡ xs ++ link ∷ []
linked_behind n x link xs now e at is =
    let all : length xs ≤ n - 1 = omega arith in
    is ∙ (ap (λ (new : List (List ℕ)). exchanged_at n n new xs) e
    ∙ (ap (λ (f : List (List ℕ)). f ++ (link ∷ [] ++ drop (n - 1) xs)) (take_all (n - 1) xs all) ∙ ap (λ (b : List (List ℕ)). xs ++ (link ∷ b)) (drop_all (n - 1) xs all)))

pub ruleset linked = (link_made, link_long, one_piece, linked_fits, linked_behind)

pub laid_read : (link places document : List ℕ) → places ≡ link → IsLinkId link → IsMadeIn link document → IsTumbler document
    → laid 2 (record { document = document; first = get_or places (length places - 1) 0; count = 1 } ∷ []) ≡ link ∷ []
laid_read link places document same id made tumbler =
    ap (λ (s : List ℕ). laid 2 (record { document = document; first = get_or s (length s - 1) 0; count = 1 } ∷ [])) same
    ∙ (link_read link document (length link) (get_or link (length link - 1) 0) id made tumbler refl refl).laid_is
