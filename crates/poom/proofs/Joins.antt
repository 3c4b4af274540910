-- A piece that goes on where another ends makes that one longer.
use Rattle.std.proofs.Common.{◌≡◌, ◌≢◌, ℕ, zero, suc, ◌+◌, ◌-◌, ◌<◌, ◌≤◌, Bool, false, List, [], ◌∷◌, ◌++◌, length, take, get_or, refl, arith, ap, sym, subst, ◌∙◌, append_assoc, append-nil}
use Rattle.std.specs.Prelude.{◌↔◌, IsTrue}
use Rattle.std.specs.List.{All}
use Rattle.std.proofs.lemmas.Bool.{both_ways}
use Rattle.std.proofs.lemmas.List.{take_more, take_all}
use Rattle.std.proofs.lemmas.List.Elements.{All-push, All-get_or, All-take}
use Rattle.poom.specs.declared.piece.Piece.{Piece}
use Rattle.poom.specs.Pieces.{IsPiece, addresses_from, piece_addresses, laid}
use Rattle.poom.specs.Cuts.{Continues, EndApart, AreApart, Lengthens}
use Rattle.poom.proofs.Back.{laid-append}

pub addresses-more : (part : ℕ) (document : List ℕ) (first count next more : ℕ) → next ≡ first + count → addresses_from part document first (count + more) ≡ addresses_from part document first count ++ addresses_from part document next more
addresses-more part document first zero next more e =
    let same : first ≡ next = omega arith in
    let none : 0 + more ≡ more = omega arith in
    ap (addresses_from part document first) none ∙ ap (λ (n : ℕ). addresses_from part document n more) same
addresses-more part document first (suc count) next more e =
    let one : suc count + more ≡ suc (count + more) = omega arith in
    ap (addresses_from part document first) one
    ∙ ap (λ (rest : List (List ℕ)). (document ++ 0 ∷ part ∷ first ∷ []) ∷ rest) (addresses-more part document (first + 1) count next more (omega arith))

pub laid-push : (part : ℕ) (pieces : List Piece) (x : Piece) → laid part (pieces ++ x ∷ []) ≡ laid part pieces ++ piece_addresses part x
laid-push part pieces x = laid-append part pieces (x ∷ []) ∙ ap (λ (rest : List (List ℕ)). laid part pieces ++ rest) (append-nil (piece_addresses part x))

pub laid-pushed : (part : ℕ) (old new : List Piece) (x : Piece) → new ≡ old ++ x ∷ [] → laid part new ≡ laid part old ++ piece_addresses part x
laid-pushed part old new x e = ap (laid part) e ∙ laid-push part old x

longer_addresses : (part : ℕ) (last next : Piece) → Continues last next
    → addresses_from part last.document last.first (last.count + next.count) ≡ piece_addresses part last ++ piece_addresses part next
longer_addresses part last next c =
    addresses-more part last.document last.first last.count next.first next.count (sym c.first)
    ∙ ap (λ (document : List ℕ). piece_addresses part last ++ addresses_from part document next.first next.count) c.document

longer_piece : (last next : Piece) → Continues last next → IsPiece last → IsPiece next → IsPiece (record { document = last.document; first = last.first; count = last.count + next.count })
longer_piece last next c is also =
    let room = also.fits in
    let first = c.first in
    let filled = is.filled in
    record { document = is.document; is_tumbler = is.is_tumbler; from_one = is.from_one; filled = omega arith; fits = omega arith }

split_last : (pieces : List Piece) (n : ℕ) (last : Piece) → n ≡ length pieces → n ≢ 0 → last ≡ get_or pieces (n - 1) last → pieces ≡ take (length pieces - 1) pieces ++ last ∷ []
split_last pieces n last e h is =
    let within : length pieces - 1 < length pieces = omega arith in
    let whole : (length pieces - 1) + 1 ≡ length pieces = omega arith in
    let at : n - 1 ≡ length pieces - 1 = omega arith in
    let there : get_or pieces (length pieces - 1) last ≡ last = sym (is ∙ ap (λ (k : ℕ). get_or pieces k last) at) in
    sym (take_all (length pieces) pieces (omega arith)) ∙ (ap (λ (k : ℕ). take k pieces) (sym whole) ∙ (take_more pieces (length pieces - 1) last within ∙ ap (λ (x : Piece). take (length pieces - 1) pieces ++ x ∷ []) there))

-- ---- apart stays apart

-- another last piece that begins where the last one did
apart-longer : (front : List Piece) (last longer : Piece) → longer.document ≡ last.document → longer.first ≡ last.first → AreApart (front ++ last ∷ []) → AreApart (front ++ longer ∷ [])
apart-longer [] last longer d f are = tt
apart-longer (x ∷ []) last longer d f are = (λ c. are.0 (record { document = c.document ∙ d; first = c.first ∙ f }), tt)
apart-longer (x ∷ y ∷ front) last longer d f are = (are.0, apart-longer (y ∷ front) last longer d f are.1)

apart-push : (front : List Piece) (x : Piece) → EndApart front x → AreApart front → AreApart (front ++ x ∷ [])
apart-push [] x end are = tt
apart-push (y ∷ []) x end are = (end, tt)
apart-push (y ∷ z ∷ front) x end are = (are.0, apart-push (z ∷ front) x end are.1)

ends-apart-at : (pieces : List Piece) (k : ℕ) (last next : Piece) → length pieces ≡ suc k → last ≡ get_or pieces k last → ¬ Continues last next → EndApart pieces next
ends-apart-at [] k last next e is differs = absurd (omega arith)
ends-apart-at (x ∷ []) zero last next e is differs = subst (λ (p : Piece). ¬ Continues p next) is differs
ends-apart-at (x ∷ []) (suc k) last next e is differs = absurd (omega arith)
ends-apart-at (x ∷ y ∷ pieces) zero last next e is differs = absurd (omega arith)
ends-apart-at (x ∷ y ∷ pieces) (suc k) last next e is differs = ends-apart-at (y ∷ pieces) k last next (omega arith) is differs

-- the test was false
pub ends-apart : (pieces : List Piece) (n : ℕ) (last next : Piece) (test : Bool) → n ≡ length pieces → n ≢ 0 → last ≡ get_or pieces (n - 1) last → (IsTrue test ↔ Continues last next) → test ≡ false → EndApart pieces next
ends-apart pieces n last next test e h is tests fails = ends-apart-at pieces (n - 1) last next (omega arith) is (λ c. both_ways test fails (tests.1 c))

pub none-apart : (pieces : List Piece) (n : ℕ) (next : Piece) → n ≡ length pieces → n ≡ 0 → EndApart pieces next
none-apart [] n next e h = tt
none-apart (x ∷ pieces) n next e h = absurd (omega arith)

pub apart-pushed : (old new : List Piece) (x : Piece) → new ≡ old ++ x ∷ [] → EndApart old x → AreApart old → AreApart new
apart-pushed old new x e end are = subst AreApart (sym e) (apart-push old x end are)

pub apart-lengthened : (old front new : List Piece) (n : ℕ) (piece longer : Piece) → Lengthens old piece longer → n ≡ length old → front ≡ take (n - 1) old → new ≡ front ++ longer ∷ [] → AreApart old → AreApart new
apart-lengthened old front new n piece longer l e f is are =
    let same : take (length old - 1) old ≡ front = ap (λ (k : ℕ). take (k - 1) old) (sym e) ∙ sym f in
    subst AreApart (ap (λ (ps : List Piece). ps ++ longer ∷ []) same ∙ sym is) (l.apart are)

-- ---- longer pieces

lengthened : (pieces : List Piece) (n : ℕ) (last next : Piece) → n ≡ length pieces → n ≢ 0 → last ≡ get_or pieces (n - 1) last → Continues last next → All IsPiece pieces → IsPiece next
    → Lengthens pieces next (record { document = last.document; first = last.first; count = last.count + next.count })
lengthened pieces n last next e h is c each also =
    let split = split_last pieces n last e h is in
    let own : IsPiece last = subst IsPiece (sym is) (All-get_or IsPiece pieces (n - 1) last (omega arith) each) in
    record {
      some = omega arith;
      is_piece = longer_piece last next c own also;
      lays = λ part.
          ap (λ (rest : List (List ℕ)). laid part (take (length pieces - 1) pieces) ++ rest) (longer_addresses part last next c)
          ∙ (sym (append_assoc (laid part (take (length pieces - 1) pieces)) (piece_addresses part last) (piece_addresses part next))
          ∙ ap (λ (front : List (List ℕ)). front ++ piece_addresses part next) (sym (ap (laid part) split ∙ laid-push part (take (length pieces - 1) pieces) last)));
      apart = λ are. apart-longer (take (length pieces - 1) pieces) last (record { document = last.document; first = last.first; count = last.count + next.count }) refl refl (subst AreApart split are);
    }

-- the same, where the document was copied
pub lengthens : (pieces : List Piece) (n : ℕ) (last next : Piece) (document : List ℕ) → n ≡ length pieces → n ≢ 0 → last ≡ get_or pieces (n - 1) last → document ≡ last.document → Continues last next → All IsPiece pieces → IsPiece next
    → Lengthens pieces next (record { document = document; first = last.first; count = last.count + next.count })
lengthens pieces n last next document e h is copied c each also =
    subst (λ (d : List ℕ). Lengthens pieces next (record { document = d; first = last.first; count = last.count + next.count })) (sym copied) (lengthened pieces n last next e h is c each also)

pub own_piece : (pieces : List Piece) (k : ℕ) (x : Piece) → x ≡ get_or pieces k x → k < length pieces → All IsPiece pieces → IsPiece x
own_piece pieces k x is h each = subst IsPiece (sym is) (All-get_or IsPiece pieces k x h each)

-- the last piece made longer
pub laid-longer : (part : ℕ) (old front new : List Piece) (n : ℕ) (piece longer : Piece) → Lengthens old piece longer → n ≡ length old → front ≡ take (n - 1) old → new ≡ front ++ longer ∷ [] → laid part new ≡ laid part old ++ piece_addresses part piece
laid-longer part old front new n piece longer l e f is =
    let same : front ≡ take (length old - 1) old = f ∙ ap (λ (k : ℕ). take (k - 1) old) e in
    laid-pushed part front new longer is ∙ (ap (λ (ps : List Piece). laid part ps ++ piece_addresses part longer) same ∙ l.lays part)

pub pushed_pieces : (old new : List Piece) (x : Piece) → new ≡ old ++ x ∷ [] → All IsPiece old → IsPiece x → All IsPiece new
pushed_pieces old new x e each is = subst (All IsPiece) (sym e) (All-push IsPiece old x each is)

pub longer_pieces : (old front new : List Piece) (n : ℕ) (piece longer : Piece) → Lengthens old piece longer → front ≡ take (n - 1) old → new ≡ front ++ longer ∷ [] → All IsPiece old → All IsPiece new
longer_pieces old front new n piece longer l f is each = pushed_pieces front new longer is (subst (All IsPiece) (sym f) (All-take IsPiece (n - 1) old each)) l.is_piece

-- pieces added one by one
pub laid-so_far : (part : ℕ) (first now next more : List Piece) (i : ℕ) (x : Piece) → i < length more → x ≡ get_or more i x → laid part now ≡ laid part first ++ laid part (take i more) → laid part next ≡ laid part now ++ piece_addresses part x
    → laid part next ≡ laid part first ++ laid part (take (i + 1) more)
laid-so_far part first now next more i x h is so step =
    let whole : laid part (take (i + 1) more) ≡ laid part (take i more) ++ piece_addresses part x =
    ap (laid part) (take_more more i x h) ∙ (laid-push part (take i more) (get_or more i x) ∙ ap (λ (y : Piece). laid part (take i more) ++ piece_addresses part y) (sym is)) in
    step ∙ (ap (λ (f : List (List ℕ)). f ++ piece_addresses part x) so ∙ (append_assoc (laid part first) (laid part (take i more)) (piece_addresses part x) ∙ ap (λ (r : List (List ℕ)). laid part first ++ r) (sym whole)))

pub laid-all : (part : ℕ) (first now more : List Piece) (i : ℕ) → length more ≤ i → laid part now ≡ laid part first ++ laid part (take i more) → laid part now ≡ laid part first ++ laid part more
laid-all part first now more i h so = so ∙ ap (λ (ps : List Piece). laid part first ++ laid part ps) (take_all i more h)

pub ruleset lengthening = (lengthens, own_piece, ends-apart, none-apart)

pub ruleset joins = (own_piece, laid-pushed, laid-longer, pushed_pieces, longer_pieces, laid-so_far, laid-all, apart-pushed, apart-lengthened)
