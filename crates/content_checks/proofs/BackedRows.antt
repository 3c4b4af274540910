-- Rows of which all that they show is listed.
use Rattle.std.proofs.Common.{◌≡◌, ◌≢◌, ◌↔◌, ℕ, ◌+◌, ◌<◌, ◌≤◌, Bool, true, false, IsTrue, List, [], ◌∷◌, length, get_or, refl, arith, ap, sym, subst, ◌∙◌, inl, inr}
use Rattle.std.proofs.Math.Nat.{eq-or-lt_of_le}
use Rattle.std.specs.List.{All, Contains}
use Rattle.std.proofs.lemmas.List.{get_or_default}
use Rattle.std.proofs.lemmas.List.Elements.{All-nil, All-cons, All-head, All-tail, All-append, All-get_or}
use Rattle.tumbler.proofs.Alls.{All-front, All-back}
use Rattle.enfilade_core.specs.declared.tree.Row.{Row}
use Rattle.poom.specs.declared.piece.Piece.{Piece}
use Rattle.poom.specs.Pieces.{IsPiece, piece_addresses, piece_row, rows_from, laid, pieces_in}
use Rattle.poom.specs.Laid.{IsOneDocument, texts, links}
use Rattle.poom.proofs.Documents.{made_of}
use Rattle.content_checks.specs.declared.shown.Shown.{Shown}
use Rattle.content_checks.specs.inside.Steps.{piece_of, Shows, IsBacked}
use Rattle.content_checks.proofs.DocumentBytes.{one_address}

-- ---- one row

one_piece : (part : ℕ) (row : Row ℕ) (a b : Piece) → Shows part row a → Shows part row b → a ≡ b
one_piece part row a b is also =
    let same = one_address part part a.first b.first a.document b.document (sym is.place ∙ also.place) in
    let count : a.count ≡ b.count = sym is.leaf ∙ also.leaf in
    ap (λ (d : List ℕ). record { document = d; first = a.first; count = a.count }) same.0
    ∙ (ap (λ (n : ℕ). record { document = b.document; first = n; count = a.count }) same.2 ∙ ap (λ (n : ℕ). record { document = b.document; first = b.first; count = n }) count)

pub row_backed : (part : ℕ) (listed : List (List ℕ)) (row : Row ℕ) (shown : Shown) (b : Bool) → Shows part row (piece_of shown) → IsTrue b ↔ All (Contains listed) (piece_addresses part (piece_of shown)) → IsTrue b ↔ IsBacked part listed row
row_backed part listed row shown b is test =
    (λ yes piece also. subst (λ (p : Piece). All (Contains listed) (piece_addresses part p)) (one_piece part row (piece_of shown) piece is also) (test.0 yes), λ backed. test.1 (backed (piece_of shown) is))

pub nothing_shown : (part : ℕ) (listed : List (List ℕ)) (row : Row ℕ) → ((piece : Piece) → ¬ Shows part row piece) → IsTrue true ↔ IsBacked part listed row
nothing_shown part listed row none = (λ yes piece is. absurd (none piece is), λ backed. refl)

-- ---- rows of pieces

module _ (part : ℕ) (listed : List (List ℕ)) where
  pub own_backed : (n : ℕ) (pieces : List Piece) → All (Contains listed) (laid part pieces) → All (IsBacked part listed) (rows_from part n pieces)
  own_backed n [] all = All-nil (IsBacked part listed)
  own_backed n (piece ∷ pieces) all =
      All-cons (IsBacked part listed) (piece_row part n piece) (rows_from part (n + piece.count) pieces)
      (λ other is.
      let same = one_address part part piece.first other.first piece.document other.document is.place in
      let one : piece ≡ other = ap (λ (d : List ℕ). record { document = d; first = piece.first; count = piece.count }) same.0
      ∙ (ap (λ (m : ℕ). record { document = other.document; first = m; count = piece.count }) same.2 ∙ ap (λ (m : ℕ). record { document = other.document; first = other.first; count = m }) is.leaf) in
      subst (λ (p : Piece). All (Contains listed) (piece_addresses part p)) one (All-front (Contains listed) (piece_addresses part piece) (laid part pieces) all))
      (own_backed (n + piece.count) pieces (All-back (Contains listed) (piece_addresses part piece) (laid part pieces) all))

  pub back_listed : (n : ℕ) (pieces : List Piece) → All IsPiece pieces → All (IsBacked part listed) (rows_from part n pieces) → All (Contains listed) (laid part pieces)
  back_listed n [] each all = All-nil (Contains listed)
  back_listed n (piece ∷ pieces) each all =
      All-append (Contains listed) (piece_addresses part piece) (laid part pieces)
      (All-head (IsBacked part listed) (piece_row part n piece) (rows_from part (n + piece.count) pieces) all piece (record { place = refl; leaf = refl; right = All-head IsPiece piece pieces each }))
      (back_listed (n + piece.count) pieces (All-tail IsPiece piece pieces each) (All-tail (IsBacked part listed) (piece_row part n piece) (rows_from part (n + piece.count) pieces) all))

  -- rows of the other part show nothing of this one
  pub others_backed : (other n : ℕ) (pieces : List Piece) → other ≢ part → All (IsBacked part listed) (rows_from other n pieces)
  others_backed other n [] apart = All-nil (IsBacked part listed)
  others_backed other n (piece ∷ pieces) apart =
      All-cons (IsBacked part listed) (piece_row other n piece) (rows_from other (n + piece.count) pieces)
      (λ shown is. absurd (apart (one_address other part piece.first shown.first piece.document shown.document is.place).1))
      (others_backed other (n + piece.count) pieces apart)

-- ---- a document

module _ (listed : List (List ℕ)) (rows : List (Row ℕ)) (one : IsOneDocument rows) where
  pub texts_backed : All (IsBacked 1 listed) rows ↔ All (Contains listed) (texts rows)
  texts_backed =
      let made = made_of rows one in
      let text = rows_from 1 1 (pieces_in 1 rows) in
      let link = rows_from 2 1 (pieces_in 2 rows) in (
        λ all. back_listed 1 listed 1 (pieces_in 1 rows) made.each (All-front (IsBacked 1 listed) text link (subst (All (IsBacked 1 listed)) made.are all)),
        λ all.
            subst (All (IsBacked 1 listed)) (sym made.are)
            (All-append (IsBacked 1 listed) text link (own_backed 1 listed 1 (pieces_in 1 rows) all) (others_backed 1 listed 2 1 (pieces_in 2 rows) (λ e. absurd (omega (arith, e))))),
      )

  pub links_backed : All (IsBacked 2 listed) rows ↔ All (Contains listed) (links rows)
  links_backed =
      let made = made_of rows one in
      let text = rows_from 1 1 (pieces_in 1 rows) in
      let link = rows_from 2 1 (pieces_in 2 rows) in (
        λ all. back_listed 2 listed 1 (pieces_in 2 rows) made.also (All-back (IsBacked 2 listed) text link (subst (All (IsBacked 2 listed)) made.are all)),
        λ all.
            subst (All (IsBacked 2 listed)) (sym made.are)
            (All-append (IsBacked 2 listed) text link (others_backed 2 listed 1 1 (pieces_in 1 rows) (λ e. absurd (omega (arith, e)))) (own_backed 2 listed 1 (pieces_in 2 rows) all)),
      )

-- ---- one row after another

abbrev pub BackedBelow : ℕ → List (List ℕ) → List (Row ℕ) → ℕ → Type 0
BackedBelow part listed rows n = (k : ℕ) (d : Row ℕ) → k < n → k < length rows → IsBacked part listed (get_or rows k d)

pub none_backed : (part : ℕ) (listed : List (List ℕ)) (rows : List (Row ℕ)) → BackedBelow part listed rows 0
none_backed part listed rows k d lt within = absurd (omega (arith, lt))

pub backed_more : (part : ℕ) (listed : List (List ℕ)) (rows : List (Row ℕ)) (n : ℕ) (row : Row ℕ) → row ≡ get_or rows n row → IsBacked part listed row → BackedBelow part listed rows n → BackedBelow part listed rows (n + 1)
backed_more part listed rows n row is backed so_far k d lt within =
    let le : k ≤ n = omega (arith, lt) in
    elim (eq-or-lt_of_le le) [
      | inl same ↦
          let at : get_or rows k d ≡ row = get_or_default rows k d row within ∙ (ap (λ (j : ℕ). get_or rows j row) same ∙ sym is) in
          subst (IsBacked part listed) (sym at) backed
      | inr under ↦ so_far k d under within
    ]

pub not_backed : (part : ℕ) (listed : List (List ℕ)) (rows : List (Row ℕ)) (n : ℕ) (row : Row ℕ) (b : Bool) → n < length rows → row ≡ get_or rows n row → b ≡ false → IsTrue b ↔ IsBacked part listed row → All (IsBacked part listed) rows → ⊥
not_backed part listed rows n row b lt is none test all =
    let here = test.1 (subst (IsBacked part listed) (sym is) (All-get_or (IsBacked part listed) rows n row lt all)) in
    absurd cc

pub all_backed : (part : ℕ) (listed : List (List ℕ)) (rows : List (Row ℕ)) (n : ℕ) → length rows ≤ n → BackedBelow part listed rows n → All (IsBacked part listed) rows
all_backed part listed rows n le so_far k d within = so_far k d (omega (arith, within, le)) within
