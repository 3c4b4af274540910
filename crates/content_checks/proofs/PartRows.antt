-- The rows of a document, part by part.
use Rattle.std.proofs.Common.{◌≡◌, ◌↔◌, ℕ, ◌+◌, ◌≤◌, Bool, true, false, eqb, IsTrue, List, [], ◌∷◌, ◌++◌, length, get_or, refl, arith, ap, sym, subst, ◌∙◌, append-nil, eq-eqb, true≢false}
use Rattle.std.specs.List.{All}
use Rattle.std.proofs.lemmas.List.Elements.{All-nil, All-cons, All-head, All-tail}
use Rattle.enfilade_core.specs.declared.tree.Row.{Row}
use Rattle.poom.specs.declared.piece.Piece.{Piece}
use Rattle.poom.specs.Pieces.{IsPiece, address_in, total, piece_row, rows_from, stands_in, pieces_in}
use Rattle.poom.specs.Laid.{IsOneDocument}
use Rattle.poom.proofs.Documents.{IsMadeOf, made_of, shows}
use Rattle.content_checks.specs.inside.Steps.{Shows, HasPiece, BeginsBehind, HasPart, IsBehindPart}
use Rattle.content_checks.proofs.Tested.{nothing_there}

-- ---- a row and its piece

itself : (part : ℕ) → eqb part part ≡ true
itself part = eq-eqb part part refl

row_of : (part n : ℕ) (row : Row ℕ) (piece : Piece) → row.first ≡ part ∷ n ∷ [] → Shows part row piece → row ≡ piece_row part n piece
row_of part n row piece at is =
    ap (λ (f : List ℕ). record { first = f; second = row.second; leaf = row.leaf }) at
    ∙ (ap (λ (s : List ℕ). record { first = part ∷ n ∷ []; second = s; leaf = row.leaf }) is.place
    ∙ ap (λ (k : ℕ). record { first = part ∷ n ∷ []; second = address_in part piece.document piece.first; leaf = k }) is.leaf)

here : (part n : ℕ) (row : Row ℕ) → row.first ≡ part ∷ n ∷ [] → stands_in part row ≡ true
here part n row at = ap (λ (f : List ℕ). eqb (get_or f 0 0) part) at ∙ itself part

row_heads : (row other : Row ℕ) (rows others : List (Row ℕ)) → row ∷ rows ≡ other ∷ others → row ≡ other
row_heads row other rows others e = cc

row_tails : (row other : Row ℕ) (rows others : List (Row ℕ)) → row ∷ rows ≡ other ∷ others → rows ≡ others
row_tails row other rows others e = cc

-- ---- one piece more

module _ (part most n next : ℕ) (row : Row ℕ) (behind other : List (Row ℕ)) (has : HasPiece part most n row next) where
  taken : (pieces : List Piece) → row ∷ behind ≡ rows_from part n pieces ++ other → All IsPiece pieces → n + total pieces ≤ most + 1 → BeginsBehind part other → HasPart part most next behind other
  taken [] parts each fits not_here =
      let stood : stands_in part row ≡ false = subst (BeginsBehind part) (sym parts) not_here in
      absurd (true≢false (sym (here part n row has.first) ∙ stood))
  taken (piece ∷ pieces) parts each fits not_here =
      let same = row_heads row (piece_row part n piece) behind (rows_from part (n + piece.count) pieces ++ other) parts in
      let leaf : row.leaf ≡ piece.count = ap (λ (r : Row ℕ). r.leaf) same in
      let at : n + piece.count ≡ next = let is = has.next_is in omega arith in
      record {
        pieces = pieces;
        parts = row_tails row (piece_row part n piece) behind (rows_from part (n + piece.count) pieces ++ other) parts ∙ ap (λ (m : ℕ). rows_from part m pieces ++ other) at;
        each = All-tail IsPiece piece pieces each;
        fits = omega arith;
        behind = not_here;
      }

  pub piece_more : HasPart part most n (row ∷ behind) other ↔ HasPart part most next behind other
  piece_more = (
    λ (h : HasPart part most n (row ∷ behind) other). taken h.pieces h.parts h.each h.fits h.behind,
    λ (h : HasPart part most next behind other).
        let leaf = has.shows.leaf in
        let is = has.next_is in
        let at : next ≡ n + has.piece.count = omega arith in
        let fits = h.fits in
        record {
          pieces = has.piece ∷ h.pieces;
          parts = ap (λ (r : Row ℕ). r ∷ behind) (row_of part n row has.piece has.first has.shows) ∙ ap (λ (rows : List (Row ℕ)). piece_row part n has.piece ∷ rows) (h.parts ∙ ap (λ (m : ℕ). rows_from part m h.pieces ++ other) at);
          each = All-cons IsPiece has.piece h.pieces has.shows.right h.each;
          fits = omega arith;
          behind = h.behind;
        },
  )

-- ---- no piece more

module _ (part most n : ℕ) (rest other : List (Row ℕ)) (stops : BeginsBehind part rest) (room : n ≤ most + 1) where
  none_taken : (pieces : List Piece) → rest ≡ rows_from part n pieces ++ other → other ≡ rest
  none_taken [] parts = sym parts
  none_taken (piece ∷ pieces) parts =
      let stood : stands_in part (piece_row part n piece) ≡ false = subst (BeginsBehind part) parts stops in
      absurd (true≢false (sym (here part n (piece_row part n piece) refl) ∙ stood))

  pub part_ends : HasPart part most n rest other ↔ (other ≡ rest)
  part_ends = (
    λ (h : HasPart part most n rest other). none_taken h.pieces h.parts,
    λ same. record { pieces = []; parts = sym same; each = All-nil IsPiece; fits = omega arith; behind = subst (BeginsBehind part) (sym same) stops },
  )

-- ---- a row that is not the next piece

module _ (part most n : ℕ) (row : Row ℕ) (behind other : List (Row ℕ)) (stands : stands_in part row ≡ true) (not : (next : ℕ) → ¬ HasPiece part most n row next) where
  not_taken : (pieces : List Piece) → row ∷ behind ≡ rows_from part n pieces ++ other → All IsPiece pieces → n + total pieces ≤ most + 1 → BeginsBehind part other → ⊥
  not_taken [] parts each fits not_here = true≢false (sym stands ∙ subst (BeginsBehind part) (sym parts) not_here)
  not_taken (piece ∷ pieces) parts each fits not_here =
      let same = row_heads row (piece_row part n piece) behind (rows_from part (n + piece.count) pieces ++ other) parts in
      let leaf : row.leaf ≡ piece.count = ap (λ (r : Row ℕ). r.leaf) same in
      not (n + row.leaf) (record {
        first = ap (λ (r : Row ℕ). r.first) same;
        piece = piece;
        shows = record { place = ap (λ (r : Row ℕ). r.second) same; leaf = leaf; right = All-head IsPiece piece pieces each };
        next_is = refl;
        fits = omega arith;
      })

  pub no_part : ¬ HasPart part most n (row ∷ behind) other
  no_part h = not_taken h.pieces h.parts h.each h.fits h.behind

-- ---- gone through

pub record GoesOn (part most n : ℕ) (rows rest : List (Row ℕ)) : Type 0 where
  pub from_one : 1 ≤ n
  pub room : n ≤ most + 1
  pub same : (other : List (Row ℕ)) → HasPart part most 1 rows other ↔ HasPart part most n rest other

pub begins : (part most : ℕ) (rows : List (Row ℕ)) → GoesOn part most 1 rows rows
begins part most rows = record { from_one = omega arith; room = omega arith; same = λ other. (λ h. h, λ h. h) }

pub goes_on : (part most n next : ℕ) (rows rest behind : List (Row ℕ)) (row : Row ℕ) → rest ≡ row ∷ behind → HasPiece part most n row next → GoesOn part most n rows rest → GoesOn part most next rows behind
goes_on part most n next rows rest behind row parts has on = record {
  from_one = let is = has.next_is in let one = on.from_one in omega arith;
  room = has.fits;
  same = λ other.
      let step = piece_more part most n next row behind other has in
      let so_far = on.same other in
      (λ h. step.0 (subst (λ (r : List (Row ℕ)). HasPart part most n r other) parts (so_far.0 h)), λ h. so_far.1 (subst (λ (r : List (Row ℕ)). HasPart part most n r other) (sym parts) (step.1 h)));
}

pub other_part : (part most n : ℕ) (rows rest behind : List (Row ℕ)) (row : Row ℕ) → rest ≡ row ∷ behind → stands_in part row ≡ false → GoesOn part most n rows rest → IsBehindPart part most rows rest
other_part part most n rows rest behind row parts elsewhere on other =
    let step = part_ends part most n rest other (subst (BeginsBehind part) (sym parts) elsewhere) on.room in
    let so_far = on.same other in
    (λ h. step.0 (so_far.0 h), λ same. so_far.1 (step.1 same))

pub all_taken : (part most n : ℕ) (rows rest : List (Row ℕ)) → rest ≡ [] → GoesOn part most n rows rest → IsBehindPart part most rows rest
all_taken part most n rows rest none on other =
    let step = part_ends part most n rest other (subst (BeginsBehind part) (sym none) tt) on.room in
    let so_far = on.same other in
    (λ h. step.0 (so_far.0 h), λ same. so_far.1 (step.1 same))

pub not_next : (part most n : ℕ) (rows rest behind : List (Row ℕ)) (row : Row ℕ) → rest ≡ row ∷ behind → stands_in part row ≡ true → ((next : ℕ) → ¬ HasPiece part most n row next) → GoesOn part most n rows rest
    → (other : List (Row ℕ)) → ¬ HasPart part most 1 rows other
not_next part most n rows rest behind row parts stands not on other h =
    no_part part most n row behind other stands not (subst (λ (r : List (Row ℕ)). HasPart part most n r other) parts ((on.same other).0 h))

-- ---- both parts

links_behind : (n : ℕ) (pieces : List Piece) → BeginsBehind 1 (rows_from 2 n pieces)
links_behind n [] = tt
links_behind n (piece ∷ pieces) = refl

pub text_first : (rows : List (Row ℕ)) → IsOneDocument rows → HasPart 1 1073741824 1 rows (rows_from 2 1 (pieces_in 2 rows))
text_first rows one =
    let made = made_of rows one in
    let few = made.few in
    record { pieces = pieces_in 1 rows; parts = made.are; each = made.each; fits = omega arith; behind = links_behind 1 (pieces_in 2 rows) }

pub links_last : (rows : List (Row ℕ)) → IsOneDocument rows → HasPart 2 4294967294 1 (rows_from 2 1 (pieces_in 2 rows)) []
links_last rows one =
    let made = made_of rows one in
    let fewer = made.fewer in
    record { pieces = pieces_in 2 rows; parts = sym (append-nil (rows_from 2 1 (pieces_in 2 rows))); each = made.also; fits = omega arith; behind = tt }

both_parts : (rows links : List (Row ℕ)) → HasPart 1 1073741824 1 rows links → HasPart 2 4294967294 1 links [] → IsOneDocument rows
both_parts rows links text link =
    let are : rows ≡ rows_from 1 1 text.pieces ++ rows_from 2 1 link.pieces = text.parts ∙ ap (λ (more : List (Row ℕ)). rows_from 1 1 text.pieces ++ more) (link.parts ∙ append-nil (rows_from 2 1 link.pieces)) in
    let few = text.fits in
    let fewer = link.fits in
    let made : IsMadeOf rows text.pieces link.pieces = record { are = are; each = text.each; also = link.each; few = omega arith; fewer = omega arith } in
    (shows rows text.pieces link.pieces made).one

pub no_text : (rows : List (Row ℕ)) → ((other : List (Row ℕ)) → ¬ HasPart 1 1073741824 1 rows other) → IsTrue false ↔ IsOneDocument rows
no_text rows not = (λ never. absurd cc, λ one. absurd (not (rows_from 2 1 (pieces_in 2 rows)) (text_first rows one)))

pub no_links : (rows links : List (Row ℕ)) → IsBehindPart 1 1073741824 rows links → ((other : List (Row ℕ)) → ¬ HasPart 2 4294967294 1 links other) → IsTrue false ↔ IsOneDocument rows
no_links rows links text not = (
  λ never. absurd cc,
  λ one.
      let same = (text (rows_from 2 1 (pieces_in 2 rows))).0 (text_first rows one) in
      absurd (not [] (subst (λ (l : List (Row ℕ)). HasPart 2 4294967294 1 l []) same (links_last rows one))),
)

pub one_document : (rows links rest : List (Row ℕ)) (b : Bool) → IsBehindPart 1 1073741824 rows links → IsBehindPart 2 4294967294 links rest → b ≡ eqb (length rest) 0 → IsTrue b ↔ IsOneDocument rows
one_document rows links rest b text link is = (
  λ yes.
      let none : [] ≡ rest = sym (nothing_there rest (sym is ∙ yes)) in
      both_parts rows links ((text links).1 refl) ((link []).1 none),
  λ one.
      let same = (text (rows_from 2 1 (pieces_in 2 rows))).0 (text_first rows one) in
      let none : [] ≡ rest = (link []).0 (subst (λ (l : List (Row ℕ)). HasPart 2 4294967294 1 l []) same (links_last rows one)) in
      is ∙ eq-eqb (length rest) 0 (ap length (sym none)),
)
