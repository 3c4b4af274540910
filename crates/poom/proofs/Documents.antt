-- A document's rows as the pieces of its two parts, and what an exchange of pieces does to them.
use Rattle.std.proofs.Common.{◌≡◌, ℕ, ◌+◌, ◌≤◌, List, [], ◌∷◌, ◌++◌, length, refl, arith, ap, sym, subst, ◌∙◌, append_assoc}
use Rattle.std.specs.List.{All}
use Rattle.std.proofs.lemmas.List.Elements.{All-nil, All-append}
use Rattle.tumbler.proofs.Alls.{All-front, All-back}
use Rattle.enfilade_core.specs.declared.tree.Row.{Row}
use Rattle.enfilade_core.specs.declared.gap.Gap.{Gap}
use Rattle.enfilade_core.specs.Axes.{IsWellFormedRows}
use Rattle.enfilade_core.specs.Planes.{text_widths}
use Rattle.enfilade_core.specs.Edits.{shifted}
use Rattle.enfilade_core.specs.Exchange.{exchanged}
use Rattle.std.proofs.lemmas.List.{map-append}
use Rattle.poom.specs.declared.piece.Piece.{Piece}
use Rattle.poom.specs.declared.part.Part.{Part}
use Rattle.poom.specs.declared.part.Part.TheVariants.{Text, Links}
use Rattle.poom.specs.Pieces.{IsPiece, laid, total, rows_from, pieces_in}
use Rattle.poom.specs.Laid.{part_number, standing_in, texts, links, most_in, IsOneDocument, exchanged_at, other_part, HasBorders}
use Rattle.enfilade_core.specs.Edits.{shift_row}
use Rattle.poom.proofs.RowsFrom.{IsFront, IsPast, rows-append, all_front, all_past, text_front, links_past, three_parts, rows_shifted, links_shifted}
use Rattle.poom.proofs.WellFormedRows.{well_formed_document}
use Rattle.poom.proofs.Back.{text_pieces, link_pieces, length-laid, laid_exchanged}

pub record IsMadeOf (rows : List (Row ℕ)) (xs zs : List Piece) : Type 0 where
  pub are : rows ≡ rows_from 1 1 xs ++ rows_from 2 1 zs
  pub each : All IsPiece xs
  pub also : All IsPiece zs
  pub few : total xs ≤ most_in Text
  pub fewer : total zs ≤ most_in Links

pub made_of : (rows : List (Row ℕ)) → IsOneDocument rows → IsMadeOf rows (pieces_in 1 rows) (pieces_in 2 rows)
made_of rows one =
    let few = one.text_fits in
    let fewer = one.links_fit in
    record {
      are = one.gapless;
      each = one.text_pieces;
      also = one.link_pieces;
      few = omega (arith, length-laid 1 (pieces_in 1 rows));
      fewer = omega (arith, length-laid 2 (pieces_in 2 rows));
    }

-- the pieces of a document are those that it is made of
pub record Shows (rows : List (Row ℕ)) (xs zs : List Piece) : Type 0 where
  pub one : IsOneDocument rows
  pub text : pieces_in 1 rows ≡ xs
  pub link : pieces_in 2 rows ≡ zs

pub shows : (rows : List (Row ℕ)) (xs zs : List Piece) → IsMadeOf rows xs zs → Shows rows xs zs
shows rows xs zs made =
    let text : pieces_in 1 rows ≡ xs = ap (pieces_in 1) made.are ∙ text_pieces xs zs in
    let link : pieces_in 2 rows ≡ zs = ap (pieces_in 2) made.are ∙ link_pieces xs zs in
    let few = made.few in
    let fewer = made.fewer in
    record {
      one = record {
        gapless = made.are ∙ (ap (λ (ps : List Piece). rows_from 1 1 ps ++ rows_from 2 1 zs) (sym text) ∙ ap (λ (ps : List Piece). rows_from 1 1 (pieces_in 1 rows) ++ rows_from 2 1 ps) (sym link));
        text_pieces = subst (All IsPiece) (sym text) made.each;
        link_pieces = subst (All IsPiece) (sym link) made.also;
        text_fits = let long = length-laid 1 (pieces_in 1 rows) in let same = ap total text in omega arith;
        links_fit = let long = length-laid 2 (pieces_in 2 rows) in let same = ap total link in omega arith;
      };
      text = text;
      link = link;
    }

-- ---- exchanges

abbrev pub gap_in : ℕ → ℕ → ℕ → ℕ → Gap
gap_in part from to onto = record { from = part ∷ from ∷ []; to = part ∷ to ∷ []; onto = part ∷ onto ∷ [] }

parts_of : (part : ℕ) (a b c : List Piece) (from to : ℕ) → from ≡ 1 + total a → to ≡ from + total b → rows_from part 1 (a ++ (b ++ c)) ≡ rows_from part 1 a ++ (rows_from part from b ++ rows_from part to c)
parts_of part a b c from to f t =
    rows-append part 1 a (b ++ c)
    ∙ (ap (λ (n : ℕ). rows_from part 1 a ++ rows_from part n (b ++ c)) (sym f)
    ∙ ap (λ (rows : List (Row ℕ)). rows_from part 1 a ++ rows) (rows-append part from b c ∙ ap (λ (n : ℕ). rows_from part from b ++ rows_from part n c) (sym t)))

pub text_exchanged : (front gone back new zs : List Piece) (from to onto : ℕ) → from ≡ 1 + total front → to ≡ from + total gone → onto ≡ from + total new
    → All IsPiece front → All IsPiece gone → All IsPiece back
    → exchanged (gap_in 1 from to onto) (rows_from 1 from new) (rows_from 1 1 (front ++ (gone ++ back)) ++ rows_from 2 1 zs) ≡ rows_from 1 1 (front ++ (new ++ back)) ++ rows_from 2 1 zs
text_exchanged front gone back new zs from to onto f t o fs gs bs =
    let A = rows_from 1 1 front in
    let B = rows_from 1 from gone in
    let C = rows_from 1 to back in
    let N = rows_from 1 from new in
    let Z = rows_from 2 1 zs in
    let whole : rows_from 1 1 (front ++ (gone ++ back)) ++ Z ≡ A ++ (B ++ (C ++ Z)) =
    ap (λ (rows : List (Row ℕ)). rows ++ Z) (parts_of 1 front gone back from to f t) ∙ (append_assoc A (B ++ C) Z ∙ ap (λ (rows : List (Row ℕ)). A ++ rows) (append_assoc B C Z)) in
    let past_from : All (IsPast (1 ∷ from ∷ [])) (B ++ (C ++ Z)) =
    All-append (IsPast (1 ∷ from ∷ [])) B (C ++ Z) (all_past 1 from from gone (omega arith) gs) (All-append (IsPast (1 ∷ from ∷ [])) C Z (all_past 1 to from back (omega arith) bs) (links_past 1 from zs)) in
    let before_to : All (IsFront (1 ∷ to ∷ [])) (A ++ B) =
    All-append (IsFront (1 ∷ to ∷ [])) A B (all_front 1 1 to front (omega arith) fs) (all_front 1 from to gone (omega arith) gs) in
    let past_to : All (IsPast (1 ∷ to ∷ [])) (C ++ Z) =
    All-append (IsPast (1 ∷ to ∷ [])) C Z (all_past 1 to to back (omega arith) bs) (links_past 1 to zs) in
    let moved : shifted (1 ∷ to ∷ []) (1 ∷ onto ∷ []) (C ++ Z) ≡ rows_from 1 onto back ++ Z =
    map-append (shift_row (1 ∷ to ∷ []) (1 ∷ onto ∷ [])) C Z
    ∙ (ap (λ (rows : List (Row ℕ)). rows ++ shifted (1 ∷ to ∷ []) (1 ∷ onto ∷ []) Z) (rows_shifted 1 to onto to onto back (omega arith) (omega arith)) ∙ ap (λ (rows : List (Row ℕ)). rows_from 1 onto back ++ rows) (links_shifted to onto 1 zs)) in
    ap (exchanged (gap_in 1 from to onto) N) whole
    ∙ (three_parts (gap_in 1 from to onto) N A B (C ++ Z) (all_front 1 1 from front (omega arith) fs) past_from before_to past_to
    ∙ (ap (λ (rows : List (Row ℕ)). (A ++ N) ++ rows) moved
    ∙ (append_assoc A N (rows_from 1 onto back ++ Z)
    ∙ (ap (λ (rows : List (Row ℕ)). A ++ rows) (sym (append_assoc N (rows_from 1 onto back) Z))
    ∙ (sym (append_assoc A (N ++ rows_from 1 onto back) Z) ∙ ap (λ (rows : List (Row ℕ)). rows ++ Z) (sym (parts_of 1 front new back from onto f o)))))))

pub links_exchanged : (front gone back new xs : List Piece) (from to onto : ℕ) → from ≡ 1 + total front → to ≡ from + total gone → onto ≡ from + total new
    → All IsPiece front → All IsPiece gone → All IsPiece back
    → exchanged (gap_in 2 from to onto) (rows_from 2 from new) (rows_from 1 1 xs ++ rows_from 2 1 (front ++ (gone ++ back))) ≡ rows_from 1 1 xs ++ rows_from 2 1 (front ++ (new ++ back))
links_exchanged front gone back new xs from to onto f t o fs gs bs =
    let X = rows_from 1 1 xs in
    let A = rows_from 2 1 front in
    let B = rows_from 2 from gone in
    let C = rows_from 2 to back in
    let N = rows_from 2 from new in
    let whole : X ++ rows_from 2 1 (front ++ (gone ++ back)) ≡ (X ++ A) ++ (B ++ C) =
    ap (λ (rows : List (Row ℕ)). X ++ rows) (parts_of 2 front gone back from to f t) ∙ sym (append_assoc X A (B ++ C)) in
    let before_from : All (IsFront (2 ∷ from ∷ [])) (X ++ A) =
    All-append (IsFront (2 ∷ from ∷ [])) X A (text_front 1 from xs) (all_front 2 1 from front (omega arith) fs) in
    let past_from : All (IsPast (2 ∷ from ∷ [])) (B ++ C) =
    All-append (IsPast (2 ∷ from ∷ [])) B C (all_past 2 from from gone (omega arith) gs) (all_past 2 to from back (omega arith) bs) in
    let before_to : All (IsFront (2 ∷ to ∷ [])) ((X ++ A) ++ B) =
    All-append (IsFront (2 ∷ to ∷ [])) (X ++ A) B (All-append (IsFront (2 ∷ to ∷ [])) X A (text_front 1 to xs) (all_front 2 1 to front (omega arith) fs)) (all_front 2 from to gone (omega arith) gs) in
    ap (exchanged (gap_in 2 from to onto) N) whole
    ∙ (three_parts (gap_in 2 from to onto) N (X ++ A) B C before_from past_from before_to (all_past 2 to to back (omega arith) bs)
    ∙ (ap (λ (rows : List (Row ℕ)). ((X ++ A) ++ N) ++ rows) (rows_shifted 2 to onto to onto back (omega arith) (omega arith))
    ∙ (append_assoc (X ++ A) N (rows_from 2 onto back)
    ∙ (append_assoc X A (N ++ rows_from 2 onto back) ∙ ap (λ (rows : List (Row ℕ)). X ++ rows) (sym (parts_of 2 front new back from onto f o))))))

-- the rows after an exchange in a part
abbrev pub after : ℕ → ℕ → ℕ → ℕ → List Piece → List (Row ℕ) → List (Row ℕ)
after part from to onto new rows = exchanged (gap_in part from to onto) (rows_from part from new) rows

-- what they are
pub record IsDone (part : Part) (rows : List (Row ℕ)) (new : List Piece) (from to onto : ℕ) : Type 0 where
  pub well_formed : IsWellFormedRows text_widths (after (part_number part) from to onto new rows)
  pub one : IsOneDocument (after (part_number part) from to onto new rows)
  pub here : standing_in part (after (part_number part) from to onto new rows) ≡ exchanged_at from to (laid (part_number part) new) (standing_in part rows)
  pub there : standing_in (other_part part) (after (part_number part) from to onto new rows) ≡ standing_in (other_part part) rows

done_in_text : (rows : List (Row ℕ)) (new : List Piece) (from to onto : ℕ) → IsMadeOf rows (pieces_in 1 rows) (pieces_in 2 rows) → HasBorders Text rows from to → All IsPiece new → onto ≡ from + total new
    → length (exchanged_at from to (laid 1 new) (texts rows)) ≤ most_in Text → IsDone Text rows new from to onto
done_in_text rows new from to onto made b news o fits =
    let zs = pieces_in 2 rows in
    let each : All IsPiece (b.front ++ (b.gone ++ b.back)) = subst (All IsPiece) b.parts made.each in
    let fs : All IsPiece b.front = All-front IsPiece b.front (b.gone ++ b.back) each in
    let rest : All IsPiece (b.gone ++ b.back) = All-back IsPiece b.front (b.gone ++ b.back) each in
    let gs : All IsPiece b.gone = All-front IsPiece b.gone b.back rest in
    let bs : All IsPiece b.back = All-back IsPiece b.gone b.back rest in
    let xs = b.front ++ (new ++ b.back) in
    let all : All IsPiece xs = All-append IsPiece b.front (new ++ b.back) fs (All-append IsPiece new b.back news bs) in
    let are : after 1 from to onto new rows ≡ rows_from 1 1 xs ++ rows_from 2 1 zs =
    ap (after 1 from to onto new) (made.are ∙ ap (λ (ps : List Piece). rows_from 1 1 ps ++ rows_from 2 1 zs) b.parts)
    ∙ text_exchanged b.front b.gone b.back new zs from to onto b.from_is b.to_is o fs gs bs in
    let addresses : laid 1 xs ≡ exchanged_at from to (laid 1 new) (texts rows) =
    laid_exchanged 1 from to b.front b.gone b.back new b.from_is b.to_is ∙ ap (exchanged_at from to (laid 1 new)) (ap (laid 1) (sym b.parts)) in
    let few : total xs ≤ 1073741824 = let long = length-laid 1 xs in let same = ap length addresses in omega arith in
    let fewer : total zs ≤ 4294967294 = made.fewer in
    let s = shows (after 1 from to onto new rows) xs zs (record { are = are; each = all; also = made.also; few = few; fewer = fewer }) in
    record {
      well_formed = subst (IsWellFormedRows text_widths) (sym are) (well_formed_document xs zs all made.also (omega arith) (omega arith));
      one = s.one;
      here = ap (laid 1) s.text ∙ addresses;
      there = ap (laid 2) s.link;
    }

done_in_links : (rows : List (Row ℕ)) (new : List Piece) (from to onto : ℕ) → IsMadeOf rows (pieces_in 1 rows) (pieces_in 2 rows) → HasBorders Links rows from to → All IsPiece new → onto ≡ from + total new
    → length (exchanged_at from to (laid 2 new) (links rows)) ≤ most_in Links → IsDone Links rows new from to onto
done_in_links rows new from to onto made b news o fits =
    let xs = pieces_in 1 rows in
    let each : All IsPiece (b.front ++ (b.gone ++ b.back)) = subst (All IsPiece) b.parts made.also in
    let fs : All IsPiece b.front = All-front IsPiece b.front (b.gone ++ b.back) each in
    let rest : All IsPiece (b.gone ++ b.back) = All-back IsPiece b.front (b.gone ++ b.back) each in
    let gs : All IsPiece b.gone = All-front IsPiece b.gone b.back rest in
    let bs : All IsPiece b.back = All-back IsPiece b.gone b.back rest in
    let zs = b.front ++ (new ++ b.back) in
    let all : All IsPiece zs = All-append IsPiece b.front (new ++ b.back) fs (All-append IsPiece new b.back news bs) in
    let are : after 2 from to onto new rows ≡ rows_from 1 1 xs ++ rows_from 2 1 zs =
    ap (after 2 from to onto new) (made.are ∙ ap (λ (ps : List Piece). rows_from 1 1 xs ++ rows_from 2 1 ps) b.parts)
    ∙ links_exchanged b.front b.gone b.back new xs from to onto b.from_is b.to_is o fs gs bs in
    let addresses : laid 2 zs ≡ exchanged_at from to (laid 2 new) (links rows) =
    laid_exchanged 2 from to b.front b.gone b.back new b.from_is b.to_is ∙ ap (exchanged_at from to (laid 2 new)) (ap (laid 2) (sym b.parts)) in
    let fewer : total zs ≤ 4294967294 = let long = length-laid 2 zs in let same = ap length addresses in omega arith in
    let few : total xs ≤ 1073741824 = made.few in
    let s = shows (after 2 from to onto new rows) xs zs (record { are = are; each = made.each; also = all; few = few; fewer = fewer }) in
    record {
      well_formed = subst (IsWellFormedRows text_widths) (sym are) (well_formed_document xs zs made.each all (omega arith) (omega arith));
      one = s.one;
      here = ap (laid 2) s.link ∙ addresses;
      there = ap (laid 1) s.text;
    }

pub done : (part : Part) (rows : List (Row ℕ)) (new : List Piece) (from to onto : ℕ) → IsOneDocument rows → HasBorders part rows from to → All IsPiece new → onto ≡ from + total new
    → length (exchanged_at from to (laid (part_number part) new) (standing_in part rows)) ≤ most_in part → IsDone part rows new from to onto
done Text rows new from to onto one b news o fits = done_in_text rows new from to onto (made_of rows one) b news o fits
done Links rows new from to onto one b news o fits = done_in_links rows new from to onto (made_of rows one) b news o fits

-- a document with no rows
pub nothing_stands : IsOneDocument []
nothing_stands = record { gapless = refl; text_pieces = All-nil IsPiece; link_pieces = All-nil IsPiece; text_fits = omega arith; links_fit = omega arith }
