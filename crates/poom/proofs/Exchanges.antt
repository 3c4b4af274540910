-- What the arena is asked where pieces are exchanged, and what it gives then.
use Rattle.std.proofs.Common.{◌≡◌, ℕ, ◌+◌, ◌^◌, ◌<◌, ◌≤◌, List, [], ◌∷◌, ◌++◌, length, map, arith, ap, sym, subst, ◌∙◌}
use Rattle.std.specs.List.{All}
use Rattle.enfilade_core.specs.declared.tree.Row.{Row}
use Rattle.enfilade_core.specs.declared.gap.Gap.{Gap}
use Rattle.enfilade_core.specs.Rows.{Shape, rows_of}
use Rattle.enfilade_core.specs.Axes.{IsWellFormedRows}
use Rattle.enfilade_core.specs.Planes.{text_widths}
use Rattle.enfilade_core.specs.Plain.{plain_row}
use Rattle.enfilade_core.specs.Exchange.{exchanged}
use Rattle.poom.specs.declared.piece.Piece.{Piece}
use Rattle.poom.specs.declared.part.Part.{Part}
use Rattle.poom.specs.declared.part.Part.TheVariants.{Text, Links}
use Rattle.poom.specs.Pieces.{IsPiece, laid, total, rows_from}
use Rattle.poom.specs.Laid.{part_number, standing_in, most_in, IsOneDocument, IsRoot, exchanged_at, other_part, HasBorders}
use Rattle.poom.proofs.RowsFrom.{total-append}
use Rattle.poom.proofs.Back.{length-laid, laid_exchanged}
use Rattle.poom.proofs.Documents.{gap_in, after, done}
use Rattle.poom.proofs.Lays.{plain_rows}

most-few : (part : Part) → most_in part < 4294967295
most-few Text = omega arith
most-few Links = omega arith

-- positions stay below the bound of places
pub end_fits : (part : Part) (rows : List (Row ℕ)) (new : List Piece) (from to : ℕ) → HasBorders part rows from to
    → length (exchanged_at from to (laid (part_number part) new) (standing_in part rows)) ≤ most_in part → from + total new < 2 ^ 32
end_fits part rows new from to b fits =
    let p = part_number part in
    let whole = laid_exchanged p from to b.front b.gone b.back new b.from_is b.to_is ∙ ap (exchanged_at from to (laid p new)) (ap (laid p) (sym b.parts)) in
    let same = ap length whole in
    let long = length-laid p (b.front ++ (new ++ b.back)) in
    let sum = total-append b.front (new ++ b.back) in
    let rest = total-append new b.back in
    let few = most-few part in
    let start = b.from_is in
    omega arith

-- a document's rows after an exchange
pub record IsAfter (part : Part) (before : List (Row ℕ)) (new : List Piece) (from to : ℕ) (rows : List (Row ℕ)) : Type 0 where
  pub one : IsOneDocument rows
  pub here : standing_in part rows ≡ exchanged_at from to (laid (part_number part) new) (standing_in part before)
  pub there : standing_in (other_part part) rows ≡ standing_in (other_part part) before

same_gap : (f t o a b c : List ℕ) → f ≡ a → t ≡ b → o ≡ c → (record { from = f; to = t; onto = o }) ≡ (let g : Gap = record { from = a; to = b; onto = c } in g)
same_gap f t o a b c x y z =
    ap (λ (p : List ℕ). let g : Gap = record { from = p; to = t; onto = o } in g) x
    ∙ (ap (λ (p : List ℕ). let g : Gap = record { from = a; to = p; onto = o } in g) y ∙ ap (λ (p : List ℕ). let g : Gap = record { from = a; to = b; onto = p } in g) z)

abbrev pub asked : List ℕ → List ℕ → List ℕ → List (Row ℕ) → List (Shape ℕ) → ℕ → List (Row ℕ)
asked f t o items nodes k = exchanged (record { from = f; to = t; onto = o }) (map (plain_row (λ (n : ℕ). n)) items) (rows_of nodes k)

pub record IsCalled (part : Part) (old inside : List (Shape ℕ)) (k : ℕ) (new : List Piece) (from to end : ℕ) (f t o : List ℕ) (items : List (Row ℕ)) : Type 0 where
  pub well_formed : IsWellFormedRows text_widths (asked f t o items inside k)
  pub gives : (rows : List (Row ℕ)) → rows ≡ asked f t o items inside k → IsAfter part (rows_of old k) new from to rows

pub called : (part : Part) (old inside : List (Shape ℕ)) (k : ℕ) (new : List Piece) (from to end : ℕ) (f t o : List ℕ) (items : List (Row ℕ))
    → IsRoot old k → HasBorders part (rows_of old k) from to → All IsPiece new → length (exchanged_at from to (laid (part_number part) new) (standing_in part (rows_of old k))) ≤ most_in part
    → end ≡ from + total new → inside ≡ old → f ≡ part_number part ∷ from ∷ [] → t ≡ part_number part ∷ to ∷ [] → o ≡ part_number part ∷ end ∷ [] → items ≡ rows_from (part_number part) from new
    → IsCalled part old inside k new from to end f t o items
called part old inside k new from to end f t o items root borders each fits ends view fe te oe ie =
    let p = part_number part in
    let d = done part (rows_of old k) new from to end root.document borders each ends fits in
    let same : asked f t o items inside k ≡ after p from to end new (rows_of old k) =
    ap (λ (nodes : List (Shape ℕ)). asked f t o items nodes k) view
    ∙ (ap (λ (g : Gap). exchanged g (map (plain_row (λ (n : ℕ). n)) items) (rows_of old k)) (same_gap f t o (p ∷ from ∷ []) (p ∷ to ∷ []) (p ∷ end ∷ []) fe te oe)
    ∙ ap (λ (rows : List (Row ℕ)). exchanged (gap_in p from to end) rows (rows_of old k)) (plain_rows items ∙ ie)) in
    record {
      well_formed = subst (IsWellFormedRows text_widths) (sym same) d.well_formed;
      gives = λ rows e. let is : rows ≡ after p from to end new (rows_of old k) = e ∙ same in record {
        one = subst IsOneDocument (sym is) d.one;
        here = ap (standing_in part) is ∙ d.here;
        there = ap (standing_in (other_part part)) is ∙ d.there;
      };
    }

pub root_after : (part : Part) (nodes : List (Shape ℕ)) (before : List (Row ℕ)) (new : List Piece) (from to k : ℕ) → k < length nodes → IsAfter part before new from to (rows_of nodes k) → IsRoot nodes k
root_after part nodes before new from to k there is = record { there = there; document = is.one }
