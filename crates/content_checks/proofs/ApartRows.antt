-- Rows that begin at the ends of those in front of them or past them.
use Rattle.std.proofs.Common.{◌≡◌, ◌↔◌, ℕ, Bool, true, false, not, IsTrue, List, [], ◌∷◌, refl, ap, sym, subst, ◌∙◌}
use Rattle.std.specs.List.{All}
use Rattle.std.proofs.lemmas.List.Elements.{All-nil, All-cons, All-head, All-tail, All-weaker}
use Rattle.tumbler.specs.Places.{IsUpTo, Fits, comes_before}
use Rattle.tumbler.proofs.Order.{upto_upto}
use Rattle.tumbler.proofs.Before.{up_to_if_false, false_if_up_to}
use Rattle.tumbler.proofs.SumOrder.{fits_if_tumbler}
use Rattle.enfilade_core.specs.Axes.{InOrder, IsWellFormedRow}
use Rattle.enfilade_core.specs.Planes.{content_widths}
use Rattle.granfilade.specs.Puts.{end_of_row, Linked}
use Rattle.content_checks.proofs.ByteRows.{ByteRow}

pub end_fits : (row : ByteRow) → IsWellFormedRow content_widths row → Fits row.first (content_widths.first row)
end_fits row h = fits_if_tumbler row.first (content_widths.first row) h.first_end

abbrev pub IsPast : List ℕ → ByteRow → Type 0
IsPast end row = IsUpTo end row.first

pub none_behind : (end : List ℕ) (behind : List ByteRow) → behind ≡ [] → IsTrue true ↔ All (IsPast end) behind
none_behind end behind none = (λ yes. subst (All (IsPast end)) (sym none) (All-nil (IsPast end)), λ all. refl)

true_back : (b : Bool) → not b ≡ true → b ≡ false
true_back true e = sym e
true_back false e = refl

all_past : (end : List ℕ) (next : ByteRow) (more : List ByteRow) → InOrder (next ∷ more) → comes_before next.first end ≡ false → All (IsPast end) (next ∷ more)
all_past end next more ordered e =
    let here = up_to_if_false next.first end e in
    All-cons (IsPast end) next more here (All-weaker (λ (r : ByteRow). IsUpTo next.first r.first) (IsPast end) (λ r le. upto_upto end next.first r.first here le) more ordered.0)

pub one_behind : (end : List ℕ) (next : ByteRow) (behind more : List ByteRow) (b : Bool) → behind ≡ next ∷ more → InOrder behind → b ≡ comes_before next.first end → IsTrue (not b) ↔ All (IsPast end) behind
one_behind end next behind more b parts ordered is = (
  λ yes. subst (All (IsPast end)) (sym parts) (all_past end next more (subst InOrder parts ordered) (sym is ∙ true_back b yes)),
  λ all. ap not (is ∙ false_if_up_to next.first end (All-head (IsPast end) next more (subst (All (IsPast end)) parts all))),
)

-- the rest of the rows stands apart exactly where the rows do
pub record GoesOn (rows rest : List ByteRow) : Type 0 where
  pub each : All (IsWellFormedRow content_widths) rest
  pub ordered : InOrder rest
  pub same : Linked end_of_row rows ↔ Linked end_of_row rest

pub begins : (rows : List ByteRow) → All (IsWellFormedRow content_widths) rows → InOrder rows → GoesOn rows rows
begins rows each ordered = record { each = each; ordered = ordered; same = (λ h. h, λ h. h) }

pub first_right : (rows rest behind : List ByteRow) (row : ByteRow) → rest ≡ row ∷ behind → GoesOn rows rest → IsWellFormedRow content_widths row
first_right rows rest behind row parts on = All-head (IsWellFormedRow content_widths) row behind (subst (All (IsWellFormedRow content_widths)) parts on.each)

pub behind_ordered : (rows rest behind : List ByteRow) (row : ByteRow) → rest ≡ row ∷ behind → GoesOn rows rest → InOrder behind
behind_ordered rows rest behind row parts on = (subst InOrder parts on.ordered).1

pub goes_on : (rows rest behind : List ByteRow) (row : ByteRow) → rest ≡ row ∷ behind → All (IsPast (end_of_row row)) behind → GoesOn rows rest → GoesOn rows behind
goes_on rows rest behind row parts past on = record {
  each = All-tail (IsWellFormedRow content_widths) row behind (subst (All (IsWellFormedRow content_widths)) parts on.each);
  ordered = behind_ordered rows rest behind row parts on;
  same = (λ h. (subst (Linked end_of_row) parts (on.same.0 h)).1, λ h. on.same.1 (subst (Linked end_of_row) (sym parts) (past, h)));
}

pub not_apart : (rows rest behind : List ByteRow) (row : ByteRow) → rest ≡ row ∷ behind → (All (IsPast (end_of_row row)) behind → ⊥) → GoesOn rows rest → IsTrue false ↔ Linked end_of_row rows
not_apart rows rest behind row parts not_past on = (λ never. absurd cc, λ h. absurd (not_past (subst (Linked end_of_row) parts (on.same.0 h)).0))

pub all_apart : (rows rest : List ByteRow) → rest ≡ [] → GoesOn rows rest → IsTrue true ↔ Linked end_of_row rows
all_apart rows rest none on = (λ yes. on.same.1 (subst (Linked end_of_row) (sym none) tt), λ h. refl)
