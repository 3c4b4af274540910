-- Where the tests put bytes.
use Rattle.std.proofs.Common.{◌≡◌, ℕ, ◌<◌, ◌≤◌, List, [], ◌∷◌, length, take, map, refl, arith, sym, subst}
use Rattle.std.specs.List.{All}
use Rattle.std.proofs.lemmas.List.{take_all}
use Rattle.std.proofs.lemmas.List.Elements.{All-nil, All-cons, All-weaker}
use Rattle.tumbler.specs.Address.{IsField, IsDocument}
use Rattle.tumbler.specs.ListView.{ListView}
use Rattle.tumbler.specs.Places.{IsBefore, IsUpTo}
use Rattle.tumbler.proofs.Order.{before_upto}
use Rattle.enfilade_core.specs.declared.tree.Row.{Row}
use Rattle.enfilade_core.specs.Axes.{IsWellFormedRow}
use Rattle.enfilade_core.specs.Plain.{plain_row}
use Rattle.enfilade_core.specs.Planes.{content_widths, plain_text}
use Rattle.granfilade.specs.Content.{ByteAt, so_far_on, laid_row, laid_out}
use Rattle.granfilade.specs.Puts.{IsBelow, IsNext}
use Rattle.granfilade.proofs.Stepping.{steps-before}
use Rattle.granfilade.proofs.Beside.{all_laid}
use Rattle.granfilade.proofs.WellFormedRows.{row_filled}

one_field : IsField (1 ∷ [])
one_field = record { filled = omega arith; full = All-cons (λ p. 0 < p) 1 [] (omega arith) (All-nil (λ p. 0 < p)) }

two_field : IsField (1 ∷ 1 ∷ [])
two_field = record { filled = omega arith; full = All-cons (λ p. 0 < p) 1 (1 ∷ []) (omega arith) (All-cons (λ p. 0 < p) 1 [] (omega arith) (All-nil (λ p. 0 < p))) }

document : IsDocument (1 ∷ 1 ∷ 0 ∷ 1 ∷ 0 ∷ 1 ∷ [])
document = (
  1 ∷ 1 ∷ 0 ∷ 1 ∷ [],
  record {
    field = 1 ∷ [];
    parts = refl;
    account_address = record { node = 1 ∷ 1 ∷ []; user = 1 ∷ []; parts = refl; node_field = two_field; user_field = one_field; short = omega arith };
    document_field = one_field;
    short = omega arith;
  },
)

-- ---- bytes that come before a start

pub row_in_front : (start end : List ℕ) (row : Row (ListView ℕ)) → IsWellFormedRow content_widths (plain_row plain_text row) → end ≡ so_far_on row.first (length row.leaf.items) → IsUpTo end start
    → All (λ (at : ByteAt). IsBefore at.address start) (laid_row row)
row_in_front start end row right is le =
    all_laid (λ a. IsBefore a start) row.first 0 row.leaf.items (λ j lt.
    before_upto (so_far_on row.first j) end start (subst (λ e. IsBefore (so_far_on row.first j) e) (sym is) (steps-before row.first j (length row.leaf.items) (row_filled (plain_row plain_text row) right) (omega (arith, lt)))) le)

pub all_in_front : (start : List ℕ) (rows : List (Row (ListView ℕ))) (i : ℕ) → length rows ≤ i → All (λ (at : ByteAt). IsBefore at.address start) (laid_out (map (plain_row plain_text) (take i rows)))
    → All (λ (at : ByteAt). IsBefore at.address start) (laid_out (map (plain_row plain_text) rows))
all_in_front start rows i le all = subst (λ (rs : List (Row (ListView ℕ))). All (λ (at : ByteAt). IsBefore at.address start) (laid_out (map (plain_row plain_text) rs))) (take_all i rows le) all

-- ---- the next byte of that document

pub next_byte : (start : List ℕ) (number : ℕ) (bytes : List ByteAt) → start ≡ 1 ∷ 1 ∷ 0 ∷ 1 ∷ 0 ∷ 1 ∷ 0 ∷ 1 ∷ number ∷ [] → 0 < number → All (λ (at : ByteAt). IsBefore at.address start) bytes → IsNext start bytes
next_byte start number bytes at counted all = record {
  document = 1 ∷ 1 ∷ 0 ∷ 1 ∷ 0 ∷ 1 ∷ [];
  address = record { number = number; parts = at; counted = counted; document_address = document };
  above = All-weaker (λ (at : ByteAt). IsBefore at.address start) (λ (at : ByteAt). IsBelow at.address (1 ∷ 1 ∷ 0 ∷ 1 ∷ 0 ∷ 1 ∷ []) → IsBefore at.address start) (λ at before below. before) bytes all;
}
