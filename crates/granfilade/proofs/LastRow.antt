-- The last row before a start.
use Rattle.std.proofs.Common.{◌≡◌, ◌≢◌, ℕ, ◌+◌, ◌<◌, Bool, true, false, not, cond, Option, Some, None, List, [], ◌∷◌, ◌++◌, length, refl, arith, ap, ◌∙◌, sym, subst, inl, inr, append_assoc}
use Rattle.std.specs.List.{All, filter}
use Rattle.std.proofs.lemmas.Bool.{cases_lt}
use Rattle.std.proofs.lemmas.List.{same_from_push}
use Rattle.std.proofs.lemmas.List.Elements.{All-nil, All-cons, All-weaker, All-head, All-tail, filter-append}
use Rattle.tumbler.specs.Places.{EndsWell, IsTumbler, IsUpTo, comes_before, sum, difference}
use Rattle.tumbler.proofs.Order.{upto_upto}
use Rattle.tumbler.proofs.Before.{up_to_if_false, false_if_up_to}
use Rattle.tumbler.proofs.Tumblers.{EndsWell-tail, EndsWell-last}
use Rattle.tumbler.proofs.Differences.{sum-difference}
use Rattle.enfilade_core.specs.Axes.{InOrder}
use Rattle.enfilade_core.specs.Edits.{or_else, last_before, shifted}
use Rattle.enfilade_core.specs.Exchange.{rows_past}
use Rattle.enfilade_core.proofs.ExchangeLists.{filter-all, filter-none}
use Rattle.granfilade.specs.Content.{so_far_on}
use Rattle.granfilade.specs.Puts.{IsByteOf, end_of_row}
use Rattle.granfilade.proofs.Documents.{part_of, step-last, address-last}
use Rattle.granfilade.proofs.Putting.{RowOf}

-- ---- it parts the rows

pub record SplitAt (start : List ℕ) (rows : List RowOf) (row : RowOf) : Type 0 where
  pub front : List RowOf
  pub back : List RowOf
  pub is : rows ≡ front ++ row ∷ back
  pub before : All (λ r. comes_before r.first start ≡ true) front
  pub here : comes_before row.first start ≡ true
  pub past : All (λ r. comes_before r.first start ≡ false) back

all_past : (start : List ℕ) (row : RowOf) (rows : List RowOf) → InOrder (row ∷ rows) → comes_before row.first start ≡ false → All (λ r. comes_before r.first start ≡ false) rows
all_past start row rows o e =
    All-weaker (λ r. IsUpTo row.first r.first) (λ r. comes_before r.first start ≡ false) (λ r le. false_if_up_to r.first start (upto_upto start row.first r.first (up_to_if_false row.first start e) le)) rows o.0

or_some : (x : Option RowOf) (r : RowOf) → or_else x r ≡ None → ⊥
or_some (Some f) r e = cc
or_some None r e = cc

none-one : (start : List ℕ) (r : RowOf) (rs : List RowOf) (b : Bool) → comes_before r.first start ≡ b → InOrder (r ∷ rs) → last_before start (r ∷ rs) ≡ None → All (λ r. comes_before r.first start ≡ false) (r ∷ rs)
none-one start r rs true e o none = absurd (or_some (last_before start rs) r (sym (ap (λ t. cond t (or_else (last_before start rs) r) None) e) ∙ none))
none-one start r rs false e o none = All-cons (λ r. comes_before r.first start ≡ false) r rs e (all_past start r rs o e)

none_before : (start : List ℕ) (rows : List RowOf) → InOrder rows → last_before start rows ≡ None → All (λ r. comes_before r.first start ≡ false) rows
none_before start [] o none = All-nil (λ r. comes_before r.first start ≡ false)
none_before start (r ∷ rs) o none = none-one start r rs (comes_before r.first start) refl o none

abbrev or_row : RowOf → Option RowOf → RowOf
or_row d (Some x) = x
or_row d None = d

split-one : (start : List ℕ) (r : RowOf) (rs : List RowOf) (row : RowOf) (b : Bool) → comes_before r.first start ≡ b → (x : Option RowOf) → last_before start rs ≡ x → InOrder (r ∷ rs) → cond b (or_else x r) None ≡ Some row
    → ((f : RowOf) → x ≡ Some f → SplitAt start rs f) → SplitAt start (r ∷ rs) row
split-one start r rs row false e x is o h more = absurd (let other : None ≡ Some row = h in cc)
split-one start r rs row true e (Some f) is o h more =
    let sub = subst (SplitAt start rs) (ap (or_row f) h) (more f refl) in
    record {
      front = r ∷ sub.front;
      back = sub.back;
      is = ap (λ (xs : List RowOf). r ∷ xs) sub.is;
      before = All-cons (λ r. comes_before r.first start ≡ true) r sub.front e sub.before;
      here = sub.here;
      past = sub.past;
    }
split-one start r rs row true e None is o h more =
    let same : r ≡ row = ap (or_row r) h in
    record {
      front = [];
      back = rs;
      is = ap (λ (x : RowOf). x ∷ rs) same;
      before = All-nil (λ r. comes_before r.first start ≡ true);
      here = subst (λ (x : RowOf). comes_before x.first start ≡ true) same e;
      past = none_before start rs o.1 is;
    }

pub split_at_last : (start : List ℕ) (rows : List RowOf) (row : RowOf) → InOrder rows → last_before start rows ≡ Some row → SplitAt start rows row
split_at_last start [] row o h = absurd (let other : None ≡ Some row = h in cc)
split_at_last start (r ∷ rs) row o h = split-one start r rs row (comes_before r.first start) refl (last_before start rs) refl o h (λ f is. split_at_last start rs f o.1 is)

-- ---- what is behind stays where it is

past_stay : (start : List ℕ) (rows : List RowOf) → All (λ r. comes_before r.first start ≡ false) rows → shifted start start rows ≡ rows
past_stay start [] all = refl
past_stay start (r ∷ rs) all =
    let e = All-head (λ r. comes_before r.first start ≡ false) r rs all in
    let same : (cond (comes_before r.first start) r.first (sum start (difference r.first start))) ≡ r.first =
    ap (λ t. cond t r.first (sum start (difference r.first start))) e ∙ sum-difference start r.first (up_to_if_false r.first start e) in
    ap (λ a. record r { first = a } ∷ shifted start start rs) same ∙ ap (λ (xs : List RowOf). r ∷ xs) (past_stay start rs (All-tail (λ r. comes_before r.first start ≡ false) r rs all))

not_all : (start : List ℕ) (b : Bool) (rows : List RowOf) → All (λ r. comes_before r.first start ≡ b) rows → All (λ r. not (comes_before r.first start) ≡ not b) rows
not_all start b rows all = All-weaker (λ r. comes_before r.first start ≡ b) (λ r. not (comes_before r.first start) ≡ not b) (λ r e. ap not e) rows all

pub past_are : (start : List ℕ) (rows : List RowOf) (row : RowOf) (s : SplitAt start rows row) → shifted start start (rows_past start rows) ≡ s.back
past_are start rows row s =
    let test : RowOf → Bool = λ r. not (comes_before r.first start) in
    let rest : rows_past start rows ≡ s.back =
    ap (filter test) s.is ∙ filter-append test s.front (row ∷ s.back) ∙ ap (λ (xs : List RowOf). xs ++ filter test (row ∷ s.back)) (filter-none test s.front (not_all start true s.front s.before))
    ∙ ap (λ t. cond t (row ∷ filter test s.back) (filter test s.back)) (ap not s.here) ∙ filter-all test s.back (not_all start false s.back s.past) in
    ap (shifted start start) rest ∙ past_stay start s.back s.past

-- ---- a row that ends at a content byte's address begins at one

record Last (xs : List ℕ) : Type 0 where
  front : List ℕ
  last : ℕ
  is : xs ≡ front ++ last ∷ []

last_part : (xs : List ℕ) → xs ≢ [] → Last xs
last_part [] some = absurd (some refl)
last_part (x ∷ []) some = record { front = []; last = x; is = refl }
last_part (x ∷ y ∷ xs) some = let more = last_part (y ∷ xs) (λ e. cc) in record { front = x ∷ more.front; last = more.last; is = ap (λ zs. x ∷ zs) more.is }

last_counted : (front : List ℕ) (l : ℕ) → EndsWell (front ++ l ∷ []) → 0 < l
last_counted [] l ends = elim (cases_lt 0 l) [
  | inl lt ↦ lt
  | inr le ↦ absurd (EndsWell-last l ends (omega (arith, le)))
]
last_counted (x ∷ front) l ends = last_counted front l (EndsWell-tail x (front ++ l ∷ []) ends)

pub byte_from_end : (start document : List ℕ) (row : RowOf) → IsByteOf start document → IsTumbler row.first → row.first ≢ [] → end_of_row row ≡ start → IsByteOf row.first document
byte_from_end start document row c t some ends =
    let n = length row.leaf.items in
    let at = last_part row.first some in
    let same = same_from_push at.front (part_of document) (at.last + n) c.number (sym (step-last at.front at.last n) ∙ ap (λ a. so_far_on a n) (sym at.is) ∙ ends ∙ address-last start document c) in
    record {
      number = at.last;
      parts = at.is ∙ ap (λ f. f ++ at.last ∷ []) same.0 ∙ append_assoc document (0 ∷ 1 ∷ []) (at.last ∷ []);
      counted = last_counted at.front at.last (subst EndsWell at.is t.ends);
      document_address = c.document_address;
    }
