-- An exchange in the rows of a bottom node, from slices of them.
use Rattle.std.proofs.Common.{◌≡◌, ℕ, zero, suc, ◌≤◌, ◌<◌, true, false, List, [], ◌∷◌, ◌++◌, length, get_or, take, drop, map, cond, refl, arith, ap, ◌∙◌, sym, subst}
use Rattle.std.specs.List.{All}
use Rattle.std.proofs.lemmas.List.{length-map, length-take-le}
use Rattle.std.proofs.lemmas.List.Elements.{All-cons, All-get_or}
use Rattle.tumbler.specs.Places.{IsUpTo, IsTumbler, Fits, comes_before, sum, difference}
use Rattle.tumbler.proofs.Alls.{All-back, All-unmapped}
use Rattle.tumbler.proofs.Order.{upto_before}
use Rattle.tumbler.proofs.Before.{before_if_true, true_if_before}
use Rattle.tumbler.proofs.SumOrder.{fits_if_tumbler}
use Rattle.enfilade_core.specs.declared.tree.Row.{Row}
use Rattle.enfilade_core.specs.declared.gap.Gap.{Gap}
use Rattle.enfilade_core.specs.Axes.{Widths, InOrder, IsWellFormedRow}
use Rattle.enfilade_core.specs.Plain.{plain_row}
use Rattle.enfilade_core.specs.Edits.{taken_out, shift_coordinate, shift_row, shifted}
use Rattle.enfilade_core.specs.Exchange.{rows_before, rows_past, exchanged}
use Rattle.enfilade_core.proofs.GoneThrough.{mapped_at, item-well_formed}
use Rattle.enfilade_core.proofs.ExchangeLists.{moved_past, NoneBefore, before_later, split-front, split-back, split-between}

-- ---- how many come before a coordinate

pub count-short : {L : Type 0} (at : List ℕ) (rows : List (Row L)) → length (rows_before at rows) ≤ length rows
count-short at [] = omega arith
count-short {L} at (row ∷ rows) = elim (comes_before row.first at) as (λ b. comes_before row.first at ≡ b → length (rows_before at (row ∷ rows)) ≤ length (row ∷ rows)) [
  | true ↦ λ e. rw e (omega (arith, count-short at rows))
  | false ↦ λ e. rw e (omega (arith, count-short at rows))
] refl

pub count-later : {L : Type 0} (from to : List ℕ) (rows : List (Row L)) → IsUpTo from to → length (rows_before from rows) ≤ length (rows_before to rows)
count-later from to [] le = omega arith
count-later {L} from to (row ∷ rows) le = elim (comes_before row.first from) as (λ b. comes_before row.first from ≡ b → length (rows_before from (row ∷ rows)) ≤ length (rows_before to (row ∷ rows))) [
  | true ↦ λ e. rw (e, before_later from to row le e) (omega (arith, count-later from to rows le))
  | false ↦ λ e. elim (comes_before row.first to) as (λ b. comes_before row.first to ≡ b → length (rows_before from (row ∷ rows)) ≤ length (rows_before to (row ∷ rows))) [
    | true ↦ λ f. rw (e, f) (omega (arith, count-later from to rows le))
    | false ↦ λ f. rw (e, f) (count-later from to rows le)
  ] refl
] refl

-- rows in order are parted by a coordinate, and where they are parted tells how many come before it
pub parted-before : {L : Type 0} (at : List ℕ) (rows : List (Row L)) → InOrder rows → (i j : ℕ) (d : Row L) → i ≤ j → j < length rows → comes_before (get_or rows j d).first at ≡ true → comes_before (get_or rows i d).first at ≡ true
parted-before at [] ordered i j d le lt e = absurd (omega (arith, lt))
parted-before at (row ∷ rows) ordered zero zero d le lt e = e
parted-before {L} at (row ∷ rows) ordered zero (suc j) d le lt e =
    let other = get_or rows j d in
    true_if_before row.first at (upto_before row.first other.first at (All-get_or (λ (r : Row L). IsUpTo row.first r.first) rows j d (omega (arith, lt)) ordered.0) (before_if_true other.first at e))
parted-before at (row ∷ rows) ordered (suc i) zero d le lt e = absurd (omega (arith, le))
parted-before at (row ∷ rows) ordered (suc i) (suc j) d le lt e = parted-before at rows ordered.1 i j d (omega (arith, le)) (omega (arith, lt)) e

pub count-parted : {L : Type 0} (at : List ℕ) (rows : List (Row L)) (n : ℕ) → n ≤ length rows → ((k : ℕ) (d : Row L) → 0 ≤ k → k < n → comes_before (get_or rows k d).first at ≡ true)
    → ((k : ℕ) (d : Row L) → n ≤ k → k < length rows → comes_before (get_or rows k d).first at ≡ false) → n ≡ length (rows_before at rows)
count-parted at [] n le before past = omega (arith, le)
count-parted at (row ∷ rows) zero le before past =
    let e : comes_before row.first at ≡ false = past 0 row (omega arith) (omega arith) in
    rw e (count-parted at rows 0 (omega arith) (λ k d a b. absurd (omega (arith, b))) (λ k d a b. past (suc k) d (omega arith) (omega (arith, b))))
count-parted at (row ∷ rows) (suc n) le before past =
    let e : comes_before row.first at ≡ true = before 0 row (omega arith) (omega arith) in
    rw e (ap (λ (m : ℕ). suc m) (count-parted at rows n (omega (arith, le)) (λ k d a b. before (suc k) d (omega arith) (omega (arith, b))) (λ k d a b. past (suc k) d (omega (arith, a)) (omega (arith, b)))))

pub ordered-own : {L : Type 0} (plain : L → L) (rows : List (Row L)) → InOrder (map (plain_row plain) rows) → InOrder rows
ordered-own plain [] h = tt
ordered-own {L} plain (row ∷ rows) h = (All-unmapped (λ (r : Row L). IsUpTo row.first r.first) (plain_row plain) rows h.0, ordered-own plain rows h.1)

before-plain : {L : Type 0} (plain : L → L) (at : List ℕ) (rows : List (Row L)) → rows_before at (map (plain_row plain) rows) ≡ map (plain_row plain) (rows_before at rows)
before-plain plain at [] = refl
before-plain {L} plain at (row ∷ rows) = elim (comes_before row.first at) as (λ b. comes_before row.first at ≡ b → rows_before at (map (plain_row plain) (row ∷ rows)) ≡ map (plain_row plain) (rows_before at (row ∷ rows))) [
  | true ↦ λ e. rw e (ap (λ (r : List (Row L)). plain_row plain row ∷ r) (before-plain plain at rows))
  | false ↦ λ e. rw e (before-plain plain at rows)
] refl

pub count-plain : {L : Type 0} (plain : L → L) (at : List ℕ) (rows : List (Row L)) → length (rows_before at rows) ≡ length (rows_before at (map (plain_row plain) rows))
count-plain plain at rows = sym (length-map (rows_before at rows) (plain_row plain)) ∙ ap length (sym (before-plain plain at rows))

pub map-taken : {A B : Type 0} (f : A → B) (n : ℕ) (xs : List A) → map f (take n xs) ≡ take n (map f xs)
map-taken f zero xs = refl
map-taken f (suc n) [] = refl
map-taken f (suc n) (x ∷ xs) = ap (λ (r : List _). f x ∷ r) (map-taken f n xs)

pub map-dropped : {A B : Type 0} (f : A → B) (n : ℕ) (xs : List A) → map f (drop n xs) ≡ drop n (map f xs)
map-dropped f zero xs = refl
map-dropped f (suc n) [] = refl
map-dropped f (suc n) (x ∷ xs) = map-dropped f n xs

-- ---- the three slices

pub slice-before : {L : Type 0} (plain : L → L) (at : List ℕ) (rows : List (Row L)) (n : ℕ) → InOrder (map (plain_row plain) rows) → n ≡ length (rows_before at rows) → map (plain_row plain) (take n rows) ≡ rows_before at (map (plain_row plain) rows)
slice-before {L} plain at rows n h e =
    map-taken (plain_row plain) n rows
    ∙ ap (λ (k : ℕ). take k (map (plain_row plain) rows)) (e ∙ count-plain plain at rows)
    ∙ split-front at (map (plain_row plain) rows) h

pub slice-past : {L : Type 0} (plain : L → L) (at : List ℕ) (rows : List (Row L)) (n : ℕ) → InOrder (map (plain_row plain) rows) → n ≡ length (rows_before at rows) → map (plain_row plain) (drop n rows) ≡ rows_past at (map (plain_row plain) rows)
slice-past {L} plain at rows n h e =
    map-dropped (plain_row plain) n rows
    ∙ ap (λ (k : ℕ). drop k (map (plain_row plain) rows)) (e ∙ count-plain plain at rows)
    ∙ split-back at (map (plain_row plain) rows) h

pub slice-within : {L : Type 0} (plain : L → L) (from to : List ℕ) (rows : List (Row L)) (n m : ℕ) → InOrder (map (plain_row plain) rows) → IsUpTo from to → n ≡ length (rows_before from rows) → m ≡ length (rows_before to rows)
    → map (plain_row plain) (drop (length (take n rows)) (take m rows)) ≡ taken_out from to (map (plain_row plain) rows)
slice-within {L} plain from to rows n m h le e f =
    let whole = map (plain_row plain) rows in
    let few : length (take n rows) ≡ n = length-take-le n rows (omega (arith, e, count-short from rows)) in
    map-dropped (plain_row plain) (length (take n rows)) (take m rows)
    ∙ ap (drop (length (take n rows))) (map-taken (plain_row plain) m rows)
    ∙ ap (λ (k : ℕ). drop k (take m whole)) (few ∙ e ∙ count-plain plain from rows)
    ∙ ap (λ (k : ℕ). drop (length (rows_before from whole)) (take k whole)) (f ∙ count-plain plain to rows)
    ∙ split-between from to whole h le

-- ---- what moves is behind the gap, and well formed there

pub past_passes : {L : Type 0} (at : List ℕ) (rows : List (Row L)) → NoneBefore at (rows_past at rows)
past_passes at [] = λ k d lt. absurd (omega arith)
past_passes {L} at (row ∷ rows) = elim (comes_before row.first at) as (λ b. comes_before row.first at ≡ b → NoneBefore at (rows_past at (row ∷ rows))) [
  | true ↦ λ e. rw e (past_passes at rows)
  | false ↦ λ e. rw e (All-cons (λ r. comes_before r.first at ≡ false) row (rows_past at rows) e (past_passes at rows))
] refl

pub past-passes : {L : Type 0} (at : List ℕ) (rows more : List (Row L)) → more ≡ rows_past at rows → NoneBefore at more
past-passes at rows more e = subst (NoneBefore at) (sym e) (past_passes at rows)

pub well_formed-moved : {L : Type 0} (w : Widths L) (gap : Gap) (new rows more : List (Row L)) → more ≡ rows_past gap.to rows → All (IsWellFormedRow w) (exchanged gap new rows) → All (IsWellFormedRow w) (shifted gap.to gap.onto more)
well_formed-moved {L} w gap new rows more e h =
    subst (λ (r : List (Row L)). All (IsWellFormedRow w) (shifted gap.to gap.onto r)) (sym e)
    (All-back (IsWellFormedRow w) (rows_before gap.from rows ++ new) (moved_past gap rows) h)

-- one row behind the gap
pub past-at : {L : Type 0} (plain : L → L) (at : List ℕ) (rows : List (Row L)) (i : ℕ) (row : Row L) → i < length rows → row ≡ get_or rows i row → NoneBefore at (map (plain_row plain) rows) → comes_before row.first at ≡ false
past-at plain at rows i row lt is h =
    let m = mapped_at (plain_row plain) rows i row lt is in
    item-well_formed (λ r. comes_before r.first at ≡ false) (map (plain_row plain) rows) i (plain_row plain row) m.short m.at h

pub well_formed-at : {L : Type 0} (w : Widths L) (plain : L → L) (to onto : List ℕ) (rows : List (Row L)) (i : ℕ) (row : Row L) → i < length rows → row ≡ get_or rows i row → All (IsWellFormedRow w) (shifted to onto (map (plain_row plain) rows)) → IsTumbler (shift_coordinate to onto row.first)
well_formed-at w plain to onto rows i row lt is h =
    let m = mapped_at (plain_row plain) rows i row lt is in
    let n = mapped_at (shift_row to onto) (map (plain_row plain) rows) i (plain_row plain row) m.short m.at in
    (item-well_formed (IsWellFormedRow w) (shifted to onto (map (plain_row plain) rows)) i (shift_row to onto (plain_row plain row)) n.short n.at h).first_coordinate

pub shift-fits : (to onto coordinate d : List ℕ) → comes_before coordinate to ≡ false → IsTumbler (shift_coordinate to onto coordinate) → d ≡ difference coordinate to → Fits onto d
shift-fits to onto coordinate d e t is =
    subst (Fits onto) (sym is) (fits_if_tumbler onto (difference coordinate to) (subst IsTumbler (ap (λ b. cond b coordinate (sum onto (difference coordinate to))) e) t))

pub shift-is : (to onto coordinate : List ℕ) → comes_before coordinate to ≡ false → shift_coordinate to onto coordinate ≡ sum onto (difference coordinate to)
shift-is to onto coordinate e = ap (λ b. cond b coordinate (sum onto (difference coordinate to))) e

-- the lists that come one from another
pub bottom-made : {L : Type 0} (gap : Gap) (new rows none first second third before past : List (Row L)) → none ≡ [] → first ≡ none ++ before → second ≡ first ++ new → third ≡ second ++ shifted gap.to gap.onto past
    → before ≡ rows_before gap.from rows → past ≡ rows_past gap.to rows → third ≡ exchanged gap new rows
bottom-made {L} gap new rows none first second third before past e0 e1 e2 e3 b p =
    e3 ∙ ap (λ (r : List (Row L)). r ++ shifted gap.to gap.onto past) (e2 ∙ ap (λ (r : List (Row L)). r ++ new) (e1 ∙ ap (λ (r : List (Row L)). r ++ before) e0 ∙ b))
    ∙ ap (λ (r : List (Row L)). (rows_before gap.from rows ++ new) ++ shifted gap.to gap.onto r) p
