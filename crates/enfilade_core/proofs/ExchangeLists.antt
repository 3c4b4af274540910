-- An exchange in rows that stand in a row: which part does what.
use Rattle.std.proofs.Common.{◌≡◌, ℕ, Bool, true, false, not, List, [], ◌∷◌, ◌++◌, length, take, drop, refl, ap, ◌∙◌, sym, append_assoc, append-nil}
use Rattle.std.specs.List.{All, filter}
use Rattle.std.proofs.lemmas.List.{map-append}
use Rattle.std.proofs.lemmas.List.Elements.{filter-append, All-head, All-tail, All-cons, All-weaker}
use Rattle.tumbler.specs.Places.{IsUpTo, comes_before}
use Rattle.tumbler.proofs.Alls.{All-front, All-back}
use Rattle.tumbler.proofs.Order.{upto_upto, before_upto}
use Rattle.tumbler.proofs.Before.{before_if_true, true_if_before, up_to_if_false, false_if_up_to}
use Rattle.enfilade_core.specs.declared.tree.Row.{Row}
use Rattle.enfilade_core.specs.declared.gap.Gap.{Gap}
use Rattle.enfilade_core.specs.Axes.{Widths, InOrder, IsWellFormedRow, IsWellFormedRows}
use Rattle.enfilade_core.specs.Edits.{is_within, taken_out, shift_row, shifted}
use Rattle.enfilade_core.specs.Exchange.{rows_before, rows_past, exchanged}
use Rattle.enfilade_core.proofs.Orders.{InOrder-front, InOrder-back}

-- ---- filters

pub filter-all : {X : Type 0} (p : X → Bool) (xs : List X) → All (λ x. p x ≡ true) xs → filter p xs ≡ xs
filter-all p [] h = refl
filter-all {X} p (x ∷ xs) h =
    let P : X → Type 0 = λ y. p y ≡ true in
    rw (All-head P x xs h) (ap (λ (r : List X). x ∷ r) (filter-all p xs (All-tail P x xs h)))

pub filter-none : {X : Type 0} (p : X → Bool) (xs : List X) → All (λ x. p x ≡ false) xs → filter p xs ≡ []
filter-none p [] h = refl
filter-none {X} p (x ∷ xs) h =
    let P : X → Type 0 = λ y. p y ≡ false in
    rw (All-head P x xs h) (filter-none p xs (All-tail P x xs h))

-- ---- rows on one side of a coordinate

abbrev pub AllBefore : {L : Type 0} → List ℕ → List (Row L) → Type 0
AllBefore at rows = All (λ row. comes_before row.first at ≡ true) rows

abbrev pub NoneBefore : {L : Type 0} → List ℕ → List (Row L) → Type 0
NoneBefore at rows = All (λ row. comes_before row.first at ≡ false) rows

not_true : (b : Bool) → b ≡ true → not b ≡ false
not_true b e = rw e refl

not_false : (b : Bool) → b ≡ false → not b ≡ true
not_false b e = rw e refl

pub before-all : {L : Type 0} (at : List ℕ) (rows : List (Row L)) → AllBefore at rows → rows_before at rows ≡ rows
before-all at rows h = filter-all (λ row. comes_before row.first at) rows h

pub before-none : {L : Type 0} (at : List ℕ) (rows : List (Row L)) → NoneBefore at rows → rows_before at rows ≡ []
before-none at rows h = filter-none (λ row. comes_before row.first at) rows h

pub past-all : {L : Type 0} (at : List ℕ) (rows : List (Row L)) → NoneBefore at rows → rows_past at rows ≡ rows
past-all at rows h = filter-all (λ row. not (comes_before row.first at)) rows (All-weaker (λ row. comes_before row.first at ≡ false) (λ row. not (comes_before row.first at) ≡ true) (λ row e. not_false (comes_before row.first at) e) rows h)

pub past-none : {L : Type 0} (at : List ℕ) (rows : List (Row L)) → AllBefore at rows → rows_past at rows ≡ []
past-none at rows h = filter-none (λ row. not (comes_before row.first at)) rows (All-weaker (λ row. comes_before row.first at ≡ true) (λ row. not (comes_before row.first at) ≡ false) (λ row e. not_true (comes_before row.first at) e) rows h)

-- what is before a coordinate is before a later one
pub before_later : {L : Type 0} (from to : List ℕ) (row : Row L) → IsUpTo from to → comes_before row.first from ≡ true → comes_before row.first to ≡ true
before_later from to row le e = true_if_before row.first to (before_upto row.first from to (before_if_true row.first from e) le)

past_earlier : {L : Type 0} (from to : List ℕ) (row : Row L) → IsUpTo from to → comes_before row.first to ≡ false → comes_before row.first from ≡ false
past_earlier from to row le e = false_if_up_to row.first from (upto_upto from to row.first le (up_to_if_false row.first to e))

pub all_before_later : {L : Type 0} (from to : List ℕ) (rows : List (Row L)) → IsUpTo from to → AllBefore from rows → AllBefore to rows
all_before_later from to rows le h = All-weaker (λ row. comes_before row.first from ≡ true) (λ row. comes_before row.first to ≡ true) (λ row e. before_later from to row le e) rows h

pub none_before_earlier : {L : Type 0} (from to : List ℕ) (rows : List (Row L)) → IsUpTo from to → NoneBefore to rows → NoneBefore from rows
none_before_earlier from to rows le h = All-weaker (λ row. comes_before row.first to ≡ false) (λ row. comes_before row.first from ≡ false) (λ row e. past_earlier from to row le e) rows h

not_within_past : {L : Type 0} (from to : List ℕ) (row : Row L) (a : Bool) → comes_before row.first from ≡ a → comes_before row.first to ≡ false → is_within from to row ≡ false
not_within_past from to row false e f = rw (e, f) refl
not_within_past from to row true e f = rw e refl

not_within_before : {L : Type 0} (from to : List ℕ) (row : Row L) → comes_before row.first from ≡ true → is_within from to row ≡ false
not_within_before from to row e = rw e refl

within_past_from : {L : Type 0} (from to : List ℕ) (row : Row L) (a b : Bool) → comes_before row.first from ≡ a → comes_before row.first to ≡ b → is_within from to row ≡ true → (a ≡ false) × (b ≡ true)
within_past_from from to row false true e f h = (refl, refl)
within_past_from from to row true b e f h = absurd (let h2 : is_within from to row ≡ false = not_within_before from to row e in cc)
within_past_from from to row false false e f h = absurd (let h2 : is_within from to row ≡ false = not_within_past from to row false e f in cc)

pub taken-before : {L : Type 0} (from to : List ℕ) (rows : List (Row L)) → AllBefore from rows → taken_out from to rows ≡ []
taken-before from to rows h = filter-none (is_within from to) rows (All-weaker (λ row. comes_before row.first from ≡ true) (λ row. is_within from to row ≡ false) (λ row e. not_within_before from to row e) rows h)

pub taken-past : {L : Type 0} (from to : List ℕ) (rows : List (Row L)) → NoneBefore to rows → taken_out from to rows ≡ []
taken-past from to rows h = filter-none (is_within from to) rows (All-weaker (λ row. comes_before row.first to ≡ false) (λ row. is_within from to row ≡ false) (λ row e. not_within_past from to row (comes_before row.first from) refl e) rows h)

pub taken-append : {L : Type 0} (from to : List ℕ) (rows more : List (Row L)) → taken_out from to (rows ++ more) ≡ taken_out from to rows ++ taken_out from to more
taken-append from to rows more = filter-append (is_within from to) rows more

-- ---- what moves

abbrev pub moved_past : {L : Type 0} → Gap → List (Row L) → List (Row L)
moved_past gap rows = shifted gap.to gap.onto (rows_past gap.to rows)

-- with no new rows
pub exchanged-none : {L : Type 0} (gap : Gap) (rows : List (Row L)) → exchanged gap [] rows ≡ rows_before gap.from rows ++ moved_past gap rows
exchanged-none {L} gap rows = ap (λ (r : List (Row L)). r ++ moved_past gap rows) (append-nil (rows_before gap.from rows))

moved_past-append : {L : Type 0} (gap : Gap) (rows more : List (Row L)) → moved_past gap (rows ++ more) ≡ moved_past gap rows ++ moved_past gap more
moved_past-append gap rows more =
    ap (shifted gap.to gap.onto) (filter-append (λ row. not (comes_before row.first gap.to)) rows more)
    ∙ map-append (shift_row gap.to gap.onto) (rows_past gap.to rows) (rows_past gap.to more)

-- ---- an exchange in rows and others behind them

-- rows in front of the gap stay
pub exchanged-front : {L : Type 0} (gap : Gap) (new rows more : List (Row L)) → IsUpTo gap.from gap.to → AllBefore gap.from rows → exchanged gap new (rows ++ more) ≡ rows ++ exchanged gap new more
exchanged-front {L} gap new rows more le h =
    let before : rows_before gap.from (rows ++ more) ≡ rows ++ rows_before gap.from more =
    filter-append (λ row. comes_before row.first gap.from) rows more ∙ ap (λ (r : List (Row L)). r ++ rows_before gap.from more) (before-all gap.from rows h) in
    let past : rows_past gap.to (rows ++ more) ≡ rows_past gap.to more =
    filter-append (λ row. not (comes_before row.first gap.to)) rows more ∙ ap (λ (r : List (Row L)). r ++ rows_past gap.to more) (past-none gap.to rows (all_before_later gap.from gap.to rows le h)) in
    ap (λ (r : List (Row L)). (r ++ new) ++ moved_past gap (rows ++ more)) before
    ∙ ap (λ (r : List (Row L)). ((rows ++ rows_before gap.from more) ++ new) ++ shifted gap.to gap.onto r) past
    ∙ ap (λ (r : List (Row L)). r ++ moved_past gap more) (append_assoc rows (rows_before gap.from more) new)
    ∙ append_assoc rows (rows_before gap.from more ++ new) (moved_past gap more)

-- rows behind the border of the gap: the new ones stand in front of them
pub exchanged-back : {L : Type 0} (gap : Gap) (new rows more : List (Row L)) → NoneBefore gap.from more → exchanged gap new (rows ++ more) ≡ exchanged gap new rows ++ exchanged gap [] more
exchanged-back {L} gap new rows more h =
    let none = before-none gap.from more h in
    let before : rows_before gap.from (rows ++ more) ≡ rows_before gap.from rows =
    filter-append (λ row. comes_before row.first gap.from) rows more ∙ ap (λ (r : List (Row L)). rows_before gap.from rows ++ r) none ∙ append-nil (rows_before gap.from rows) in
    ap (λ (r : List (Row L)). (r ++ new) ++ moved_past gap (rows ++ more)) before
    ∙ ap (λ (r : List (Row L)). (rows_before gap.from rows ++ new) ++ r) (moved_past-append gap rows more)
    ∙ sym (append_assoc (rows_before gap.from rows ++ new) (moved_past gap rows) (moved_past gap more))
    ∙ ap (λ (r : List (Row L)). exchanged gap new rows ++ r) (sym (exchanged-none gap more ∙ ap (λ (r : List (Row L)). r ++ moved_past gap more) none))

-- ---- rows that all stand on one side

pub exchanged-before : {L : Type 0} (gap : Gap) (rows : List (Row L)) → IsUpTo gap.from gap.to → AllBefore gap.from rows → exchanged gap [] rows ≡ rows
exchanged-before {L} gap rows le h =
    exchanged-none gap rows ∙ ap (λ (r : List (Row L)). rows_before gap.from rows ++ shifted gap.to gap.onto r) (past-none gap.to rows (all_before_later gap.from gap.to rows le h))
    ∙ append-nil (rows_before gap.from rows) ∙ before-all gap.from rows h

pub exchanged-past : {L : Type 0} (gap : Gap) (rows : List (Row L)) → IsUpTo gap.from gap.to → NoneBefore gap.to rows → exchanged gap [] rows ≡ shifted gap.to gap.onto rows
exchanged-past {L} gap rows le h =
    exchanged-none gap rows ∙ ap (λ (r : List (Row L)). r ++ moved_past gap rows) (before-none gap.from rows (none_before_earlier gap.from gap.to rows le h))
    ∙ ap (shifted gap.to gap.onto) (past-all gap.to rows h)

abbrev pub AllWithin : {L : Type 0} → Gap → List (Row L) → Type 0
AllWithin gap rows = All (λ row. is_within gap.from gap.to row ≡ true) rows

pub exchanged-within : {L : Type 0} (gap : Gap) (rows : List (Row L)) → AllWithin gap rows → exchanged gap [] rows ≡ []
exchanged-within {L} gap rows h =
    let sides : (row : Row L) → is_within gap.from gap.to row ≡ true → (comes_before row.first gap.from ≡ false) × (comes_before row.first gap.to ≡ true) =
    λ row e. within_past_from gap.from gap.to row (comes_before row.first gap.from) (comes_before row.first gap.to) refl refl e in
    let P : Row L → Type 0 = λ row. is_within gap.from gap.to row ≡ true in
    exchanged-none gap rows ∙ ap (λ (r : List (Row L)). r ++ moved_past gap rows) (before-none gap.from rows (All-weaker P (λ row. comes_before row.first gap.from ≡ false) (λ row e. (sides row e).0) rows h))
    ∙ ap (shifted gap.to gap.onto) (past-none gap.to rows (All-weaker P (λ row. comes_before row.first gap.to ≡ true) (λ row e. (sides row e).1) rows h))

pub taken-within : {L : Type 0} (gap : Gap) (rows : List (Row L)) → AllWithin gap rows → taken_out gap.from gap.to rows ≡ rows
taken-within gap rows h = filter-all (is_within gap.from gap.to) rows h

-- ---- well formed rows and their parts

pub well_formed_rows-front : {L : Type 0} (w : Widths L) (rows more : List (Row L)) → IsWellFormedRows w (rows ++ more) → IsWellFormedRows w rows
well_formed_rows-front w rows more h = record { each = All-front (IsWellFormedRow w) rows more h.each; ordered = InOrder-front rows more h.ordered }

pub well_formed_rows-back : {L : Type 0} (w : Widths L) (rows more : List (Row L)) → IsWellFormedRows w (rows ++ more) → IsWellFormedRows w more
well_formed_rows-back w rows more h = record { each = All-back (IsWellFormedRow w) rows more h.each; ordered = InOrder-back rows more h.ordered }

-- ---- rows in order, split at a coordinate

pub none_before-behind : {L : Type 0} (at : List ℕ) (row : Row L) (rows : List (Row L)) → InOrder (row ∷ rows) → comes_before row.first at ≡ false → NoneBefore at (row ∷ rows)
none_before-behind {L} at row rows h e =
    All-cons (λ r. comes_before r.first at ≡ false) row rows e
    (All-weaker (λ r. IsUpTo row.first r.first) (λ r. comes_before r.first at ≡ false) (λ r le. false_if_up_to r.first at (upto_upto at row.first r.first (up_to_if_false row.first at e) le)) rows h.0)

-- as many as come before a coordinate stand in front, the others behind
pub split-front : {L : Type 0} (at : List ℕ) (rows : List (Row L)) → InOrder rows → take (length (rows_before at rows)) rows ≡ rows_before at rows
split-front at [] h = refl
split-front {L} at (row ∷ rows) h = elim (comes_before row.first at) as (λ b. comes_before row.first at ≡ b → take (length (rows_before at (row ∷ rows))) (row ∷ rows) ≡ rows_before at (row ∷ rows)) [
  | true ↦ λ e. rw e (ap (λ (r : List (Row L)). row ∷ r) (split-front at rows h.1))
  | false ↦ λ e. rw (before-none at (row ∷ rows) (none_before-behind at row rows h e)) refl
] refl

pub split-back : {L : Type 0} (at : List ℕ) (rows : List (Row L)) → InOrder rows → drop (length (rows_before at rows)) rows ≡ rows_past at rows
split-back at [] h = refl
split-back {L} at (row ∷ rows) h = elim (comes_before row.first at) as (λ b. comes_before row.first at ≡ b → drop (length (rows_before at (row ∷ rows))) (row ∷ rows) ≡ rows_past at (row ∷ rows)) [
  | true ↦ λ e. rw e (split-back at rows h.1)
  | false ↦ λ e.
      let none = none_before-behind at row rows h e in
      rw (before-none at (row ∷ rows) none) (sym (past-all at (row ∷ rows) none))
] refl

-- the rows of the gap stand between the two numbers
pub split-between : {L : Type 0} (from to : List ℕ) (rows : List (Row L)) → InOrder rows → IsUpTo from to → drop (length (rows_before from rows)) (take (length (rows_before to rows)) rows) ≡ taken_out from to rows
split-between from to [] h le = refl
split-between {L} from to (row ∷ rows) h le = elim (comes_before row.first to) as (λ b. comes_before row.first to ≡ b → drop (length (rows_before from (row ∷ rows))) (take (length (rows_before to (row ∷ rows))) (row ∷ rows)) ≡ taken_out from to (row ∷ rows)) [
  | true ↦ λ f. elim (comes_before row.first from) as (λ b. comes_before row.first from ≡ b → drop (length (rows_before from (row ∷ rows))) (take (length (rows_before to (row ∷ rows))) (row ∷ rows)) ≡ taken_out from to (row ∷ rows)) [
    | true ↦ λ e. rw (e, f) (split-between from to rows h.1 le)
    | false ↦ λ e.
        let none = none_before-behind from row rows h e in
        let rest = All-tail (λ r. comes_before r.first from ≡ false) row rows none in
        let inner : take (length (rows_before to rows)) rows ≡ taken_out from to rows =
        sym (ap (λ (r : List (Row L)). drop (length r) (take (length (rows_before to rows)) rows)) (before-none from rows rest)) ∙ split-between from to rows h.1 le in
        rw (before-none from (row ∷ rows) none, e, f) (ap (λ (r : List (Row L)). row ∷ r) inner)
  ] refl
  | false ↦ λ f.
      let none = none_before-behind to row rows h f in
      let early = none_before_earlier from to (row ∷ rows) le none in
      rw (before-none to (row ∷ rows) none, before-none from (row ∷ rows) early, taken-past from to (row ∷ rows) none) refl
] refl
