-- A splice, a cut and a shift are exchanges.
use Rattle.std.proofs.Common.{◌≡◌, ℕ, Bool, true, false, not, List, [], ◌∷◌, ◌++◌, refl, ap, ◌∙◌, sym, subst, inl, inr}
use Rattle.std.specs.List.{All, filter}
use Rattle.std.proofs.lemmas.List.{append-nil, map-append}
use Rattle.std.proofs.lemmas.List.Elements.{All-head, All-tail, All-nil, All-cons, All-weaker, All-filter, All-append}
use Rattle.tumbler.specs.Places.{IsUpTo, IsBefore, comes_before, sum, difference}
use Rattle.tumbler.proofs.Order.{upto_upto, upto_or_before, upto_if_before, before_upto}
use Rattle.tumbler.proofs.Before.{true_if_before, false_if_up_to}
use Rattle.tumbler.proofs.Differences.{sum-difference}
use Rattle.tumbler.proofs.Sums.{sum-upto}
use Rattle.tumbler.proofs.SumOrder.{EndsWell-difference}
use Rattle.enfilade_core.specs.declared.tree.Row.{Row}
use Rattle.enfilade_core.specs.declared.gap.Gap.{Gap}
use Rattle.enfilade_core.specs.Axes.{Widths, InOrder, IsWellFormedRow, IsWellFormedRows}
use Rattle.enfilade_core.specs.Edits.{put_before, is_within, taken_out, left_by, shift_row, shifted}
use Rattle.enfilade_core.specs.Exchange.{rows_before, rows_past, exchanged}
use Rattle.enfilade_core.specs.Laws.{ExchangeIsThreeEdits}

-- ---- rows that are all at or past a coordinate

none_before : {L : Type 0} (at : List ℕ) (rows : List (Row L)) → All (λ r. IsUpTo at r.first) rows → rows_before at rows ≡ []
none_before at [] h = refl
none_before at (row ∷ rows) h = rw (false_if_up_to row.first at (All-head (λ r. IsUpTo at r.first) row rows h)) (none_before at rows (All-tail (λ r. IsUpTo at r.first) row rows h))

all_past : {L : Type 0} (at : List ℕ) (rows : List (Row L)) → All (λ r. IsUpTo at r.first) rows → rows_past at rows ≡ rows
all_past at [] h = refl
all_past at (row ∷ rows) h = rw (false_if_up_to row.first at (All-head (λ r. IsUpTo at r.first) row rows h)) (ap (λ (rs : List (Row _)). row ∷ rs) (all_past at rows (All-tail (λ r. IsUpTo at r.first) row rows h)))

pub all_from : {L : Type 0} (at : List ℕ) (row : Row L) (rows : List (Row L)) → IsUpTo at row.first → InOrder (row ∷ rows) → All (λ r. IsUpTo at r.first) (row ∷ rows)
all_from at row rows le h =
    All-cons (λ r. IsUpTo at r.first) row rows le (All-weaker (λ r. IsUpTo row.first r.first) (λ r. IsUpTo at r.first) (λ r k. upto_upto at row.first r.first le k) rows h.0)

-- rows at or past a coordinate stay where it stays
shifted-same : {L : Type 0} (at : List ℕ) (rows : List (Row L)) → All (λ r. IsUpTo at r.first) rows → shifted at at rows ≡ rows
shifted-same at [] h = refl
shifted-same at (row ∷ rows) h =
    let le = All-head (λ r. IsUpTo at r.first) row rows h in
    rw (false_if_up_to row.first at le) (
    ap (λ (x : List ℕ). record row { first = x } ∷ shifted at at rows) (sum-difference at row.first le)
    ∙ ap (λ (rs : List (Row _)). row ∷ rs) (shifted-same at rows (All-tail (λ r. IsUpTo at r.first) row rows h)))

pub past_are : {L : Type 0} (at : List ℕ) (rows : List (Row L)) → InOrder rows → All (λ r. IsUpTo at r.first) (rows_past at rows)
past_are at [] h = All-nil (λ r. IsUpTo at r.first)
past_are at (row ∷ rows) h = elim (upto_or_before at row.first) [
  | inl le ↦ subst (All (λ r. IsUpTo at r.first)) (sym (all_past at (row ∷ rows) (all_from at row rows le h))) (all_from at row rows le h)
  | inr lt ↦ rw (true_if_before row.first at lt) (past_are at rows h.1)
]

-- ---- a splice

put_past : {L : Type 0} (at : List ℕ) (new rows : List (Row L)) → All (λ r. IsUpTo at r.first) rows → put_before at new rows ≡ new ++ rows
put_past at new [] h = sym (append-nil new)
put_past at new (row ∷ rows) h = rw (false_if_up_to row.first at (All-head (λ r. IsUpTo at r.first) row rows h)) refl

pub put_is : {L : Type 0} (at : List ℕ) (new rows : List (Row L)) → InOrder rows → put_before at new rows ≡ exchanged (record { from = at; to = at; onto = at }) new rows
put_is at new [] h = sym (append-nil new)
put_is at new (row ∷ rows) h = elim (upto_or_before at row.first) [
  | inl le ↦
      let all = all_from at row rows le h in
      put_past at new (row ∷ rows) all
      ∙ sym (ap (λ (rs : List (Row _)). rs ++ new ++ shifted at at (rows_past at (row ∷ rows))) (none_before at (row ∷ rows) all)
      ∙ ap (λ (rs : List (Row _)). new ++ shifted at at rs) (all_past at (row ∷ rows) all)
      ∙ ap (λ (rs : List (Row _)). new ++ rs) (shifted-same at (row ∷ rows) all))
  | inr lt ↦ rw (true_if_before row.first at lt) (ap (λ (rs : List (Row _)). row ∷ rs) (put_is at new rows h.1))
]

-- ---- a shift

exchanged-none : {L : Type 0} (gap : Gap) (rows : List (Row L)) → exchanged gap [] rows ≡ rows_before gap.from rows ++ shifted gap.to gap.onto (rows_past gap.to rows)
exchanged-none {L} gap rows = ap (λ (rs : List (Row L)). rs ++ shifted gap.to gap.onto (rows_past gap.to rows)) (append-nil (rows_before gap.from rows))

shift_is-plain : {L : Type 0} (from to : List ℕ) (rows : List (Row L)) → InOrder rows → shifted from to rows ≡ rows_before from rows ++ shifted from to (rows_past from rows)
shift_is-plain from to [] h = refl
shift_is-plain {L} from to (row ∷ rows) h = elim (upto_or_before from row.first) [
  | inl le ↦
      let all = all_from from row rows le h in
      sym (ap (λ (rs : List (Row _)). rs ++ shifted from to (rows_past from (row ∷ rows))) (none_before from (row ∷ rows) all)
      ∙ ap (shifted from to) (all_past from (row ∷ rows) all))
  | inr lt ↦ rw (true_if_before row.first from lt) (ap (λ (rs : List (Row L)). row ∷ rs) (shift_is-plain from to rows h.1))
]

pub shift_is : {L : Type 0} (from to : List ℕ) (rows : List (Row L)) → InOrder rows → shifted from to rows ≡ exchanged (record { from = from; to = from; onto = to }) [] rows
shift_is from to rows h = shift_is-plain from to rows h ∙ sym (exchanged-none (record { from = from; to = from; onto = to }) rows)

-- ---- a cut

left_past : {L : Type 0} (from to : List ℕ) (rows : List (Row L)) → All (λ r. IsUpTo from r.first) rows → left_by from to rows ≡ rows_past to rows
left_past from to [] h = refl
left_past from to (row ∷ rows) h =
    let rest = left_past from to rows (All-tail (λ r. IsUpTo from r.first) row rows h) in
    rw (false_if_up_to row.first from (All-head (λ r. IsUpTo from r.first) row rows h), rest) refl

cut_is-plain : {L : Type 0} (from to : List ℕ) (rows : List (Row L)) → IsUpTo from to → InOrder rows → left_by from to rows ≡ rows_before from rows ++ rows_past to rows
cut_is-plain from to [] le h = refl
cut_is-plain from to (row ∷ rows) le h = elim (upto_or_before from row.first) [
  | inl past ↦
      let all = all_from from row rows past h in
      left_past from to (row ∷ rows) all ∙ sym (ap (λ (rs : List (Row _)). rs ++ rows_past to (row ∷ rows)) (none_before from (row ∷ rows) all))
  | inr lt ↦
      let early : IsBefore row.first to = before_upto row.first from to lt le in
      rw (true_if_before row.first from lt, true_if_before row.first to early) (ap (λ (rs : List (Row _)). row ∷ rs) (cut_is-plain from to rows le h.1))
]

pub cut_is : {L : Type 0} (from to : List ℕ) (rows : List (Row L)) → IsUpTo from to → InOrder rows → left_by from to rows ≡ exchanged (record { from = from; to = to; onto = to }) [] rows
cut_is {L} from to rows le h =
    cut_is-plain from to rows le h
    ∙ ap (λ (rs : List (Row L)). rows_before from rows ++ rs) (sym (shifted-same to (rows_past to rows) (past_are to rows h)))
    ∙ sym (exchanged-none (record { from = from; to = to; onto = to }) rows)

-- nothing stands between a coordinate and one before it
pub cut_none : {L : Type 0} (from to : List ℕ) (rows : List (Row L)) → IsBefore to from → (left_by from to rows ≡ rows) × (taken_out from to rows ≡ [])
cut_none from to [] lt = (refl, refl)
cut_none from to (row ∷ rows) lt =
    let rest = cut_none from to rows lt in
    elim (upto_or_before from row.first) [
      | inl past ↦
          let late : IsUpTo to row.first = upto_upto to from row.first (upto_if_before to from lt) past in (
            rw (false_if_up_to row.first from past, false_if_up_to row.first to late) (ap (λ (rs : List (Row _)). row ∷ rs) rest.0),
            rw (false_if_up_to row.first from past, false_if_up_to row.first to late) rest.1,
          )
      | inr early ↦ (
        rw (true_if_before row.first from early) (ap (λ (rs : List (Row _)). row ∷ rs) rest.0),
        rw (true_if_before row.first from early) rest.1,
      )
    ]

-- ---- that what an edit leaves is well formed

kept_in_order : {L : Type 0} (test : Row L → Bool) (b : Bool) (row : Row L) (rows : List (Row L)) → test row ≡ b → All (λ r. IsUpTo row.first r.first) rows → InOrder (filter test rows) → InOrder (filter test (row ∷ rows))
kept_in_order test true row rows is le h = rw is (All-filter test (λ r. IsUpTo row.first r.first) rows le, h)
kept_in_order test false row rows is le h = rw is h

InOrder-filter : {L : Type 0} (test : Row L → Bool) (rows : List (Row L)) → InOrder rows → InOrder (filter test rows)
InOrder-filter test [] h = tt
InOrder-filter test (row ∷ rows) h = kept_in_order test (test row) row rows refl h.0 (InOrder-filter test rows h.1)

pub cut_well_formed : {L : Type 0} (w : Widths L) (from to : List ℕ) (rows : List (Row L)) → IsUpTo from to → All (IsWellFormedRow w) rows → InOrder rows → IsWellFormedRows w (exchanged (record { from = from; to = to; onto = to }) [] rows)
cut_well_formed w from to rows le well_formed h =
    let test : Row _ → Bool = λ row. not (is_within from to row) in
    subst (IsWellFormedRows w) (cut_is from to rows le h) record { each = All-filter test (IsWellFormedRow w) rows well_formed; ordered = InOrder-filter test rows h }

pub splice_well_formed : {L : Type 0} (w : Widths L) (at : List ℕ) (new rows : List (Row L)) → All (IsWellFormedRow w) rows → All (IsWellFormedRow w) new → InOrder rows → InOrder (put_before at new rows) → IsWellFormedRows w (exchanged (record { from = at; to = at; onto = at }) new rows)
splice_well_formed w at new rows well_formed more h ordered = subst (IsWellFormedRows w) (put_is at new rows h) record { each = put rows well_formed; ordered = ordered }
  where
    put : (rows : List (Row _)) → All (IsWellFormedRow w) rows → All (IsWellFormedRow w) (put_before at new rows)
    put [] each = more
    put (row ∷ rows) each = elim (upto_or_before at row.first) [
      | inl le ↦ rw (false_if_up_to row.first at le) (All-append (IsWellFormedRow w) new (row ∷ rows) more each)
      | inr lt ↦ rw (true_if_before row.first at lt) (All-cons (IsWellFormedRow w) row (put_before at new rows) (All-head (IsWellFormedRow w) row rows each) (put rows (All-tail (IsWellFormedRow w) row rows each)))
    ]

-- ---- an exchange as a cut, a shift and a splice

before_stay : {L : Type 0} (gap : Gap) (rows : List (Row L)) → IsUpTo gap.from gap.to → shifted gap.to gap.onto (rows_before gap.from rows) ≡ rows_before gap.from rows
before_stay gap [] le = refl
before_stay {L} gap (row ∷ rows) le = elim (upto_or_before gap.from row.first) [
  | inl past ↦ rw (false_if_up_to row.first gap.from past) (before_stay gap rows le)
  | inr lt ↦ rw (true_if_before row.first gap.from lt, true_if_before row.first gap.to (before_upto row.first gap.from gap.to lt le)) (ap (λ (rs : List (Row L)). row ∷ rs) (before_stay gap rows le))
]

put_behind : {L : Type 0} (at : List ℕ) (new rows more : List (Row L)) → All (λ r. IsUpTo at r.first) more → put_before at new (rows_before at rows ++ more) ≡ rows_before at rows ++ new ++ more
put_behind at new [] more h = put_past at new more h
put_behind {L} at new (row ∷ rows) more h = elim (upto_or_before at row.first) [
  | inl past ↦ rw (false_if_up_to row.first at past) (put_behind at new rows more h)
  | inr lt ↦ rw (true_if_before row.first at lt, true_if_before row.first at lt) (ap (λ (rs : List (Row L)). row ∷ rs) (put_behind at new rows more h))
]

moved_past : {L : Type 0} (w : Widths L) (gap : Gap) (rows : List (Row L)) → IsUpTo gap.from gap.onto → All (IsWellFormedRow w) rows → All (λ r. IsUpTo gap.to r.first) rows → All (λ r. IsUpTo gap.from r.first) (shifted gap.to gap.onto rows)
moved_past w gap [] le well_formed h = All-nil (λ r. IsUpTo gap.from r.first)
moved_past w gap (row ∷ rows) le well_formed h =
    let past = All-head (λ r. IsUpTo gap.to r.first) row rows h in
    let ends = EndsWell-difference row.first gap.to (All-head (IsWellFormedRow w) row rows well_formed).first_coordinate.ends past in
    let there : IsUpTo gap.from (sum gap.onto (difference row.first gap.to)) = upto_upto gap.from gap.onto (sum gap.onto (difference row.first gap.to)) le (sum-upto gap.onto (difference row.first gap.to) ends) in
    All-cons (λ r. IsUpTo gap.from r.first) (shift_row gap.to gap.onto row) (shifted gap.to gap.onto rows) (rw (false_if_up_to row.first gap.to past) there)
    (moved_past w gap rows le (All-tail (IsWellFormedRow w) row rows well_formed) (All-tail (λ r. IsUpTo gap.to r.first) row rows h))

pub exchange_is_three : {L : Type 0} (w : Widths L) (rows : List (Row L)) → All (IsWellFormedRow w) rows → InOrder rows → ExchangeIsThreeEdits rows
exchange_is_three {L} w rows well_formed h gap new le ahead =
    let past = rows_past gap.to rows in
    let later : All (λ r. IsUpTo gap.from r.first) (shifted gap.to gap.onto past) =
    moved_past w gap past ahead (All-filter (λ (row : Row L). not (comes_before row.first gap.to)) (IsWellFormedRow w) rows well_formed) (past_are gap.to rows h) in
    sym (
    ap (λ (rs : List (Row L)). put_before gap.from new (shifted gap.to gap.onto rs)) (cut_is-plain gap.from gap.to rows le h)
    ∙ ap (put_before gap.from new) (map-append (shift_row gap.to gap.onto) (rows_before gap.from rows) past)
    ∙ ap (λ (rs : List (Row L)). put_before gap.from new (rs ++ shifted gap.to gap.onto past)) (before_stay gap rows le)
    ∙ put_behind gap.from new rows (shifted gap.to gap.onto past) later)

pub ruleset edits_are = (put_is, shift_is, cut_is, cut_none, cut_well_formed, splice_well_formed)
