-- A row that stands alone where it starts is made longer.
use Rattle.std.proofs.Common.{◌≡◌, ℕ, suc, arith, Bool, true, false, not, ◌&&◌, cond, Option, Some, None, List, [], ◌∷◌, ◌++◌, length, map, refl, ap, ◌∙◌, sym, subst, inl, inr}
use Rattle.std.specs.List.{All, filter}
use Rattle.std.proofs.lemmas.List.{append-nil}
use Rattle.std.proofs.lemmas.List.Elements.{All-head, All-tail, All-nil, All-cons, All-filter}
use Rattle.std.proofs.Common.{Ordering, Less, Equal, Greater, nat_cmp, is_eq, nat_eq}
use Rattle.std.proofs.lemmas.Bool.{false≢true}
use Rattle.std.specs.Cmp.Lexicographic.{slice_cmp, pointwise, texts_ties}
use Rattle.tumbler.specs.declared.span.Span.{Span}
use Rattle.tumbler.specs.Span.{end_of}
use Rattle.tumbler.specs.Places.{IsTumbler, IsUpTo, IsBefore, Fits, comes_before, sum, difference}
use Rattle.tumbler.proofs.Order.{upto_upto, upto_or_before, upto_if_before, before_upto, never_before_itself, same_if_tied}
use Rattle.tumbler.proofs.Before.{before_if_true, true_if_before, false_if_up_to, up_to_if_false}
use Rattle.tumbler.proofs.Differences.{sum-difference}
use Rattle.tumbler.proofs.Sums.{sum-upto}
use Rattle.tumbler.proofs.SumOrder.{fits_if_tumbler}
use Rattle.tumbler.proofs.Tumblers.{difference-is_tumbler}
use Rattle.enfilade_core.specs.declared.tree.Row.{Row}
use Rattle.enfilade_core.specs.Axes.{InOrder, IsWellFormedRow, IsWellFormedRows, later}
use Rattle.enfilade_core.specs.Planes.{key_widths}
use Rattle.enfilade_core.specs.Edits.{put_before, is_within, taken_out, left_by, shifted, last_before, or_else}
use Rattle.enfilade_core.specs.Exchange.{rows_before, rows_past, exchanged}
use Rattle.enfilade_core.proofs.EditsAre.{all_from, past_are}
use Rattle.spanfilade.specs.Index.{row_end, lengthened, IsLonger, IsLengthened}
use Rattle.enfilade_core.specs.Plain.{plain_row}
use Rattle.enfilade_search.proofs.Touching.{first_up_to_later}
use Rattle.spanfilade.proofs.Rows.{plain_rows}
use Rattle.spanfilade.proofs.Adding.{InOrder-put, All-put, one_fits_in}
use Rattle.spanfilade.proofs.OneGap.{found_holds}

-- ---- an exchange is a cut, and then rows come in

none_before : {L : Type 0} (at : List ℕ) (rows : List (Row L)) → All (λ (r : Row L). IsUpTo at r.first) rows → rows_before at rows ≡ []
none_before at [] h = refl
none_before at (row ∷ rows) h = rw (false_if_up_to row.first at (All-head (λ r. IsUpTo at r.first) row rows h)) (none_before at rows (All-tail (λ r. IsUpTo at r.first) row rows h))

shift_none : {L : Type 0} (at : List ℕ) (rows : List (Row L)) → All (λ (r : Row L). IsUpTo at r.first) rows → shifted at at rows ≡ rows
shift_none at [] h = refl
shift_none at (row ∷ rows) h =
    let le = All-head (λ (r : Row _). IsUpTo at r.first) row rows h in
    rw (false_if_up_to row.first at le) (
    ap (λ (x : List ℕ). record row { first = x } ∷ shifted at at rows) (sum-difference at row.first le)
    ∙ ap (λ (rs : List (Row _)). row ∷ rs) (shift_none at rows (All-tail (λ (r : Row _). IsUpTo at r.first) row rows h)))

left_past : {L : Type 0} (from to : List ℕ) (rows : List (Row L)) → All (λ (r : Row L). IsUpTo from r.first) rows → left_by from to rows ≡ rows_past to rows
left_past from to [] h = refl
left_past from to (row ∷ rows) h =
    let rest = left_past from to rows (All-tail (λ r. IsUpTo from r.first) row rows h) in
    rw (false_if_up_to row.first from (All-head (λ r. IsUpTo from r.first) row rows h), rest) refl

put_past : {L : Type 0} (at : List ℕ) (new rows : List (Row L)) → All (λ (r : Row L). IsUpTo at r.first) rows → put_before at new rows ≡ new ++ rows
put_past at new [] h = sym (append-nil new)
put_past at new (row ∷ rows) h = rw (false_if_up_to row.first at (All-head (λ r. IsUpTo at r.first) row rows h)) refl

put_in_cut : {L : Type 0} (from to : List ℕ) (new rows : List (Row L)) → IsUpTo from to → InOrder rows → put_before from new (left_by from to rows) ≡ rows_before from rows ++ new ++ rows_past to rows
put_in_cut from to new [] le h = sym (append-nil new)
put_in_cut {L} from to new (row ∷ rows) le h = elim (upto_or_before from row.first) [
  | inl past ↦
      let all = all_from from row rows past h in
      ap (put_before from new) (left_past from to (row ∷ rows) all)
      ∙ put_past from new (rows_past to (row ∷ rows)) (All-filter (λ (r : Row L). not (comes_before r.first to)) (λ (r : Row L). IsUpTo from r.first) (row ∷ rows) all)
      ∙ sym (ap (λ (rs : List (Row L)). rs ++ new ++ rows_past to (row ∷ rows)) (none_before from (row ∷ rows) all))
  | inr lt ↦
      let early : IsBefore row.first to = before_upto row.first from to lt le in
      rw (true_if_before row.first from lt, true_if_before row.first to early, true_if_before row.first from lt) (ap (λ (rs : List (Row L)). row ∷ rs) (put_in_cut from to new rows le h.1))
]

exchange_is : {L : Type 0} (from to : List ℕ) (new rows : List (Row L)) → IsUpTo from to → InOrder rows → exchanged (record { from = from; to = to; onto = to }) new rows ≡ put_before from new (left_by from to rows)
exchange_is {L} from to new rows le h =
    ap (λ (rs : List (Row L)). rows_before from rows ++ new ++ rs) (shift_none to (rows_past to rows) (past_are to rows h)) ∙ sym (put_in_cut from to new rows le h)

-- ---- that it is well formed

kept_in_order : {L : Type 0} (test : Row L → Bool) (b : Bool) (row : Row L) (rows : List (Row L)) → test row ≡ b → All (λ (r : Row L). IsUpTo row.first r.first) rows → InOrder (filter test rows) → InOrder (filter test (row ∷ rows))
kept_in_order test true row rows is le h = rw is (All-filter test (λ r. IsUpTo row.first r.first) rows le, h)
kept_in_order test false row rows is le h = rw is h

filter_in_order : {L : Type 0} (test : Row L → Bool) (rows : List (Row L)) → InOrder rows → InOrder (filter test rows)
filter_in_order test [] h = tt
filter_in_order test (row ∷ rows) h = kept_in_order test (test row) row rows refl h.0 (filter_in_order test rows h.1)

pub exchange_well_formed : (to : List ℕ) (made : Row (List ℕ)) (new rows : List (Row (List ℕ))) → new ≡ made ∷ [] → IsUpTo made.first to → IsWellFormedRow key_widths made → All (IsWellFormedRow key_widths) rows → InOrder rows
    → IsWellFormedRows key_widths (exchanged (record { from = made.first; to = to; onto = to }) new rows)
exchange_well_formed to made new rows is le well_formed all h =
    let test : Row (List ℕ) → Bool = λ row. not (is_within made.first to row) in
    subst (λ (xs : List (Row (List ℕ))). IsWellFormedRows key_widths (exchanged (record { from = made.first; to = to; onto = to }) xs rows)) (sym is)
    (subst (IsWellFormedRows key_widths) (sym (exchange_is made.first to (made ∷ []) rows le h))
    record {
      each = All-put (IsWellFormedRow key_widths) made.first (made ∷ []) (filter test rows) (All-cons (IsWellFormedRow key_widths) made [] well_formed (All-nil (IsWellFormedRow key_widths))) (All-filter test (IsWellFormedRow key_widths) rows all);
      ordered = InOrder-put made.first (made ∷ []) (filter test rows) (one_fits_in made (filter test rows)) (filter_in_order test rows h);
    })

-- ---- the row that is taken out is the last one before the place

taken_some : {X : Type 0} (b : Bool) (x : X) (xs : List X) → b ≡ true → cond b (x ∷ xs) xs ≡ [] → ⊥
taken_some true x xs h e = cc
taken_some false x xs h e = cc

taken_rest : {X : Type 0} (b : Bool) (x : X) (xs : List X) → cond b (x ∷ xs) xs ≡ [] → xs ≡ []
taken_rest true x xs e = let never : ⊥ = cc in absurd never
taken_rest false x xs e = e

stands_within : {L : Type 0} (from to : List ℕ) (row : Row L) → IsUpTo from row.first → IsBefore row.first to → is_within from to row ≡ true
stands_within from to row le lt = rw (false_if_up_to row.first from le, true_if_before row.first to lt) refl

itself : (a : List ℕ) → IsUpTo a a
itself a = up_to_if_false a a (by_order (comes_before a a) refl)
  where
    by_order : (b : Bool) → comes_before a a ≡ b → comes_before a a ≡ false
    by_order true e = absurd (never_before_itself a (before_if_true a a e))
    by_order false e = e

pub found_taken : {L : Type 0} (to : List ℕ) (rows : List (Row L)) (r : Row L) → last_before to rows ≡ Some r → taken_out r.first to rows ≡ [] → ⊥
found_taken to [] r e none = cc
found_taken {L} to (row ∷ rows) r e none = elim (upto_or_before to row.first) [
  | inl le ↦
      let e' : None ≡ Some r = subst (λ (b : Bool). cond b (or_else (last_before to rows) row) None ≡ Some r) (false_if_up_to row.first to le) e in
      cc
  | inr lt ↦
      let e' : or_else (last_before to rows) row ≡ Some r = subst (λ (b : Bool). cond b (or_else (last_before to rows) row) None ≡ Some r) (true_if_before row.first to lt) e in
      by_rest (last_before to rows) refl e' lt (λ is. found_taken to rows r is)
]
  where
    by_rest : (rest : Option (Row L)) → last_before to rows ≡ rest → or_else rest row ≡ Some r → IsBefore row.first to → (last_before to rows ≡ Some r → taken_out r.first to rows ≡ [] → ⊥) → ⊥
    by_rest (Some found) is e' lt rec =
        let same : found ≡ r = cc in
        rec (is ∙ ap Some same) (taken_rest (is_within r.first to row) row (taken_out r.first to rows) none)
    by_rest None is e' lt rec =
        let same : row ≡ r = cc in
        taken_some (is_within r.first to row) row (taken_out r.first to rows) (stands_within r.first to row (subst (λ (x : Row L). IsUpTo x.first row.first) same (itself row.first)) lt) none

none_left : {L : Type 0} (from to : List ℕ) (rows : List (Row L)) → taken_out from to rows ≡ [] → left_by from to rows ≡ rows
none_left from to [] e = refl
none_left {L} from to (row ∷ rows) e = by_test (is_within from to row) e (none_left from to rows)
  where
    by_test : (b : Bool) → cond b (row ∷ taken_out from to rows) (taken_out from to rows) ≡ [] → (taken_out from to rows ≡ [] → left_by from to rows ≡ rows) → cond (not b) (row ∷ left_by from to rows) (left_by from to rows) ≡ row ∷ rows
    by_test true e rec = let never : ⊥ = cc in absurd never
    by_test false e rec = ap (λ (rs : List (Row L)). row ∷ rs) (rec e)

-- a row in a list, and what the list is with another in its place
pub record IsPut {L : Type 0} (r made : Row L) (rows put : List (Row L)) : Type 0 where
  pub front : List (Row L)
  pub back : List (Row L)
  pub was : rows ≡ front ++ r ∷ back
  pub is : put ≡ front ++ made ∷ back

more_put : {L : Type 0} (row r made : Row L) (rows put : List (Row L)) → IsPut r made rows put → IsPut r made (row ∷ rows) (row ∷ put)
more_put {L} row r made rows put p = record { front = row ∷ p.front; back = p.back; was = ap (λ (rs : List (Row L)). row ∷ rs) p.was; is = ap (λ (rs : List (Row L)). row ∷ rs) p.is }

first_put : {L : Type 0} (to : List ℕ) (row r made : Row L) (rows : List (Row L)) → row ≡ r → All (λ (n : Row L). IsUpTo row.first n.first) rows → taken_out r.first to rows ≡ [] → IsPut r made (row ∷ rows) (put_before r.first (made ∷ []) (left_by r.first to rows))
first_put {L} to row r made rows same past none = record {
  front = [];
  back = rows;
  was = ap (λ (x : Row L). x ∷ rows) same;
  is =
      ap (put_before r.first (made ∷ [])) (none_left r.first to rows none)
      ∙ put_past r.first (made ∷ []) rows (subst (λ (x : Row L). All (λ (n : Row L). IsUpTo x.first n.first) rows) same past);
}

pub alone_put : {L : Type 0} (to : List ℕ) (r x made : Row L) (rows : List (Row L)) → InOrder rows → last_before to rows ≡ Some r → taken_out r.first to rows ≡ x ∷ [] → IsPut r made rows (put_before r.first (made ∷ []) (left_by r.first to rows))
alone_put to r x made [] h e one = let never : ⊥ = cc in absurd never
alone_put {L} to r x made (row ∷ rows) h e one = elim (upto_or_before to row.first) [
  | inl le ↦
      let e' : None ≡ Some r = subst (λ (b : Bool). cond b (or_else (last_before to rows) row) None ≡ Some r) (false_if_up_to row.first to le) e in
      let never : ⊥ = cc in
      absurd never
  | inr lt ↦
      let e' : or_else (last_before to rows) row ≡ Some r = subst (λ (b : Bool). cond b (or_else (last_before to rows) row) None ≡ Some r) (true_if_before row.first to lt) e in
      elim (upto_or_before r.first row.first) [
        | inl past ↦
            let within : is_within r.first to row ≡ true = stands_within r.first to row past lt in
            let one' : row ∷ taken_out r.first to rows ≡ x ∷ [] = subst (λ (b : Bool). cond b (row ∷ taken_out r.first to rows) (taken_out r.first to rows) ≡ x ∷ []) within one in
            let none : taken_out r.first to rows ≡ [] = cc in
            rw within (first_put to row r made rows (by_none (last_before to rows) refl e' none) h.0 none)
        | inr early ↦
            let one' : taken_out r.first to rows ≡ x ∷ [] = subst (λ (b : Bool). cond (not b && comes_before row.first to) (row ∷ taken_out r.first to rows) (taken_out r.first to rows) ≡ x ∷ []) (true_if_before row.first r.first early) one in
            rw (true_if_before row.first r.first early, true_if_before row.first r.first early)
            (more_put row r made rows (put_before r.first (made ∷ []) (left_by r.first to rows)) (alone_put to r x made rows h.1 (by_some (last_before to rows) e' early) one'))
      ]
]
  where
    by_none : (rest : Option (Row L)) → last_before to rows ≡ rest → or_else rest row ≡ Some r → taken_out r.first to rows ≡ [] → row ≡ r
    by_none (Some found) is e' none =
        let same : found ≡ r = cc in
        absurd (found_taken to rows r (is ∙ ap Some same) none)
    by_none None is e' none = cc

    by_some : (rest : Option (Row L)) → or_else rest row ≡ Some r → IsBefore row.first r.first → rest ≡ Some r
    by_some (Some found) e' early = e'
    by_some None e' early =
        let same : row ≡ r = cc in
        absurd (never_before_itself row.first (subst (λ (x : Row L). IsBefore row.first x.first) (sym same) early))

-- ---- what the calls leave

-- the longer row came in for the one that was taken out
pub lengthened_is : (span : Span) (key : List ℕ) (made : Row (List ℕ)) (new rows out after : List (Row (List ℕ))) → IsLonger span key rows made → new ≡ made ∷ [] → IsUpTo made.first span.start → InOrder rows
    → length out ≡ 1 → out ≡ taken_out made.first span.start rows → after ≡ exchanged (record { from = made.first; to = span.start; onto = span.start }) new rows → IsLengthened span key rows after
lengthened_is span key made new rows [] after longer held le h long outs is = let never : ⊥ = cc in absurd never
lengthened_is span key made new rows (x ∷ y ∷ out) after longer held le h long outs is = absurd (two_not_one (length out) long)
  where
    two_not_one : (n : ℕ) → suc (suc n) ≡ 1 → ⊥
    two_not_one n e = omega (arith, e)
lengthened_is span key made new rows (x ∷ []) after longer held le h long outs is =
    let r = longer.row in
    let same : r.first ≡ made.first = sym (ap (λ (m : Row (List ℕ)). m.first) longer.is) in
    let put : IsPut r made rows (put_before r.first (made ∷ []) (left_by r.first span.start rows)) =
    alone_put span.start r x made rows h longer.last (ap (λ (f : List ℕ). taken_out f span.start rows) same ∙ sym outs) in
    let there : after ≡ put_before r.first (made ∷ []) (left_by r.first span.start rows) =
    is ∙ ap (λ (xs : List (Row (List ℕ))). exchanged (record { from = made.first; to = span.start; onto = span.start }) xs rows) held ∙ exchange_is made.first span.start (made ∷ []) rows le h
    ∙ ap (λ (f : List ℕ). put_before f (made ∷ []) (left_by f span.start rows)) (sym same) in
    record {
      front = put.front;
      row = r;
      back = put.back;
      was = put.was;
      of_key = longer.of_key;
      begins = subst (λ (f : List ℕ). IsUpTo f span.start) (sym same) le;
      reaches = longer.reaches;
      inside = longer.inside;
      is = there ∙ put.is ∙ ap (λ (m : Row (List ℕ)). put.front ++ m ∷ put.back) longer.is;
    }

-- a tree of which a row was made longer has rows
pub lengthened_some : (span : Span) (key : List ℕ) (rows after : List (Row (List ℕ))) → IsLengthened span key rows after → after ≡ [] → ⊥
lengthened_some span key rows after it none = by_front it.front (sym it.is ∙ none)
  where
    by_front : (front : List (Row (List ℕ))) → front ++ lengthened span it.row ∷ it.back ≡ [] → ⊥
    by_front [] e = let never : ⊥ = cc in never
    by_front (row ∷ front) e = let never : ⊥ = cc in never

-- the last row before a place comes before it
pub last_is_before : {L : Type 0} (to : List ℕ) (rows : List (Row L)) (r : Row L) → last_before to rows ≡ Some r → IsBefore r.first to
last_is_before to [] r e = let never : ⊥ = cc in absurd never
last_is_before {L} to (row ∷ rows) r e = by_test (comes_before row.first to) refl e (λ is. last_is_before to rows r is)
  where
    by_rest : (rest : Option (Row L)) → last_before to rows ≡ rest → comes_before row.first to ≡ true → or_else rest row ≡ Some r → (last_before to rows ≡ Some r → IsBefore r.first to) → IsBefore r.first to
    by_rest (Some found) is lt e' rec =
        let same : found ≡ r = cc in
        rec (is ∙ ap Some same)
    by_rest None is lt e' rec =
        let same : row ≡ r = cc in
        subst (λ (x : Row L). IsBefore x.first to) same (before_if_true row.first to lt)

    by_test : (b : Bool) → comes_before row.first to ≡ b → cond b (or_else (last_before to rows) row) None ≡ Some r → (last_before to rows ≡ Some r → IsBefore r.first to) → IsBefore r.first to
    by_test true lt e' rec = by_rest (last_before to rows) refl lt e' rec
    by_test false lt e' rec = let never : ⊥ = cc in absurd never

-- ---- the longer row

last_well_formed : (to : List ℕ) (rows : List (Row (List ℕ))) (row : Row (List ℕ)) → last_before to rows ≡ Some row → All (IsWellFormedRow key_widths) rows → IsWellFormedRow key_widths row
last_well_formed to rows row last all = found_holds (IsWellFormedRow key_widths) to rows row last all

pub last_fits : (to : List ℕ) (rows : List (Row (List ℕ))) (row : Row (List ℕ)) → last_before to rows ≡ Some row → All (IsWellFormedRow key_widths) rows → Fits row.first row.leaf
last_fits to rows row last all = fits_if_tumbler row.first row.leaf (last_well_formed to rows row last all).first_end

pub last_reaches : (span : Span) (rows : List (Row (List ℕ))) (row : Row (List ℕ)) (end other to : List ℕ) → last_before span.start rows ≡ Some row → All (IsWellFormedRow key_widths) rows → end ≡ sum row.first row.leaf → other ≡ end_of span → to ≡ later end other → IsUpTo row.first to
last_reaches span rows row end other to last all ends others is =
    let own : IsUpTo row.first end = subst (IsUpTo row.first) (sym ends) (sum-upto row.first row.leaf (last_well_formed span.start rows row last all).first_width.ends) in
    subst (IsUpTo row.first) (sym is) (upto_upto row.first end (later end other) own (first_up_to_later end other))

same_key : (a b : List ℕ) → not (pointwise nat_eq a b) ≡ false → a ≡ b
same_key a b e = by_order (slice_cmp nat_cmp a b) refl (sym (ap not (texts_ties a b)) ∙ e)
  where
    by_order : (r : Ordering) → slice_cmp nat_cmp a b ≡ r → not (is_eq (slice_cmp nat_cmp a b)) ≡ false → a ≡ b
    by_order Equal is h = same_if_tied a b is
    by_order Less is h = absurd (false≢true (sym h ∙ ap (λ (o : Ordering). not (is_eq o)) is))
    by_order Greater is h = absurd (false≢true (sym h ∙ ap (λ (o : Ordering). not (is_eq o)) is))

pub longer_is : (span : Span) (key : List ℕ) (rows : List (Row (List ℕ))) (row : Row (List ℕ)) (end other to first second leaf : List ℕ) → last_before span.start rows ≡ Some row → All (IsWellFormedRow key_widths) rows → end ≡ sum row.first row.leaf → other ≡ end_of span
    → to ≡ later end other → IsTumbler to → not (pointwise nat_eq row.second key) ≡ false → comes_before end span.start ≡ false → (span.width ≡ [] → comes_before span.start end ≡ true) → first ≡ row.first → second ≡ row.second → leaf ≡ difference to row.first → IsLonger span key rows (record { first = first; second = second; leaf = leaf })
longer_is span key rows row end other to first second leaf last all ends others is tumbler of_key reaches inside firsts seconds leaves =
    let well_formed = last_well_formed span.start rows row last all in
    let up : IsUpTo row.first to = last_reaches span rows row end other to last all ends others is in
    let there : to ≡ later (row_end row) (end_of span) = is ∙ ap (λ (e : List ℕ). later e other) ends ∙ ap (later (row_end row)) others in
    let same : record { first = first; second = second; leaf = leaf } ≡ lengthened span row =
    ap (λ (x : List ℕ). record { first = x; second = second; leaf = leaf }) firsts
    ∙ ap (λ (x : List ℕ). record { first = row.first; second = x; leaf = leaf }) seconds
    ∙ ap (λ (x : List ℕ). record { first = row.first; second = row.second; leaf = x }) (leaves ∙ ap (λ (x : List ℕ). difference x row.first) there) in
    let width : IsTumbler (difference to row.first) = difference-is_tumbler to row.first tumbler well_formed.first_coordinate up in
    let whole : IsWellFormedRow key_widths (record { first = row.first; second = row.second; leaf = difference to row.first }) = record {
      first_coordinate = well_formed.first_coordinate;
      second_coordinate = well_formed.second_coordinate;
      first_width = width;
      second_width = well_formed.second_width;
      first_end = subst IsTumbler (sym (sum-difference row.first to up)) tumbler;
      second_end = well_formed.second_end;
      proper = ((λ t. absurd (false≢true t)), (λ t. absurd (false≢true t)));
    } in
    record {
      row = row;
      last = last;
      of_key = same_key row.second key of_key;
      reaches = subst (IsUpTo span.start) ends (up_to_if_false end span.start reaches);
      inside = λ none. subst (IsBefore span.start) ends (before_if_true span.start end (inside none));
      is = same;
      well_formed = subst (IsWellFormedRow key_widths) (sym (same ∙ ap (λ (x : List ℕ). record { first = row.first; second = row.second; leaf = difference x row.first }) (sym there))) whole;
    }

pub longer_front : (span : Span) (key : List ℕ) (rows : List (Row (List ℕ))) (made : Row (List ℕ)) → IsLonger span key rows made → IsUpTo made.first span.start
longer_front span key rows made longer =
    subst (λ (f : List ℕ). IsUpTo f span.start) (sym (ap (λ (m : Row (List ℕ)). m.first) longer.is)) (upto_if_before longer.row.first span.start (last_is_before span.start rows longer.row longer.last))

pub one_held : (held none : List (Row (List ℕ))) (row : Row (List ℕ)) → held ≡ none ++ row ∷ [] → none ≡ [] → map (plain_row (λ (width : List ℕ). width)) held ≡ row ∷ []
one_held held none row is empty = plain_rows held ∙ is ∙ ap (λ (xs : List (Row (List ℕ))). xs ++ row ∷ []) empty

pub plain_long : (out : List (Row (List ℕ))) (n : ℕ) → n ≡ length out → n ≡ 1 → length (map (plain_row (λ (width : List ℕ). width)) out) ≡ 1
plain_long out n is one = ap length (plain_rows out) ∙ sym is ∙ one
