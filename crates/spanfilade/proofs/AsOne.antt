-- Two spans that touch are met as one.
use Rattle.std.proofs.Common.{◌≡◌, ◌⊎◌, ℕ, ◌+◌, ◌-◌, ◌<◌, ◌≤◌, Bool, true, false, not, ◌&&◌, ◌||◌, List, [], ◌∷◌, ◌++◌, length, get_or, take, refl, arith, ap, ◌∙◌, sym, subst, inl, inr}
use Rattle.std.specs.List.{list_any, All}
use Rattle.std.specs.List.Sorted.{IsPermutation}
use Rattle.std.proofs.lemmas.List.{take_all}
use Rattle.std.proofs.lemmas.List.Folds.{list_any-append, list_any_more}
use Rattle.std.proofs.lemmas.List.Sorted.{All-permutation, list_any-IsPermutation}
use Rattle.std.proofs.lemmas.Bool.{false≢true}
use Rattle.tumbler.specs.declared.span.Span.{Span}
use Rattle.tumbler.specs.Places.{IsBefore, IsUpTo, IsTumbler, comes_before, sum, difference}
use Rattle.tumbler.specs.Span.{end_of, SpanFits}
use Rattle.tumbler.proofs.Order.{upto_upto, upto_before, before_upto, upto_or_before}
use Rattle.tumbler.proofs.Before.{before_if_true, true_if_before, up_to_if_false, false_if_up_to}
use Rattle.tumbler.proofs.Differences.{sum-difference}
use Rattle.tumbler.proofs.SumOrder.{fits_if_tumbler}
use Rattle.enfilade_core.specs.declared.tree.Row.{Row}
use Rattle.enfilade_core.specs.Axes.{later}
use Rattle.enfilade_core.proofs.Later.{later-first, later-second}
use Rattle.enfilade_search.specs.Meeting.{touches, lies_between}
use Rattle.enfilade_search.proofs.Touching.{first_up_to_later, second_up_to_later}
use Rattle.spanfilade.specs.Keys.{is_met, is_met_by}

-- ---- tests

both : (a b : Bool) → (a && b) ≡ true → (a ≡ true) × (b ≡ true)
both true b h = (refl, h)
both false b h = absurd (false≢true h)

and_true : (a b : Bool) → a ≡ true → b ≡ true → (a && b) ≡ true
and_true true b h k = k
and_true false b h k = h

not_true : (a : Bool) → not a ≡ true → a ≡ false
not_true true h = absurd (false≢true h)
not_true false h = refl

true_if_not : (a : Bool) → a ≡ false → not a ≡ true
true_if_not true h = sym h
true_if_not false h = refl

-- one test answers as either of two, where it is true if one is and only then
as_either : (a b c : Bool) → (a ≡ true → (b ≡ true) ⊎ (c ≡ true)) → (b ≡ true → a ≡ true) → (c ≡ true → a ≡ true) → a ≡ (b || c)
as_either a true c h k l = k refl
as_either a false true h k l = l refl
as_either true false false h k l = elim (h refl) [ inl e ↦ sym e | inr e ↦ sym e ]
as_either false false false h k l = refl

-- ---- places

later_up_to : (a b c : List ℕ) → IsUpTo a c → IsUpTo b c → IsUpTo (later a b) c
later_up_to a b c h k = elim (upto_or_before b a) [
  | inl ba ↦ subst (λ (x : List ℕ). IsUpTo x c) (sym (later-first a b ba)) h
  | inr ab ↦ subst (λ (x : List ℕ). IsUpTo x c) (sym (later-second a b ab)) k
]

-- what comes before the later of two ends comes before the first, or is past that and comes before the second
before_one : (x t u : List ℕ) → IsBefore x (later t u) → IsBefore x t ⊎ (IsUpTo t x × IsBefore x u)
before_one x t u h = elim (upto_or_before t x) [
  | inr before ↦ inl before
  | inl past ↦ elim (upto_or_before u t) [
    | inl ut ↦ inl (subst (IsBefore x) (later-first t u ut) h)
    | inr tu ↦ inr (past, subst (IsBefore x) (later-second t u tu) h)
  ]
]

-- ---- what a row takes up

lies : (from to place : List ℕ) → lies_between from to place ≡ true → IsUpTo from place × IsBefore place to
lies from to place h =
    let parts = both (not (comes_before place from)) (comes_before place to) h in
    (up_to_if_false place from (not_true (comes_before place from) parts.0), before_if_true place to parts.1)

lies_if : (from to place : List ℕ) → IsUpTo from place → IsBefore place to → lies_between from to place ≡ true
lies_if from to place h k =
    and_true (not (comes_before place from)) (comes_before place to) (true_if_not (comes_before place from) (false_if_up_to place from h)) (true_if_before place to k)

-- two ranges of which the second begins in the first or right behind it
touches_one : (from to next end place width : List ℕ) → IsUpTo from next → IsUpTo next to → touches from (later to end) place width ≡ (touches from to place width || touches next end place width)
touches_one from to next end place [] h k = as_either (lies_between from (later to end) place) (lies_between from to place) (lies_between next end place)
    (λ t. let p = lies from (later to end) place t in elim (before_one place to end p.1) [
      | inl before ↦ inl (lies_if from to place p.0 before)
      | inr past ↦ inr (lies_if next end place (upto_upto next to place k past.0) past.1)
    ])
    (λ t. let p = lies from to place t in lies_if from (later to end) place p.0 (before_upto place to (later to end) p.1 (first_up_to_later to end)))
    (λ t. let p = lies next end place t in lies_if from (later to end) place (upto_upto from next place h p.0) (before_upto place end (later to end) p.1 (second_up_to_later to end)))
touches_one from to next end place (x ∷ width) h k =
    let last = sum place (x ∷ width) in
    let first = later from place in
    let second = later next place in
    let back : IsUpTo first second = later_up_to from place second (upto_upto from next second h (first_up_to_later next place)) (second_up_to_later next place) in
    as_either (comes_before first (later to end) && comes_before first last) (comes_before first to && comes_before first last) (comes_before second end && comes_before second last)
    (λ t. let p = both (comes_before first (later to end)) (comes_before first last) t in elim (before_one first to end (before_if_true first (later to end) p.0)) [
      | inl before ↦ inl (and_true (comes_before first to) (comes_before first last) (true_if_before first to before) p.1)
      | inr past ↦
          let on : IsUpTo second first = later_up_to next place first (upto_upto next to first k past.0) (second_up_to_later from place) in
          inr (and_true (comes_before second end) (comes_before second last) (true_if_before second end (upto_before second first end on past.1)) (true_if_before second last (upto_before second first last on (before_if_true first last p.1))))
    ])
    (λ t. let p = both (comes_before first to) (comes_before first last) t in
    and_true (comes_before first (later to end)) (comes_before first last) (true_if_before first (later to end) (before_upto first to (later to end) (before_if_true first to p.0) (first_up_to_later to end))) p.1)
    (λ t. let p = both (comes_before second end) (comes_before second last) t in
    and_true (comes_before first (later to end)) (comes_before first last)
    (true_if_before first (later to end) (before_upto first end (later to end) (upto_before first second end back (before_if_true second end p.0)) (second_up_to_later to end)))
    (true_if_before first last (upto_before first second last back (before_if_true second last p.1))))

-- what touches a range finds some place in it
pub touches-starts : (from to place width : List ℕ) → touches from to place width ≡ true → IsBefore from to
touches-starts from to place [] h = let p = lies from to place h in upto_before from place to p.0 p.1
touches-starts from to place (x ∷ width) h =
    let start = later from place in
    let p = both (comes_before start to) (comes_before start (sum place (x ∷ width))) h in
    upto_before from start to (first_up_to_later from place) (before_if_true start to p.0)

-- ---- spans

-- the second span begins in the first or right behind it, and `to` is where the later of them ends
pub record Touch (first second : Span) (to : List ℕ) : Type 0 where
  pub start : IsUpTo first.start second.start
  pub within : IsUpTo second.start (end_of first)
  pub reaches : to ≡ later (end_of first) (end_of second)
  pub up_to : IsUpTo first.start to

pub touch : (first second : Span) (end other to : List ℕ) (behind : Bool) → end ≡ end_of first → other ≡ end_of second → to ≡ later end other → IsUpTo first.start second.start → behind ≡ comes_before end second.start → behind ≡ false → Touch first second to
touch first second end other to behind e o t start b not_behind =
    let within : IsUpTo second.start (end_of first) = subst (IsUpTo second.start) e (up_to_if_false end second.start (sym b ∙ not_behind)) in
    let reaches : to ≡ later (end_of first) (end_of second) = t ∙ ap (λ (x : List ℕ). later x other) e ∙ ap (later (end_of first)) o in
    record {
      start = start;
      within = within;
      reaches = reaches;
      up_to = subst (IsUpTo first.start) (sym reaches) (upto_upto first.start (end_of first) (later (end_of first) (end_of second)) (upto_upto first.start second.start (end_of first) start within) (first_up_to_later (end_of first) (end_of second)));
    }

-- the span from the first start to that end
made_end : (first second made : Span) (to : List ℕ) → Touch first second to → made.start ≡ first.start → made.width ≡ difference to first.start → end_of made ≡ to
made_end first second made to t start width = ap (λ (s : List ℕ). sum s made.width) start ∙ ap (sum first.start) width ∙ sum-difference first.start to t.up_to

pub joined_met : (first second made : Span) (to : List ℕ) → Touch first second to → made.start ≡ first.start → made.width ≡ difference to first.start → (row : Row (List ℕ)) → is_met made row ≡ (is_met first row || is_met second row)
joined_met first second made to t start width row =
    ap (λ (s : List ℕ). touches s (end_of made) row.first row.leaf) start
    ∙ ap (λ (e : List ℕ). touches first.start e row.first row.leaf) (made_end first second made to t start width ∙ t.reaches)
    ∙ touches_one first.start (end_of first) second.start (end_of second) row.first row.leaf t.start t.within

pub joined_reaches : (first second made : Span) (to : List ℕ) → Touch first second to → made.start ≡ first.start → made.width ≡ difference to first.start → IsUpTo (end_of first) (end_of made)
joined_reaches first second made to t start width = subst (IsUpTo (end_of first)) (sym (made_end first second made to t start width ∙ t.reaches)) (first_up_to_later (end_of first) (end_of second))

pub joined_fits : (first second made : Span) (to : List ℕ) → Touch first second to → made.start ≡ first.start → made.width ≡ difference to first.start → IsTumbler to → SpanFits made
joined_fits first second made to t start width is = fits_if_tumbler made.start made.width (subst IsTumbler (sym (made_end first second made to t start width)) is)

-- ---- lists of spans

or_last : (a b c : Bool) → (a || ((b || c) || false)) ≡ ((a || b) || c)
or_last true b c = refl
or_last false true c = refl
or_last false false true = refl
or_last false false false = refl

-- the last span is made longer by another
pub last_joined : (items now : List Span) (n : ℕ) (last one span : Span) → n ≡ length items → 0 < length items → last ≡ get_or items (n - 1) last → now ≡ take (n - 1) items ++ one ∷ [] → ((row : Row (List ℕ)) → is_met one row ≡ (is_met last row || is_met span row))
    → (row : Row (List ℕ)) → is_met_by now row ≡ (is_met_by items row || is_met span row)
last_joined items now n last one span long some at is joined row =
    let f : Span → Bool = λ s. is_met s row in
    let front = take (n - 1) items in
    let whole : take ((n - 1) + 1) items ≡ items = take_all ((n - 1) + 1) items (omega arith) in
    ap (list_any f) is ∙ list_any-append f front (one ∷ []) ∙ ap (λ (b : Bool). list_any f front || (b || false)) (joined row)
    ∙ or_last (list_any f front) (f last) (f span)
    ∙ ap (λ (b : Bool). b || f span) (ap (λ (s : Span). list_any f front || f s) at ∙ sym (list_any_more f items (n - 1) last (omega arith)) ∙ ap (list_any f) whole)

or_one : (a b : Bool) → (a || (b || false)) ≡ (a || b)
or_one true b = refl
or_one false true = refl
or_one false false = refl

-- a span comes behind the others
pub met_behind : (items now : List Span) (one span : Span) → now ≡ items ++ one ∷ [] → one ≡ span → (row : Row (List ℕ)) → is_met_by now row ≡ (is_met_by items row || is_met span row)
met_behind items now one span is same row =
    let f : Span → Bool = λ s. is_met s row in
    ap (list_any f) is ∙ list_any-append f items (one ∷ []) ∙ or_one (list_any f items) (f one) ∙ ap (λ (s : Span). list_any f items || f s) same

pub met_more : (items old now : List Span) (i : ℕ) (span : Span) → i < length items → span ≡ get_or items i span → ((row : Row (List ℕ)) → is_met_by old row ≡ is_met_by (take i items) row) → ((row : Row (List ℕ)) → is_met_by now row ≡ (is_met_by old row || is_met span row))
    → (row : Row (List ℕ)) → is_met_by now row ≡ is_met_by (take (i + 1) items) row
met_more items old now i span lt at before joined row =
    joined row ∙ ap (λ (b : Bool). b || is_met span row) (before row) ∙ ap (λ (s : Span). is_met_by (take i items) row || is_met s row) at
    ∙ sym (list_any_more (λ (s : Span). is_met s row) items i span lt)

pub met_all : (given sorted items made : List Span) (i : ℕ) → IsPermutation given sorted → items ≡ sorted → length items ≤ i → ((row : Row (List ℕ)) → is_met_by made row ≡ is_met_by (take i items) row)
    → (row : Row (List ℕ)) → is_met_by made row ≡ is_met_by given row
met_all given sorted items made i moved is le so_far row =
    let f : Span → Bool = λ s. is_met s row in
    so_far row ∙ ap (list_any f) (take_all i items le ∙ is) ∙ sym (list_any-IsPermutation f given sorted moved)

-- all spans fit, so each of the sorted ones does
pub sorted_fits : (given sorted items : List Span) (i : ℕ) (span : Span) → IsPermutation given sorted → items ≡ sorted → All SpanFits given → i < length items → span ≡ get_or items i span → SpanFits span
sorted_fits given sorted items i span moved is fits lt at =
    let all : All SpanFits items = subst (All SpanFits) (sym is) (All-permutation SpanFits given sorted moved fits) in
    subst SpanFits (sym at) (all i span lt)
