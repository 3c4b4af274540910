-- Groups of rows that come in, span after span.
use Rattle.std.proofs.Common.{◌≡◌, ℕ, zero, suc, ◌+◌, ◌<◌, ◌≤◌, true, false, Some, None, List, [], ◌∷◌, ◌++◌, length, map, take, get_or, ap, ◌∙◌, sym, subst, arith, append_assoc}
use Rattle.std.specs.List.{All}
use Rattle.std.specs.List.Sorted.{IsPermutation}
use Rattle.std.proofs.lemmas.List.{take_more, take_all, map-append}
use Rattle.std.proofs.lemmas.List.Elements.{All-head, All-nil, All-cons}
use Rattle.std.proofs.lemmas.List.Sorted.{IsPermutation-refl, IsPermutation-sym, IsPermutation-cons, IsPermutation-trans, IsPermutation-middle, IsPermutation-map, IsPermutation-append_left}
use Rattle.std.proofs.lemmas.Bool.{false≢true}
use Rattle.std.specs.Prelude.{◌==◌}
use Rattle.tumbler.specs.declared.span.Span.{Span}
use Rattle.tumbler.specs.Places.{IsUpTo, comes_before}
use Rattle.tumbler.proofs.Order.{upto_upto}
use Rattle.enfilade_core.specs.declared.tree.Row.{Row}
use Rattle.enfilade_core.specs.Axes.{InOrder}
use Rattle.enfilade_core.specs.Edits.{put_before, last_before}
use Rattle.enfilade_core.specs.Plain.{plain_row}
use Rattle.spanfilade.specs.Index.{row_of, rows_for}
use Rattle.spanfilade.specs.Groups.{IsPast, with_group, FitsAsGroup, LeavesRoom}
use Rattle.spanfilade.proofs.Rows.{plain_rows}
use Rattle.spanfilade.proofs.Adding.{InOrder-put, one_fits_in, put_some}
use Rattle.spanfilade.proofs.OneGap.{put_moves, none_between, fits_more, IsFront}

-- ---- what a group asks

pub group_ordered : {L : Type 0} (group rows : List (Row L)) → FitsAsGroup group rows → InOrder group
group_ordered [] rows f = tt
group_ordered (first ∷ group) rows f = f.ordered

pub with_group-ordered : {L : Type 0} (group rows : List (Row L)) → FitsAsGroup group rows → InOrder rows → InOrder (with_group group rows)
with_group-ordered [] rows f h = h
with_group-ordered (first ∷ group) rows f h = InOrder-put first.first (first ∷ group) rows f h

-- a tree that a group came into has rows
pub group_some : {L : Type 0} (group rows : List (Row L)) → (length group == 0) ≡ false → with_group group rows ≡ [] → ⊥
group_some [] rows some e = false≢true (sym some)
group_some (first ∷ group) rows some e = put_some first.first first group rows e

pub with_group-moves : {L : Type 0} (group rows : List (Row L)) → IsPermutation (group ++ rows) (with_group group rows)
with_group-moves [] rows = IsPermutation-refl rows
with_group-moves (first ∷ group) rows = put_moves first.first (first ∷ group) rows

pub one_as_group : {L : Type 0} (row : Row L) (rows : List (Row L)) → FitsAsGroup (row ∷ []) rows
one_as_group row rows = one_fits_in row rows

-- ---- one row more

last_of_step : {L : Type 0} (at : List ℕ) (row next last : Row L) (rows : List (Row L)) → All (IsPast row.first) (next ∷ rows) → All (λ (n : Row L). IsUpTo n.first at) (next ∷ rows) → All (λ (n : Row L). IsUpTo n.first at) (row ∷ next ∷ rows)
last_of_step at row next last rows past up = All-cons (λ n. IsUpTo n.first at) row (next ∷ rows) (upto_upto row.first next.first at (All-head (IsPast row.first) next rows past) (All-head (λ n. IsUpTo n.first at) next rows up)) up

-- where the last of rows in order is up to a place, all are
pub all_up_to : {L : Type 0} (at : List ℕ) (rows : List (Row L)) (last : Row L) (n : ℕ) → InOrder rows → n + 1 ≡ length rows → last ≡ get_or rows n last → IsUpTo last.first at → All (λ (n : Row L). IsUpTo n.first at) rows
all_up_to at [] last n h long is up = All-nil (λ r. IsUpTo r.first at)
all_up_to at (row ∷ []) last zero h long is up = All-cons (λ r. IsUpTo r.first at) row [] (subst (λ (r : Row _). IsUpTo r.first at) is up) (All-nil (λ r. IsUpTo r.first at))
all_up_to at (row ∷ []) last (suc n) h long is up = absurd (omega (arith, long))
all_up_to at (row ∷ next ∷ rows) last zero h long is up = absurd (omega (arith, long))
all_up_to at (row ∷ next ∷ rows) last (suc n) h long is up = last_of_step at row next last rows h.0 (all_up_to at (next ∷ rows) last n h.1 (omega (arith, long)) is up)

pub leaves_room : {L : Type 0} (at : List ℕ) (group rows : List (Row L)) (first : Row L) → first ≡ get_or group 0 first → 0 < length group → InOrder rows → IsFront first.first (last_before at rows) → LeavesRoom at group rows
leaves_room at [] rows first is some h front = tt
leaves_room at (row ∷ group) rows first is some h front = none_between row.first at rows h (subst (λ (r : Row _). IsFront r.first (last_before at rows)) is front)

pub no_row_front : {L : Type 0} (from at : List ℕ) (rows : List (Row L)) → last_before at rows ≡ None → IsFront from (last_before at rows)
no_row_front from at rows e = subst (IsFront from) (sym e) tt

pub row_front : {L : Type 0} (from at : List ℕ) (rows : List (Row L)) (found : Row L) → last_before at rows ≡ Some found → comes_before found.first from ≡ true → IsFront from (last_before at rows)
row_front from at rows found e before = subst (IsFront from) (sym e) before

pub group_more : {L : Type 0} (group rows : List (Row L)) (row : Row L) → FitsAsGroup group rows → All (λ (n : Row L). IsUpTo n.first row.first) group → LeavesRoom row.first group rows → FitsAsGroup (group ++ row ∷ []) rows
group_more [] rows row f up room = one_fits_in row rows
group_more {L} (first ∷ group) rows row f up room = fits_more first.first (first ∷ group) rows row f up (All-head (λ (n : Row L). IsUpTo n.first row.first) first group up) room

-- ---- which rows there are

-- the row came in behind the group
pub moves_more : {X : Type 0} (group rows now : List X) (row : X) → now ≡ group ++ row ∷ [] → IsPermutation (row ∷ (group ++ rows)) (now ++ rows)
moves_more group rows now row is =
    subst (IsPermutation (row ∷ (group ++ rows))) (sym (ap (λ xs. xs ++ rows) is ∙ append_assoc group (row ∷ []) rows)) (IsPermutation-sym (group ++ row ∷ rows) (row ∷ (group ++ rows)) (IsPermutation-middle group row rows))

-- the group came in, and the row begins another
pub moves_anew : {L : Type 0} (group rows after now : List (Row L)) (row : Row L) → after ≡ with_group group rows → now ≡ row ∷ [] → IsPermutation (row ∷ (group ++ rows)) (now ++ after)
moves_anew group rows after now row is held =
    subst (IsPermutation (row ∷ (group ++ rows))) (sym (ap (λ xs. xs ++ after) held ∙ ap (λ (xs : List (Row _)). row ∷ xs) is)) (IsPermutation-cons row (group ++ rows) (with_group group rows) (with_group-moves group rows))

-- the rows of one span more
pub rows_more : (spans : List Span) (key : List ℕ) (i : ℕ) (span : Span) (old held now : List (Row (List ℕ))) → i < length spans → span ≡ get_or spans i span → IsPermutation (rows_for (take i spans) key ++ old) held → IsPermutation (row_of span key ∷ held) now
    → IsPermutation (rows_for (take (i + 1) spans) key ++ old) now
rows_more spans key i span old held now lt at so_far more =
    let row : Row (List ℕ) = row_of span key in
    let front : List (Row (List ℕ)) = rows_for (take i spans) key in
    let taken : rows_for (take (i + 1) spans) key ≡ front ++ row ∷ [] =
    ap (λ (xs : List Span). rows_for xs key) (take_more spans i span lt ∙ ap (λ (y : Span). take i spans ++ y ∷ []) (sym at)) ∙ map-append (λ (s : Span). row_of s key) (take i spans) (span ∷ []) in
    let all : rows_for (take (i + 1) spans) key ++ old ≡ front ++ row ∷ old = ap (λ (xs : List (Row (List ℕ))). xs ++ old) taken ∙ append_assoc front (row ∷ []) old in
    subst (λ (xs : List (Row (List ℕ))). IsPermutation xs now) (sym all)
    (IsPermutation-trans (front ++ row ∷ old) (row ∷ (front ++ old)) now (IsPermutation-middle front row old) (IsPermutation-trans (row ∷ (front ++ old)) (row ∷ held) now (IsPermutation-cons row (front ++ old) held so_far) more))

-- the last group came in
pub rows_all : (spans : List Span) (key : List ℕ) (i : ℕ) (old group rows after : List (Row (List ℕ))) → length spans ≤ i → IsPermutation (rows_for (take i spans) key ++ old) (group ++ rows) → after ≡ with_group group rows → IsPermutation (rows_for spans key ++ old) after
rows_all spans key i old group rows after le so_far is =
    subst (λ (xs : List Span). IsPermutation (rows_for xs key ++ old) after) (take_all i spans le)
    (subst (IsPermutation (rows_for (take i spans) key ++ old)) (sym is) (IsPermutation-trans (rows_for (take i spans) key ++ old) (group ++ rows) (with_group group rows) so_far (with_group-moves group rows)))

-- sorted spans have the rows of those that were given
pub rows_sorted : (given sorted slice : List Span) (key : List ℕ) (old new : List (Row (List ℕ))) → IsPermutation given sorted → slice ≡ sorted → IsPermutation (rows_for slice key ++ old) new → IsPermutation (rows_for given key ++ old) new
rows_sorted given sorted slice key old new moved is all =
    IsPermutation-trans (rows_for given key ++ old) (rows_for sorted key ++ old) new
    (IsPermutation-append_left old (rows_for given key) (rows_for sorted key) (IsPermutation-map (λ (s : Span). row_of s key) given sorted moved))
    (subst (λ (xs : List Span). IsPermutation (rows_for xs key ++ old) new) is all)

-- ---- where a group comes in

pub group_at : {L : Type 0} (slice group rows : List (Row L)) (x : Row L) (at : List ℕ) → slice ≡ group → at ≡ (get_or slice 0 x).first → (length group == 0) ≡ false → put_before at group rows ≡ with_group group rows
group_at slice [] rows x at is from some = absurd (false≢true (sym some))
group_at slice (first ∷ group) rows x at is from some = ap (λ (a : List ℕ). put_before a (first ∷ group) rows) (from ∙ ap (λ (xs : List (Row _)). (get_or xs 0 x).first) is)

-- the same where the group is as it is held
pub held_at : (slice group rows : List (Row (List ℕ))) (x : Row (List ℕ)) (at : List ℕ) → slice ≡ group → at ≡ (get_or slice 0 x).first → (length group == 0) ≡ false → put_before at (map (plain_row (λ (width : List ℕ). width)) group) rows ≡ with_group group rows
held_at slice group rows x at is from some = ap (λ (new : List (Row (List ℕ))). put_before at new rows) (plain_rows group) ∙ group_at slice group rows x at is from some
