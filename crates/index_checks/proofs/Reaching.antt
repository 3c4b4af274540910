-- The order of points, and how far rows reach.
use Rattle.std.proofs.Common.{◌≡◌, ℕ, zero, suc, ◌+◌, ◌<◌, ◌≤◌, ◌||◌, ◌⊎◌, Bool, true, false, cond, List, [], ◌∷◌, ◌++◌, length, get_or, take, drop, refl, arith, ap, ◌∙◌, sym, subst, inl, inr, true≢false}
use Rattle.std.specs.List.{All, list_any}
use Rattle.std.specs.Cmp.{IsTotalOrder, IsStrictWeakOrder}
use Rattle.std.specs.Ordering.{nat_cmp, is_lt, ordering_then}
use Rattle.std.specs.Cmp.Lexicographic.{slice_cmp}
use Rattle.std.specs.declared.cmp.Ordering.{Ordering}
use Rattle.std.specs.declared.cmp.Ordering.TheVariants.{Less, Equal, Greater}
use Rattle.std.proofs.lemmas.Bool.{cases_lt}
use Rattle.std.proofs.lemmas.Cmp.{nat_list_cmp_total, on_total, then_total}
use Rattle.std.proofs.lemmas.List.{get_or_append_left, length_push, get_or-drop, get_or-take, length-take-le, length-drop}
use Rattle.std.proofs.lemmas.List.Folds.{list_any_more}
use Rattle.std.proofs.lemmas.List.Sorted.{ranks_by, sorted_far}
use Rattle.enfilade_core.specs.declared.tree.Row.{Row}
use Rattle.index_checks.specs.declared.point.Point.{Point}
use Rattle.index_checks.specs.inside.Order.{row_cmp, is_row_before, AreSorted}
use Rattle.index_checks.specs.inside.Points.{point_cmp, is_point_before, later_point, row_start_point, row_end_point, starts_behind, ends_behind, IsReach, AreReaches}
use Rattle.index_checks.proofs.RowOrder.{rows_rank}

-- ---- the order

pub points_total : IsTotalOrder point_cmp
points_total = then_total (on_total (λ (p : Point). p.key) nat_list_cmp_total) (on_total (λ (p : Point). p.place) nat_list_cmp_total)

pub points_rank : IsStrictWeakOrder is_point_before
points_rank = ranks_by points_total (λ (p : Point). p)

pub before_far : (a b c : Point) → is_point_before a b ≡ true → is_point_before c b ≡ false → is_point_before a c ≡ true
before_far a b c ab cb = by (is_point_before a c) refl
  where
    by : (t : Bool) → t ≡ is_point_before a c → is_point_before a c ≡ true
    by true is = sym is
    by false is = absurd (true≢false (sym ab ∙ points_rank.chain a c b (sym is) cb))

pub near_before : (a b c : Point) → is_point_before b a ≡ false → is_point_before b c ≡ true → is_point_before a c ≡ true
near_before a b c ba bc = by (is_point_before a c) refl
  where
    by : (t : Bool) → t ≡ is_point_before a c → is_point_before a c ≡ true
    by true is = sym is
    by false is = absurd (true≢false (sym bc ∙ points_rank.chain b a c ba (sym is)))

or_second : (x y : Bool) → (x ≡ true → y ≡ true) → y ≡ (x || y)
or_second true y h = h refl
or_second false y h = refl

or_first : (x y : Bool) → (x ≡ false → y ≡ false) → x ≡ (x || y)
or_first true y h = refl
or_first false y h = sym (h refl)

before_later : (p a b : Point) → is_point_before p (later_point a b) ≡ (is_point_before p a || is_point_before p b)
before_later p a b = by (is_point_before a b) refl
  where
    by : (t : Bool) → t ≡ is_point_before a b → is_point_before p (cond t b a) ≡ (is_point_before p a || is_point_before p b)
    by true is = or_second (is_point_before p a) (is_point_before p b) (λ pa. before_far p a b pa (points_rank.one_way a b (sym is)))
    by false is = or_first (is_point_before p a) (is_point_before p b) (λ pa. points_rank.chain p a b pa (sym is))

none_before : (key place : List ℕ) → is_lt (ordering_then (slice_cmp nat_cmp key []) (slice_cmp nat_cmp place [])) ≡ false
none_before [] [] = refl
none_before [] (x ∷ place) = refl
none_before (x ∷ key) place = refl

-- ---- row by row

-- how far the first rows reach, up to so many
pub record IsReachSoFar (rows : List (Row (List ℕ))) (k : ℕ) (made : List Point) (reach : Point) : Type 0 where
  pub here : IsReach (take k rows) reach
  pub counted : length made ≡ k + 1
  pub each : (j : ℕ) (d : Point) → j < k + 1 → IsReach (take j rows) (get_or made j d)

abbrev least : Point
least = record { key = []; place = [] }

none_reach : (rows : List (Row (List ℕ))) (j : ℕ) → j < 1 → IsReach (take j rows) least
none_reach rows zero lt p = none_before p.key p.place
none_reach rows (suc j) lt p = absurd (omega arith)

one_only : (made : List Point) (reach : Point) → made ≡ reach ∷ [] → (j : ℕ) (d : Point) → j < 1 → get_or made j d ≡ reach
one_only made reach is zero d lt = ap (λ (m : List Point). get_or m 0 d) is
one_only made reach is (suc j) d lt = absurd (omega arith)

pub reach_at_first : (rows : List (Row (List ℕ))) (made : List Point) (reach : Point) → reach ≡ least → made ≡ reach ∷ [] → IsReachSoFar rows 0 made reach
reach_at_first rows made reach is made_is = record {
  here = subst (IsReach []) (sym is) (none_reach rows 0 (omega arith));
  counted = ap length made_is;
  each = λ j d lt. subst (IsReach (take j rows)) (sym (one_only made reach made_is j d (omega arith) ∙ is)) (none_reach rows j (omega arith));
}

reach_here : (rows : List (Row (List ℕ))) (k : ℕ) (made : List Point) (reach end next : Point) (row : Row (List ℕ)) → k < length rows → row ≡ get_or rows k row → IsReachSoFar rows k made reach
    → end ≡ row_end_point row → next ≡ later_point reach end → IsReach (take (k + 1) rows) next
reach_here rows k made reach end next row lt at so_far end_is next_is p =
    ap (is_point_before p) next_is ∙ before_later p reach end
    ∙ (λ i. so_far.here p i || is_point_before p (end_is i))
    ∙ ap (λ (r : Row (List ℕ)). list_any (ends_behind p) (take k rows) || ends_behind p r) at
    ∙ sym (list_any_more (ends_behind p) rows k row lt)

last_pushed : (xs : List Point) (y d : Point) → get_or (xs ++ y ∷ []) (length xs) d ≡ y
last_pushed [] y d = refl
last_pushed (x ∷ xs) y d = last_pushed xs y d

reach_each : (rows : List (Row (List ℕ))) (k : ℕ) (made : List Point) (reach next : Point) → IsReachSoFar rows k made reach → IsReach (take (k + 1) rows) next
    → (j : ℕ) (d : Point) → (j < k + 1) ⊎ (k + 1 ≤ j) → j < k + 1 + 1 → IsReach (take j rows) (get_or (made ++ next ∷ []) j d)
reach_each rows k made reach next so_far here j d (inl before) within =
    subst (IsReach (take j rows)) (sym (get_or_append_left made (next ∷ []) d j (omega (arith, so_far.counted)))) (so_far.each j d before)
reach_each rows k made reach next so_far here j d (inr last) within =
    let is : j ≡ k + 1 = omega arith in
    let long : j ≡ length made = omega (arith, so_far.counted) in
    let there : get_or (made ++ next ∷ []) j d ≡ next = ap (λ (n : ℕ). get_or (made ++ next ∷ []) n d) long ∙ last_pushed made next d in
    subst (IsReach (take j rows)) (sym there) (subst (λ (n : ℕ). IsReach (take n rows) next) (sym is) here)

pub reach_more : (rows : List (Row (List ℕ))) (k : ℕ) (made now : List Point) (reach end next : Point) (row : Row (List ℕ)) → k < length rows → row ≡ get_or rows k row → IsReachSoFar rows k made reach
    → end ≡ row_end_point row → next ≡ later_point reach end → now ≡ made ++ next ∷ [] → IsReachSoFar rows (k + 1) now next
reach_more rows k made now reach end next row lt at so_far end_is next_is now_is =
    let here = reach_here rows k made reach end next row lt at so_far end_is next_is in
    record {
      here = here;
      counted = ap length now_is ∙ length_push made next ∙ ap (λ (n : ℕ). n + 1) so_far.counted;
      each = λ j d within. subst (λ (m : List Point). IsReach (take j rows) (get_or m j d)) (sym now_is) (reach_each rows k made reach next so_far here j d (cases_lt j (k + 1)) within);
    }

pub reach_all : (rows : List (Row (List ℕ))) (k : ℕ) (made : List Point) (reach : Point) → k ≡ length rows → IsReachSoFar rows k made reach → AreReaches rows made
reach_all rows k made reach all so_far = record {
  counted = so_far.counted ∙ ap (λ (n : ℕ). n + 1) all;
  each = λ j d lt. so_far.each j d (omega (arith, so_far.counted));
}

-- ---- where rows start

start_order : (k f l : Ordering) → is_lt (ordering_then k (ordering_then f l)) ≡ false → is_lt (ordering_then k f) ≡ false
start_order Less f l h = h
start_order Equal Less l h = h
start_order Equal Equal l h = refl
start_order Equal Greater l h = refl
start_order Greater f l h = refl

-- of two rows in order the second does not start before the first
starts_in_order : (rows : List (Row (List ℕ))) → AreSorted rows → (i j : ℕ) (d : Row (List ℕ)) → i ≤ j → j < length rows → is_point_before (row_start_point (get_or rows j d)) (row_start_point (get_or rows i d)) ≡ false
starts_in_order rows sorted i j d le lt =
    let a = get_or rows j d in
    let b = get_or rows i d in
    start_order (slice_cmp nat_cmp a.second b.second) (slice_cmp nat_cmp a.first b.first) (slice_cmp nat_cmp a.leaf b.leaf) (sorted_far is_row_before rows_rank rows sorted i j d le lt)

-- within a list it does not matter what stands past its end
same_there : {X : Type 0} (xs : List X) (n : ℕ) (a b : X) → n < length xs → get_or xs n a ≡ get_or xs n b
same_there [] n a b lt = absurd (omega arith)
same_there (x ∷ xs) zero a b lt = refl
same_there (x ∷ xs) (suc n) a b lt = same_there xs n a b (omega arith)

pub behind_from : (rows : List (Row (List ℕ))) (m : ℕ) (point : Point) (row : Row (List ℕ)) → AreSorted rows → m < length rows → row ≡ get_or rows m row → starts_behind point row ≡ true → All (λ r. starts_behind point r ≡ true) (drop m rows)
behind_from rows m point row sorted lt at here k d within =
    let long : m + k < length rows = omega (arith, length-drop m rows) in
    let row_is : row ≡ get_or rows m d = at ∙ same_there rows m row d lt in
    let start : is_point_before point (row_start_point (get_or rows m d)) ≡ true = ap (starts_behind point) (sym row_is) ∙ here in
    rw (get_or-drop m rows k d) (before_far point (row_start_point (get_or rows m d)) (row_start_point (get_or rows (m + k) d)) start (starts_in_order rows sorted m (m + k) d (omega arith) long))

pub up_to_here : (rows : List (Row (List ℕ))) (m : ℕ) (point : Point) (row : Row (List ℕ)) → AreSorted rows → m < length rows → row ≡ get_or rows m row → starts_behind point row ≡ false → All (λ r. starts_behind point r ≡ false) (take (m + 1) rows)
up_to_here rows m point row sorted lt at here k d within =
    let long : length (take (m + 1) rows) ≡ m + 1 = length-take-le (m + 1) rows (omega arith) in
    let row_is : row ≡ get_or rows m d = at ∙ same_there rows m row d lt in
    let start : is_point_before point (row_start_point (get_or rows m d)) ≡ false = ap (starts_behind point) (sym row_is) ∙ here in
    rw (get_or-take (m + 1) rows k d (omega arith)) (points_rank.chain point (row_start_point (get_or rows m d)) (row_start_point (get_or rows k d)) start (starts_in_order rows sorted k m d (omega arith) lt))
