-- Runs, and the rows that they lay out.
use Rattle.std.proofs.Common.{◌≡◌, ℕ, zero, suc, ◌+◌, ◌-◌, ◌<◌, ◌≤◌, ◌∙◌, ◌&&◌, ◌||◌, ◌++◌, ◌∷◌, [], Bool, List, length, take, drop, true, false, ap, sym, refl, subst, cond, arith, All, get_or, inl, inr, append-nil, append_assoc, length-append}
use Rattle.std.specs.Prelude.{filter, nat_le, nat_lt, ◌⊎◌}
use Rattle.std.specs.List.{AllPairs, flat_map}
use Rattle.std.proofs.lemmas.Bool.{true≢false}
use Rattle.std.proofs.lemmas.Bool.Decides.{nat_tests}
use Rattle.std.proofs.lemmas.List.{take_all, take_more}
use Rattle.std.proofs.lemmas.List.Concat.{flat_map-append}
use Rattle.std.proofs.lemmas.List.Elements.{All-nil, All-cons, All-head, All-tail}
use Rattle.std.proofs.lemmas.List.Kept.{AllPairs-cons, AllPairs-filter}
use Rattle.tumbler.specs.declared.span.Span.{Span}
use Rattle.tumbler.specs.Span.{end_of}
use Rattle.tumbler.specs.Places.{sum}
use Rattle.febe_data.specs.declared.run.Run.{Run}
use Rattle.enfilade_core.specs.Rows.{Shape, rows_of}
use Rattle.poom.specs.Bounds.{IsBound}
use Rattle.poom.specs.Pieces.{addresses_from}
use Rattle.poom.specs.Edited.{IsContentRun, run_addresses}
use Rattle.poom.specs.Laid.{IsRoot, texts}
use Rattle.poom.specs.Picked.{picked_from}
use Rattle.poom.proofs.Bounded.{bound_two, bound_past}
use Rattle.poom.proofs.Deletes.{picks_by}
use Rattle.poom.proofs.Picks.{picked-is}
use Rattle.world_rules.specs.declared.rows.Row.{Row}
use Rattle.world_rules.specs.declared.rows.Part.TheVariants.{Text}
use Rattle.world_rules.specs.Edits.{new_rows}
use Rattle.world_rules.proofs.Later.{after_first, without_first, none_later}
use Rattle.poom_compare.specs.declared.placing.Placed.{Placed}
use Rattle.poom_compare.specs.declared.positions.Interval.{Interval}
use Rattle.poom_compare.specs.Shared.{rows_of_text, rows_picked, is_picked_by_some}
use Rattle.poom_compare.specs.Placed.{is_in, is_in_some, is_picked_at_by, IsInterval, AreApart, AreIntervalsOf, IsPlaced, rows_at, rows_laid, RowsAscend}
use Rattle.poom_compare.proofs.Found.{front_shorter}

-- ---- rows of addresses

rows_append : (n m : ℕ) (xs ys : List (List ℕ)) → m ≡ n + length xs → new_rows [] n (xs ++ ys) ≡ new_rows [] n xs ++ new_rows [] m ys
rows_append n m [] ys e = let is : n ≡ m = omega arith in ap (λ (k : ℕ). new_rows [] k ys) is
rows_append n m (x ∷ xs) ys e = ap (λ (rows : List Row). record { document = []; part = Text; n = n; address = x } ∷ rows) (rows_append (n + 1) m xs ys (omega arith))

as_long : (part : ℕ) (document : List ℕ) (first count : ℕ) → length (addresses_from part document first count) ≡ count
as_long part document first zero = refl
as_long part document first (suc count) = let rest = as_long part document (first + 1) count in omega arith

pub rows_from : (n : ℕ) (xs : List (List ℕ)) → All (λ (row : Row). n ≤ row.n) (new_rows [] n xs)
rows_from n [] = All-nil (λ (row : Row). n ≤ row.n)
rows_from n (x ∷ xs) =
    All-cons (λ (row : Row). n ≤ row.n) (record { document = []; part = Text; n = n; address = x }) (new_rows [] (n + 1) xs) (omega arith)
    (λ k d lt. let later = rows_from (n + 1) xs k d lt in omega arith)

pub rows_upto : (n : ℕ) (xs : List (List ℕ)) → All (λ (row : Row). row.n < n + length xs) (new_rows [] n xs)
rows_upto n [] = All-nil (λ (row : Row). row.n < n + 0)
rows_upto n (x ∷ xs) =
    All-cons (λ (row : Row). row.n < n + length (x ∷ xs)) (record { document = []; part = Text; n = n; address = x }) (new_rows [] (n + 1) xs) (omega arith)
    (λ k d lt. let later = rows_upto (n + 1) xs k d lt in omega arith)

abbrev IsRowBefore : Row → Row → Type 0
IsRowBefore row later = row.n < later.n

rows_ascend : (n : ℕ) (xs : List (List ℕ)) → RowsAscend (new_rows [] n xs)
rows_ascend n [] = none_later IsRowBefore
rows_ascend n (x ∷ xs) =
    AllPairs-cons IsRowBefore (record { document = []; part = Text; n = n; address = x }) (new_rows [] (n + 1) xs) (λ k d lt. let later = rows_from (n + 1) xs k d lt in omega arith) (rows_ascend (n + 1) xs)

pub picked_ascend : (spans : List Span) (text : List (List ℕ)) (rows : List Row) → rows ≡ rows_picked spans text → RowsAscend rows
picked_ascend spans text rows is = subst RowsAscend (sym is) (AllPairs-filter IsRowBefore (is_picked_by_some spans) (new_rows [] 1 text) (rows_ascend 1 text))

-- ---- runs at their positions

run_one : (run : Run) → run_addresses (run ∷ []) ≡ addresses_from 1 run.content run.first run.length
run_one run = append-nil (addresses_from 1 run.content run.first run.length)

addresses_more : (runs : List Run) (k m : ℕ) (run : Run) → k < length runs → run ≡ get_or runs k run → m ≡ k + 1 → run_addresses (take m runs) ≡ run_addresses (take k runs) ++ addresses_from 1 run.content run.first run.length
addresses_more runs k m run lt is next =
    ap (λ (j : ℕ). run_addresses (take j runs)) next
    ∙ (ap run_addresses (take_more runs k run lt ∙ ap (λ (r : Run). take k runs ++ r ∷ []) (sym is))
    ∙ (flat_map-append (λ (r : Run). addresses_from 1 r.content r.first r.length) (take k runs) (run ∷ []) ∙ ap (λ (xs : List (List ℕ)). run_addresses (take k runs) ++ xs) (run_one run)))

pub position_more : (runs : List Run) (at k m position : ℕ) (run : Run) → k < length runs → run ≡ get_or runs k run → position ≡ at + length (run_addresses (take k runs)) → m ≡ k + 1 → position + run.length ≡ at + length (run_addresses (take m runs))
position_more runs at k m position run lt is so next =
    let long : length (run_addresses (take m runs)) ≡ length (run_addresses (take k runs)) + length (addresses_from 1 run.content run.first run.length) =
    ap length (addresses_more runs k m run lt is next) ∙ length-append (run_addresses (take k runs)) (addresses_from 1 run.content run.first run.length) in
    let count = as_long 1 run.content run.first run.length in
    omega arith

pub position_fits : (runs : List Run) (at k position : ℕ) (run : Run) → k < length runs → run ≡ get_or runs k run → position ≡ at + length (run_addresses (take k runs)) → at + length (run_addresses runs) ≤ 1073741825 → position + run.length ≤ 1073741825
position_fits runs at k position run lt is so fits =
    let more = position_more runs at k (k + 1) position run lt is so refl in
    let shorter = front_shorter (λ (r : Run). addresses_from 1 r.content r.first r.length) (k + 1) runs in
    omega arith

pub placed_right : (position : ℕ) (run : Run) → IsContentRun run → 1 ≤ position → position + run.length ≤ 1073741825 → IsPlaced (record { at = position; document = run.content; first = run.first; length = run.length })
placed_right position run is one ends =
    let fits = is.fits in
    record { at_from_one = one; filled = is.filled; ends = ends; from_one = is.from_one; fits = omega arith }

laid_push : (all : List Placed) (p : Placed) → rows_laid (all ++ p ∷ []) ≡ rows_laid all ++ rows_at p
laid_push all p = flat_map-append rows_at all (p ∷ []) ∙ ap (λ (rows : List Row). rows_laid all ++ rows) (append-nil (rows_at p))

pub laid_more : (runs : List Run) (at k m position : ℕ) (run : Run) (p : Placed) (old now new : List Placed) → k < length runs → run ≡ get_or runs k run → position ≡ at + length (run_addresses (take k runs))
    → rows_laid now ≡ rows_laid old ++ new_rows [] at (run_addresses (take k runs)) → p ≡ record { at = position; document = run.content; first = run.first; length = run.length } → new ≡ now ++ p ∷ [] → m ≡ k + 1
    → rows_laid new ≡ rows_laid old ++ new_rows [] at (run_addresses (take m runs))
laid_more runs at k m position run p old now new lt is so laid p_is pushed next =
    ap rows_laid pushed
    ∙ (laid_push now p
    ∙ ((λ i. laid i ++ rows_at (p_is i))
    ∙ (append_assoc (rows_laid old) (new_rows [] at (run_addresses (take k runs))) (new_rows [] position (addresses_from 1 run.content run.first run.length))
    ∙ ap (λ (rows : List Row). rows_laid old ++ rows)
    (sym (rows_append at position (run_addresses (take k runs)) (addresses_from 1 run.content run.first run.length) so) ∙ ap (new_rows [] at) (sym (addresses_more runs k m run lt is next))))))

pub laid_done : (runs : List Run) (at k : ℕ) (old now : List Placed) → length runs ≤ k → rows_laid now ≡ rows_laid old ++ new_rows [] at (run_addresses (take k runs)) → rows_laid now ≡ rows_laid old ++ new_rows [] at (run_addresses runs)
laid_done runs at k old now le laid = laid ∙ ap (λ (rs : List Run). rows_laid old ++ new_rows [] at (run_addresses rs)) (take_all k runs le)

pub laid_none : (at : ℕ) (old : List Placed) → rows_laid old ≡ rows_laid old ++ new_rows [] at (run_addresses [])
laid_none at old = sym (append-nil (rows_laid old))

-- ---- what an interval has

abbrev InIt : Interval → Row → Bool
InIt interval row = is_in row.n interval

in_yes : (a b n : ℕ) → a ≤ n → n < b → (nat_le a n && nat_lt n b) ≡ true
in_yes a b n l m = grind (arith, nat_tests)

in_low : (a b n : ℕ) → n < a → (nat_le a n && nat_lt n b) ≡ false
in_low a b n l = grind (arith, nat_tests)

in_high : (a b n : ℕ) → b ≤ n → (nat_le a n && nat_lt n b) ≡ false
in_high a b n l = grind (arith, nat_tests)

take_none : (k : ℕ) → take {A = List ℕ} k [] ≡ []
take_none zero = refl
take_none (suc k) = refl

drop_none : (k : ℕ) → drop {A = List ℕ} k [] ≡ []
drop_none zero = refl
drop_none (suc k) = refl

kept : (p : Row → Bool) (row : Row) (rows more : List Row) → p row ≡ true → filter p rows ≡ more → filter p (row ∷ rows) ≡ row ∷ more
kept p row rows more e rest = ap (λ (b : Bool). cond b (row ∷ filter p rows) (filter p rows)) e ∙ ap (λ (rs : List Row). row ∷ rs) rest

dropped : (p : Row → Bool) (row : Row) (rows more : List Row) → p row ≡ false → filter p rows ≡ more → filter p (row ∷ rows) ≡ more
dropped p row rows more e rest = ap (λ (b : Bool). cond b (row ∷ filter p rows) (filter p rows)) e ∙ rest

split : (a b : ℕ) → (a < b) ⊎ (b ≤ a)
split a b = grind arith

-- from inside of it on
had_inside : (interval : Interval) (n : ℕ) (xs : List (List ℕ)) → interval.from ≤ n → filter (InIt interval) (new_rows [] n xs) ≡ new_rows [] n (take (interval.to - n) xs)
had_inside interval n [] from = sym (ap (new_rows [] n) (take_none (interval.to - n)))
had_inside interval n (x ∷ xs) from = go (split n interval.to) (had_inside interval (n + 1) xs (omega arith))
  where
    row : Row
    row = record { document = []; part = Text; n = n; address = x }

    go : (n < interval.to) ⊎ (interval.to ≤ n) → filter (InIt interval) (new_rows [] (n + 1) xs) ≡ new_rows [] (n + 1) (take (interval.to - (n + 1)) xs) → filter (InIt interval) (new_rows [] n (x ∷ xs)) ≡ new_rows [] n (take (interval.to - n) (x ∷ xs))
    go (inl lt) rest =
        let one : interval.to - n ≡ suc (interval.to - (n + 1)) = omega arith in
        kept (InIt interval) (record { document = []; part = Text; n = n; address = x }) (new_rows [] (n + 1) xs) (new_rows [] (n + 1) (take (interval.to - (n + 1)) xs)) (in_yes interval.from interval.to n from lt) rest
        ∙ ap (λ (k : ℕ). new_rows [] n (take k (x ∷ xs))) (sym one)
    go (inr ge) rest =
        let none : interval.to - n ≡ 0 = omega arith in
        let none' : interval.to - (n + 1) ≡ 0 = omega arith in
        dropped (InIt interval) (record { document = []; part = Text; n = n; address = x }) (new_rows [] (n + 1) xs) [] (in_high interval.from interval.to n ge) (rest ∙ ap (λ (k : ℕ). new_rows [] (n + 1) (take k xs)) none')
        ∙ ap (λ (k : ℕ). new_rows [] n (take k (x ∷ xs))) (sym none)

had_from : (interval : Interval) (n : ℕ) (xs : List (List ℕ)) → n ≤ interval.from → filter (InIt interval) (new_rows [] n xs) ≡ new_rows [] interval.from (take (interval.to - interval.from) (drop (interval.from - n) xs))
had_from interval n [] le = sym (ap (λ (ys : List (List ℕ)). new_rows [] interval.from (take (interval.to - interval.from) ys)) (drop_none (interval.from - n)) ∙ ap (new_rows [] interval.from) (take_none (interval.to - interval.from)))
had_from interval n (x ∷ xs) le = go (split n interval.from) (had_from interval (n + 1) xs)
  where
    go : (n < interval.from) ⊎ (interval.from ≤ n) → (n + 1 ≤ interval.from → filter (InIt interval) (new_rows [] (n + 1) xs) ≡ new_rows [] interval.from (take (interval.to - interval.from) (drop (interval.from - (n + 1)) xs)))
        → filter (InIt interval) (new_rows [] n (x ∷ xs)) ≡ new_rows [] interval.from (take (interval.to - interval.from) (drop (interval.from - n) (x ∷ xs)))
    go (inl lt) rest =
        let one : interval.from - n ≡ suc (interval.from - (n + 1)) = omega arith in
        dropped (InIt interval) (record { document = []; part = Text; n = n; address = x }) (new_rows [] (n + 1) xs) (new_rows [] interval.from (take (interval.to - interval.from) (drop (interval.from - (n + 1)) xs))) (in_low interval.from interval.to n lt)
        (rest (omega arith))
        ∙ ap (λ (k : ℕ). new_rows [] interval.from (take (interval.to - interval.from) (drop k (x ∷ xs)))) (sym one)
    go (inr ge) rest =
        let same : n ≡ interval.from = omega arith in
        let none : interval.from - n ≡ 0 = omega arith in
        had_inside interval n (x ∷ xs) ge
        ∙ ((λ i. new_rows [] (same i) (take (interval.to - same i) (x ∷ xs))) ∙ ap (λ (k : ℕ). new_rows [] interval.from (take (interval.to - interval.from) (drop k (x ∷ xs)))) (sym none))

-- ---- what the tree picks

abbrev pub span_between : (from to : ℕ) → Span
span_between from to = record { start = 1 ∷ from ∷ []; width = 0 ∷ (to - from) ∷ [] }

end_is : (from k : ℕ) → 1 ≤ k → sum (1 ∷ from ∷ []) (0 ∷ k ∷ []) ≡ 1 ∷ (from + k) ∷ []
end_is from zero one = absurd (omega arith)
end_is from (suc k) one = refl

start_bound : (long from : ℕ) → 1 ≤ from → from ≤ long → IsBound 1 (1 ∷ from ∷ []) long from
start_bound long from one le = bound_two 1 (1 ∷ from ∷ []) long from refl (omega arith) (omega arith) le (omega arith) one (omega arith) (λ _. refl)

end_bound : (long to : ℕ) → 1 ≤ to → to ≤ long + 1 → IsBound 1 (1 ∷ to ∷ []) long to
end_bound long to one le = go (split long to)
  where
    go : (long < to) ⊎ (to ≤ long) → IsBound 1 (1 ∷ to ∷ []) long to
    go (inl past) =
        let is : long + 1 ≡ to = omega arith in
        subst (IsBound 1 (1 ∷ to ∷ []) long) is (bound_past 1 (1 ∷ to ∷ []) long (λ e. omega arith) (λ e. omega arith) (omega arith) (omega arith) past)
    go (inr within) = start_bound long to one within

pub picked_between : (interval : Interval) (span : Span) (S : List (List ℕ)) → IsInterval (length S) interval → span ≡ span_between interval.from interval.to → picked_from 1 span 1 S ≡ take (interval.to - interval.from) (drop (interval.from - 1) S)
picked_between interval span S is e =
    let one = is.from_one in
    let some = is.some in
    let le = is.to_end in
    let at : interval.from + (interval.to - interval.from) ≡ interval.to = omega arith in
    let end : 1 ∷ interval.to ∷ [] ≡ end_of (span_between interval.from interval.to) = sym (end_is interval.from (interval.to - interval.from) (omega arith) ∙ ap (λ (n : ℕ). 1 ∷ n ∷ []) at) in
    ap (λ (s : Span). picked_from 1 s 1 S) e
    ∙ picked-is 1 (span_between interval.from interval.to) interval.from interval.to 1 S one
    (picks_by 1 (span_between interval.from interval.to) (1 ∷ interval.to ∷ []) (length S) interval.from interval.to end (start_bound (length S) interval.from one (omega arith)) (end_bound (length S) interval.to (omega arith) le))

pub runs_fit : (interval : Interval) (span : Span) (S : List (List ℕ)) (runs : List Run) → IsInterval (length S) interval → span ≡ span_between interval.from interval.to → length S ≤ 1073741824 → run_addresses runs ≡ picked_from 1 span 1 S
    → interval.from + length (run_addresses runs) ≤ 1073741825
runs_fit interval span S runs is e few picked =
    let at : run_addresses runs ≡ take (interval.to - interval.from) (drop (interval.from - 1) S) = picked ∙ picked_between interval span S is e in
    let long : length (run_addresses runs) ≤ interval.to - interval.from = subst (λ (xs : List (List ℕ)). length xs ≤ interval.to - interval.from) (sym at) (take_long (interval.to - interval.from) (drop (interval.from - 1) S)) in
    let some = is.some in
    let le = is.to_end in
    omega arith
  where
    take_long : (k : ℕ) (xs : List (List ℕ)) → length (take k xs) ≤ k
    take_long zero xs = omega arith
    take_long (suc k) [] = omega arith
    take_long (suc k) (x ∷ xs) = let rest = take_long k xs in omega arith

pub rows_had : (interval : Interval) (span : Span) (S : List (List ℕ)) (runs : List Run) (old new : List Placed) → IsInterval (length S) interval → span ≡ span_between interval.from interval.to → run_addresses runs ≡ picked_from 1 span 1 S
    → rows_laid new ≡ rows_laid old ++ new_rows [] interval.from (run_addresses runs) → rows_laid new ≡ rows_laid old ++ filter (λ (row : Row). is_in row.n interval) (rows_of_text S)
rows_had interval span S runs old new is e picked laid =
    laid
    ∙ ap (λ (rows : List Row). rows_laid old ++ rows) (ap (new_rows [] interval.from) (picked ∙ picked_between interval span S is e) ∙ sym (had_from interval 1 S is.from_one))

pub text_fits : (nodes : List (Shape ℕ)) (root : ℕ) → IsRoot nodes root → length (texts (rows_of nodes root)) ≤ 1073741824
text_fits nodes root is = is.document.text_fits

-- ---- what intervals have together

-- two tests of which the first holds of no row behind one of which the second holds
both_kept : (p q : Row → Bool) (rows : List Row) → AllPairs (λ (a b : Row). q a ≡ true → p b ≡ false) rows → All (λ (a : Row). q a ≡ true → p a ≡ false) rows → filter (λ row. p row || q row) rows ≡ filter p rows ++ filter q rows
both_kept p q [] apart each = refl
both_kept p q (row ∷ rows) apart each =
    go (p row) (q row) refl refl (both_kept p q rows (without_first (λ (a b : Row). q a ≡ true → p b ≡ false) row rows apart) (All-tail (λ (a : Row). q a ≡ true → p a ≡ false) row rows each))
  where
    none_kept : (rs : List Row) → All (λ (b : Row). p b ≡ false) rs → filter p rs ≡ []
    none_kept [] none = refl
    none_kept (r ∷ rs) none = dropped p r rs [] (All-head (λ (b : Row). p b ≡ false) r rs none) (none_kept rs (All-tail (λ (b : Row). p b ≡ false) r rs none))

    go : (a b : Bool) → p row ≡ a → q row ≡ b → filter (λ r. p r || q r) rows ≡ filter p rows ++ filter q rows
        → cond (a || b) (row ∷ filter (λ r. p r || q r) rows) (filter (λ r. p r || q r) rows) ≡ cond a (row ∷ filter p rows) (filter p rows) ++ cond b (row ∷ filter q rows) (filter q rows)
    go true true e f rest = absurd (true≢false (sym e ∙ All-head (λ (a : Row). q a ≡ true → p a ≡ false) row rows each f))
    go true false e f rest = ap (λ (rs : List Row). row ∷ rs) rest
    go false false e f rest = rest
    go false true e f rest =
        let none : filter p rows ≡ [] = none_kept rows (λ k d lt. after_first (λ (a b : Row). q a ≡ true → p b ≡ false) row rows apart k d lt f) in
        ap (λ (rs : List Row). row ∷ rs) (rest ∙ ap (λ (rs : List Row). rs ++ filter q rows) none) ∙ sym (ap (λ (rs : List Row). rs ++ (row ∷ filter q rows)) none)

inside : (a b n : ℕ) → (nat_le a n && nat_lt n b) ≡ true → (a ≤ n) × (n < b)
inside a b n e = (grind (arith, nat_tests), grind (arith, nat_tests))

-- what is in some of them is not before the first
none_before : (first : Interval) (rest : List Interval) (n : ℕ) → All (λ (i : Interval). first.to < i.from) rest → is_in_some rest n ≡ true → first.to < n
none_before first [] n later e = absurd (true≢false (sym e))
none_before first (i ∷ rest) n later e = go (is_in n i) refl e (none_before first rest n (All-tail (λ (j : Interval). first.to < j.from) i rest later))
  where
    go : (b : Bool) → is_in n i ≡ b → (b || is_in_some rest n) ≡ true → (is_in_some rest n ≡ true → first.to < n) → first.to < n
    go true at f more = let bounds = inside i.from i.to n at in let gap = All-head (λ (j : Interval). first.to < j.from) i rest later in omega (arith, bounds.0)
    go false at f more = more f

pub all_had : (intervals : List Interval) → AreApart intervals → (rows : List Row) → RowsAscend rows → flat_map (λ (i : Interval). filter (InIt i) rows) intervals ≡ filter (λ (row : Row). is_in_some intervals row.n) rows
all_had [] apart rows ascend = sym (none rows)
  where
    none : (rs : List Row) → filter (λ (row : Row). false) rs ≡ []
    none [] = refl
    none (r ∷ rs) = none rs
all_had (i ∷ rest) apart rows ascend =
    ap (λ (rs : List Row). filter (InIt i) rows ++ rs) (all_had rest (without_first (λ (a b : Interval). a.to < b.from) i rest apart) rows ascend)
    ∙ sym (both_kept (InIt i) (λ (row : Row). is_in_some rest row.n) rows
    (λ k j d lt within later. out i.from i.to (get_or rows k d).n (get_or rows j d).n (none_before i rest (get_or rows k d).n (after_first (λ (a b : Interval). a.to < b.from) i rest apart) later) (ascend k j d lt within))
    (λ k d lt later. out_here i.from i.to (get_or rows k d).n (none_before i rest (get_or rows k d).n (after_first (λ (a b : Interval). a.to < b.from) i rest apart) later)))
  where
    out : (a b n m : ℕ) → b < n → n < m → (nat_le a m && nat_lt m b) ≡ false
    out a b n m l o = in_high a b m (omega arith)

    out_here : (a b n : ℕ) → b < n → (nat_le a n && nat_lt n b) ≡ false
    out_here a b n l = in_high a b n (omega arith)

-- tests that agree on each row keep the same ones
same_kept : (p q : Row → Bool) (rows : List Row) → All (λ (row : Row). p row ≡ q row) rows → filter p rows ≡ filter q rows
same_kept p q [] same = refl
same_kept p q (row ∷ rows) same =
    (λ i. cond (All-head (λ (r : Row). p r ≡ q r) row rows same i) (row ∷ same_kept p q rows (All-tail (λ (r : Row). p r ≡ q r) row rows same) i) (same_kept p q rows (All-tail (λ (r : Row). p r ≡ q r) row rows same) i))

texts_are : (n : ℕ) (xs : List (List ℕ)) → All (λ (row : Row). row.part ≡ Text) (new_rows [] n xs)
texts_are n [] = All-nil (λ (row : Row). row.part ≡ Text)
texts_are n (x ∷ xs) = All-cons (λ (row : Row). row.part ≡ Text) (record { document = []; part = Text; n = n; address = x }) (new_rows [] (n + 1) xs) refl (texts_are (n + 1) xs)

pub rows_are_picked : (intervals : List Interval) (spans : List Span) (S : List (List ℕ)) → AreIntervalsOf (length S) spans intervals → flat_map (λ (i : Interval). filter (InIt i) (rows_of_text S)) intervals ≡ rows_picked spans S
rows_are_picked intervals spans S are =
    all_had intervals are.apart (new_rows [] 1 S) (rows_ascend 1 S)
    ∙ same_kept (λ (row : Row). is_in_some intervals row.n) (is_picked_by_some spans) (new_rows [] 1 S)
    (λ k d lt.
    let row = get_or (new_rows [] 1 S) k d in
    let from = rows_from 1 S k d lt in
    let to = rows_upto 1 S k d lt in
    are.same row.n from (omega arith) ∙ by_part row (texts_are 1 S k d lt))
  where
    by_part : (row : Row) → row.part ≡ Text → is_picked_at_by spans row.n ≡ is_picked_by_some spans row
    by_part row e = ap (λ part. is_picked_by_some spans (record row { part = part })) (sym e)

-- ---- one interval after another

pub had_more : (intervals : List Interval) (rows : List Row) (k m : ℕ) (d : Interval) (now new : List Placed) → k < length intervals → rows_laid now ≡ flat_map (λ (i : Interval). filter (InIt i) rows) (take k intervals)
    → rows_laid new ≡ rows_laid now ++ filter (InIt (get_or intervals k d)) rows → m ≡ k + 1 → rows_laid new ≡ flat_map (λ (i : Interval). filter (InIt i) rows) (take m intervals)
had_more intervals rows k m d now new lt so more next =
    more
    ∙ (ap (λ (rs : List Row). rs ++ filter (InIt (get_or intervals k d)) rows) so
    ∙ (ap (λ (rs : List Row). flat_map (λ (i : Interval). filter (InIt i) rows) (take k intervals) ++ rs) (sym (append-nil (filter (InIt (get_or intervals k d)) rows)))
    ∙ (sym (flat_map-append (λ (i : Interval). filter (InIt i) rows) (take k intervals) (get_or intervals k d ∷ []))
    ∙ ap (flat_map (λ (i : Interval). filter (InIt i) rows)) (sym (ap (λ (j : ℕ). take j intervals) next ∙ take_more intervals k d lt)))))

pub had_all : (intervals : List Interval) (spans : List Span) (S : List (List ℕ)) (k : ℕ) (now : List Placed) → AreIntervalsOf (length S) spans intervals → length intervals ≤ k
    → rows_laid now ≡ flat_map (λ (i : Interval). filter (InIt i) (rows_of_text S)) (take k intervals) → rows_laid now ≡ rows_picked spans S
had_all intervals spans S k now are le so = so ∙ (ap (flat_map (λ (i : Interval). filter (InIt i) (rows_of_text S))) (take_all k intervals le) ∙ rows_are_picked intervals spans S are)
