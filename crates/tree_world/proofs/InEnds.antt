-- The text that is in the ends of links.
use Rattle.std.proofs.Common.{◌≡◌, ◌∙◌, ◌⊎◌, inl, inr, ℕ, zero, suc, ◌+◌, ◌-◌, ◌<◌, ◌≤◌, ◌==◌, ◌&&◌, ◌||◌, Bool, true, false, List, [], ◌∷◌, ◌++◌, length, take, map, get_or, max, min, Option, Some, None, cond, refl, sym, ap, subst, arith, All}
use Rattle.std.specs.Prelude.{filter, nat_le, nat_lt}
use Rattle.std.specs.List.{list_any, flat_map}
use Rattle.std.proofs.lemmas.Bool.Decides.{nat_tests}
use Rattle.std.proofs.lemmas.List.{take_more, take_all}
use Rattle.std.proofs.lemmas.List.Folds.{list_any-append, list_any_more}
use Rattle.std.proofs.lemmas.List.Elements.{All-weaker}
use Rattle.std.proofs.lemmas.List.Sorted.{list_any-IsPermutation}
use Rattle.std.proofs.lemmas.Grind.{flat_map-append}
use Rattle.tumbler.specs.declared.span.Span.{Span}
use Rattle.tumbler.proofs.InOrder.{any_more}
use Rattle.tumbler.proofs.OrLaws.{or_none}
use Rattle.febe_data.specs.declared.run.Run.{Run}
use Rattle.febe_data.specs.Plain.{PlainSpec}
use Rattle.enfilade_core.specs.declared.tree.Node.{Node}
use Rattle.enfilade_core.specs.Rows.{rows_of}
use Rattle.poom.specs.Pieces.{addresses_from}
use Rattle.poom.specs.Laid.{texts}
use Rattle.doc_table.specs.DocumentRows.{root_in}
use Rattle.poom_compare.specs.declared.positions.Interval.{Interval}
use Rattle.poom_compare.specs.declared.placing.Placed.{Placed}
use Rattle.poom_compare.specs.Shared.{rows_picked, is_picked_by_some}
use Rattle.poom_compare.specs.Placed.{is_in, is_in_some, IsInterval, AreApart, rows_at, rows_laid}
use Rattle.poom_compare.proofs.Worlds.{of_none, filter_mapped, picked_of_none, picked_shown}
use Rattle.links.specs.LinkLists.{IsRun, IsLink, run_span, runs_at, spans_at}
use Rattle.links.specs.Finding.{span_cmp, spans_meet, spans_met}
use Rattle.links.proofs.OrderedSpans.{same_span}
use Rattle.world_rules.specs.declared.rows.Row.{Row}
use Rattle.world_rules.specs.declared.rows.Part.TheVariants.{Text}
use Rattle.world_rules.specs.declared.ends.End.{End}
use Rattle.world_rules.specs.World.{LinkRow, is_same, content_address, account_of_session}
use Rattle.world_rules.specs.Readable.{is_readable}
use Rattle.world_rules.specs.Picking.{is_in_run, is_in_runs, picked_once, intervals, places_of}
use Rattle.world_rules.specs.Edits.{new_rows}
use Rattle.world_rules.specs.Ends.{runs_of_end, is_in_end, end_set_of}
use Rattle.world_rules.specs.FlatView.{FlatView}
use Rattle.world_rules.proofs.ListTests.{filter_both}
use Rattle.tree_world.specs.Trees.{Trees, text_at, text_in}
use Rattle.tree_world.specs.Standing.{Stands}
use Rattle.tree_world.specs.inside.InEnds.{names_number, is_met_at, is_in_end_of, has_row_in_end, span_between, spans_in_end, IsNumbersOf}
use Rattle.tree_world.specs.inside.Reads.{reads_in, links_for}
use Rattle.tree_world.proofs.MayRead.{reads_are}
use Rattle.tree_world.proofs.Lists.{any_alike, any_map, any_filter, none_any}
use Rattle.tree_world.proofs.Places.{runs_met, content_is, number_is, width_number}
use Rattle.tree_world.proofs.Rising.{Rise, wider, fewest}

-- ---- tests of both kinds

any_and : {X : Type 0} (b : Bool) (p : X → Bool) (xs : List X) → list_any (λ x. b && p x) xs ≡ (b && list_any p xs)
any_and true p xs = refl
any_and false p xs = none_any xs

-- a test that tells something only where another passes
when_true : (b c d : Bool) → (b ≡ true → c ≡ d) → (b && c) ≡ (b && d)
when_true true c d same = same refl
when_true false c d same = refl

any_flat : {X Y : Type 0} (p : Y → Bool) (f : X → List Y) (xs : List X) → list_any p (flat_map f xs) ≡ list_any (λ x. list_any p (f x)) xs
any_flat p f [] = refl
any_flat p f (x ∷ xs) = list_any-append p (f x) (flat_map f xs) ∙ ap (λ (b : Bool). list_any p (f x) || b) (any_flat p f xs)

-- ---- the bytes of a run that are in an end

in_both : (same : Bool) (first count from long n : ℕ) → first ≤ n → n < first + count
    → ((same && nat_lt (max first from) (min (first + count) (from + long))) && (nat_le from n && nat_lt n (from + long))) ≡ (same && nat_le from n && nat_lt n (from + long))
in_both same first count from long n le lt = grind (arith, nat_tests)

module _ (run : Run) (right : IsRun run) (number : ℕ) (from : run.first ≤ number) (to : number < run.first + run.length) where
  names : (other : Run) → IsRun other → names_number (run_span other) number ≡ (nat_le other.first number && nat_lt number (other.first + other.length))
  names other is = λ i. nat_le (number_is other.content other.first i) number && nat_lt number (number_is other.content other.first i + width_number other.content other.first other.length is.some i)

  met_and_named : (other : Run) → IsRun other → (spans_meet (run_span run) (run_span other) && names_number (run_span other) number) ≡ is_in_run (content_address run.content number) other
  met_and_named other is =
      (λ i. runs_met run other right is i && names other is i)
      ∙ in_both (is_same run.content other.content) run.first run.length other.first other.length number from to
      ∙ (λ i. is_same (sym (content_is run.content number) i) other.content && nat_le other.first (sym (number_is run.content number) i) && nat_lt (sym (number_is run.content number) i) (other.first + other.length))

  end_right : (end : ℕ) (link : LinkRow) → IsLink link → All IsRun (runs_at end link)
  end_right end link is = first (end == 1) (end == 2)
    where
      first : (a b : Bool) → All IsRun (cond a link.from (cond b link.to link.three))
      first true b = is.from
      first false true = is.to
      first false false = is.three

  named_in_link : (end : ℕ) (link : LinkRow) → IsLink link → list_any (λ span. spans_meet (run_span run) span && names_number span number) (spans_at end link) ≡ is_in_runs (runs_at end link) (content_address run.content number)
  named_in_link end link is =
      any_map (λ span. spans_meet (run_span run) span && names_number span number) run_span (runs_at end link)
      ∙ any_alike (λ other. spans_meet (run_span run) (run_span other) && names_number (run_span other) number) (is_in_run (content_address run.content number)) (runs_at end link)
      (All-weaker IsRun (λ other. (spans_meet (run_span run) (run_span other) && names_number (run_span other) number) ≡ is_in_run (content_address run.content number) other) met_and_named (runs_at end link) (end_right end link is))

  pub named_in_end : (end : ℕ) (links : List LinkRow) → All IsLink links → list_any (λ span. names_number span number) (spans_met end (run_span run) links) ≡ list_any (λ (link : LinkRow). is_in_runs (runs_at end link) (content_address run.content number)) links
  named_in_end end links all =
      any_more span_cmp same_span (λ span. names_number span number) (filter (spans_meet (run_span run)) (flat_map (spans_at end) links)) []
      ∙ any_filter (λ span. names_number span number) (spans_meet (run_span run)) (flat_map (spans_at end) links)
      ∙ any_flat (λ span. spans_meet (run_span run) span && names_number span number) (spans_at end) links
      ∙ any_alike (λ link. list_any (λ span. spans_meet (run_span run) span && names_number span number) (spans_at end link)) (λ (link : LinkRow). is_in_runs (runs_at end link) (content_address run.content number)) links
      (All-weaker IsLink (λ link. list_any (λ span. spans_meet (run_span run) span && names_number span number) (spans_at end link) ≡ is_in_runs (runs_at end link) (content_address run.content number)) (named_in_link end) links all)

-- ---- a run where it stands

trichotomy : (x y : ℕ) → (x ≡ y) ⊎ ((x < y) ⊎ (y < x))
trichotomy x y = grind arith

-- the row that stands at a position
row_there : (p : List ℕ → Bool) (document : List ℕ) (at first count n : ℕ)
    → list_any (λ (row : Row). row.n == n && p row.address) (new_rows [] at (addresses_from 1 document first count)) ≡ (nat_le at n && nat_lt n (at + count) && p (content_address document (first + (n - at))))
row_there p document at first zero n = nobody (p (content_address document (first + (n - at))))
  where
    nobody : (b : Bool) → false ≡ (nat_le at n && nat_lt n (at + 0) && b)
    nobody b = grind (arith, nat_tests)
row_there p document at first (suc count) n =
    ap (λ (b : Bool). (at == n && p (content_address document first)) || b) (row_there p document (at + 1) (first + 1) count n) ∙ by_order (trichotomy at n)
  where
    there : (b c : Bool) → at ≡ n → ((at == n && b) || (nat_le (at + 1) n && nat_lt n (at + 1 + count) && c)) ≡ (nat_le at n && nat_lt n (at + suc count) && b)
    there b c e = grind (arith, nat_tests)

    further : (b c : Bool) → at < n → ((at == n && b) || (nat_le (at + 1) n && nat_lt n (at + 1 + count) && c)) ≡ (nat_le at n && nat_lt n (at + suc count) && c)
    further b c e = grind (arith, nat_tests)

    before : (b c d : Bool) → n < at → ((at == n && b) || (nat_le (at + 1) n && nat_lt n (at + 1 + count) && c)) ≡ (nat_le at n && nat_lt n (at + suc count) && d)
    before b c d e = grind (arith, nat_tests)

    by_order : (at ≡ n) ⊎ ((at < n) ⊎ (n < at))
        → ((at == n && p (content_address document first)) || (nat_le (at + 1) n && nat_lt n (at + 1 + count) && p (content_address document (first + 1 + (n - (at + 1))))))
        ≡ (nat_le at n && nat_lt n (at + suc count) && p (content_address document (first + (n - at))))
    by_order (inl e) =
        let same : first ≡ first + (n - at) = omega (arith, e) in
        there (p (content_address document first)) (p (content_address document (first + 1 + (n - (at + 1))))) e ∙ ap (λ (m : ℕ). nat_le at n && nat_lt n (at + suc count) && p (content_address document m)) same
    by_order (inr (inl e)) =
        let same : first + 1 + (n - (at + 1)) ≡ first + (n - at) = omega (arith, e) in
        further (p (content_address document first)) (p (content_address document (first + 1 + (n - (at + 1))))) e ∙ ap (λ (m : ℕ). nat_le at n && nat_lt n (at + suc count) && p (content_address document m)) same
    by_order (inr (inr e)) = before (p (content_address document first)) (p (content_address document (first + 1 + (n - (at + 1))))) (p (content_address document (first + (n - at)))) e

inside_of : (at first count n : ℕ) → (nat_le at n && nat_lt n (at + count)) ≡ true → (first ≤ first + (n - at)) × (first + (n - at) < first + count)
inside_of at first count n e = (omega arith, below (n - at))
  where
    below : (m : ℕ) → first + (n - at) < first + count
    below m = grind (arith, nat_tests, e)

-- what the run shows of numbers that are in the end is what of it is in the end
pub known_met : (end : End) (links : List LinkRow) (placed : Placed) (extent : Interval) (numbers own : List Interval) (n : ℕ) → IsNumbersOf end links placed.document extent numbers → extent.from ≤ placed.first → placed.first + placed.length ≤ extent.to
    → ((m : ℕ) → placed.first ≤ m → m < placed.first + placed.length → is_in_some own m ≡ is_in_some numbers m) → list_any (λ interval. is_met_at placed interval n) own ≡ has_row_in_end end links (rows_at placed) n
known_met end links placed extent numbers own n are from to same =
    let m = placed.first + (n - placed.at) in
    let here = nat_le placed.at n && nat_lt n (placed.at + placed.length) in
    any_and here (is_in m) own
    ∙ when_true here (is_in_some own m) (is_in_end_of end links (content_address placed.document m))
    (λ inside. let bounds = inside_of placed.at placed.first placed.length n inside in same m bounds.0 bounds.1 ∙ are.same m (omega (arith, bounds.0, from)) (omega (arith, bounds.1, to)))
    ∙ sym (row_there (is_in_end_of end links) placed.document placed.at placed.first placed.length n)

pub pushed_in_end : (end : End) (links : List LinkRow) (placed : Placed) (extent : Interval) (numbers own : List Interval) (old new : List Interval) (n : ℕ) → IsNumbersOf end links placed.document extent numbers → extent.from ≤ placed.first
    → placed.first + placed.length ≤ extent.to → ((m : ℕ) → placed.first ≤ m → m < placed.first + placed.length → is_in_some own m ≡ is_in_some numbers m)
    → is_in_some new n ≡ (is_in_some old n || list_any (λ interval. is_met_at placed interval n) own) → is_in_some new n ≡ (is_in_some old n || has_row_in_end end links (rows_at placed) n)
pushed_in_end end links placed extent numbers own old new n are from to same more = more ∙ ap (λ (b : Bool). is_in_some old n || b) (known_met end links placed extent numbers own n are from to same)

-- ---- the positions of some numbers

met_behind : (at pf len first last k x to : ℕ) → 1 ≤ len → x ≡ min (max first pf) (pf + len) → to ≡ max (min last (pf + len)) pf
    → (nat_le (at + (x - pf)) (at + k) && nat_lt (at + k) (at + (to - pf))) ≡ ((nat_le at (at + k) && nat_lt (at + k) (at + len)) && (nat_le first (pf + k) && nat_lt (pf + k) last))
met_behind at pf len first last k x to some from_is to_is = grind (arith, nat_tests, from_is, to_is)

met_before : (at n a b len : ℕ) (c : Bool) → n < at → (nat_le (at + a) n && nat_lt n (at + b)) ≡ ((nat_le at n && nat_lt n (at + len)) && c)
met_before at n a b len c less = grind (arith, nat_tests)

below_or_not : (a b : ℕ) → (a < b) ⊎ (b ≤ a)
below_or_not a b = grind arith

pub met_numbers : (at pf len first last n x to : ℕ) → 1 ≤ len → x ≡ min (max first pf) (pf + len) → to ≡ max (min last (pf + len)) pf
    → (nat_le (at + (x - pf)) n && nat_lt n (at + (to - pf))) ≡ ((nat_le at n && nat_lt n (at + len)) && (nat_le first (pf + (n - at)) && nat_lt (pf + (n - at)) last))
met_numbers at pf len first last n x to some from_is to_is = elim (below_or_not n at) [
  | inl less ↦ met_before at n (x - pf) (to - pf) len (nat_le first (pf + (n - at)) && nat_lt (pf + (n - at)) last) less
  | inr le ↦
      let is : at + (n - at) ≡ n = omega (arith, le) in
      subst (λ (m : ℕ). (nat_le (at + (x - pf)) m && nat_lt m (at + (to - pf))) ≡ ((nat_le at m && nat_lt m (at + len)) && (nat_le first (pf + (n - at)) && nat_lt (pf + (n - at)) last))) is
      (met_behind at pf len first last (n - at) x to some from_is to_is)
]

-- ---- one more

pub placed_none : (end : End) (links : List LinkRow) (made : List Interval) (n : ℕ) → made ≡ [] → is_in_some made n ≡ has_row_in_end end links (rows_laid []) n
placed_none end links made n is = ap (λ (l : List Interval). is_in_some l n) is

pub placed_more : (end : End) (links : List LinkRow) (all : List Placed) (k m : ℕ) (placed : Placed) (old new : List Interval) (n : ℕ) → k < length all → placed ≡ get_or all k placed → m ≡ k + 1 → is_in_some old n ≡ has_row_in_end end links (rows_laid (take k all)) n
    → is_in_some new n ≡ (is_in_some old n || has_row_in_end end links (rows_at placed) n) → is_in_some new n ≡ has_row_in_end end links (rows_laid (take m all)) n
placed_more end links all k m placed old new n lt here next before more =
    let test = λ (row : Row). row.n == n && is_in_end_of end links row.address in
    more
    ∙ (λ i. before i || (has_row_in_end end links (rows_at (here i)) n))
    ∙ ap (λ (b : Bool). has_row_in_end end links (rows_laid (take k all)) n || b) (or_none (has_row_in_end end links (rows_at (get_or all k placed)) n) ∙ sym (list_any-append test (rows_at (get_or all k placed)) []))
    ∙ sym (list_any-append test (rows_laid (take k all)) (rows_at (get_or all k placed) ++ []))
    ∙ ap (list_any test) (sym (flat_map-append rows_at (take k all) (get_or all k placed ∷ [])))
    ∙ ap (λ (list : List Placed). has_row_in_end end links (rows_laid list) n) (sym (take_more all k placed lt) ∙ ap (λ (j : ℕ). take j all) (sym next))

pub placed_all : (end : End) (links : List LinkRow) (all : List Placed) (k : ℕ) (made : List Interval) (n : ℕ) → length all ≤ k → is_in_some made n ≡ has_row_in_end end links (rows_laid (take k all)) n → is_in_some made n ≡ has_row_in_end end links (rows_laid all) n
placed_all end links all k made n past is = is ∙ ap (λ (list : List Placed). has_row_in_end end links (rows_laid list) n) (take_all k all past)

pub met_none : (placed : Placed) (old : List Interval) (n : ℕ) → is_in_some old n ≡ (is_in_some old n || list_any (λ interval. is_met_at placed interval n) [])
met_none placed old n = or_none (is_in_some old n)

pub met_more : (placed : Placed) (numbers : List Interval) (k m : ℕ) (one met : Interval) (first old new : List Interval) (n : ℕ) → k < length numbers → one ≡ get_or numbers k one → m ≡ k + 1 → is_in n met ≡ is_met_at placed one n
    → is_in_some old n ≡ (is_in_some first n || list_any (λ i. is_met_at placed i n) (take k numbers)) → is_in_some new n ≡ (is_in_some old n || is_in n met) → is_in_some new n ≡ (is_in_some first n || list_any (λ i. is_met_at placed i n) (take m numbers))
met_more placed numbers k m one met first old new n lt here next is before more =
    more
    ∙ (λ i. before i || (is ∙ ap (λ (j : Interval). is_met_at placed j n) here) i)
    ∙ or_assoc (is_in_some first n) (list_any (λ i. is_met_at placed i n) (take k numbers)) (is_met_at placed (get_or numbers k one) n)
    ∙ ap (λ (b : Bool). is_in_some first n || b) (sym (list_any_more (λ i. is_met_at placed i n) numbers k one lt) ∙ ap (λ (j : ℕ). list_any (λ i. is_met_at placed i n) (take j numbers)) (sym next))
  where
    or_assoc : (a b c : Bool) → ((a || b) || c) ≡ (a || (b || c))
    or_assoc true b c = refl
    or_assoc false b c = refl

pub pushed_in : (old new : List Interval) (interval : Interval) (n : ℕ) → new ≡ old ++ interval ∷ [] → is_in_some new n ≡ (is_in_some old n || is_in n interval)
pushed_in old new interval n is = ap (λ (l : List Interval). is_in_some l n) is ∙ list_any-append (is_in n) old (interval ∷ []) ∙ ap (λ (b : Bool). is_in_some old n || b) (sym (or_none (is_in n interval)))

pub empty_in : (old new : List Interval) (interval : Interval) (n : ℕ) → new ≡ old → interval.to ≤ interval.from → is_in_some new n ≡ (is_in_some old n || is_in n interval)
empty_in old new interval n is none = ap (λ (l : List Interval). is_in_some l n) is ∙ or_none (is_in_some old n) ∙ ap (λ (b : Bool). is_in_some old n || b) (sym (never interval.from interval.to n none))
  where
    never : (a b m : ℕ) → b ≤ a → (nat_le a m && nat_lt m b) ≡ false
    never a b m h = grind (arith, nat_tests)

pub met_all : (placed : Placed) (numbers : List Interval) (k : ℕ) (first made : List Interval) (n : ℕ) → length numbers ≤ k → is_in_some made n ≡ (is_in_some first n || list_any (λ i. is_met_at placed i n) (take k numbers))
    → is_in_some made n ≡ (is_in_some first n || list_any (λ i. is_met_at placed i n) numbers)
met_all placed numbers k first made n past is = is ∙ ap (λ (some : List Interval). is_in_some first n || list_any (λ i. is_met_at placed i n) some) (take_all k numbers past)

-- ---- all of a text

rows_rise : (q : Row → Bool) (document : List ℕ) (n : ℕ) (text : List (List ℕ)) → Rise n (places_of (filter q (new_rows document n text)))
rows_rise q document n [] = tt
rows_rise q document n (address ∷ text) = step (q (record { document = document; part = Text; n = n; address = address })) (omega arith) (rows_rise q document (n + 1) text)
  where
    step : (b : Bool) → n ≤ n → Rise (n + 1) (places_of (filter q (new_rows document (n + 1) text)))
        → Rise n (places_of (cond b (record { document = document; part = Text; n = n; address = address } ∷ filter q (new_rows document (n + 1) text)) (filter q (new_rows document (n + 1) text))))
    step true le rest = (le, rest)
    step false le rest = wider (n + 1) n (places_of (filter q (new_rows document (n + 1) text))) (omega arith) rest

and_turned : (a b : Bool) → (a && b) ≡ (b && a)
and_turned true true = refl
and_turned true false = refl
and_turned false true = refl
and_turned false false = refl

pub spans_are_in_end : (end : End) (links : List LinkRow) (spans : List Span) (text : List (List ℕ)) (long : ℕ) (list : List Interval) → All (IsInterval long) list → AreApart list → ((n : ℕ) → is_in_some list n ≡ has_row_in_end end links (rows_picked spans text) n)
    → map span_between list ≡ spans_in_end end links spans text
spans_are_in_end end links spans text long list each apart same =
    let test = λ (row : Row). is_in_end_of end links row.address in
    let rows = filter test (rows_picked spans text) in
    fewest long list (places_of rows) each apart
    (subst (λ (some : List Row). Rise 1 (places_of some)) (filter_both (is_picked_by_some spans) test (new_rows [] 1 text)) (rows_rise (λ row. is_picked_by_some spans row && test row) [] 1 text))
    (λ n.
    same n
    ∙ (λ i. list_any (λ (row : Row). and_turned (row.n == n) (test row) i) (rows_picked spans text))
    ∙ sym (any_filter (λ (row : Row). row.n == n) test (rows_picked spans text))
    ∙ sym (any_map (λ m. m == n) (λ (row : Row). row.n) rows))

-- ---- the world

places_of_none : (rows : List Row) → places_of (map of_none rows) ≡ places_of rows
places_of_none [] = refl
places_of_none (row ∷ rows) = ap (λ (ns : List ℕ). row.n ∷ ns) (places_of_none rows)

pub set_is : (shown : Trees) (view : FlatView) → Stands shown view → (session : ℕ) (account : Option (List ℕ)) → account ≡ account_of_session view.world session → (end : End) (spec : PlainSpec) (text : List (List ℕ)) (found : List Span) → text ≡ text_in shown spec.document
    → found ≡ spans_in_end end (links_for shown account) spec.spans text → record { document = spec.document; spans = found } ≡ end_set_of view.world session end spec
set_is shown view stands session account drawn end spec text found text_is is =
    let test = λ (row : Row). is_in_end_of end (links_for shown account) row.address in
    let shows = stands.texts spec.document ∙ ap (new_rows spec.document 1) (sym text_is) in
    let all : rows_picked spec.spans text ≡ map of_none (picked_once view.world spec) = picked_of_none spec.document spec.spans text ∙ ap (map of_none) (sym (picked_shown view.world spec text shows)) in
    let seen : (address : List ℕ) → is_in_end_of end (links_for shown account) address ≡ is_in_end view.world session end address = λ address.
    any_filter (λ (link : LinkRow). is_in_runs (runs_of_end end link) address) (λ (link : LinkRow). reads_in shown account link.home) shown.links.links
    ∙ (λ i. list_any (λ (link : LinkRow). reads_are shown view stands session account drawn link.home i && is_in_runs (runs_of_end end link) address) shown.links.links)
    ∙ list_any-IsPermutation (λ (link : LinkRow). is_readable view.world session link.home && is_in_runs (runs_of_end end link) address) shown.links.links view.world.links stands.link_table
    in
    let spans : found ≡ (end_set_of view.world session end spec).spans =
    is
    ∙ ap (λ (rows : List Row). intervals (places_of (filter test rows))) all
    ∙ ap (λ (rows : List Row). intervals (places_of rows)) (filter_mapped test of_none (picked_once view.world spec))
    ∙ ap intervals (places_of_none (filter test (picked_once view.world spec)))
    ∙ (λ i. intervals (places_of (filter (λ (row : Row). seen row.address i) (picked_once view.world spec))))
    in
    ap (λ (s : List Span). record { document = spec.document; spans = s }) spans

pub text_of_root : (trees shown : Trees) (document : List ℕ) (root : Node) → trees ≡ shown → Some root ≡ root_in trees.documents document → texts (rows_of trees.nodes root.0) ≡ text_in shown document
text_of_root trees shown document root same at = ap (text_at trees.nodes) at ∙ ap (λ (t : Trees). text_in t document) same

pub text_of_none : (trees shown : Trees) (document : List ℕ) → trees ≡ shown → None ≡ root_in trees.documents document → [] ≡ text_in shown document
text_of_none trees shown document same at = ap (text_at trees.nodes) at ∙ ap (λ (t : Trees). text_in t document) same
