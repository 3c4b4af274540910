-- What the index covers after spans came in.
use Rattle.std.proofs.Common.{◌≡◌, ◌≢◌, ◌∙◌, ◌⊎◌, inl, inr, ⊎_elim, ℕ, zero, suc, ◌+◌, ◌<◌, ◌≤◌, ◌&&◌, ◌||◌, Bool, true, false, not, cond, List, [], ◌∷◌, ◌++◌, length, map, replicate, Ordering, Less, Equal, Greater, refl, sym, ap, subst, true≢false, arith, append_assoc, nat_cmp}
use Rattle.std.specs.Prelude.{All, IsPermutation}
use Rattle.std.specs.List.{list_any}
use Rattle.std.specs.Ordering.{is_le, is_lt, ordering_reverse}
use Rattle.std.specs.Cmp.Lexicographic.{slice_cmp, nat_list_cmp_total}
use Rattle.std.proofs.lemmas.List.Sorted.{list_any-IsPermutation}
use Rattle.std.proofs.lemmas.List.Elements.{All-nil, All-cons, All-append, All-weaker}
use Rattle.tumbler.specs.declared.span.Span.{Span}
use Rattle.tumbler.specs.Places.{IsBefore, IsUpTo, comes_before, sum, width_at}
use Rattle.tumbler.specs.Span.{end_of}
use Rattle.tumbler.proofs.Order.{before_by_first, before_by_rest, upto_itself, upto_if_before, before_upto, upto_upto}
use Rattle.tumbler.proofs.Before.{up_to_if_false, before_if_true}
use Rattle.tumbler.proofs.Differences.{sum-difference}
use Rattle.enfilade_core.specs.declared.tree.Row as placed
use Rattle.enfilade_core.specs.Axes.{later}
use Rattle.enfilade_core.specs.Edits.{put_before}
use Rattle.febe_data.specs.declared.run.Run.{Run}
use Rattle.poom.specs.Pieces.{addresses_from}
use Rattle.poom.specs.Edited.{run_addresses}
use Rattle.spanfilade.specs.Index.{IndexTree, rows_in_index, row_of, rows_for, row_end, with_span, lengthened, IsLengthened}
use Rattle.spanfilade.specs.Index as index
use Rattle.spanfilade.specs.Keys.{is_met_by}
use Rattle.enfilade_search.specs.Meeting.{lies_between}
use Rattle.links.specs.LinkLists.{run_span}
use Rattle.world_rules.specs.World.{is_same, content_address}
use Rattle.world_rules.specs.Picking.{is_between}
use Rattle.tree_world.specs.Standing.{covers, IsCovered}
use Rattle.tree_world.proofs.Found.{both, address_alike}

-- ---- between

pub between_if : (start end address : List ℕ) → IsUpTo start address → IsBefore address end → is_between start end address ≡ true
between_if start end address from to = rw (le (slice_cmp nat_cmp start address) from) (ap is_lt to)
  where
    le : (r : Ordering) → r ≢ Greater → is_le r ≡ true
    le Less h = refl
    le Equal h = refl
    le Greater h = absurd (h refl)

record IsIn (start end address : List ℕ) : Type 0 where
  from : IsUpTo start address
  to : IsBefore address end

in_if : (start end address : List ℕ) → is_between start end address ≡ true → IsIn start end address
in_if start end address e =
    let parts = both (is_le (slice_cmp nat_cmp start address)) (is_lt (slice_cmp nat_cmp address end)) e in
    record { from = le (slice_cmp nat_cmp start address) parts.0; to = before_if_true address end parts.1 }
  where
    le : (r : Ordering) → is_le r ≡ true → r ≢ Greater
    le r h is = true≢false (sym h ∙ ap is_le is)

-- ---- addresses of one document's bytes

pub bytes_before : (document : List ℕ) (m n : ℕ) → m < n → IsBefore (content_address document m) (content_address document n)
bytes_before [] m n lt = before_by_rest 0 (1 ∷ m ∷ []) (1 ∷ n ∷ []) (before_by_rest 1 (m ∷ []) (n ∷ []) (before_by_first m n [] [] lt))
bytes_before (x ∷ document) m n lt = before_by_rest x (content_address document m) (content_address document n) (bytes_before document m n lt)

pub bytes_up_to : (document : List ℕ) (m n : ℕ) → m ≤ n → IsUpTo (content_address document m) (content_address document n)
bytes_up_to document m n le = ⊎_elim
    (λ (lt : m < n). upto_if_before (content_address document m) (content_address document n) (bytes_before document m n lt))
    (λ (same : m ≡ n). subst (λ k. IsUpTo (content_address document m) (content_address document k)) same (upto_itself (content_address document m)))
    two
  where
    two : (m < n) ⊎ (m ≡ n)
    two = grind (arith, le)

far : (front : List ℕ) (n j : ℕ) → sum (front ++ n ∷ []) (replicate (length front) 0 ++ suc j ∷ []) ≡ front ++ (n + suc j) ∷ []
far [] n j = refl
far (x ∷ front) n j = ap (λ xs. x ∷ xs) (far front n j)

long : (front : List ℕ) (n : ℕ) → length (front ++ n ∷ []) ≡ suc (length front)
long [] n = refl
long (x ∷ front) n = ap suc (long front n)

far_on : (front : List ℕ) (n k : ℕ) → sum (front ++ n ∷ []) (width_at (length (front ++ n ∷ [])) k) ≡ front ++ (n + k) ∷ []
far_on front n zero = ap (λ l. sum (front ++ n ∷ []) (width_at l 0)) (long front n) ∙ ap (λ m. front ++ m ∷ []) (omega arith)
far_on front n (suc j) = ap (λ l. sum (front ++ n ∷ []) (width_at l (suc j))) (long front n) ∙ far front n j

-- the byte that comes so many behind another
pub byte_far_on : (document : List ℕ) (n k : ℕ) → sum (content_address document n) (width_at (length (content_address document n)) k) ≡ content_address document (n + k)
byte_far_on document n k =
    ap (λ (a : List ℕ). sum a (width_at (length a) k)) (sym (append_assoc document (0 ∷ 1 ∷ []) (n ∷ []))) ∙ far_on (document ++ 0 ∷ 1 ∷ []) n k ∙ append_assoc document (0 ∷ 1 ∷ []) ((n + k) ∷ [])

-- ---- rows that come in

any_append : (p : placed.Row (List ℕ) → Bool) (xs ys : List (placed.Row (List ℕ))) → list_any p (xs ++ ys) ≡ (list_any p xs || list_any p ys)
any_append p [] ys = refl
any_append p (x ∷ xs) ys = ap (λ b. p x || b) (any_append p xs ys) ∙ regroup (p x) (list_any p xs) (list_any p ys)
  where
    regroup : (a b c : Bool) → (a || (b || c)) ≡ ((a || b) || c)
    regroup true b c = refl
    regroup false b c = refl

left_so : (a b : Bool) → a ≡ true → (a || b) ≡ true
left_so true b e = refl
left_so false b e = absurd (true≢false (sym e))

right_so : (a b : Bool) → b ≡ true → (a || b) ≡ true
right_so true b e = refl
right_so false b e = e

-- the row of a span of one document's bytes covers each of them
row_covers : (key document : List ℕ) (first count n : ℕ) → first ≤ n → n < first + count → (row : placed.Row (List ℕ)) → row.second ≡ key → row.first ≡ content_address document first → row_end row ≡ content_address document (first + count)
    → covers key (content_address document n) row ≡ true
row_covers key document first count n from to row own starts ends =
    (λ i. is_same (own i) key && is_between (starts i) (ends i) (content_address document n))
    ∙ (λ i. address_alike key i && between_if (content_address document first) (content_address document (first + count)) (content_address document n) (bytes_up_to document first n from) (bytes_before document n (first + count) to) i)

-- each address of so many
each_of : (P : List ℕ → Type 0) (document : List ℕ) (first count : ℕ) → ((n : ℕ) → first ≤ n → n < first + count → P (content_address document n)) → All P (addresses_from 1 document first count)
each_of P document first zero each = All-nil P
each_of P document first (suc count) each =
    All-cons P (content_address document first) (addresses_from 1 document (first + 1) count) (each first (omega arith) (omega arith)) (each_of P document (first + 1) count (λ n from to. each n (omega (arith, from)) (omega (arith, to))))

-- ---- many spans of one key

abbrev run_row : List ℕ → Run → placed.Row (List ℕ)
run_row key run = row_of (run_span run) key

run_covers : (key : List ℕ) (run : Run) → All (λ a. covers key a (run_row key run) ≡ true) (addresses_from 1 run.content run.first run.length)
run_covers key run =
    each_of (λ a. covers key a (run_row key run) ≡ true) run.content run.first run.length
    (λ n from to. row_covers key run.content run.first run.length n from to (run_row key run) refl refl (byte_far_on run.content run.first run.length))

abbrev Among : List ℕ → List (placed.Row (List ℕ)) → List ℕ → Type 0
Among key rows a = list_any (covers key a) rows ≡ true

runs_cover : (key : List ℕ) (runs : List Run) → All (Among key (rows_for (map run_span runs) key)) (run_addresses runs)
runs_cover key [] = All-nil (Among key [])
runs_cover key (run ∷ runs) =
    All-append (Among key (rows_for (map run_span (run ∷ runs)) key)) (addresses_from 1 run.content run.first run.length) (run_addresses runs)
    (All-weaker (λ a. covers key a (run_row key run) ≡ true) (Among key (rows_for (map run_span (run ∷ runs)) key)) (λ a h. left_so (covers key a (run_row key run)) (list_any (covers key a) (rows_for (map run_span runs) key)) h) (addresses_from 1 run.content run.first run.length) (run_covers key run))
    (All-weaker (Among key (rows_for (map run_span runs) key)) (Among key (rows_for (map run_span (run ∷ runs)) key)) (λ a h. right_so (covers key a (run_row key run)) (list_any (covers key a) (rows_for (map run_span runs) key)) h) (run_addresses runs) (runs_cover key runs))

-- A row of no width is met where it stands. So spans that are met alike cover alike.
abbrev point : List ℕ → placed.Row (List ℕ)
point a = record { first = a; second = []; leaf = [] }

lies_as : (start end a : List ℕ) → is_between start end a ≡ lies_between start end a
lies_as start end a = ap (λ b. b && comes_before a end) (step (slice_cmp nat_cmp start a) ∙ ap (λ r. not (is_lt r)) (sym (nat_list_cmp_total.antisymm a start)))
  where
    step : (r : Ordering) → is_le r ≡ not (is_lt (ordering_reverse r))
    step Less = refl
    step Equal = refl
    step Greater = refl

covers_as : (key a : List ℕ) (spans : List Span) → list_any (covers key a) (rows_for spans key) ≡ is_met_by spans (point a)
covers_as key a [] = refl
covers_as key a (span ∷ spans) = λ i. (address_alike key i && lies_as span.start (end_of span) a i) || covers_as key a spans i

met_cover : (key : List ℕ) (runs : List Run) (given spans : List Span) → given ≡ map run_span runs → ((row : placed.Row (List ℕ)) → is_met_by spans row ≡ is_met_by given row) → All (Among key (rows_for spans key)) (run_addresses runs)
met_cover key runs given spans is met =
    All-weaker (Among key (rows_for (map run_span runs) key)) (Among key (rows_for spans key))
    (λ a h. covers_as key a spans ∙ met (point a) ∙ ap (λ (ss : List Span). is_met_by ss (point a)) is ∙ sym (covers_as key a (map run_span runs)) ∙ h) (run_addresses runs) (runs_cover key runs)

module _ (key : List ℕ) (spans : List Span) (old new : IndexTree) (came : IsPermutation (rows_for spans key ++ rows_in_index old) (rows_in_index new)) where
  pub added_keeps : (d a : List ℕ) → IsCovered old d a → IsCovered new d a
  added_keeps d a h =
      sym (list_any-IsPermutation (covers d a) (rows_for spans key ++ rows_in_index old) (rows_in_index new) came) ∙ any_append (covers d a) (rows_for spans key) (rows_in_index old) ∙ right_so (list_any (covers d a) (rows_for spans key)) (list_any (covers d a) (rows_in_index old)) h

  pub added_covers : (runs : List Run) (given : List Span) → given ≡ map run_span runs → ((row : placed.Row (List ℕ)) → is_met_by spans row ≡ is_met_by given row) → All (IsCovered new key) (run_addresses runs)
  added_covers runs given is met =
      All-weaker (Among key (rows_for spans key)) (IsCovered new key)
      (λ a h. sym (list_any-IsPermutation (covers key a) (rows_for spans key ++ rows_in_index old) (rows_in_index new) came) ∙ any_append (covers key a) (rows_for spans key) (rows_in_index old)
      ∙ left_so (list_any (covers key a) (rows_for spans key)) (list_any (covers key a) (rows_in_index old)) h)
      (run_addresses runs) (met_cover key runs given spans is met)

-- ---- one span

any_put : (p : placed.Row (List ℕ) → Bool) (at : List ℕ) (row : placed.Row (List ℕ)) (rows : List (placed.Row (List ℕ))) → list_any p (put_before at (row ∷ []) rows) ≡ (p row || list_any p rows)
any_put p at row [] = refl
any_put p at row (r ∷ rows) = step (comes_before r.first at) (any_put p at row rows)
  where
    turn : (a b c : Bool) → (a || (b || c)) ≡ (b || (a || c))
    turn true true c = refl
    turn true false c = refl
    turn false b c = refl

    step : (b : Bool) → list_any p (put_before at (row ∷ []) rows) ≡ (p row || list_any p rows) → list_any p (cond b (r ∷ put_before at (row ∷ []) rows) ((row ∷ []) ++ r ∷ rows)) ≡ (p row || (p r || list_any p rows))
    step true rest = ap (λ b. p r || b) rest ∙ turn (p r) (p row) (list_any p rows)
    step false rest = refl

-- the later of two ends
later_first : (a b : List ℕ) → IsUpTo a (later a b)
later_first a b = step (comes_before a b) refl
  where
    step : (c : Bool) → comes_before a b ≡ c → IsUpTo a (cond c b a)
    step true e = upto_if_before a b (before_if_true a b e)
    step false e = upto_itself a

later_second : (a b : List ℕ) → IsUpTo b (later a b)
later_second a b = step (comes_before a b) refl
  where
    step : (c : Bool) → comes_before a b ≡ c → IsUpTo b (cond c b a)
    step true e = upto_itself b
    step false e = up_to_if_false a b e

module _ (span : Span) (row : placed.Row (List ℕ)) (begins : IsUpTo row.first span.start) (reaches : IsUpTo span.start (row_end row)) where
  longer_end : row_end (lengthened span row) ≡ later (row_end row) (end_of span)
  longer_end = sum-difference row.first (later (row_end row) (end_of span)) (upto_upto row.first (row_end row) (later (row_end row) (end_of span)) (upto_upto row.first span.start (row_end row) begins reaches) (later_first (row_end row) (end_of span)))

  longer_keeps : (d a : List ℕ) → covers d a row ≡ true → covers d a (lengthened span row) ≡ true
  longer_keeps d a h =
      let parts = both (is_same row.second d) (is_between row.first (row_end row) a) h in
      let inside = in_if row.first (row_end row) a parts.1 in
      (λ i. parts.0 i && is_between row.first (longer_end i) a)
      ∙ between_if row.first (later (row_end row) (end_of span)) a inside.from (before_upto a (row_end row) (later (row_end row) (end_of span)) inside.to (later_first (row_end row) (end_of span)))

  longer_covers : (key a : List ℕ) → row.second ≡ key → IsUpTo span.start a → IsBefore a (end_of span) → covers key a (lengthened span row) ≡ true
  longer_covers key a own from to =
      (λ i. is_same (own i) key && is_between row.first (longer_end i) a)
      ∙ (λ i. address_alike key i && between_if row.first (later (row_end row) (end_of span)) a (upto_upto row.first span.start a begins from) (before_upto a (end_of span) (later (row_end row) (end_of span)) to (later_second (row_end row) (end_of span))) i)

any_middle : (p : placed.Row (List ℕ) → Bool) (front : List (placed.Row (List ℕ))) (row : placed.Row (List ℕ)) (back : List (placed.Row (List ℕ))) → list_any p (front ++ row ∷ back) ≡ (list_any p front || (p row || list_any p back))
any_middle p front row back = any_append p front (row ∷ back)

exchanged_so : (a b c d : Bool) → (b ≡ true → d ≡ true) → (a || (b || c)) ≡ true → (a || (d || c)) ≡ true
exchanged_so true b c d more e = refl
exchanged_so false true c d more e = left_so d c (more refl)
exchanged_so false false c d more e = right_so d c e

module _ (key document : List ℕ) (first count : ℕ) (old new : IndexTree) where
  abbrev text_span : Span
  text_span = run_span (record { origin = document; content = document; first = first; length = count })

  pub covered_keeps : index.IsCovered text_span key (rows_in_index old) (rows_in_index new) → (d a : List ℕ) → IsCovered old d a → IsCovered new d a
  covered_keeps (inl is) d a h = ap (list_any (covers d a)) is ∙ any_put (covers d a) text_span.start (row_of text_span key) (rows_in_index old) ∙ right_so (covers d a (row_of text_span key)) (list_any (covers d a) (rows_in_index old)) h
  covered_keeps (inr it) d a h =
      ap (list_any (covers d a)) it.is ∙ any_middle (covers d a) it.front (lengthened text_span it.row) it.back
      ∙ exchanged_so (list_any (covers d a) it.front) (covers d a it.row) (list_any (covers d a) it.back) (covers d a (lengthened text_span it.row)) (longer_keeps text_span it.row it.begins it.reaches d a)
      (sym (any_middle (covers d a) it.front it.row it.back) ∙ sym (ap (list_any (covers d a)) it.was) ∙ h)

  pub covered_covers : index.IsCovered text_span key (rows_in_index old) (rows_in_index new) → All (IsCovered new key) (addresses_from 1 document first count)
  covered_covers (inl is) =
      each_of (IsCovered new key) document first count
      (λ n from to. ap (list_any (covers key (content_address document n))) is ∙ any_put (covers key (content_address document n)) text_span.start (row_of text_span key) (rows_in_index old)
      ∙ left_so (covers key (content_address document n) (row_of text_span key)) (list_any (covers key (content_address document n)) (rows_in_index old)) (row_covers key document first count n from to (row_of text_span key) refl refl (byte_far_on document first count)))
  covered_covers (inr it) =
      each_of (IsCovered new key) document first count
      (λ n from to. ap (list_any (covers key (content_address document n))) it.is ∙ any_middle (covers key (content_address document n)) it.front (lengthened text_span it.row) it.back
      ∙ right_so (list_any (covers key (content_address document n)) it.front) (covers key (content_address document n) (lengthened text_span it.row) || list_any (covers key (content_address document n)) it.back)
      (left_so (covers key (content_address document n) (lengthened text_span it.row)) (list_any (covers key (content_address document n)) it.back)
      (longer_covers text_span it.row it.begins it.reaches key (content_address document n) it.of_key (bytes_up_to document first n from) (subst (IsBefore (content_address document n)) (sym (byte_far_on document first count)) (bytes_before document n (first + count) to)))))
