-- Spans in ascending order, each once: they are settled by which spans there are.
use Rattle.std.proofs.Common.{◌≡◌, ℕ, Bool, true, false, ◌||◌, ◌&&◌, cond, List, [], ◌∷◌, ◌++◌, map, length, take, get_or, ◌<◌, ◌+◌, append_assoc, refl, ap, ◌∙◌, sym, Ordering, Less, Equal, Greater, nat_cmp, is_eq}
use Rattle.std.specs.List.{list_any, filter, flat_map, fold}
use Rattle.std.specs.Ordering.{match_ordering, ordering_then}
use Rattle.std.specs.Cmp.{IsTotalOrder, then_total, on_total}
use Rattle.std.specs.Cmp.Lexicographic.{slice_cmp, nat_list_cmp_total}
use Rattle.std.specs.BTreeMap.{is_at}
use Rattle.std.specs.BTreeSet.{insert_key}
use Rattle.std.proofs.lemmas.List.{take_more, map-append}
use Rattle.std.proofs.lemmas.List.Sums.{fold-append}
use Rattle.std.proofs.lemmas.List.Folds.{list_any-append}
use Rattle.std.proofs.lemmas.List.Sorted.{list_any-IsPermutation}
use Rattle.tumbler.specs.declared.span.Span.{Span}
use Rattle.tumbler.proofs.Order.{same_if_tied}
use Rattle.tumbler.proofs.InOrder.{same_keys}
use Rattle.enfilade_core.specs.declared.tree.Row.{Row}
use Rattle.enfilade_core.specs.Plain.{plain_row}
use Rattle.spanfilade.specs.Index.{IndexTree, rows_in_index, rows_for}
use Rattle.spanfilade.specs.Keys.{is_met}
use Rattle.spanfilade.proofs.Rows.{plain_rows}
use Rattle.world_rules.specs.World.{LinkRow}
use Rattle.links.specs.LinkLists.{HoldsRuns, rows_at, spans_at}
use Rattle.links.specs.Finding.{span_cmp, spans_meet, ascending_spans, spans_met}
use Rattle.links.specs.inside.Pairs.{pair_of, span_of_pair, pair_cmp, pairs_of}

-- ---- the order of spans

pub spans_total : IsTotalOrder span_cmp
spans_total = then_total (on_total (λ (s : Span). s.start) nat_list_cmp_total) (on_total (λ (s : Span). s.width) nat_list_cmp_total)

pub same_span : (a b : Span) → span_cmp a b ≡ Equal → a ≡ b
same_span a b e = by_order (slice_cmp nat_cmp a.start b.start) refl e
  where
    by_order : (r : Ordering) → slice_cmp nat_cmp a.start b.start ≡ r → ordering_then r (slice_cmp nat_cmp a.width b.width) ≡ Equal → a ≡ b
    by_order Less is h = let never : ⊥ = cc in absurd never
    by_order Equal is h = ap (λ (s : List ℕ). record { start = s; width = a.width }) (same_if_tied a.start b.start is) ∙ ap (λ (w : List ℕ). record { start = b.start; width = w }) (same_if_tied a.width b.width h)
    by_order Greater is h = let never : ⊥ = cc in absurd never

-- ---- which spans there are

-- whether a span is one of some
abbrev pub among : Span → List Span → Bool
among q spans = list_any (is_at (span_cmp q)) spans

pub same_spans : (some others : List Span) → ((q : Span) → among q some ≡ among q others) → ascending_spans some ≡ ascending_spans others
same_spans some others same = same_keys span_cmp same_span spans_total some others same

-- ---- pairs as spans

pair_inserted : (pairs : List (List ℕ × List ℕ)) (p : List ℕ × List ℕ) → map span_of_pair (insert_key pair_cmp pairs p) ≡ insert_key span_cmp (map span_of_pair pairs) (span_of_pair p)
pair_inserted [] p = refl
pair_inserted (x ∷ xs) p = by_order (pair_cmp p x) (pair_inserted xs p)
  where
    by_order : (r : Ordering) → map span_of_pair (insert_key pair_cmp xs p) ≡ insert_key span_cmp (map span_of_pair xs) (span_of_pair p)
        → map span_of_pair (match_ordering r (p ∷ x ∷ xs) (x ∷ xs) (x ∷ insert_key pair_cmp xs p))
        ≡ match_ordering r (span_of_pair p ∷ span_of_pair x ∷ map span_of_pair xs) (span_of_pair x ∷ map span_of_pair xs) (span_of_pair x ∷ insert_key span_cmp (map span_of_pair xs) (span_of_pair p))
    by_order Less rest = refl
    by_order Equal rest = refl
    by_order Greater rest = ap (λ (ss : List Span). span_of_pair x ∷ ss) rest

pub pairs_with : (more pairs : List (List ℕ × List ℕ)) → map span_of_pair (fold (insert_key pair_cmp) pairs more) ≡ fold (insert_key span_cmp) (map span_of_pair pairs) (map span_of_pair more)
pairs_with [] pairs = refl
pairs_with (p ∷ more) pairs = pairs_with more (insert_key pair_cmp pairs p) ∙ ap (λ (ss : List Span). fold (insert_key span_cmp) ss (map span_of_pair more)) (pair_inserted pairs p)

-- ---- the spans of an end

-- what a row takes up
abbrev pub span_of : Row (List ℕ) → Span
span_of row = record { start = row.first; width = row.leaf }

pub as_spans : (rows : List (Row (List ℕ))) → map span_of_pair (map pair_of rows) ≡ map span_of rows
as_spans [] = refl
as_spans (row ∷ rows) = ap (λ (ss : List Span). span_of row ∷ ss) (as_spans rows)

pub among_chosen : {X : Type 0} (q : Span) (key : X → Span) (p : X → Bool) (xs : List X) → among q (map key (filter p xs)) ≡ list_any (λ x. p x && is_eq (span_cmp q (key x))) xs
among_chosen q key p [] = refl
among_chosen {X} q key p (x ∷ xs) = by_test (p x) (among_chosen q key p xs)
  where
    by_test : (b : Bool) → among q (map key (filter p xs)) ≡ list_any (λ y. p y && is_eq (span_cmp q (key y))) xs
        → among q (map key (cond b (x ∷ filter p xs) (filter p xs))) ≡ ((b && is_eq (span_cmp q (key x))) || list_any (λ y. p y && is_eq (span_cmp q (key y))) xs)
    by_test true rest = ap (λ (c : Bool). is_eq (span_cmp q (key x)) || c) rest
    by_test false rest = rest

pub itself_mapped : (spans : List Span) → map (λ (s : Span). s) spans ≡ spans
itself_mapped [] = refl
itself_mapped (s ∷ spans) = ap (λ (ss : List Span). s ∷ ss) (itself_mapped spans)

module _ (q span : Span) where
  rows_hit : (spans : List Span) (id : List ℕ) → list_any (λ (row : Row (List ℕ)). is_met span row && is_eq (span_cmp q (span_of row))) (rows_for spans id) ≡ list_any (λ (s : Span). spans_meet span s && is_eq (span_cmp q s)) spans
  rows_hit [] id = refl
  rows_hit (s ∷ spans) id = ap (λ (b : Bool). (spans_meet span s && is_eq (span_cmp q s)) || b) (rows_hit spans id)

  links_hit : (end : ℕ) (links : List LinkRow) → list_any (λ (row : Row (List ℕ)). is_met span row && is_eq (span_cmp q (span_of row))) (flat_map (rows_at end) links) ≡ list_any (λ (s : Span). spans_meet span s && is_eq (span_cmp q s)) (flat_map (spans_at end) links)
  links_hit end [] = refl
  links_hit end (l ∷ links) =
      list_any-append (λ (row : Row (List ℕ)). is_met span row && is_eq (span_cmp q (span_of row))) (rows_at end l) (flat_map (rows_at end) links)
      ∙ ap (λ (b : Bool). b || list_any (λ (row : Row (List ℕ)). is_met span row && is_eq (span_cmp q (span_of row))) (flat_map (rows_at end) links)) (rows_hit (spans_at end l) l.id)
      ∙ ap (λ (b : Bool). list_any (λ (s : Span). spans_meet span s && is_eq (span_cmp q s)) (spans_at end l) || b) (links_hit end links)
      ∙ sym (list_any-append (λ (s : Span). spans_meet span s && is_eq (span_cmp q s)) (spans_at end l) (flat_map (spans_at end) links))

pub spans_are : (end : ℕ) (span : Span) (links : List LinkRow) (tree : IndexTree) (held : List (Row (List ℕ))) → HoldsRuns end links tree → map (plain_row (λ (width : List ℕ). width)) held ≡ filter (is_met span) (rows_in_index tree)
    → map span_of_pair (pairs_of (map pair_of held)) ≡ spans_met end span links
spans_are end span links tree held holds found =
    pairs_with (map pair_of held) []
    ∙ ap ascending_spans (as_spans held)
    ∙ ap (λ (rows : List (Row (List ℕ))). ascending_spans (map span_of rows)) (sym (plain_rows held) ∙ found)
    ∙ same_spans (map span_of (filter (is_met span) (rows_in_index tree))) (filter (spans_meet span) (flat_map (spans_at end) links)) (λ q.
    among_chosen q span_of (is_met span) (rows_in_index tree)
    ∙ sym (list_any-IsPermutation (λ (row : Row (List ℕ)). is_met span row && is_eq (span_cmp q (span_of row))) (flat_map (rows_at end) links) (rows_in_index tree) holds)
    ∙ links_hit q span end links
    ∙ sym (among_chosen q (λ (s : Span). s) (spans_meet span) (flat_map (spans_at end) links))
    ∙ ap (among q) (itself_mapped (filter (spans_meet span) (flat_map (spans_at end) links))))

-- ---- loops

pub pairs_more : (rows : List (Row (List ℕ))) (i : ℕ) (row : Row (List ℕ)) (first leaf : List ℕ) (old new : List (List ℕ × List ℕ)) → i < length rows → row ≡ get_or rows i row → first ≡ row.first → leaf ≡ row.leaf → old ≡ pairs_of (map pair_of (take i rows))
    → new ≡ insert_key pair_cmp old (first, leaf) → new ≡ pairs_of (map pair_of (take (i + 1) rows))
pairs_more rows i row first leaf old new lt at firsts leaves so_far is =
    is ∙ ap (λ (x : List ℕ). insert_key pair_cmp old (x, leaf)) firsts ∙ ap (λ (x : List ℕ). insert_key pair_cmp old (row.first, x)) leaves
    ∙ ap (λ (ps : List (List ℕ × List ℕ)). insert_key pair_cmp ps (pair_of row)) so_far
    ∙ sym (fold-append (insert_key pair_cmp) [] (map pair_of (take i rows)) (pair_of row ∷ []))
    ∙ ap pairs_of (sym (map-append pair_of (take i rows) (row ∷ [])) ∙ ap (map pair_of) (ap (λ (y : Row (List ℕ)). take i rows ++ y ∷ []) at ∙ sym (take_more rows i row lt)))

pub span_more : (made rest now : List Span) (s x : Span) → now ≡ made ++ s ∷ [] → s ≡ x → now ++ rest ≡ made ++ x ∷ rest
span_more made rest now s x is same = ap (λ (ss : List Span). ss ++ rest) is ∙ append_assoc made (s ∷ []) rest ∙ ap (λ (y : Span). made ++ y ∷ rest) same
