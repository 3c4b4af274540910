-- What is kept of rows and of ids: what is of links that may be read.
use Rattle.std.proofs.Common.{◌≡◌, ℕ, ◌+◌, ◌<◌, ◌≤◌, ◌∙◌, Bool, true, false, ◌&&◌, ◌||◌, cond, Option, Some, List, [], ◌∷◌, ◌++◌, length, map, take, get_or, filter, refl, sym, ap, subst, arith, append-nil, is_eq}
use Rattle.std.specs.List.{list_any, flat_map, fold, AllByRecursion}
use Rattle.std.specs.BTreeSet.{insert_key}
use Rattle.std.proofs.lemmas.List.{map-append}
use Rattle.std.proofs.lemmas.List.Sums.{fold-append}
use Rattle.std.proofs.lemmas.List.Folds.{list_any-append}
use Rattle.std.proofs.lemmas.List.Elements.{filter_more}
use Rattle.std.proofs.lemmas.List.Sorted.{list_any-IsPermutation}
use Rattle.tumbler.specs.declared.span.Span.{Span}
use Rattle.enfilade_core.specs.declared.tree.Row.{Row}
use Rattle.enfilade_core.specs.Plain.{plain_row}
use Rattle.spanfilade.specs.Index.{IndexTree, rows_in_index, rows_for}
use Rattle.spanfilade.specs.Keys.{is_met}
use Rattle.spanfilade.proofs.Rows.{plain_rows}
use Rattle.world_rules.specs.World.{LinkRow}
use Rattle.world_rules.proofs.ListTests.{filter_both}
use Rattle.links.specs.LinkLists.{HoldsRuns, rows_at, spans_at, ids_in, link_in}
use Rattle.links.specs.Finding.{span_cmp, spans_meet, ascending_spans, spans_met}
use Rattle.links.specs.Readable.{links_read, is_read, ids_read}
use Rattle.links.specs.inside.Pairs.{pair_of, span_of_pair, pair_cmp, pairs_of}
use Rattle.links.specs.inside.Kept.{IsAscending}
use Rattle.links.specs.inside.Read.{id_if_read, is_row_read, rows_read, with_pair_if_read}
use Rattle.links.proofs.OrderedSpans.{among, among_chosen, as_spans, itself_mapped, pairs_with, same_spans, span_of}
use Rattle.links.proofs.Searched.{found_itself}

module _ (may : List ℕ → Bool) (links : List LinkRow) where
  -- ---- ids

  one_short : (b : Bool) (id : List ℕ) → length (cond b (id ∷ []) []) ≤ 1
  one_short true id = omega arith
  one_short false id = omega arith

  pub id_short : (id : List ℕ) → length (id_if_read may links id) ≤ 1
  id_short id = one_short (is_read may (link_in links id)) id

  pub ids_are_read : (ids : List (List ℕ)) → flat_map (id_if_read may links) ids ≡ ids_read may links ids
  ids_are_read [] = refl
  ids_are_read (id ∷ ids) = step (is_read may (link_in links id)) (ids_are_read ids)
    where
      step : (b : Bool) → flat_map (id_if_read may links) ids ≡ ids_read may links ids → cond b (id ∷ []) [] ++ flat_map (id_if_read may links) ids ≡ cond b (id ∷ ids_read may links ids) (ids_read may links ids)
      step true rest = ap (λ (all : List (List ℕ)). id ∷ all) rest
      step false rest = rest

  -- ---- pairs of rows

  pair_more : (b : Bool) (some : List (Row (List ℕ))) (row : Row (List ℕ)) → pairs_of (map pair_of (some ++ cond b (row ∷ []) [])) ≡ cond b (insert_key pair_cmp (pairs_of (map pair_of some)) (pair_of row)) (pairs_of (map pair_of some))
  pair_more true some row = ap pairs_of (map-append pair_of some (row ∷ [])) ∙ fold-append (insert_key pair_cmp) [] (map pair_of some) (pair_of row ∷ [])
  pair_more false some row = ap (λ (all : List (Row (List ℕ))). pairs_of (map pair_of all)) (append-nil some)

  pub pairs_more_read : (rows : List (Row (List ℕ))) (i : ℕ) (row : Row (List ℕ)) (old new : List (List ℕ × List ℕ)) → i < length rows → row ≡ get_or rows i row
      → old ≡ pairs_of (map pair_of (rows_read may links (take i rows))) → new ≡ with_pair_if_read may links old row → new ≡ pairs_of (map pair_of (rows_read may links (take (i + 1) rows)))
  pairs_more_read rows i row old new lt at so_far is =
      is
      ∙ ap (λ (ps : List (List ℕ × List ℕ)). with_pair_if_read may links ps row) so_far
      ∙ sym (pair_more (is_row_read may links row) (rows_read may links (take i rows)) row)
      ∙ ap (λ (r : Row (List ℕ)). pairs_of (map pair_of (rows_read may links (take i rows) ++ cond (is_row_read may links r) (r ∷ []) []))) at
      ∙ ap (λ (all : List (Row (List ℕ))). pairs_of (map pair_of all)) (sym (filter_more (is_row_read may links) rows i row lt))

  -- ---- the spans of links that may be read

  -- a link is found by its id
  abbrev IsOwn : LinkRow → Type 0
  IsOwn link = is_read may (link_in links link.id) ≡ may link.home

  all_own : (some : List LinkRow) → AllByRecursion (λ (link : LinkRow). link_in links link.id ≡ Some link) some → AllByRecursion IsOwn some
  all_own [] found = tt
  all_own (link ∷ some) found = (ap (is_read may) found.0, all_own some found.1)

  -- of the ids of links that pass a test, those are left whose homes may be read
  pub ids_by_homes : (p : LinkRow → Bool) → IsAscending (ids_in links) → ids_read may links (ids_in (filter p links)) ≡ ids_in (filter (λ (link : LinkRow). may link.home && p link) links)
  ids_by_homes p ascends = among links (all_own links (found_itself links ascends))
    where
      among : (some : List LinkRow) → AllByRecursion IsOwn some → ids_read may links (ids_in (filter p some)) ≡ ids_in (filter (λ (link : LinkRow). may link.home && p link) some)
      among [] own = refl
      among (link ∷ some) own = step (may link.home) (p link) own.0 (among some own.1)
        where
          step : (m b : Bool) → is_read may (link_in links link.id) ≡ m → ids_read may links (ids_in (filter p some)) ≡ ids_in (filter (λ (l : LinkRow). may l.home && p l) some)
              → ids_read may links (ids_in (cond b (link ∷ filter p some) (filter p some))) ≡ ids_in (cond (m && b) (link ∷ filter (λ (l : LinkRow). may l.home && p l) some) (filter (λ (l : LinkRow). may l.home && p l) some))
          step true true e rest = ap (λ (c : Bool). cond c (link.id ∷ ids_read may links (ids_in (filter p some))) (ids_read may links (ids_in (filter p some)))) e ∙ ap (λ (ids : List (List ℕ)). link.id ∷ ids) rest
          step false true e rest = ap (λ (c : Bool). cond c (link.id ∷ ids_read may links (ids_in (filter p some))) (ids_read may links (ids_in (filter p some)))) e ∙ rest
          step true false e rest = rest
          step false false e rest = rest

  module _ (q span : Span) where
    abbrev hit : Span → Bool
    hit s = spans_meet span s && is_eq (span_cmp q s)

    abbrev row_hit : Row (List ℕ) → Bool
    row_hit row = (is_met span row && is_row_read may links row) && is_eq (span_cmp q (span_of row))

    turned : (a b c : Bool) → ((a && b) && c) ≡ (b && (a && c))
    turned true b c = refl
    turned false true c = refl
    turned false false c = refl

    spans_hit : (b : Bool) (spans : List Span) → list_any (λ s. b && hit s) spans ≡ (b && list_any hit spans)
    spans_hit true spans = refl
    spans_hit false [] = refl
    spans_hit false (s ∷ spans) = spans_hit false spans

    rows_hit : (id : List ℕ) (spans : List Span) → list_any row_hit (rows_for spans id) ≡ list_any (λ s. is_read may (link_in links id) && hit s) spans
    rows_hit id [] = refl
    rows_hit id (s ∷ spans) = λ i. turned (spans_meet span s) (is_read may (link_in links id)) (is_eq (span_cmp q s)) i || rows_hit id spans i

    link_hit : (end : ℕ) (link : LinkRow) → IsOwn link → list_any row_hit (rows_at end link) ≡ (may link.home && list_any hit (spans_at end link))
    link_hit end link own = rows_hit link.id (spans_at end link) ∙ spans_hit (is_read may (link_in links link.id)) (spans_at end link) ∙ ap (λ (b : Bool). b && list_any hit (spans_at end link)) own

    links_hit : (end : ℕ) (some : List LinkRow) → AllByRecursion IsOwn some → list_any row_hit (flat_map (rows_at end) some) ≡ list_any hit (flat_map (spans_at end) (links_read may some))
    links_hit end [] own = refl
    links_hit end (link ∷ some) own =
        list_any-append row_hit (rows_at end link) (flat_map (rows_at end) some)
        ∙ (λ i. link_hit end link own.0 i || links_hit end some own.1 i)
        ∙ step (may link.home)
      where
        step : (b : Bool) → ((b && list_any hit (spans_at end link)) || list_any hit (flat_map (spans_at end) (links_read may some))) ≡ list_any hit (flat_map (spans_at end) (cond b (link ∷ links_read may some) (links_read may some)))
        step true = sym (list_any-append hit (spans_at end link) (flat_map (spans_at end) (links_read may some)))
        step false = refl

  pub spans_are_read : (end : ℕ) (span : Span) (tree : IndexTree) (held : List (Row (List ℕ))) → IsAscending (ids_in links) → HoldsRuns end links tree
      → map (plain_row (λ (width : List ℕ). width)) held ≡ filter (is_met span) (rows_in_index tree) → map span_of_pair (pairs_of (map pair_of (rows_read may links held))) ≡ spans_met end span (links_read may links)
  spans_are_read end span tree held ascends holds found =
      let chosen = λ (row : Row (List ℕ)). is_met span row && is_row_read may links row in
      let kept : rows_read may links held ≡ filter chosen (rows_in_index tree) = ap (rows_read may links) (sym (plain_rows held) ∙ found) ∙ sym (filter_both (is_met span) (is_row_read may links) (rows_in_index tree)) in
      let own = all_own links (found_itself links ascends) in
      pairs_with (map pair_of (rows_read may links held)) []
      ∙ ap ascending_spans (as_spans (rows_read may links held))
      ∙ ap (λ (rows : List (Row (List ℕ))). ascending_spans (map span_of rows)) kept
      ∙ same_spans (map span_of (filter chosen (rows_in_index tree))) (filter (spans_meet span) (flat_map (spans_at end) (links_read may links))) (λ q.
      among_chosen q span_of chosen (rows_in_index tree)
      ∙ sym (list_any-IsPermutation (row_hit q span) (flat_map (rows_at end) links) (rows_in_index tree) holds)
      ∙ links_hit q span end links own
      ∙ sym (among_chosen q (λ (s : Span). s) (spans_meet span) (flat_map (spans_at end) (links_read may links)))
      ∙ ap (among q) (itself_mapped (filter (spans_meet span) (flat_map (spans_at end) (links_read may links)))))
