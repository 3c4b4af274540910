-- How many rows meet spans, one span after the other.
use Rattle.std.proofs.Common.{◌≡◌, ℕ, ◌+◌, ◌-◌, ◌<◌, ◌≤◌, Option, Some, None, List, length, get_or, take, map, ap, ◌∙◌, subst, arith}
use Rattle.std.specs.Prelude.{IfSome, IfNone}
use Rattle.std.specs.List.{filter}
use Rattle.std.proofs.lemmas.List.{length-map, take_all}
use Rattle.std.proofs.lemmas.List.Sums.{sum_by_more, sum_by_more_le}
use Rattle.tumbler.specs.ListView.{ListView}
use Rattle.tumbler.specs.declared.span.Span.{Span}
use Rattle.enfilade_core.specs.declared.tree.Row.{Row}
use Rattle.enfilade_core.specs.Plain.{plain_row}
use Rattle.spanfilade.specs.Index.{IndexTree, rows_in_index}
use Rattle.spanfilade.specs.Keys.{is_met, count_met}

abbrev met_of : List (Row (List ℕ)) → Span → ℕ
met_of rows span = length (filter (is_met span) rows)

module _ (tree view : IndexTree) (is_view : tree ≡ view) (slice : List Span) (k limit left : ℕ) (span : Span) (lt : k < length slice) (at : span ≡ get_or slice k span) (so_far : limit ≡ left + count_met (take k slice) (rows_in_index view)) where
  abbrev rows : List (Row (List ℕ))
  rows = rows_in_index view

  -- the rows of one span fit into what is left
  pub counted_more : (found : Option (ListView (Row (List ℕ)))) (held : ListView (Row (List ℕ))) (count : ℕ) → found ≡ Some held → IfSome found (λ made. map (plain_row (λ (width : List ℕ). width)) made.items ≡ filter (is_met span) (rows_in_index tree))
      → IfSome found (λ made. length made.items ≤ left) → count ≡ length held.items → limit ≡ (left - count) + count_met (take (k + 1) slice) rows
  counted_more found held count is met few counted =
      let met_now : map (plain_row (λ (width : List ℕ). width)) held.items ≡ filter (is_met span) (rows_in_index tree) =
      subst (λ (o : Option (ListView (Row (List ℕ)))). IfSome o (λ made. map (plain_row (λ (width : List ℕ). width)) made.items ≡ filter (is_met span) (rows_in_index tree))) is met in
      let few_now : length held.items ≤ left = subst (λ (o : Option (ListView (Row (List ℕ)))). IfSome o (λ made. length made.items ≤ left)) is few in
      let long : length (map (plain_row (λ (width : List ℕ). width)) held.items) ≡ length held.items = length-map held.items (plain_row (λ (width : List ℕ). width)) in
      let same : length (map (plain_row (λ (width : List ℕ). width)) held.items) ≡ met_of rows span = ap length met_now ∙ ap (λ (t : IndexTree). met_of (rows_in_index t) span) is_view in
      let here : met_of rows span ≡ met_of rows (get_or slice k span) = ap (met_of rows) at in
      let more : count_met (take (k + 1) slice) rows ≡ count_met (take k slice) rows + met_of rows (get_or slice k span) = sum_by_more (met_of rows) slice k span lt in
      omega arith

  -- the rows of one span are more than what is left
  pub past_limit : (found : Option (ListView (Row (List ℕ)))) (spans : List Span) → found ≡ None → IfNone found (left < length (filter (is_met span) (rows_in_index tree))) → slice ≡ spans → limit < count_met spans rows
  past_limit found spans is more same_spans =
      let more_now : left < met_of (rows_in_index tree) span = subst (λ (o : Option (ListView (Row (List ℕ)))). IfNone o (left < length (filter (is_met span) (rows_in_index tree)))) is more in
      let there : met_of (rows_in_index tree) span ≡ met_of rows span = ap (λ (t : IndexTree). met_of (rows_in_index t) span) is_view in
      let here : met_of rows span ≡ met_of rows (get_or slice k span) = ap (met_of rows) at in
      let whole : count_met (take k slice) rows + met_of rows (get_or slice k span) ≤ count_met slice rows = sum_by_more_le (met_of rows) slice k span lt in
      let all : count_met slice rows ≡ count_met spans rows = ap (λ (ss : List Span). count_met ss rows) same_spans in
      omega arith

pub few_met : (rows : List (Row (List ℕ))) (slice spans : List Span) (k limit left : ℕ) → length slice ≤ k → slice ≡ spans → limit ≡ left + count_met (take k slice) rows → count_met spans rows ≤ limit
few_met rows slice spans k limit left le is so_far =
    let all : count_met (take k slice) rows ≡ count_met spans rows = ap (λ (ss : List Span). count_met ss rows) (take_all k slice le ∙ is) in
    omega arith
