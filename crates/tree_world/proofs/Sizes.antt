-- Sums that are counted up to a greatest number.
use Rattle.std.proofs.Common.{◌≡◌, ℕ, ◌+◌, ◌<◌, ◌∙◌, ◌==◌, List, length, take, get_or, min, cond, arith, map, ap, sym}
use Rattle.std.specs.List.{sum_by}
use Rattle.std.proofs.lemmas.Bool.Decides.{nat_tests}
use Rattle.std.proofs.lemmas.List.{length-map}
use Rattle.std.proofs.lemmas.List.Sums.{sum_by_more}
use Rattle.tumbler.specs.declared.span.Span.{Span}
use Rattle.febe_data.specs.declared.spec.Spec.{Spec}
use Rattle.febe_data.specs.Plain.{PlainSpec, plain_spec}
use Rattle.world_rules.specs.declared.rows.Row.{Row}
use Rattle.world_rules.specs.FlatView.{FlatView}
use Rattle.world_rules.specs.Picking.{picked_text, picked_links}
use Rattle.world_rules.specs.Refusals.{total_of, span_bytes, span_items}
use Rattle.world_rules.proofs.Specs.{sum_by-map}
use Rattle.tree_world.specs.Trees.{Trees, text_in, links_in}
use Rattle.tree_world.specs.Standing.{Stands}
use Rattle.tree_world.specs.inside.Seen.{text_count, link_count, item_count}
use Rattle.tree_world.proofs.Seen.{text_seen, links_seen}

-- a term more, where the sum is counted up to m
up_to_more : (m a b : ℕ) → min (min a m + b) m ≡ min (a + b) m
up_to_more m a b = grind (arith, nat_tests)

up_to_both : (m a b : ℕ) → min (min a m + min b m) m ≡ min (a + b) m
up_to_both m a b = grind (arith, nat_tests)

pub sum_up_to : {X : Type 0} (f : X → ℕ) (m : ℕ) (xs : List X) (i : ℕ) (x : X) (old new one : ℕ) → i < length xs → x ≡ get_or xs i x → one ≡ f x → new ≡ min (old + one) m → old ≡ min (sum_by f (take i xs)) m → new ≡ min (sum_by f (take (i + 1) xs)) m
sum_up_to f m xs i x old new one lt at is more before =
    more ∙ (λ k. min (before k + (is ∙ ap f at) k) m) ∙ up_to_more m (sum_by f (take i xs)) (f (get_or xs i x)) ∙ ap (λ (n : ℕ). min n m) (sym (sum_by_more f xs i x lt))

total_is : (measure : List ℕ → Span → ℕ) (specs : List Spec) → total_of measure (map plain_spec specs) ≡ sum_by (λ (spec : Spec). sum_by (measure spec.document) spec.spans.items) specs
total_is measure specs = sum_by-map plain_spec (λ (spec : PlainSpec). sum_by (measure spec.document) spec.spans) specs

pub total_up_to : (measure : List ℕ → Span → ℕ) (m : ℕ) (specs : List Spec) (i : ℕ) (spec : Spec) (old new one : ℕ) → i < length specs → spec ≡ get_or specs i spec → one ≡ min (sum_by (measure spec.document) spec.spans.items) m → new ≡ min (old + one) m
    → old ≡ min (total_of measure (map plain_spec (take i specs))) m → new ≡ min (total_of measure (map plain_spec (take (i + 1) specs))) m
total_up_to measure m specs i spec old new one lt at is more before =
    let term : Spec → ℕ = (λ (s : Spec). sum_by (measure s.document) s.spans.items) in
    more ∙ (λ k. min ((before ∙ ap (λ (n : ℕ). min n m) (total_is measure (take i specs))) k + (is ∙ ap (λ (s : Spec). min (term s) m) at) k) m)
    ∙ up_to_both m (sum_by term (take i specs)) (term (get_or specs i spec))
    ∙ ap (λ (n : ℕ). min n m) (sym (sum_by_more term specs i spec lt) ∙ sym (total_is measure (take (i + 1) specs)))

-- ---- in a world that trees stand for

module _ (trees : Trees) (view : FlatView) (stands : Stands trees view) where
  bytes_alike : (document : List ℕ) (span : Span) → text_count trees document span ≡ span_bytes view.world document span
  bytes_alike document span = sym (ap length (text_seen view.world document (text_in trees document) span (stands.texts document))) ∙ length-map (picked_text view.world document span) (λ (row : Row). row.address)

  links_alike : (document : List ℕ) (span : Span) → link_count trees document span ≡ length (picked_links view.world document span)
  links_alike document span = sym (ap length (links_seen view.world document (links_in trees document) span (stands.links document))) ∙ length-map (picked_links view.world document span) (λ (row : Row). row.address)

  items_alike : (document : List ℕ) (span : Span) → item_count trees document span ≡ span_items view.world document span
  items_alike document span = λ i. cond (bytes_alike document span i == 0) 0 1 + links_alike document span i

  pub bytes_total : (specs : List PlainSpec) → total_of (text_count trees) specs ≡ total_of (span_bytes view.world) specs
  bytes_total specs = λ i. total_of (λ document span. bytes_alike document span i) specs

  pub items_total : (specs : List PlainSpec) → total_of (item_count trees) specs ≡ total_of (span_items view.world) specs
  items_total specs = λ i. total_of (λ document span. items_alike document span i) specs

pub ruleset sizes = (sum_up_to, total_up_to)
