-- Sums that are counted up to a greatest number.
use Rattle.std.proofs.Common.{◌≡◌, ℕ, ◌+◌, ◌<◌, ◌∙◌, ◌&&◌, List, length, take, get_or, min, not, true, false, arith, map, ap, sym, count_by}
use Rattle.std.specs.List.{list_any, sum_by}
use Rattle.std.proofs.lemmas.Bool.Decides.{nat_tests}
use Rattle.std.proofs.lemmas.List.Sums.{length-filter, sum_by_more}
use Rattle.std.proofs.lemmas.List.Folds.{list_any_at}
use Rattle.tumbler.specs.declared.span.Span.{Span}
use Rattle.tumbler.specs.Places.{fits}
use Rattle.tumbler.specs.Span.{end_of}
use Rattle.febe_data.specs.declared.spec.Spec.{Spec}
use Rattle.febe_data.specs.Plain.{PlainSpec, plain_spec}
use Rattle.world_rules.specs.declared.rows.Row.{Row}
use Rattle.world_rules.specs.World.{World, is_text_of, is_link_of}
use Rattle.world_rules.specs.Picking.{is_within, picks, picked_links}
use Rattle.world_rules.specs.Refusals.{has_bad_span, total_of, span_bytes}
use Rattle.world_rules.proofs.Specs.{list_any-map, sum_by-map}

-- the rows that a span picks, counted up to its end
pub bytes_counted : (world : World) (document : List ℕ) (span : Span) (rows : List Row) (end : List ℕ) (n : ℕ) → rows ≡ world.rows → end ≡ end_of span
    → n ≡ count_by (λ (row : Row). is_text_of document row && is_within span.start end row) rows → n ≡ span_bytes world document span
bytes_counted world document span rows end n e f counted = counted ∙ rw (e, f) (sym (length-filter (λ (row : Row). is_text_of document row && picks span row) world.rows))

pub links_counted : (world : World) (document : List ℕ) (span : Span) (rows : List Row) (end : List ℕ) (n : ℕ) → rows ≡ world.rows → end ≡ end_of span
    → n ≡ count_by (λ (row : Row). is_link_of document row && is_within span.start end row) rows → n ≡ length (picked_links world document span)
links_counted world document span rows end n e f counted = counted ∙ rw (e, f) (sym (length-filter (λ (row : Row). is_link_of document row && picks span row) world.rows))

-- a term more, where both are counted up to m
pub up_to_more : (m a b : ℕ) → min (min a m + min b m) m ≡ min (a + b) m
up_to_more m a b = grind (arith, nat_tests)

pub sum_up_to_more : {X : Type 0} (f : X → ℕ) (m : ℕ) (xs : List X) (i : ℕ) (d : X) (total : ℕ) → i < length xs → total ≡ min (sum_by f (take i xs)) m
    → min (total + min (f (get_or xs i d)) m) m ≡ min (sum_by f (take (i + 1) xs)) m
sum_up_to_more f m xs i d total lt e = rw (e, sum_by_more f xs i d lt) (up_to_more m (sum_by f (take i xs)) (f (get_or xs i d)))

-- where no span ends nowhere, each of them ends somewhere
pub span_fits_at : (spans : List Span) (i : ℕ) (d : Span) → i < length spans → list_any (λ (span : Span). not (fits span.start span.width)) spans ≡ false → fits (get_or spans i d).start (get_or spans i d).width ≡ true
span_fits_at spans i d lt none = grind (arith, nat_tests, list_any_at (λ (span : Span). not (fits span.start span.width)) spans i d lt)

pub spec_fits_at : (specs : List Spec) (i : ℕ) (d : Spec) → i < length specs → has_bad_span (map plain_spec specs) ≡ false → list_any (λ (span : Span). not (fits span.start span.width)) (get_or specs i d).spans.items ≡ false
spec_fits_at specs i d lt none = grind (arith, nat_tests, list_any_at (λ (spec : Spec). list_any (λ (span : Span). not (fits span.start span.width)) spec.spans.items) specs i d lt, list_any-map)

-- the sums over the plain specs and over those of the code
pub total_is : (measure : List ℕ → Span → ℕ) (specs : List Spec) → total_of measure (map plain_spec specs) ≡ sum_by (λ (spec : Spec). sum_by (measure spec.document) spec.spans.items) specs
total_is measure specs = sum_by-map plain_spec (λ (spec : PlainSpec). sum_by (measure spec.document) spec.spans) specs

pub total_up_to_more : (measure : List ℕ → Span → ℕ) (m : ℕ) (specs : List Spec) (i : ℕ) (d : Spec) (total : ℕ) → i < length specs → total ≡ min (total_of measure (map plain_spec (take i specs))) m
    → min (total + min (sum_by (measure (get_or specs i d).document) (get_or specs i d).spans.items) m) m ≡ min (total_of measure (map plain_spec (take (i + 1) specs))) m
total_up_to_more measure m specs i d total lt e =
    let before : total ≡ min (sum_by (λ (spec : Spec). sum_by (measure spec.document) spec.spans.items) (take i specs)) m = e ∙ ap (λ (n : ℕ). min n m) (total_is measure (take i specs)) in
    sum_up_to_more (λ (spec : Spec). sum_by (measure spec.document) spec.spans.items) m specs i d total lt before ∙ ap (λ (n : ℕ). min n m) (sym (total_is measure (take (i + 1) specs)))

pub ruleset sizes = (up_to_more, sum_up_to_more, span_fits_at, spec_fits_at, total_up_to_more)
