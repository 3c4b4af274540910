-- What trees show is what the world that they stand for shows.
use Rattle.std.proofs.Common.{◌≡◌, ◌∙◌, ℕ, ◌+◌, ◌-◌, ◌≤◌, ◌&&◌, Bool, true, false, not, List, [], ◌∷◌, length, map, take, drop, cond, refl, sym, ap, subst, arith}
use Rattle.std.specs.Prelude.{filter}
use Rattle.std.specs.List.{flat_map, sum_by}
use Rattle.std.specs.declared.cmp.Ordering.{Ordering}
use Rattle.std.specs.declared.cmp.Ordering.TheVariants.{Less, Equal, Greater}
use Rattle.std.specs.Ordering.{nat_cmp, is_le, is_lt, ordering_reverse}
use Rattle.std.specs.Cmp.Lexicographic.{slice_cmp, nat_list_cmp_total}
use Rattle.std.proofs.lemmas.List.{length-drop, length-take-le}
use Rattle.std.proofs.lemmas.List.Concat.{length-flat_map}
use Rattle.tumbler.specs.declared.span.Span.{Span}
use Rattle.tumbler.specs.Places.{comes_before}
use Rattle.tumbler.specs.Span.{end_of}
use Rattle.febe_data.specs.declared.run.Run.{Run}
use Rattle.febe_data.specs.Plain.{PlainSpec}
use Rattle.poom.specs.Bounds.{IsBound}
use Rattle.poom.specs.Picked.{is_picked, picked_from}
use Rattle.poom.specs.Runs as laid
use Rattle.poom.specs.Runs.{as_runs}
use Rattle.poom.proofs.Picks.{picked_between}
use Rattle.world_rules.specs.declared.rows.Part.TheVariants.{Text, Links}
use Rattle.world_rules.specs.declared.rows.Row.{Row}
use Rattle.world_rules.specs.World.{World, is_text_of, is_link_of}
use Rattle.world_rules.specs.Picking.{is_between, picks, picked_text, picked_links, addresses_of, picked_by_spec, picked_addresses, stretches_on, stretches, is_next_byte, run_of, runs_of}
use Rattle.world_rules.specs.Edits.{new_rows}
use Rattle.world_rules.specs.FlatView.{FlatView}
use Rattle.world_rules.specs.Refusals.{total_of}
use Rattle.world_rules.proofs.ListTests.{filter_both}
use Rattle.tree_world.specs.Trees.{Trees, text_in}
use Rattle.tree_world.specs.Standing.{Stands, link_rows}
use Rattle.tree_world.specs.inside.Seen.{text_picked, text_count, runs_picked, runs_by_specs}

-- ---- spans of positions

le_or_before : (a b : List ℕ) → is_le (slice_cmp nat_cmp a b) ≡ not (comes_before b a)
le_or_before a b = ap is_le (nat_list_cmp_total.antisymm a b) ∙ reversed (slice_cmp nat_cmp b a)
  where
    reversed : (o : Ordering) → is_le (ordering_reverse o) ≡ not (is_lt o)
    reversed Less = refl
    reversed Equal = refl
    reversed Greater = refl

-- two words for what a span has
pub between_is : (span : Span) (address : List ℕ) → is_between span.start (end_of span) address ≡ is_picked span address
between_is span address = ap (λ (b : Bool). b && comes_before address (end_of span)) (le_or_before span.start address)

-- ---- what a span picks of rows

text_rows_picked : (span : Span) (document : List ℕ) (n : ℕ) (xs : List (List ℕ)) → addresses_of (filter (picks span) (new_rows document n xs)) ≡ picked_from 1 span n xs
text_rows_picked span document n [] = refl
text_rows_picked span document n (x ∷ xs) =
    step (picks span row) (text_rows_picked span document (n + 1) xs)
    ∙ ap (λ (b : Bool). cond b (x ∷ picked_from 1 span (n + 1) xs) (picked_from 1 span (n + 1) xs)) (between_is span (1 ∷ n ∷ []))
  where
    row : Row
    row = record { document = document; part = Text; n = n; address = x }

    step : (b : Bool) → addresses_of (filter (picks span) (new_rows document (n + 1) xs)) ≡ picked_from 1 span (n + 1) xs
        → addresses_of (cond b (row ∷ filter (picks span) (new_rows document (n + 1) xs)) (filter (picks span) (new_rows document (n + 1) xs))) ≡ cond b (x ∷ picked_from 1 span (n + 1) xs) (picked_from 1 span (n + 1) xs)
    step true rest = ap (λ (ys : List (List ℕ)). x ∷ ys) rest
    step false rest = rest

link_rows_picked : (span : Span) (document : List ℕ) (n : ℕ) (xs : List (List ℕ)) → addresses_of (filter (picks span) (link_rows document n xs)) ≡ picked_from 2 span n xs
link_rows_picked span document n [] = refl
link_rows_picked span document n (x ∷ xs) =
    step (picks span row) (link_rows_picked span document (n + 1) xs)
    ∙ ap (λ (b : Bool). cond b (x ∷ picked_from 2 span (n + 1) xs) (picked_from 2 span (n + 1) xs)) (between_is span (2 ∷ n ∷ []))
  where
    row : Row
    row = record { document = document; part = Links; n = n; address = x }

    step : (b : Bool) → addresses_of (filter (picks span) (link_rows document (n + 1) xs)) ≡ picked_from 2 span (n + 1) xs
        → addresses_of (cond b (row ∷ filter (picks span) (link_rows document (n + 1) xs)) (filter (picks span) (link_rows document (n + 1) xs))) ≡ cond b (x ∷ picked_from 2 span (n + 1) xs) (picked_from 2 span (n + 1) xs)
    step true rest = ap (λ (ys : List (List ℕ)). x ∷ ys) rest
    step false rest = rest

-- of a world whose rows of the document are these
pub text_seen : (world : World) (document : List ℕ) (text : List (List ℕ)) (span : Span) → filter (is_text_of document) world.rows ≡ new_rows document 1 text → addresses_of (picked_text world document span) ≡ picked_from 1 span 1 text
text_seen world document text span rows =
    ap addresses_of (filter_both (is_text_of document) (picks span) world.rows ∙ ap (filter (picks span)) rows) ∙ text_rows_picked span document 1 text

pub links_seen : (world : World) (document : List ℕ) (ids : List (List ℕ)) (span : Span) → filter (is_link_of document) world.rows ≡ link_rows document 1 ids → addresses_of (picked_links world document span) ≡ picked_from 2 span 1 ids
links_seen world document ids span rows =
    ap addresses_of (filter_both (is_link_of document) (picks span) world.rows ∙ ap (filter (picks span)) rows) ∙ link_rows_picked span document 1 ids

-- ---- runs

runs_on : (origin first last : List ℕ) (count : ℕ) (xs : List (List ℕ)) → map (run_of origin) (stretches_on is_next_byte first last count xs) ≡ map (laid.run_of origin) (laid.stretches_on is_next_byte first last count xs)
runs_on origin first last count [] = refl
runs_on origin first last count (x ∷ xs) = step (is_next_byte last x) (runs_on origin first x (count + 1) xs) (runs_on origin x x 1 xs)
  where
    step : (b : Bool) → map (run_of origin) (stretches_on is_next_byte first x (count + 1) xs) ≡ map (laid.run_of origin) (laid.stretches_on is_next_byte first x (count + 1) xs)
        → map (run_of origin) (stretches_on is_next_byte x x 1 xs) ≡ map (laid.run_of origin) (laid.stretches_on is_next_byte x x 1 xs)
        → map (run_of origin) (cond b (stretches_on is_next_byte first x (count + 1) xs) (record { first = first; count = count } ∷ stretches_on is_next_byte x x 1 xs))
        ≡ map (laid.run_of origin) (cond b (laid.stretches_on is_next_byte first x (count + 1) xs) (record { first = first; count = count } ∷ laid.stretches_on is_next_byte x x 1 xs))
    step true goes ends = goes
    step false goes ends = ap (λ (runs : List Run). run_of origin (record { first = first; count = count }) ∷ runs) ends

pub runs_are : (origin : List ℕ) (xs : List (List ℕ)) → map (run_of origin) (stretches is_next_byte xs) ≡ as_runs origin xs
runs_are origin [] = refl
runs_are origin (x ∷ xs) = runs_on origin x x 1 xs

-- ---- lengths

-- how many positions there are between two bounds
pub count_picked : (part a b : ℕ) (span : Span) (end : List ℕ) (long : ℕ) → end ≡ end_of span → IsBound part span.start long a → IsBound part end long b → (S : List (List ℕ)) → long ≡ length S
    → b - a ≡ length (picked_from part span 1 S)
count_picked part a b span end long e f t S same =
    let from = f.from_one in
    let to = t.to_end in
    let few : length S - (a - 1) ≡ length (drop (a - 1) S) = sym (length-drop (a - 1) S) in
    let enough : b - a ≤ length S - (a - 1) = omega (arith, same, from, to) in
    sym (length-take-le (b - a) (drop (a - 1) S) (subst (λ (n : ℕ). b - a ≤ n) few enough))
    ∙ ap length (picked_between part a b span end long S (take (b - a) (drop (a - 1) S)) e f t same refl)

-- ---- in a world that trees stand for

module _ (trees : Trees) (view : FlatView) (stands : Stands trees view) where
  text_is : (document : List ℕ) (span : Span) → addresses_of (picked_text view.world document span) ≡ text_picked trees document span
  text_is document span = text_seen view.world document (text_in trees document) span (stands.texts document)

  pub runs_seen : (specs : List PlainSpec) → runs_of view.world specs ≡ runs_by_specs trees specs
  runs_seen specs = λ i. flat_map (λ (spec : PlainSpec). flat_map (λ (span : Span). span_runs spec.document span i) spec.spans) specs
    where
      span_runs : (document : List ℕ) (span : Span) → map (run_of document) (stretches is_next_byte (addresses_of (picked_text view.world document span))) ≡ runs_picked trees document span
      span_runs document span = ap (λ (xs : List (List ℕ)). map (run_of document) (stretches is_next_byte xs)) (text_is document span) ∙ runs_are document (text_picked trees document span)

  pub lengths_seen : (specs : List PlainSpec) → length (picked_addresses view.world specs) ≡ total_of (text_count trees) specs
  lengths_seen specs = length-flat_map (picked_by_spec view.world) specs ∙ (λ i. sum_by (λ (spec : PlainSpec). by_spec spec i) specs)
    where
      by_spec : (spec : PlainSpec) → length (picked_by_spec view.world spec) ≡ sum_by (text_count trees spec.document) spec.spans
      by_spec spec = length-flat_map (λ (span : Span). addresses_of (picked_text view.world spec.document span)) spec.spans ∙ (λ i. sum_by (λ (span : Span). length (text_is spec.document span i)) spec.spans)
