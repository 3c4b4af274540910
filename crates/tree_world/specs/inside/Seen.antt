-- What specs pick from the trees of documents.
use Rattle.std.specs.Prelude.{◌≡◌, ◌<◌, ◌≤◌, true, false, ℕ, ◌+◌, ◌==◌, ◌||◌, ◌++◌, Bool, List, [], ◌∷◌, Option, length, map, if◌then◌else◌}
use Rattle.std.specs.List.{flat_map, filter_map, find, list_any}
use Rattle.std.specs.Option.{option_map}
use Rattle.tumbler.specs.declared.span.Span.{Span}
use Rattle.febe_data.specs.declared.run.Run.{Run}
use Rattle.febe_data.specs.Plain.{PlainSpec, PlainItem, bytes, link}
use Rattle.granfilade.specs.Content.{ByteAt, content}
use Rattle.enfilade_core.specs.declared.tree.Row.{Row}
use Rattle.poom.specs.Laid.{texts, links}
use Rattle.poom.specs.Picked.{is_picked, picked_from}
use Rattle.poom.specs.Runs.{as_runs}
use Rattle.world_rules.specs.World.{is_same}
use Rattle.tree_world.specs.Trees.{Trees, text_in, links_in}

-- the addresses of a document's text that a span picks, and the ids of its links
abbrev pub text_picked : Trees → List ℕ → Span → List (List ℕ)
text_picked trees document span = picked_from 1 span 1 (text_in trees document)

abbrev pub links_picked : Trees → List ℕ → Span → List (List ℕ)
links_picked trees document span = picked_from 2 span 1 (links_in trees document)

-- how many there are
abbrev pub text_count : Trees → List ℕ → Span → ℕ
text_count trees document span = length (text_picked trees document span)

abbrev pub link_count : Trees → List ℕ → Span → ℕ
link_count trees document span = length (links_picked trees document span)

-- how many items a span gives
abbrev pub item_count : Trees → List ℕ → Span → ℕ
item_count trees document span = (if text_count trees document span == 0 then 0 else 1) + link_count trees document span

-- ---- runs

-- the runs of what a span picks, of what a spec picks, and of what specs pick
abbrev pub runs_picked : Trees → List ℕ → Span → List Run
runs_picked trees document span = as_runs document (text_picked trees document span)

abbrev pub runs_by_spec : Trees → PlainSpec → List Run
runs_by_spec trees spec = flat_map (runs_picked trees spec.document) spec.spans

abbrev pub runs_by_specs : Trees → List PlainSpec → List Run
runs_by_specs trees specs = flat_map (runs_by_spec trees) specs

-- what was made is all that is wanted, or it is more than `most` already and no more than is wanted
abbrev pub ComesTo : ℕ → (wanted made : List Run) → Bool → Type 0
ComesTo most wanted made true = made ≡ wanted
ComesTo most wanted made false = (most < length made) × (length made ≤ length wanted)

-- so many bytes of a document's own content
abbrev pub text_run : List ℕ → ℕ → ℕ → Run
text_run document first count = record { origin = document; content = document; first = first; length = count }

-- ---- bytes

-- the byte that contents have at an address, if they have one
abbrev pub byte_found : List ByteAt → List ℕ → Option ℕ
byte_found held address = option_map (λ (at : ByteAt). at.byte) (find (λ (at : ByteAt). is_same at.address address) held)

abbrev pub bytes_found : List ByteAt → List (List ℕ) → List ℕ
bytes_found held addresses = filter_map (byte_found held) addresses

-- one item with the bytes at these addresses, where there are any
abbrev pub text_item : List ByteAt → List (List ℕ) → List PlainItem
text_item held addresses = if length addresses == 0 then [] else bytes (bytes_found held addresses) ∷ []

-- what a span gives: its text, then the links that it picks
abbrev pub items_picked : Trees → List ℕ → Span → List PlainItem
items_picked trees document span = text_item (content trees.contents) (text_picked trees document span) ++ map link (links_picked trees document span)

abbrev pub items_by_spec : Trees → PlainSpec → List PlainItem
items_by_spec trees spec = flat_map (items_picked trees spec.document) spec.spans

abbrev pub items_by_specs : Trees → List PlainSpec → List PlainItem
items_by_specs trees specs = flat_map (items_by_spec trees) specs

-- ---- documents

abbrev pub has_picked : Span → List (List ℕ) → Bool
has_picked span addresses = list_any (is_picked span) addresses

-- rows have text or links in one of these spans
abbrev pub rows_show : List Span → List (Row ℕ) → Bool
rows_show spans rows = list_any (λ (span : Span). has_picked span (texts rows) || has_picked span (links rows)) spans

-- a document has
abbrev pub shows : Trees → List Span → List ℕ → Bool
shows trees spans document = list_any (λ (span : Span). has_picked span (text_in trees document) || has_picked span (links_in trees document)) spans

-- ---- addresses

-- the addresses that a spec picks, and those that specs pick
abbrev pub addresses_by_spec : Trees → PlainSpec → List (List ℕ)
addresses_by_spec trees spec = flat_map (text_picked trees spec.document) spec.spans

abbrev pub addresses_by_specs : Trees → List PlainSpec → List (List ℕ)
addresses_by_specs trees specs = flat_map (addresses_by_spec trees) specs
