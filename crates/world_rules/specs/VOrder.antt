-- The rows of a document in the order of their V-addresses, and that what is picked comes in this order.
use Rattle.std.specs.Prelude.{◌≡◌, ℕ, ◌==◌, ◌&&◌, Bool, List, length, filter}
use Rattle.std.specs.List.{list_any, flat_map}
use Rattle.tumbler.specs.declared.span.Span.{Span}
use Rattle.febe_data.specs.Plain.{PlainEntry}
use Rattle.world_rules.specs.declared.rows.Row.{Row}
use Rattle.world_rules.specs.World.{World, empty_world, is_text_of}
use Rattle.world_rules.specs.Picking.{picks, picked_text, picked_links, picked_once}
use Rattle.world_rules.specs.Apply.{world_of}
use Rattle.world_rules.specs.Placed.{AllPlaced}
use Rattle.world_rules.specs.Laws.{text_rows, link_rows, numbers_from}

-- rows by their places: the one at 1, then the one at 2, and so on
abbrev pub by_place : List Row → List Row
by_place rows = flat_map (λ (n : ℕ). filter (λ (row : Row). row.n == n) rows) (numbers_from 1 (length rows))

-- a document's text in V order: what stands at `1.1`, at `1.2`, and so on
abbrev pub text_by_place : World → List ℕ → List Row
text_by_place world document = by_place (text_rows world document)

-- its links in V order: what stands at `2.1`, at `2.2`, and so on
abbrev pub links_by_place : World → List ℕ → List Row
links_by_place world document = by_place (link_rows world document)

-- What is picked from the document in the order of the world's list of rows is what is picked from it in V order:
-- by one span, by the spans of a spec together, and by any test, such as that of a content byte.
pub record IsPickedByPlace (world : World) (document : List ℕ) : Type 0 where
  pub text : (span : Span) → picked_text world document span ≡ filter (picks span) (text_by_place world document)
  pub links : (span : Span) → picked_links world document span ≡ filter (picks span) (links_by_place world document)
  pub once : (spans : List Span)
      → picked_once world (record { document = document; spans = spans }) ≡ filter (λ (row : Row). list_any (λ (span : Span). picks span row) spans) (text_by_place world document)
  pub any_text : (test : Row → Bool) → filter (λ (row : Row). is_text_of document row && test row) world.rows ≡ filter test (text_by_place world document)

-- so it is after each history of placed changes
abbrev pub PickedByPlace : Type 0
PickedByPlace = (history : List PlainEntry) → AllPlaced empty_world history → (document : List ℕ) → IsPickedByPlace (world_of history) document
