-- What queries of a session are answered: scans of the world's lists.
use Rattle.std.specs.Prelude.{ℕ, ◌+◌, ◌==◌, List, [], ◌∷◌, ◌++◌, length, map, Option, Some, if◌then◌else◌}
use Rattle.std.specs.List.{flat_map, filter_map}
use Rattle.tumbler.specs.declared.span.Span.{Span}
use Rattle.tumbler.specs.Places.{IsTumbler}
use Rattle.febe_data.specs.Plain.{PlainSpec, PlainItem, bytes, link, PlainRequest, span_set, retrieve, relate, whole_span, follow, find_documents, end_sets, count_links, find_links, next_links, PlainReply, gave_span_set, gave_whole_span, retrieved, related, followed, found_documents, gave_end_sets, counted_links, found_links, gave_next_links}
use Rattle.world_rules.specs.declared.rows.Row.{Row}
use Rattle.world_rules.specs.declared.ends.End.{End}
use Rattle.world_rules.specs.declared.ends.End.TheVariants.{From, To, Three}
use Rattle.world_rules.specs.World.{World, LinkRow, text_length, link_length, byte_at}
use Rattle.world_rules.specs.Picking.{picked_text, picked_links}
use Rattle.world_rules.specs.Relation.{diagonals}
use Rattle.world_rules.specs.Finding.{documents_found, links_found, ids_found, ids_after, link_at}
use Rattle.world_rules.specs.Ends.{end_numbered, end_now, end_set}

-- ---- retrieve

-- the bytes of text rows, in their order
abbrev pub text_of : World → List Row → List ℕ
text_of world rows = filter_map (λ (row : Row). byte_at world.bytes row.address) rows

-- one item with the bytes, where there is a row
abbrev pub text_item : World → List Row → List PlainItem
text_item world rows = if length rows == 0 then [] else bytes (text_of world rows) ∷ []

-- what one span of a document gives: its text, then the links that it picks
abbrev pub items_of_span : World → List ℕ → Span → List PlainItem
items_of_span world document span = text_item world (picked_text world document span) ++ map (λ (row : Row). link row.address) (picked_links world document span)

abbrev pub items_of : World → List PlainSpec → List PlainItem
items_of world specs = flat_map (λ (spec : PlainSpec). flat_map (items_of_span world spec.document) spec.spans) specs

-- ---- the spans of a document

-- so many positions of a part, from the first on; nothing where there are none
abbrev pub span_of_part : (part count : ℕ) → List Span
span_of_part part count = if count == 0 then [] else record { start = part ∷ 1 ∷ []; width = 0 ∷ count ∷ [] } ∷ []

-- the span of the document's text and that of its links, where there are any
abbrev pub span_set_of : World → List ℕ → List Span
span_set_of world document = span_of_part 1 (text_length world document) ++ span_of_part 2 (link_length world document)

-- one span over all of these: where both parts have rows, up to the last link row
abbrev pub span_over : ℕ → List Span → Span
span_over links [] = record { start = []; width = [] }
span_over links (span ∷ []) = span
span_over links other = record { start = 1 ∷ 1 ∷ []; width = 1 ∷ (links + 1) ∷ [] }

abbrev pub whole_span_of : World → List ℕ → Span
whole_span_of world document = span_over (link_length world document) (span_set_of world document)

-- ---- links

-- where an end of a link is now, where there are both
abbrev pub follow_of : World → ℕ → Option LinkRow → Option End → List PlainSpec
follow_of world session (Some found) (Some end) = end_now world session end found
follow_of world session found end = []

-- ---- all queries

-- the reply to a query of the session; what is no query gives nothing
abbrev pub answer : World → ℕ → PlainRequest → PlainReply
answer world session (span_set document) = gave_span_set (span_set_of world document)
answer world session (retrieve specs) = retrieved (items_of world specs)
answer world session (relate left right) = related (diagonals world left right)
answer world session (whole_span document) = gave_whole_span (whole_span_of world document)
answer world session (follow id end) = followed (follow_of world session (link_at world session id) (end_numbered end))
answer world session (find_documents specs) = found_documents (documents_found world session specs)
answer world session (end_sets specs) = gave_end_sets (end_set world session From specs) (end_set world session To specs) (end_set world session Three specs)
answer world session (count_links want) = counted_links (length (links_found world session want))
answer world session (find_links want) = found_links (ids_found world session want)
answer world session (next_links want after limit) = gave_next_links (ids_after world session want after limit)
answer world session other = retrieved []

-- where the item is a link, its id is a tumbler
abbrev pub NamesTumbler : PlainItem → Type 0
NamesTumbler (bytes text) = Unit {0}
NamesTumbler (link id) = IsTumbler id
