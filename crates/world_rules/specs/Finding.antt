-- Which documents and links a session finds by what specs pick.
use Rattle.std.specs.Prelude.{ℕ, ◌&&◌, Bool, true, List, [], ◌∷◌, take, map, filter, Option}
use Rattle.std.specs.List.{list_any, find}
use Rattle.std.specs.Ordering.{nat_cmp, is_lt}
use Rattle.std.specs.Cmp.Lexicographic.{slice_cmp}
use Rattle.tumbler.specs.declared.span.Span.{Span}
use Rattle.tumbler.specs.Span.{end_of}
use Rattle.febe_data.specs.declared.run.Run.{Run}
use Rattle.febe_data.specs.Plain.{PlainSpec, PlainWant}
use Rattle.world_rules.specs.declared.rows.Row.{Row}
use Rattle.world_rules.specs.World.{World, LinkRow, is_same, ascending}
use Rattle.world_rules.specs.Readable.{is_readable}
use Rattle.world_rules.specs.Picking.{is_between, is_in_runs, picked_addresses}

-- ---- documents

-- a row of the document has one of these I-addresses
abbrev pub shows_one_of : World → List (List ℕ) → List ℕ → Bool
shows_one_of world addresses document = list_any (λ (row : Row). is_same row.document document && list_any (is_same row.address) addresses) world.rows

-- the documents that the session may read and that have content which the specs pick, ascending, each once
abbrev pub documents_found : World → ℕ → List PlainSpec → List (List ℕ)
documents_found world session specs =
    ascending (filter (λ (document : List ℕ). is_readable world session document && shows_one_of world (picked_addresses world specs) document) world.documents)

-- ---- links

abbrev pub is_in_span : Span → List ℕ → Bool
is_in_span span address = is_between span.start (end_of span) address

-- the home is in some span, or there is no span
abbrev pub is_home_wanted : List Span → List ℕ → Bool
is_home_wanted [] home = true
is_home_wanted (span ∷ spans) home = list_any (λ span. is_in_span span home) (span ∷ spans)

-- the end has one of the bytes that the specs pick, or there is no spec
abbrev pub is_end_wanted : World → List PlainSpec → List Run → Bool
is_end_wanted world [] runs = true
is_end_wanted world (spec ∷ specs) runs = list_any (is_in_runs runs) (picked_addresses world (spec ∷ specs))

abbrev pub is_wanted : World → PlainWant → LinkRow → Bool
is_wanted world want link = is_home_wanted want.homes link.home && is_end_wanted world want.from link.from && is_end_wanted world want.to link.to && is_end_wanted world want.three link.three

-- the wanted links whose home the session may read
abbrev pub links_found : World → ℕ → PlainWant → List LinkRow
links_found world session want = filter (λ (link : LinkRow). is_readable world session link.home && is_wanted world want link) world.links

-- their ids, ascending
abbrev pub ids_found : World → ℕ → PlainWant → List (List ℕ)
ids_found world session want = ascending (map (λ (link : LinkRow). link.id) (links_found world session want))

-- the first so many of them above the tumbler
abbrev pub ids_after : World → ℕ → PlainWant → List ℕ → ℕ → List (List ℕ)
ids_after world session want after limit = take limit (filter (λ id. is_lt (slice_cmp nat_cmp after id)) (ids_found world session want))

-- the link of that id, where the session may read its home
abbrev pub link_at : World → ℕ → List ℕ → Option LinkRow
link_at world session id = find (λ (link : LinkRow). is_readable world session link.home && is_same link.id id) world.links
