-- What the tables say of documents and of links, found by looking through the rows.
use Rattle.std.specs.Prelude.{ℕ, Bool, List, map, count_by, Option}
use Rattle.std.specs.List.{find, list_any}
use Rattle.std.specs.Option.{option_map}
use Rattle.world_rules.specs.World.{is_same}
use Rattle.page_tables.specs.declared.tables.TableDocument.{TableDocument}
use Rattle.page_tables.specs.Plain.{PlainLink}

-- ---- documents

-- their addresses, in the order of the rows
abbrev pub addresses_of : List TableDocument → List (List ℕ)
addresses_of rows = map (λ (row : TableDocument). row.document) rows

-- the row is the document's
abbrev pub is_of : List ℕ → TableDocument → Bool
is_of address row = is_same row.document address

-- some row is the document's
abbrev pub is_listed : List TableDocument → List ℕ → Bool
is_listed rows address = list_any (is_of address) rows

-- how many bytes were ever put into the document, if it is listed
abbrev pub content_in : List TableDocument → List ℕ → Option ℕ
content_in rows address = option_map (λ (row : TableDocument). row.content) (find (is_of address) rows)

-- ---- links

-- their ids, in the order of the rows
abbrev pub ids_of : List PlainLink → List (List ℕ)
ids_of links = map (λ (link : PlainLink). link.id) links

-- the link was made in this document
abbrev pub is_of_home : List ℕ → PlainLink → Bool
is_of_home home link = is_same link.home home

-- how many links were made in the document
abbrev pub links_in_home : List PlainLink → List ℕ → ℕ
links_in_home links home = count_by (is_of_home home) links
