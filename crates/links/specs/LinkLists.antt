-- What the table of links shows: the links that came in and were not taken back, in ascending order of ids, and an
-- index for the runs of each end.
use Rattle.std.specs.Prelude.{ℕ, ◌+◌, ◌<◌, ◌==◌, not, Bool, List, length, map, All, filter, count_by, Option, if◌then◌else◌}
use Rattle.std.specs.List.{find, list_any, flat_map}
use Rattle.std.specs.List.Sorted.{IsPermutation}
use Rattle.std.specs.declared.cmp.Ordering.{Ordering}
use Rattle.std.specs.Ordering.{nat_cmp}
use Rattle.std.specs.Cmp.Lexicographic.{slice_cmp}
use Rattle.std.specs.BTreeSet.{insert_key}
use Rattle.tumbler.specs.Places.{place_bound, width_at}
use Rattle.tumbler.specs.Address.{IsDocument}
use Rattle.tumbler.specs.declared.span.Span.{Span}
use Rattle.febe_data.specs.declared.run.Run.{Run}
use Rattle.enfilade_core.specs.declared.tree.Row.{Row}
use Rattle.enfilade_core.specs.Exchange.{Grows}
use Rattle.spanfilade.specs.Index.{IndexTree, rows_in_index, rows_for, mark_of, at_mark}
use Rattle.world_rules.specs.World.{LinkRow, is_same, content_address}
use Rattle.links.specs.declared.row.LinkRow as kept
use Rattle.links.specs.declared.row.LinkMarks.{LinkMarks}

-- the most links that a table holds
abbrev pub most_links : ℕ
most_links = 4294967294

-- the links in ascending order of ids, and the three indexes
pub record LinkLists : Type 0 where
  pub links : List LinkRow
  pub from : IndexTree
  pub to : IndexTree
  pub three : IndexTree

-- a link as a plain value
abbrev pub plain_link : kept.LinkRow → LinkRow
plain_link link = record { id = link.id; home = link.home; from = link.from.items; to = link.to.items; three = link.three.items }

-- ---- runs

-- bytes of one document's content, one or more, whose numbers are places
pub record IsRun (run : Run) : Type 0 where
  pub content : IsDocument run.content
  pub counted : 0 < run.first
  pub some : 0 < run.length
  pub small : run.first + run.length < place_bound

-- the addresses of the run's bytes: from that of the first one on
abbrev pub run_span : Run → Span
run_span run = record { start = content_address run.content run.first; width = width_at (length (content_address run.content run.first)) run.length }

-- ---- ends

-- the runs of end 1, 2 or 3
abbrev pub runs_at : ℕ → LinkRow → List Run
runs_at end link = if end == 1 then link.from else if end == 2 then link.to else link.three

-- the index of that end
abbrev pub index_at : ℕ → LinkLists → IndexTree
index_at end lists = if end == 1 then lists.from else if end == 2 then lists.to else lists.three

-- another index in that one's place
abbrev pub with_index : ℕ → IndexTree → LinkLists → LinkLists
with_index end index lists = if end == 1 then record lists { from = index } else if end == 2 then record lists { to = index } else record lists { three = index }

abbrev pub spans_at : ℕ → LinkRow → List Span
spans_at end link = map run_span (runs_at end link)

-- a link whose ends are runs
pub record IsLink (link : LinkRow) : Type 0 where
  pub from : All IsRun link.from
  pub to : All IsRun link.to
  pub three : All IsRun link.three

-- the rows of an end's runs: each has the link's id as its key
abbrev pub rows_at : ℕ → LinkRow → List (Row (List ℕ))
rows_at end link = rows_for (spans_at end link) link.id

-- an index holds exactly the runs of that end, over all links
abbrev pub HoldsRuns : ℕ → List LinkRow → IndexTree → Type 0
HoldsRuns end links index = IsPermutation (flat_map (rows_at end) links) (rows_in_index index)

-- ---- look-ups

abbrev pub is_of : List ℕ → LinkRow → Bool
is_of id link = is_same link.id id

-- the ids, ascending
abbrev pub ids_in : List LinkRow → List (List ℕ)
ids_in links = map (λ (link : LinkRow). link.id) links

abbrev pub has_in : List LinkRow → List ℕ → Bool
has_in links id = list_any (is_of id) links

abbrev pub link_in : List LinkRow → List ℕ → Option LinkRow
link_in links id = find (is_of id) links

-- how many links have this home
abbrev pub count_of_home_in : List LinkRow → List ℕ → ℕ
count_of_home_in links home = count_by (λ (link : LinkRow). is_same link.home home) links

-- ---- changes

abbrev pub id_cmp : LinkRow → LinkRow → Ordering
id_cmp a b = slice_cmp nat_cmp a.id b.id

-- the link comes in at its place
abbrev pub added : List LinkRow → LinkRow → List LinkRow
added links link = insert_key id_cmp links link

-- the link of this id goes
abbrev pub removed : List LinkRow → List ℕ → List LinkRow
removed links id = filter (λ (link : LinkRow). not (is_of id link)) links

-- ---- marks

-- what is kept to go back
abbrev pub marks_of : LinkLists → LinkMarks
marks_of lists = record { from = mark_of lists.from; to = mark_of lists.to; three = mark_of lists.three }

-- the links but that of the id, and each index at its mark
abbrev pub at_marks : List ℕ → LinkMarks → LinkLists → LinkLists
at_marks id marks lists = record { links = removed lists.links id; from = at_mark marks.from lists.from; to = at_mark marks.to lists.to; three = at_mark marks.three lists.three }

-- in each index nodes came in behind the others
pub record AllGrow (old new : LinkLists) : Type 0 where
  pub from : Grows old.from.nodes new.from.nodes
  pub to : Grows old.to.nodes new.to.nodes
  pub three : Grows old.three.nodes new.three.nodes
