-- What an account may read of trees.
use Rattle.std.specs.Prelude.{ℕ, ◌&&◌, Bool, List, filter, map, Option, Some, None, if◌then◌else◌}
use Rattle.tumbler.specs.Places.{comes_before}
use Rattle.tumbler.specs.declared.span.Span.{Span}
use Rattle.febe_data.specs.declared.run.Run.{Run}
use Rattle.febe_data.specs.Plain.{PlainSpec, PlainWant}
use Rattle.doc_table.specs.DocumentRows.{published_in}
use Rattle.links.specs.LinkLists.{ids_in}
use Rattle.links.specs.Readable.{links_read}
use Rattle.world_rules.specs.World.{World, LinkRow}
use Rattle.world_rules.specs.Readers.{reads_by}
use Rattle.world_rules.specs.Finding.{is_wanted}
use Rattle.world_rules.specs.Ends.{run_now}
use Rattle.tree_world.specs.Trees.{Trees}
use Rattle.tree_world.specs.inside.Seen.{shows}

-- the document is published, or the account's own
abbrev pub reads_in : Trees → Option (List ℕ) → List ℕ → Bool
reads_in trees account document = reads_by (published_in trees.documents) account document

-- it may be read, and shows content of one of the spans
abbrev pub shows_for : Trees → Option (List ℕ) → List Span → List ℕ → Bool
shows_for trees account spans document = reads_in trees account document && shows trees spans document

-- ---- links

-- the links whose home may be read
abbrev pub links_for : Trees → Option (List ℕ) → List LinkRow
links_for trees account = links_read (reads_in trees account) trees.links.links

-- a link that was looked up, where its home may be read
abbrev pub link_if : (List ℕ → Bool) → Option LinkRow → Option LinkRow
link_if may None = None
link_if may (Some link) = if may link.home then Some link else None

-- the ids above the tumbler of all that are wanted, whoever may read them
abbrev pub ids_above : World → PlainWant → List LinkRow → List ℕ → List (List ℕ)
ids_above world want links after = filter (λ id. comes_before after id) (ids_in (filter (is_wanted world want) links))

-- ---- runs

-- the runs whose origin may be read
abbrev pub runs_for : Trees → Option (List ℕ) → List Run → List Run
runs_for trees account runs = filter (λ (run : Run). reads_in trees account run.origin) runs

-- where these are now
abbrev pub now_for : World → Trees → Option (List ℕ) → List Run → List PlainSpec
now_for world trees account runs = map (run_now world) (runs_for trees account runs)
