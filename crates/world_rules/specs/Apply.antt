-- What each entry of the history does to the world.
use Rattle.std.specs.Prelude.{ℕ, ◌==◌, not, List, [], ◌∷◌, ◌++◌, length, filter, Option, Some, None}
use Rattle.std.specs.List.{fold}
use Rattle.febe_data.specs.declared.access.Mode.TheVariants.{Write}
use Rattle.febe_data.specs.Plain.{PlainSpec, PlainChange, PlainEntry, restarted, began, ended, account_changed, document_opened, document_closed, document_created, version_made, copy_opened, text_inserted, span_deleted, blocks_swapped, specs_copied, link_made, document_published}
use Rattle.world_rules.specs.declared.rows.Part.TheVariants.{Links}
use Rattle.world_rules.specs.declared.rows.Row.{Row}
use Rattle.world_rules.specs.declared.rows.OpenRow.{OpenRow}
use Rattle.world_rules.specs.declared.rows.AccountRow.{AccountRow}
use Rattle.world_rules.specs.declared.cuts.Cuts.{Cuts}
use Rattle.world_rules.specs.World.{World, LinkRow, empty_world, opens, link_address}
use Rattle.world_rules.specs.Picking.{picked_addresses, runs_of}
use Rattle.world_rules.specs.Edits.{cuts_of, rows_with, content_addresses, new_bytes, rows_without, rows_swapped, rows_as}

-- the rows of other sessions
abbrev pub without_session : ℕ → List OpenRow → List OpenRow
without_session session rows = filter (λ (r : OpenRow). not (r.session == session)) rows

abbrev pub accounts_without : ℕ → List AccountRow → List AccountRow
accounts_without session rows = filter (λ (r : AccountRow). not (r.session == session)) rows

-- all rows but that of the session's open document
abbrev pub without_opening : ℕ → List ℕ → List OpenRow → List OpenRow
without_opening session document rows = filter (λ (r : OpenRow). not (opens session document r)) rows

-- a document comes in, open for writing
abbrev pub with_document : World → ℕ → List ℕ → World
with_document world session document =
    record world { documents = world.documents ++ document ∷ []; open_rows = world.open_rows ++ record { session = session; document = document; mode = Write } ∷ [] }

-- it comes in with all rows of another
abbrev pub with_version : World → ℕ → (source document : List ℕ) → World
with_version world session source document = record (with_document world session document) { rows = world.rows ++ rows_as world.rows source document }

-- where the cuts are right, the blocks change places
abbrev pub with_swapped : World → List ℕ → Option Cuts → World
with_swapped world document (Some cuts) = record world { rows = rows_swapped world.rows document cuts }
with_swapped world document None = world

-- a link that comes in: its ends are the runs that the specs pick in this world
abbrev pub link_between : World → List ℕ → ℕ → (from to three : List PlainSpec) → LinkRow
link_between world home number from to three =
    record { id = link_address home number; home = home; from = runs_of world from; to = runs_of world to; three = runs_of world three }

-- and its row in its home
abbrev pub link_row : List ℕ → ℕ → ℕ → Row
link_row home number place = record { document = home; part = Links; n = place; address = link_address home number }

abbrev pub change_world : World → ℕ → PlainChange → World
-- all sessions are gone
change_world world session restarted = record world { open_rows = []; accounts = [] }
change_world world session began = world
-- what the session had open goes, and its account
change_world world session ended = record world { open_rows = without_session session world.open_rows; accounts = accounts_without session world.accounts }
-- it becomes the session's one account
change_world world session (account_changed account) = record world { accounts = accounts_without session world.accounts ++ record { session = session; account = account } ∷ [] }
-- it becomes the session's one open row for the document
change_world world session (document_opened document mode) = record world { open_rows = without_opening session document world.open_rows ++ record { session = session; document = document; mode = mode } ∷ [] }
-- that open row goes
change_world world session (document_closed document) = record world { open_rows = without_opening session document world.open_rows }
change_world world session (document_created document) = with_document world session document
change_world world session (version_made source document) = with_version world session source document
change_world world session (copy_opened source document) = with_version world session source document
-- the rows from `at` on move up, and the new ones come in with their bytes
change_world world session (text_inserted document at first text) =
    record world { rows = rows_with world.rows document at (content_addresses document first (length text)); bytes = world.bytes ++ new_bytes document first text }
-- what the span picks goes, and the rows above it close up; content and links stay
change_world world session (span_deleted document span) = record world { rows = rows_without world.rows document span }
change_world world session (blocks_swapped document cuts) = with_swapped world document (cuts_of cuts)
-- the addresses that the specs pick come in as rows; no bytes come in
change_world world session (specs_copied document at specs) = record world { rows = rows_with world.rows document at (picked_addresses world specs) }
change_world world session (link_made home number place from to three) =
    record world { links = world.links ++ link_between world home number from to three ∷ []; rows = world.rows ++ link_row home number place ∷ [] }
-- the document becomes one of the published ones, once more where it was
change_world world session (document_published document) = record world { published = world.published ++ document ∷ [] }

-- what an entry makes of a world
abbrev pub apply : World → PlainEntry → World
apply world entry = change_world world entry.session entry.change

-- the world that a history has built from nothing
abbrev pub world_of : List PlainEntry → World
world_of history = fold apply empty_world history
