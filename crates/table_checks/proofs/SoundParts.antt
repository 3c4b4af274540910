-- What is asked of tables, said of the slices of their lists.
use Rattle.std.proofs.Common.{◌≡◌, List, map, All}
use Rattle.std.specs.Prelude.{IsTrue}
use Rattle.tumbler.specs.Address.{IsDocument}
use Rattle.page_tables.specs.declared.tables.TableDocument.{TableDocument}
use Rattle.page_tables.specs.declared.tables.TableLink.{TableLink}
use Rattle.page_tables.specs.declared.tables.Tables.{Tables}
use Rattle.page_tables.specs.Plain.{PlainLink, plain_link, plain_tables}
use Rattle.table_checks.specs.TableRows.{addresses_of, is_listed, ids_of}
use Rattle.table_checks.specs.Sound.{Ascend, HasElder, AreNumbered, HasLinkRuns, AreSound}
use Rattle.table_checks.proofs.HomeCount.{home_documents}

pub record Parts (rows : List TableDocument) (links : List TableLink) : Type 0 where
  pub documents_ascend : Ascend (addresses_of rows)
  pub documents : All (λ (row : TableDocument). IsDocument row.document) rows
  pub elders : All (λ (row : TableDocument). HasElder rows row.document) rows
  pub links_ascend : Ascend (ids_of (map plain_link links))
  pub homes : All (λ (link : PlainLink). IsTrue (is_listed rows link.home)) (map plain_link links)
  pub numbered : AreNumbered (map plain_link links)
  pub runs : All HasLinkRuns (map plain_link links)

parts_here : (tables : Tables) → AreSound (plain_tables tables) → Parts tables.documents.items tables.links.items
parts_here tables s = record { documents_ascend = s.documents_ascend; documents = s.documents; elders = s.elders; links_ascend = s.links_ascend; homes = s.homes; numbered = s.numbered; runs = s.runs }

sound_here : (tables : Tables) → Parts tables.documents.items tables.links.items → AreSound (plain_tables tables)
sound_here tables s = record { documents_ascend = s.documents_ascend; documents = s.documents; elders = s.elders; links_ascend = s.links_ascend; homes = s.homes; numbered = s.numbered; runs = s.runs }

pub parts_of : (tables : Tables) (rows : List TableDocument) (links : List TableLink) → rows ≡ tables.documents.items → links ≡ tables.links.items → AreSound (plain_tables tables) → Parts rows links
parts_of tables rows links is_rows is_links s = rw (is_rows, is_links) (parts_here tables s)

pub sound_of : (tables : Tables) (rows : List TableDocument) (links : List TableLink) → rows ≡ tables.documents.items → links ≡ tables.links.items → Parts rows links → AreSound (plain_tables tables)
sound_of tables rows links is_rows is_links parts = sound_here tables (rw (← is_rows, ← is_links) parts)

pub have_documents : (rows : List TableDocument) (links : List TableLink) → All (λ (row : TableDocument). IsDocument row.document) rows → All (λ (link : PlainLink). IsTrue (is_listed rows link.home)) (map plain_link links) → All (λ (link : PlainLink). IsDocument link.home) (map plain_link links)
have_documents rows links documents homes = home_documents rows (map plain_link links) documents homes
