-- Tables as contracts see them, without what their lists keep in reserve.
use Rattle.std.specs.Prelude.{ℕ, List, map}
use Rattle.febe_data.specs.declared.run.Run.{Run}
use Rattle.page_tables.specs.declared.tables.TableDocument.{TableDocument}
use Rattle.page_tables.specs.declared.tables.TableLink.{TableLink}
use Rattle.page_tables.specs.declared.tables.Tables.{Tables}

-- a link: its id, its home, and the runs of its three ends
pub record PlainLink : Type 0 where
  pub id : List ℕ
  pub home : List ℕ
  pub from : List Run
  pub to : List Run
  pub three : List Run

-- documents, the roots of the five trees that are not theirs, and links
pub record PlainTables : Type 0 where
  pub documents : List TableDocument
  pub granfilade : ℕ
  pub spanfilade : ℕ
  pub from : ℕ
  pub to : ℕ
  pub three : ℕ
  pub links : List PlainLink

-- a link as it lies in memory, seen so
abbrev pub plain_link : TableLink → PlainLink
plain_link link = record { id = link.id; home = link.home; from = link.from.items; to = link.to.items; three = link.three.items }

-- and so the tables
abbrev pub plain_tables : Tables → PlainTables
plain_tables tables = record {
  documents = tables.documents.items;
  granfilade = tables.granfilade;
  spanfilade = tables.spanfilade;
  from = tables.from;
  to = tables.to;
  three = tables.three;
  links = map plain_link tables.links.items;
}
