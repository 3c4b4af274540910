-- A world's trees and tables, as pages have them.
use Rattle.std.specs.Prelude.{List, map}
use Rattle.enfilade_core.specs.declared.tree.Node.{Node}
use Rattle.page_tables.specs.declared.tables.TableDocument.{TableDocument}
use Rattle.page_tables.specs.Plain.{PlainLink, PlainTables}
use Rattle.page_trees.specs.Trees.{PlainTrees}
use Rattle.doc_table.specs.declared.rows.DocumentRow.{DocumentRow}
use Rattle.world_rules.specs.World.{LinkRow}
use Rattle.tree_world.specs.Trees.{Trees}

-- a document, with the number of its root and how many bytes were put into it
abbrev pub table_document : DocumentRow Node → TableDocument
table_document row = record { document = row.document; root = row.root.0; content = row.content }

-- a link, with its runs
abbrev pub table_link : LinkRow → PlainLink
table_link link = record { id = link.id; home = link.home; from = link.from; to = link.to; three = link.three }

-- documents and links in the order in which they stand, and the roots of the five trees that are no document's
abbrev pub tables_of_world : Trees → PlainTables
tables_of_world trees = record {
  documents = map table_document trees.documents;
  granfilade = trees.contents.root;
  spanfilade = trees.index.root.0;
  from = trees.links.from.root.0;
  to = trees.links.to.root.0;
  three = trees.links.three.root.0;
  links = map table_link trees.links.links;
}

-- the nodes of the six arenas, and these tables
abbrev pub pages_of_world : Trees → PlainTrees
pages_of_world trees = record {
  granfilade = trees.contents.nodes;
  poom = trees.nodes;
  spanfilade = trees.index.nodes;
  from = trees.links.from.nodes;
  to = trees.links.to.nodes;
  three = trees.links.three.nodes;
  tables = tables_of_world trees;
}
