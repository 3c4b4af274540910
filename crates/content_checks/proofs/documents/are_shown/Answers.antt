-- Three tests, one after another.
use Rattle.std.proofs.Common.{◌↔◌, List, map, sym, subst, IsTrue}
use Rattle.std.specs.List.{All, Contains}
use Rattle.page_tables.specs.declared.tables.TableDocument.{TableDocument}
use Rattle.page_tables.specs.declared.tables.TableLink.{TableLink}
use Rattle.page_tables.specs.Plain.{plain_link, plain_tables}
use Rattle.poom.specs.Laid.{texts, links}
use Rattle.content_checks.specs.Listed.{AreDocuments, AreLinks, listed_bytes, listed_ids}
use Rattle.content_checks.proofs.SeenRoots.{no_document, no_bytes, last_test}
use Rattle.content_checks.proofs.documents.are_shown.Goals as goal

pub show_bytes-requires : goal.show_bytes-requires
show_bytes-requires c = record {
  one = c.is_one_document.ensures.0 c.if-not-is_one_document.false;
  documents = subst AreDocuments (sym c.as_slice.ensures) c.requires.documents;
}

pub show_links-requires : goal.show_links-requires
show_links-requires c = record {
  one = c.is_one_document.ensures.0 c.if-not-is_one_document.false;
  listed = subst (λ (l : List TableLink). AreLinks (map plain_link l)) (sym c.as_slice-2.ensures) c.requires.links;
}

pub returns-then-not-is_one_document : goal.returns-then-not-is_one_document
returns-then-not-is_one_document c = no_document (plain_tables c.args.tables.now) c.args.rows.now c.is_one_document.result c.if-not-is_one_document.true c.is_one_document.ensures

pub returns-then-not-show_bytes : goal.returns-then-not-show_bytes
returns-then-not-show_bytes c =
    no_bytes (plain_tables c.args.tables.now) c.args.rows.now c.show_bytes.result c.if-not-show_bytes.true
    (subst (λ (d : List TableDocument). IsTrue c.show_bytes.result ↔ All (Contains (listed_bytes d)) (texts c.args.rows.now)) c.as_slice.ensures c.show_bytes.ensures)

pub returns : goal.returns
returns c =
    last_test (plain_tables c.args.tables.now) c.args.rows.now c.show_bytes.result c.show_links.result (c.is_one_document.ensures.0 c.if-not-is_one_document.false) c.if-not-show_bytes.false
    (subst (λ (d : List TableDocument). IsTrue c.show_bytes.result ↔ All (Contains (listed_bytes d)) (texts c.args.rows.now)) c.as_slice.ensures c.show_bytes.ensures)
    (subst (λ (l : List TableLink). IsTrue c.show_links.result ↔ All (Contains (listed_ids (map plain_link l))) (links c.args.rows.now)) c.as_slice-2.ensures c.show_links.ensures)
