-- The root is there, and then the two tests follow each other.
use Rattle.std.proofs.Common.{◌↔◌, ◌<◌, ℕ, List, length, sym, subst, IsTrue}
use Rattle.enfilade_core.specs.Rows.{rows_of}
use Rattle.page_tables.specs.declared.tables.TableDocument.{TableDocument}
use Rattle.page_tables.specs.Plain.{plain_tables}
use Rattle.content_checks.specs.Listed.{AreDocuments}
use Rattle.content_checks.specs.Sound.{AreContents}
use Rattle.content_checks.proofs.SoundTrees.{no_root, no_contents, last_test}
use Rattle.content_checks.proofs.sound.are_sound.Goals as goal

pub are_contents-requires : goal.are_contents-requires
are_contents-requires c =
    let found = c.in-Some.ensures.found in
    record {
      root = subst (λ (k : ℕ). k < length c.args.contents.now) (sym found.0) found.1;
      documents = subst AreDocuments (sym c.as_slice.ensures) c.requires.documents;
    }

pub returns-in_default : goal.returns-in_default
returns-in_default c = no_root c.args.contents.now c.args.poom.now (plain_tables c.args.tables.now) c.in_default.ensures.none

pub returns-then-not-right : goal.returns-then-not-right
returns-then-not-right c =
    let found = c.in-Some.ensures.found in
    no_contents c.args.contents.now c.args.poom.now (plain_tables c.args.tables.now) c.in_ok-right.right c.if-not-right.true
    (subst (λ (k : ℕ). IsTrue c.in_ok-right.right ↔ AreContents c.args.tables.now.documents.items (rows_of c.args.contents.now k)) found.0
    (subst (λ (d : List TableDocument). IsTrue c.in_ok-right.right ↔ AreContents d (rows_of c.args.contents.now c.in-Some.root.0)) c.as_slice.ensures c.in_ok-right.ensures))

pub returns : goal.returns
returns c =
    let found = c.in-Some.ensures.found in
    last_test c.args.contents.now c.args.poom.now (plain_tables c.args.tables.now) c.in_ok-right.right c.in_ok-shown.shown found.1 c.if-not-right.false
    (subst (λ (k : ℕ). IsTrue c.in_ok-right.right ↔ AreContents c.args.tables.now.documents.items (rows_of c.args.contents.now k)) found.0
    (subst (λ (d : List TableDocument). IsTrue c.in_ok-right.right ↔ AreContents d (rows_of c.args.contents.now c.in-Some.root.0)) c.as_slice.ensures c.in_ok-right.ensures))
    c.in_ok-shown.ensures
