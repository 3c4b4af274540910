-- What an insert makes of the rows of each document.
use Rattle.std.proofs.Common.{◌≡◌, ℕ, zero, suc, ◌+◌, ◌-◌, ◌≤◌, ◌∙◌, Bool, true, false, not, List, ◌++◌, length, map, take, drop, ap, sym, refl, subst, arith}
use Rattle.std.specs.Prelude.{filter}
use Rattle.std.specs.Cmp.Lexicographic.{bytes_decides}
use Rattle.std.proofs.lemmas.Bool.{not-true}
use Rattle.std.proofs.lemmas.List.Sums.{length-filter}
use Rattle.febe_data.specs.Plain.{text_inserted, specs_copied}
use Rattle.world_rules.specs.declared.rows.Row.{Row}
use Rattle.world_rules.specs.World.{World, is_same, is_text_of, is_link_of, text_length}
use Rattle.world_rules.specs.Picking.{picked_addresses}
use Rattle.world_rules.specs.Edits.{up_by, new_rows, rows_with, content_addresses}
use Rattle.world_rules.specs.Apply.{change_world}
use Rattle.world_rules.specs.Laws.{text_rows, link_rows, numbers_from, TextIsNumbered, LinksAreNumbered, IsNumbered, LeavesAllBut, InsertLeavesOthers, CopyLeavesOthers, IsOpenPlace, world_with, InsertsRows, InsertsNumbered}
use Rattle.world_rules.proofs.InRow.{InRow}
use Rattle.world_rules.proofs.RowsWith.{text_apart, links_apart, others_with, text_with, text_with_in_row}

-- ---- numbered and in a row

pub text_in_row : (world : World) (document : List ℕ) → TextIsNumbered world document → InRow 1 (text_rows world document)
text_in_row world document numbered = numbered ∙ ap (numbers_from 1) (sym (length-filter (is_text_of document) world.rows))

pub links_in_row : (world : World) (document : List ℕ) → LinksAreNumbered world document → InRow 1 (link_rows world document)
links_in_row world document numbered = numbered ∙ ap (numbers_from 1) (sym (length-filter (is_link_of document) world.rows))

pub text_numbered : (world : World) (document : List ℕ) → InRow 1 (text_rows world document) → TextIsNumbered world document
text_numbered world document row = row ∙ ap (numbers_from 1) (length-filter (is_text_of document) world.rows)

pub links_numbered : (world : World) (document : List ℕ) → InRow 1 (link_rows world document) → LinksAreNumbered world document
links_numbered world document row = row ∙ ap (numbers_from 1) (length-filter (is_link_of document) world.rows)

-- the same rows are numbered as before
pub same_numbered : (before after : World) (document : List ℕ) → text_rows after document ≡ text_rows before document → link_rows after document ≡ link_rows before document
    → IsNumbered before document → IsNumbered after document
same_numbered before after document text links numbered =
    record { text = text_numbered after document (subst (InRow 1) (sym text) (text_in_row before document numbered.text)); links = links_numbered after document (subst (InRow 1) (sym links) (links_in_row before document numbered.links)) }

-- ---- new text rows

length-content : (document : List ℕ) (first count : ℕ) → length (content_addresses document first count) ≡ count
length-content document first zero = refl
length-content document first (suc count) = ap suc (length-content document (first + 1) count)

pub inserts_rows : InsertsRows
inserts_rows world document at first text place =
    let addresses : List (List ℕ) = content_addresses document first (length text) in
    let from_one : 1 ≤ at = place.from_one in
    text_with world.rows document at addresses from_one (text_in_row world document place.numbered)
    ∙ ap (λ (k : ℕ). take (at - 1) (text_rows world document) ++ (new_rows document at addresses ++ map (up_by k) (drop (at - 1) (text_rows world document)))) (length-content document first (length text))

-- rows that come in so leave every document numbered that was
pub with_numbered : (world after : World) (document other : List ℕ) (at : ℕ) (addresses : List (List ℕ)) (same : Bool) → is_same document other ≡ same → IsOpenPlace world document at
    → after.rows ≡ rows_with world.rows document at addresses → IsNumbered world other → IsNumbered after other
with_numbered world after document other at addresses true same place e numbered =
    let is_document : document ≡ other = (bytes_decides document other).0 same in
    let to_end : at ≤ text_length world document + 1 = place.to_end in
    let long : length (text_rows world document) ≡ text_length world document = length-filter (is_text_of document) world.rows in
    let there : InRow 1 (text_rows after document) = subst (λ (rows : List Row). InRow 1 (filter (is_text_of document) rows)) (sym e) (text_with_in_row world.rows document at addresses place.from_one (text_in_row world document place.numbered) (omega arith)) in
    record {
      text = text_numbered after other (subst (λ (d : List ℕ). InRow 1 (text_rows after d)) is_document there);
      links = links_numbered after other (subst (InRow 1) (sym (ap (filter (is_link_of other)) e ∙ others_with (is_link_of other) document (links_apart other document) (λ k row. refl) world.rows at addresses)) (links_in_row world other numbered.links));
    }
with_numbered world after document other at addresses false differs place e numbered =
    same_numbered world after other
    (ap (filter (is_text_of other)) e ∙ others_with (is_text_of other) document (text_apart other document differs) (λ k row. refl) world.rows at addresses)
    (ap (filter (is_link_of other)) e ∙ others_with (is_link_of other) document (links_apart other document) (λ k row. refl) world.rows at addresses)
    numbered

pub inserts_numbered : InsertsNumbered
inserts_numbered world document at first text place other numbered =
    with_numbered world (world_with world document at first text) document other at (content_addresses document first (length text)) (is_same document other) refl place refl numbered

-- ---- all else

-- text rows of a document that come in leave all else
pub leaves_all_but : (world after : World) (document : List ℕ) (at : ℕ) (addresses : List (List ℕ)) → after.rows ≡ rows_with world.rows document at addresses → after.documents ≡ world.documents
    → after.links ≡ world.links → after.published ≡ world.published → after.open_rows ≡ world.open_rows → after.accounts ≡ world.accounts → LeavesAllBut world document after
leaves_all_but world after document at addresses rows documents links published open_rows accounts =
    let other : Row → Bool = λ row. not (is_text_of document row) in
    record {
      others = ap (filter other) rows ∙ others_with other document (λ row none. not-true (is_text_of document row) none) (λ k row. refl) world.rows at addresses;
      same_documents = documents;
      same_links = links;
      same_published = published;
      same_open_rows = open_rows;
      same_accounts = accounts;
    }

pub insert_leaves_others : InsertLeavesOthers
insert_leaves_others world session document at first text =
    (leaves_all_but world (change_world world session (text_inserted document at first text)) document at (content_addresses document first (length text)) refl refl refl refl refl refl, refl)

pub copy_leaves_others : CopyLeavesOthers
copy_leaves_others world session document at specs =
    (leaves_all_but world (change_world world session (specs_copied document at specs)) document at (picked_addresses world specs) refl refl refl refl refl refl, refl)
