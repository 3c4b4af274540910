-- The bytes that documents list are those of the world.
use Rattle.std.proofs.Common.{◌≡◌, ◌∙◌, ◌⊎◌, ℕ, zero, suc, ◌+◌, ◌-◌, ◌<◌, ◌≤◌, Bool, true, false, List, [], ◌∷◌, ◌++◌, length, map, refl, sym, ap, subst, arith, inl, inr, true≢false}
use Rattle.std.specs.Prelude.{IsPermutation}
use Rattle.std.specs.List.{All, Contains, list_any}
use Rattle.std.specs.Cmp.Lexicographic.{bytes_decides}
use Rattle.std.proofs.lemmas.Bool.{or_cases, or_left, or_right}
use Rattle.std.proofs.lemmas.List.Elements.{All-contains}
use Rattle.std.proofs.lemmas.List.Folds.{list_any_at, Any-from_list_any}
use Rattle.std.proofs.lemmas.List.Sorted.{list_any-IsPermutation}
use Rattle.tumbler.specs.ListView.{ListView}
use Rattle.enfilade_core.specs.declared.tree.Node.{Node}
use Rattle.enfilade_core.specs.declared.tree.Row as placed
use Rattle.granfilade.specs.Content.{ByteAt, laid_out}
use Rattle.poom.specs.Pieces.{address_in, addresses_from}
use Rattle.doc_table.specs.declared.rows.DocumentRow.{DocumentRow}
use Rattle.doc_table.specs.DocumentRows.{documents_in, has_in, content_in}
use Rattle.world_rules.specs.declared.rows.ByteRow.{ByteRow}
use Rattle.world_rules.specs.World.{World, is_same, has_document, content_address, content_length}
use Rattle.world_elders.specs.Whole.{IsByteThere}
use Rattle.tree_world.specs.Standing.{byte_row}
use Rattle.tree_world.proofs.Lists.{any_map}
use Rattle.page_tables.specs.declared.tables.TableDocument.{TableDocument}
use Rattle.content_checks.specs.Listed.{bytes_of, listed_bytes}
use Rattle.content_checks.specs.Sound.{byte_addresses}
use Rattle.world_pages.specs.Pages.{table_document}
use Rattle.world_pages.proofs.Listed.{Rise, has, both_ways, any_flat}
use Rattle.world_pages.proofs.Documents.{Rows, RowOf, row_there, row_of, content_found, there_same}
use Rattle.world_pages.proofs.World.{IsKept}

-- ---- numbers of one document

number_has : (d : List ℕ) (first count k : ℕ) → k < count → has (addresses_from 1 d first count) (content_address d (first + k)) ≡ true
number_has d first zero k lt = absurd (omega (arith, lt))
number_has d first (suc count) zero lt =
    let same : first ≡ first + 0 = omega arith in
    or_left (is_same (address_in 1 d first) (content_address d (first + 0))) (has (addresses_from 1 d (first + 1) count) (content_address d (first + 0)))
    ((bytes_decides (address_in 1 d first) (content_address d (first + 0))).1 (ap (content_address d) same))
number_has d first (suc count) (suc k) lt =
    let same : (first + 1) + k ≡ first + suc k = omega arith in
    or_right (is_same (address_in 1 d first) (content_address d (first + suc k))) (has (addresses_from 1 d (first + 1) count) (content_address d (first + suc k)))
    (subst (λ (n : ℕ). has (addresses_from 1 d (first + 1) count) (content_address d n) ≡ true) same (number_has d (first + 1) count k (omega (arith, lt))))

-- the number of an address among so many of a document
pub record IsOneOf (d : List ℕ) (first count : ℕ) (a : List ℕ) : Type 0 where
  pub number : ℕ
  pub is : a ≡ content_address d number
  pub low : first ≤ number
  pub high : number < first + count

has_number : (d : List ℕ) (first count : ℕ) (a : List ℕ) → has (addresses_from 1 d first count) a ≡ true → IsOneOf d first count a
has_number d first zero a e = absurd (true≢false (sym e))
has_number d first (suc count) a e = elim (or_cases (is_same (address_in 1 d first) a) (has (addresses_from 1 d (first + 1) count) a) e) [
  | inl here ↦ record { number = first; is = sym ((bytes_decides (address_in 1 d first) a).0 here); low = omega arith; high = omega arith }
  | inr later ↦
      let one = has_number d (first + 1) count a later in
      record { number = one.number; is = one.is; low = omega (arith, one.low); high = omega (arith, one.high) }
]

-- ---- bytes that are listed

abbrev shows : List ℕ → DocumentRow Node → Bool
shows a row = has (addresses_from 1 row.document 1 row.content) a

module _ (rows : Rows) (world : World) (moved : IsPermutation (documents_in rows) world.documents) (up : Rise (documents_in rows))
    (counts : (document : List ℕ) → content_in rows document ≡ content_length world document) where
  long_row : (row : DocumentRow Node) → Contains rows row → row.content ≡ content_length world row.document
  long_row row c = sym (content_found rows row up c) ∙ counts row.document

  listed_any : (a : List ℕ) → has (listed_bytes (map table_document rows)) a ≡ list_any (shows a) rows
  listed_any a = any_flat (λ x. is_same x a) bytes_of (map table_document rows) ∙ any_map (λ (row : TableDocument). has (bytes_of row) a) table_document rows

  pub there_listed : (a : List ℕ) → IsByteThere world a → has (listed_bytes (map table_document rows)) a ≡ true
  there_listed a is =
      let found = row_of rows is.document (there_same rows world.documents moved is.document ∙ is.there) in
      let long : found.row.content ≡ content_length world is.document = long_row found.row found.there ∙ ap (content_length world) found.own in
      let lt : is.number - 1 < found.row.content = omega (arith, is.from_one, is.to_length, long) in
      let number : 1 + (is.number - 1) ≡ is.number = omega (arith, is.from_one) in
      let here : shows a found.row ≡ true =
      subst (λ (x : List ℕ). shows x found.row ≡ true) (ap (content_address found.row.document) number ∙ ap (λ (d : List ℕ). content_address d is.number) found.own ∙ sym is.parts)
      (number_has found.row.document 1 found.row.content (is.number - 1) lt)
      in
      listed_any a ∙ list_any_at (shows a) rows found.there.0 found.row found.there.1 (ap (shows a) found.there.2 ∙ here)

  pub listed_there : (a : List ℕ) → has (listed_bytes (map table_document rows)) a ≡ true → IsByteThere world a
  listed_there a e =
      let any = Any-from_list_any (shows a) rows (sym (listed_any a) ∙ e) in
      let one = has_number any.1.document 1 any.1.content a any.4 in
      record {
        document = any.1.document;
        number = one.number;
        parts = one.is;
        there = sym (there_same rows world.documents moved any.1.document) ∙ row_there rows any.1 (any.0, any.2, any.3);
        from_one = one.low;
        to_length = omega (arith, one.high, long_row any.1 (any.0, any.2, any.3));
      }

  module _ (held : List (placed.Row (ListView ℕ))) (moved' : IsPermutation (map byte_row (laid_out held)) world.bytes) (kept : IsKept world) where
    held_any : (a : List ℕ) → has (byte_addresses held) a ≡ list_any (λ (b : ByteRow). is_same b.address a) world.bytes
    held_any a =
        any_map (λ x. is_same x a) (λ (at : ByteAt). at.address) (laid_out held)
        ∙ sym (any_map (λ (b : ByteRow). is_same b.address a) byte_row (laid_out held))
        ∙ list_any-IsPermutation (λ (b : ByteRow). is_same b.address a) (map byte_row (laid_out held)) world.bytes moved'

    held_there : (a : List ℕ) → list_any (λ (b : ByteRow). is_same b.address a) world.bytes ≡ true → IsByteThere world a
    held_there a e =
        let any = Any-from_list_any (λ (b : ByteRow). is_same b.address a) world.bytes e in
        subst (IsByteThere world) ((bytes_decides any.1.address a).0 any.4) (All-contains (λ (b : ByteRow). IsByteThere world b.address) world.bytes any.1 kept.owned (any.0, any.2, any.3))

    pub same_bytes : (a : List ℕ) → has (byte_addresses held) a ≡ has (listed_bytes (map table_document rows)) a
    same_bytes a =
        held_any a
        ∙ both_ways (list_any (λ (b : ByteRow). is_same b.address a) world.bytes) (has (listed_bytes (map table_document rows)) a) (λ e. there_listed a (held_there a e)) (λ e. kept.bytes a (listed_there a e))
