-- What rows a version has.
use Rattle.std.proofs.Common.{◌≡◌, ℕ, ◌∙◌, ◌&&◌, Bool, true, false, not, List, [], ◌∷◌, ◌++◌, map, ap, sym, refl, subst, append-nil}
use Rattle.std.specs.Prelude.{filter}
use Rattle.std.specs.Cmp.Lexicographic.{bytes_decides}
use Rattle.std.proofs.lemmas.List.Elements.{filter-append}
use Rattle.febe_data.specs.Plain.{version_made}
use Rattle.world_rules.specs.declared.rows.Row.{Row}
use Rattle.world_rules.specs.World.{World, is_same, is_text, is_text_of, is_link_of}
use Rattle.world_rules.specs.Picking.{addresses_of}
use Rattle.world_rules.specs.Edits.{moved_to, rows_as}
use Rattle.world_rules.specs.Apply.{change_world}
use Rattle.world_rules.specs.Laws.{text_rows, rows_of, IsVersion, VersionsRows}
use Rattle.world_rules.proofs.Filters.{became, both_tests, none_pass}
use Rattle.world_rules.proofs.Shown.{reads_same, moved_addresses}
use Rattle.world_rules.proofs.RowsWith.{same_itself, differs_back}

-- the rows are of the document
abbrev pub is_of : List ℕ → Row → Bool
is_of document row = is_same row.document document

-- a part that has no rows but the version's
part_of : (part : Row → Bool) (rows : List Row) (source document : List ℕ) → ((row : Row) → part (moved_to document row) ≡ part row) → filter (is_of document) rows ≡ []
    → filter (λ (row : Row). part row && is_of document row) (rows ++ rows_as rows source document) ≡ map (moved_to document) (filter (λ (row : Row). part row && is_of source row) rows)
part_of part rows source document unseen none =
    let p : Row → Bool = λ row. part row && is_of document row in
    filter-append p rows (rows_as rows source document)
    ∙ ap (λ (ys : List Row). ys ++ filter p (rows_as rows source document)) (sym (both_tests part (is_of document) rows) ∙ ap (filter part) none)
    ∙ became p part (moved_to document) (λ row. rw (unseen row, same_itself document) (and_true (part row))) (filter (is_of source) rows)
    ∙ ap (map (moved_to document)) (both_tests part (is_of source) rows)
  where
    and_true : (b : Bool) → (b && true) ≡ b
    and_true true = refl
    and_true false = refl

-- other documents get no rows
pub others_as : (rows : List Row) (source document other : List ℕ) → is_same document other ≡ false → filter (is_of other) (rows ++ rows_as rows source document) ≡ filter (is_of other) rows
others_as rows source document other differs =
    filter-append (is_of other) rows (rows_as rows source document)
    ∙ ap (λ (ys : List Row). filter (is_of other) rows ++ ys) (became (is_of other) (λ row. false) (moved_to document) (λ row. differs) (filter (is_of source) rows) ∙ ap (map (moved_to document)) (none_pass (filter (is_of source) rows)))
    ∙ append-nil (filter (is_of other) rows)

source_as : (rows : List Row) (source document : List ℕ) (same : Bool) → is_same document source ≡ same → filter (is_of document) rows ≡ [] → filter (is_of source) (rows ++ rows_as rows source document) ≡ filter (is_of source) rows
source_as rows source document true e none =
    let is_source : document ≡ source = (bytes_decides document source).0 e in
    let empty : filter (is_of source) rows ≡ [] = subst (λ (d : List ℕ). filter (is_of d) rows ≡ []) is_source none in
    ap (λ (ys : List Row). filter (is_of source) (rows ++ map (moved_to document) ys)) empty ∙ ap (filter (is_of source)) (append-nil rows)
source_as rows source document false e none = others_as rows source document source e

pub versioned : (world after : World) (source document : List ℕ) → rows_of world document ≡ [] → after.rows ≡ world.rows ++ rows_as world.rows source document → after.documents ≡ world.documents ++ document ∷ [] → after.bytes ≡ world.bytes → after.links ≡ world.links
    → after.published ≡ world.published → IsVersion world source document after
versioned world after source document none rows documents bytes links published =
    let text : text_rows after document ≡ map (moved_to document) (text_rows world source) = ap (filter (is_text_of document)) rows ∙ part_of (λ (row : Row). is_text row.part) world.rows source document (λ row. refl) none in
    record {
      text = text;
      links = ap (filter (is_link_of document)) rows ∙ part_of (λ (row : Row). not (is_text row.part)) world.rows source document (λ row. refl) none;
      reads = reads_same world after (text_rows after document) (text_rows world source) bytes (ap addresses_of text ∙ moved_addresses (moved_to document) (λ row. refl) (text_rows world source));
      same_source = ap (filter (is_of source)) rows ∙ source_as world.rows source document (is_same document source) refl none;
      others = λ other differs. ap (filter (is_of other)) rows ∙ others_as world.rows source document other (differs_back other document differs);
      comes_in = documents;
      same_bytes = bytes;
      same_links = links;
      same_published = published;
    }

pub versions_rows : VersionsRows
versions_rows world session source document none =
    let after : World = change_world world session (version_made source document) in
    let made : IsVersion world source document after = versioned world after source document none refl refl refl refl refl in
    (made, made)
