-- What holds of the rows and documents along a history of changes that are placed.
use Rattle.std.proofs.Common.{◌≡◌, ℕ, ◌+◌, ◌-◌, ◌∙◌, Bool, true, false, not, List, [], ◌∷◌, ◌++◌, length, map, ap, sym, refl, subst, arith, append-nil}
use Rattle.std.specs.Prelude.{filter, Some}
use Rattle.std.specs.List.{fold}
use Rattle.std.specs.Cmp.Lexicographic.{bytes_decides}
use Rattle.std.proofs.lemmas.Bool.{true≢false, false_from_ne_true}
use Rattle.std.proofs.lemmas.List.Elements.{filter-append}
use Rattle.std.proofs.lemmas.List.Sums.{length-filter}
use Rattle.tumbler.specs.declared.span.Span.{Span}
use Rattle.febe_data.specs.Plain.{PlainEntry, PlainChange, restarted, began, ended, account_changed, document_opened, document_closed, document_created, version_made, copy_opened, text_inserted, span_deleted, blocks_swapped, specs_copied, link_made, document_published}
use Rattle.world_rules.specs.declared.rows.Row.{Row}
use Rattle.world_rules.specs.World.{World, empty_world, is_same, is_text, is_text_of, is_link_of, has_document}
use Rattle.world_rules.specs.Picking.{picked_addresses}
use Rattle.world_rules.specs.Edits.{Cuts, cuts_of, up_by, down_by, moved_to, moves_up, is_in_block, block, goes, closed_up, rows_with, content_addresses, rows_without, rows_swapped, rows_as}
use Rattle.world_rules.specs.Apply.{apply, change_world, link_row, world_of}
use Rattle.world_rules.specs.Placed.{IsNext, IsCopiedTo, IsCutAt, IsLinkedAt, IsPlaced, AllPlaced}
use Rattle.world_rules.specs.Laws.{text_rows, link_rows, rows_of, IsNumbered, IsOpenPlace, IsWithout, IsVersion, ArePlaces, IsRearranged, NumberedWithoutGaps, TextInOrder, NextIsNew, DocumentsOnce, RowsHaveDocuments}
use Rattle.world_rules.proofs.Filters.{none_of, none_of_moved, both_tests}
use Rattle.world_rules.proofs.InRow.{InRow, row_append, row_map}
use Rattle.world_rules.proofs.RowsWith.{differs_back, of_another, others_with}
use Rattle.world_rules.proofs.Inserted.{text_in_row, links_in_row, text_numbered, links_numbered, same_numbered, with_numbered}
use Rattle.world_rules.proofs.Deleted.{cond_document, deletes_span}
use Rattle.world_rules.proofs.Versioned.{is_of, versioned}
use Rattle.world_rules.proofs.Rearranged.{across, filter-five, rearranges}
use Rattle.world_rules.proofs.Documents.{has, has_push, Children, next_is_none, children_push, Once, once_push}
use Rattle.world_rules.proofs.Ascending.{row_ascends}

-- rows are numbered, each of a document that is there, and documents are numbered below each address
pub record IsOrderly (world : World) : Type 0 where
  pub numbered : (document : List ℕ) → IsNumbered world document
  pub owned : (document : List ℕ) → has_document world document ≡ false → rows_of world document ≡ []
  pub children : Children world.documents
  pub once : Once world.documents

-- ---- two documents

-- one that is there and one that is not differ
apart : (documents : List (List ℕ)) (document other : List ℕ) → has documents document ≡ true → has documents other ≡ false → is_same other document ≡ false
apart documents document other there missing =
    false_from_ne_true (is_same other document)
    (λ (e : is_same other document ≡ true). true≢false (sym there ∙ ap (has documents) (sym ((bytes_decides other document).0 e)) ∙ missing))

-- where a document has the rows that it had, it is numbered as it was
same_rows : (world after : World) (document : List ℕ) → rows_of after document ≡ rows_of world document → IsNumbered world document → IsNumbered after document
same_rows world after document e numbered =
    let text : Row → Bool = λ row. is_text row.part in
    let link : Row → Bool = λ row. not (is_text row.part) in
    same_numbered world after document
    (sym (both_tests text (is_of document) after.rows) ∙ ap (filter text) e ∙ both_tests text (is_of document) world.rows)
    (sym (both_tests link (is_of document) after.rows) ∙ ap (filter link) e ∙ both_tests link (is_of document) world.rows)
    numbered

-- the next document is not there
next_missing : (world : World) (document : List ℕ) → IsNext world document → Children world.documents → has_document world document ≡ false
next_missing world document next children = ap (has world.documents) next.is_next ∙ next_is_none world.documents next.front children

-- ---- changes that leave the rows

orderly_same : (world after : World) → after.rows ≡ world.rows → after.documents ≡ world.documents → IsOrderly world → IsOrderly after
orderly_same world after rows documents orderly = record {
  numbered = λ d. same_rows world after d (ap (filter (is_of d)) rows) (orderly.numbered d);
  owned = λ d missing. ap (filter (is_of d)) rows ∙ orderly.owned d (ap (λ (ds : List (List ℕ)). has ds d) (sym documents) ∙ missing);
  children = subst Children (sym documents) orderly.children;
  once = subst Once (sym documents) orderly.once;
}

orderly_created : (world after : World) (document : List ℕ) → IsNext world document → after.rows ≡ world.rows → after.documents ≡ world.documents ++ document ∷ [] → IsOrderly world → IsOrderly after
orderly_created world after document next rows documents orderly = record {
  numbered = λ d. same_rows world after d (ap (filter (is_of d)) rows) (orderly.numbered d);
  owned = λ d missing. ap (filter (is_of d)) rows ∙ orderly.owned d (has_push world.documents document d (ap (λ (ds : List (List ℕ)). has ds d) (sym documents) ∙ missing)).0;
  children = subst Children (ap (λ (d : List ℕ). world.documents ++ d ∷ []) (sym next.is_next) ∙ sym documents) (children_push world.documents next.front orderly.children);
  once = subst Once (sym documents) (once_push world.documents document (next_missing world document next orderly.children) orderly.once);
}

-- ---- versions

version_numbered : (world after : World) (source document other : List ℕ) (same : Bool) → is_same other document ≡ same → IsVersion world source document after → IsOrderly world → IsNumbered after other
version_numbered world after source document other true e version orderly =
    let is_document : other ≡ document = (bytes_decides other document).0 e in
    let numbered : IsNumbered world source = orderly.numbered source in
    let moved_row : (rows : List Row) → InRow 1 rows → InRow 1 (map (moved_to document) rows) = λ rows. row_map (moved_to document) 1 1 rows (λ r i at. at) in
    subst (IsNumbered after) (sym is_document)
    (record {
      text = text_numbered after document (subst (InRow 1) (sym version.text) (moved_row (text_rows world source) (text_in_row world source numbered.text)));
      links = links_numbered after document (subst (InRow 1) (sym version.links) (moved_row (link_rows world source) (links_in_row world source numbered.links)));
    })
version_numbered world after source document other false e version orderly = same_rows world after other (version.others other e) (orderly.numbered other)

orderly_version : (world after : World) (source document : List ℕ) → IsNext world document → after.rows ≡ world.rows ++ rows_as world.rows source document → after.bytes ≡ world.bytes → after.links ≡ world.links
    → after.published ≡ world.published → after.documents ≡ world.documents ++ document ∷ [] → IsOrderly world → IsOrderly after
orderly_version world after source document next rows bytes links published documents orderly =
    let missing : has_document world document ≡ false = next_missing world document next orderly.children in
    let version : IsVersion world source document after = versioned world after source document (orderly.owned document missing) rows documents bytes links published in
    record {
      numbered = λ d. version_numbered world after source document d (is_same d document) refl version orderly;
      owned = λ d gone. let pushed = has_push world.documents document d (ap (λ (ds : List (List ℕ)). has ds d) (sym documents) ∙ gone) in version.others d (differs_back document d pushed.1) ∙ orderly.owned d pushed.0;
      children = subst Children (ap (λ (d : List ℕ). world.documents ++ d ∷ []) (sym next.is_next) ∙ sym documents) (children_push world.documents next.front orderly.children);
      once = subst Once (sym documents) (once_push world.documents document missing orderly.once);
    }

-- ---- new text rows

orderly_with : (world after : World) (document : List ℕ) (at : ℕ) (addresses : List (List ℕ)) → IsCopiedTo world document at → after.rows ≡ rows_with world.rows document at addresses → after.documents ≡ world.documents
    → IsOrderly world → IsOrderly after
orderly_with world after document at addresses place rows documents orderly =
    let whole : IsNumbered world document = orderly.numbered document in
    let opened : IsOpenPlace world document at = record { numbered = whole.text; from_one = place.from_one; to_end = place.to_end } in
    record {
      numbered = λ d. with_numbered world after document d at addresses (is_same document d) refl opened rows (orderly.numbered d);
      owned = λ d gone. let missing : has_document world d ≡ false = ap (λ (ds : List (List ℕ)). has ds d) (sym documents) ∙ gone in
          ap (filter (is_of d)) rows ∙ others_with (is_of d) document (of_another document d (apart world.documents document d place.there missing)) (λ k row. refl) world.rows at addresses ∙ orderly.owned d missing;
      children = subst Children (sym documents) orderly.children;
      once = subst Once (sym documents) orderly.once;
    }

-- ---- delete

without_numbered : (world after : World) (document other : List ℕ) (span : Span) (same : Bool) → is_same other document ≡ same → IsWithout world document span after → IsOrderly world → IsNumbered after other
without_numbered world after document other span true e without orderly =
    let is_document : other ≡ document = (bytes_decides other document).0 e in
    let numbered : IsNumbered world document = orderly.numbered document in
    subst (IsNumbered after) (sym is_document) (record { text = without.text_closes_up numbered.text; links = without.links_close_up numbered.links })
without_numbered world after document other span false e without orderly = same_rows world after other (without.others other e) (orderly.numbered other)

none_without : (rows : List Row) (document other : List ℕ) (span : Span) → filter (is_of other) rows ≡ [] → filter (is_of other) (rows_without rows document span) ≡ []
none_without rows document other span none =
    none_of_moved (is_of other) (λ row. not (goes document span row)) rows none (closed_up rows document span) (λ row. cond_document rows document other span row (is_same row.document document) refl)

orderly_without : (world : World) (session : ℕ) (document : List ℕ) (span : Span) → IsOrderly world → IsOrderly (change_world world session (span_deleted document span))
orderly_without world session document span orderly = record {
  numbered = λ d. without_numbered world (change_world world session (span_deleted document span)) document d span (is_same d document) refl (deletes_span world session document span) orderly;
  owned = λ d missing. none_without world.rows document d span (orderly.owned d missing);
  children = orderly.children;
  once = orderly.once;
}

-- ---- rearrange

swapped_numbered : (world after : World) (document other : List ℕ) (cuts : Cuts) (same : Bool) → is_same other document ≡ same → IsRearranged world document cuts after → IsOrderly world → IsNumbered after other
swapped_numbered world after document other cuts true e done orderly =
    let is_document : other ≡ document = (bytes_decides other document).0 e in
    let numbered : IsNumbered world document = orderly.numbered document in
    subst (IsNumbered after) (sym is_document)
    (record { text = done.numbered; links = links_numbered after document (subst (InRow 1) (sym done.links) (links_in_row world document numbered.links)) })
swapped_numbered world after document other cuts false e done orderly = same_rows world after other (done.others other e) (orderly.numbered other)

none_swapped : (rows : List Row) (document other : List ℕ) (cuts : Cuts) → filter (is_of other) rows ≡ [] → filter (is_of other) (rows_swapped rows document cuts) ≡ []
none_swapped rows document other cuts none =
    let p : Row → Bool = is_of other in
    filter-five p (filter (λ row. not (moves_up document cuts.first row)) rows)
    (map (down_by (cuts.third - cuts.first)) (block rows document cuts.third cuts.fourth))
    (map (across cuts) (block rows document cuts.second cuts.third))
    (map (up_by (cuts.fourth - cuts.second)) (block rows document cuts.first cuts.second))
    (filter (moves_up document cuts.fourth) rows)
    ∙ (λ i. none_of p (λ row. not (moves_up document cuts.first row)) rows none i
    ++ (none_of_moved p (is_in_block document cuts.third cuts.fourth) rows none (down_by (cuts.third - cuts.first)) (λ r. refl) i
    ++ (none_of_moved p (is_in_block document cuts.second cuts.third) rows none (across cuts) (λ r. refl) i
    ++ (none_of_moved p (is_in_block document cuts.first cuts.second) rows none (up_by (cuts.fourth - cuts.second)) (λ r. refl) i
    ++ none_of p (moves_up document cuts.fourth) rows none i))))

swapped_rows : (world : World) (session : ℕ) (document cuts : List ℕ) (bounds : Cuts) → cuts_of cuts ≡ Some bounds → (change_world world session (blocks_swapped document cuts)).rows ≡ rows_swapped world.rows document bounds
swapped_rows world session document cuts bounds e = rw e refl

swapped_documents : (world : World) (session : ℕ) (document cuts : List ℕ) (bounds : Cuts) → cuts_of cuts ≡ Some bounds → (change_world world session (blocks_swapped document cuts)).documents ≡ world.documents
swapped_documents world session document cuts bounds e = rw e refl

orderly_swapped : (world : World) (session : ℕ) (document cuts : List ℕ) → IsCutAt world document cuts → IsOrderly world → IsOrderly (change_world world session (blocks_swapped document cuts))
orderly_swapped world session document cuts place orderly =
    let after : World = change_world world session (blocks_swapped document cuts) in
    let whole : IsNumbered world document = orderly.numbered document in
    let places : ArePlaces world document place.bounds = record { numbered = whole.text; from_one = place.from_one; to_end = place.to_end } in
    let documents : (change_world world session (blocks_swapped document cuts)).documents ≡ world.documents = swapped_documents world session document cuts place.bounds place.are_cuts in
    record {
      numbered = λ d. swapped_numbered world after document d place.bounds (is_same d document) refl (rearranges world session document cuts place.bounds place.are_cuts places) orderly;
      owned = λ d gone. ap (filter (is_of d)) (swapped_rows world session document cuts place.bounds place.are_cuts)
          ∙ none_swapped world.rows document d place.bounds (orderly.owned d (ap (λ (ds : List (List ℕ)). has ds d) (sym documents) ∙ gone));
      children = subst Children (sym documents) orderly.children;
      once = subst Once (sym documents) orderly.once;
    }

-- ---- links

text_linked : (world : World) (home other : List ℕ) (number place : ℕ) → filter (is_text_of other) (world.rows ++ link_row home number place ∷ []) ≡ text_rows world other
text_linked world home other number place = filter-append (is_text_of other) world.rows (link_row home number place ∷ []) ∙ append-nil (text_rows world other)

links_linked : (world : World) (home other : List ℕ) (number place : ℕ) (same : Bool) → is_same home other ≡ same → place ≡ length (link_rows world home) + 1 → InRow 1 (link_rows world other)
    → InRow 1 (filter (is_link_of other) (world.rows ++ link_row home number place ∷ []))
links_linked world home other number place true e at_end row =
    let is_home : home ≡ other = (bytes_decides home other).0 e in
    let here : place ≡ 1 + length (link_rows world other) = at_end ∙ ap (λ (d : List ℕ). length (link_rows world d) + 1) is_home ∙ omega arith in
    let last : filter (is_link_of other) (link_row home number place ∷ []) ≡ link_row home number place ∷ [] = rw e refl in
    subst (InRow 1) (sym (filter-append (is_link_of other) world.rows (link_row home number place ∷ []) ∙ ap (λ (ys : List Row). link_rows world other ++ ys) last))
    (row_append 1 (link_rows world other) (link_row home number place ∷ []) row (λ i. here i ∷ []))
links_linked world home other number place false e at_end row =
    let last : filter (is_link_of other) (link_row home number place ∷ []) ≡ [] = rw e refl in
    subst (InRow 1) (sym (filter-append (is_link_of other) world.rows (link_row home number place ∷ []) ∙ ap (λ (ys : List Row). link_rows world other ++ ys) last ∙ append-nil (link_rows world other))) row

none_linked : (rows : List Row) (home other : List ℕ) (number place : ℕ) → is_same home other ≡ false → filter (is_of other) rows ≡ [] → filter (is_of other) (rows ++ link_row home number place ∷ []) ≡ []
none_linked rows home other number place differs none =
    let last : filter (is_of other) (link_row home number place ∷ []) ≡ [] = rw differs refl in
    filter-append (is_of other) rows (link_row home number place ∷ []) ∙ (λ i. none i ++ last i)

orderly_linked : (world after : World) (home : List ℕ) (number place : ℕ) → IsLinkedAt world home number place → after.rows ≡ world.rows ++ link_row home number place ∷ [] → after.documents ≡ world.documents
    → IsOrderly world → IsOrderly after
orderly_linked world after home number place at rows documents orderly =
    let end : place ≡ length (link_rows world home) + 1 = at.at_end ∙ ap (λ (n : ℕ). n + 1) (sym (length-filter (is_link_of home) world.rows)) in
    record {
      numbered = λ d. let numbered : IsNumbered world d = orderly.numbered d in
          record {
            text = text_numbered after d (subst (InRow 1) (sym (ap (filter (is_text_of d)) rows ∙ text_linked world home d number place)) (text_in_row world d numbered.text));
            links = links_numbered after d (subst (λ (all : List Row). InRow 1 (filter (is_link_of d) all)) (sym rows) (links_linked world home d number place (is_same home d) refl end (links_in_row world d numbered.links)));
          };
      owned = λ d gone. let missing : has_document world d ≡ false = ap (λ (ds : List (List ℕ)). has ds d) (sym documents) ∙ gone in
          ap (filter (is_of d)) rows ∙ none_linked world.rows home d number place (differs_back d home (apart world.documents home d at.there missing)) (orderly.owned d missing);
      children = subst Children (sym documents) orderly.children;
      once = subst Once (sym documents) orderly.once;
    }

-- ---- all changes

pub change_orderly : (world : World) (session : ℕ) (change : PlainChange) → IsPlaced world change → IsOrderly world → IsOrderly (change_world world session change)
change_orderly world session restarted placed orderly = orderly_same world (change_world world session restarted) refl refl orderly
change_orderly world session began placed orderly = orderly
change_orderly world session ended placed orderly = orderly_same world (change_world world session ended) refl refl orderly
change_orderly world session (account_changed account) placed orderly = orderly_same world (change_world world session (account_changed account)) refl refl orderly
change_orderly world session (document_opened document mode) placed orderly = orderly_same world (change_world world session (document_opened document mode)) refl refl orderly
change_orderly world session (document_closed document) placed orderly = orderly_same world (change_world world session (document_closed document)) refl refl orderly
change_orderly world session (document_created document) placed orderly = orderly_created world (change_world world session (document_created document)) document placed refl refl orderly
change_orderly world session (version_made source document) placed orderly = orderly_version world (change_world world session (version_made source document)) source document placed refl refl refl refl refl orderly
change_orderly world session (copy_opened source document) placed orderly = orderly_version world (change_world world session (copy_opened source document)) source document placed refl refl refl refl refl orderly
change_orderly world session (text_inserted document at first text) placed orderly =
    orderly_with world (change_world world session (text_inserted document at first text)) document at (content_addresses document first (length text)) (record { there = placed.there; from_one = placed.from_one; to_end = placed.to_end }) refl refl orderly
change_orderly world session (span_deleted document span) placed orderly = orderly_without world session document span orderly
change_orderly world session (blocks_swapped document cuts) placed orderly = orderly_swapped world session document cuts placed orderly
change_orderly world session (specs_copied document at specs) placed orderly =
    orderly_with world (change_world world session (specs_copied document at specs)) document at (picked_addresses world specs) placed refl refl orderly
change_orderly world session (link_made home number place from to three) placed orderly =
    orderly_linked world (change_world world session (link_made home number place from to three)) home number place placed refl refl orderly
change_orderly world session (document_published document) placed orderly = orderly_same world (change_world world session (document_published document)) refl refl orderly

orderly_along : (history : List PlainEntry) (world : World) → AllPlaced world history → IsOrderly world → IsOrderly (fold apply world history)
orderly_along [] world placed orderly = orderly
orderly_along (entry ∷ history) world placed orderly = orderly_along history (apply world entry) placed.1 (change_orderly world entry.session entry.change placed.0 orderly)

pub orderly : (history : List PlainEntry) → AllPlaced empty_world history → IsOrderly (world_of history)
orderly history placed =
    orderly_along history empty_world placed
    (record { numbered = λ d. record { text = refl; links = refl }; owned = λ d missing. refl; children = λ front n e. absurd (true≢false (sym e)); once = λ d. omega arith })

pub numbered_without_gaps : NumberedWithoutGaps
numbered_without_gaps history placed document = (orderly history placed).numbered document

pub next_is_new : NextIsNew
next_is_new history placed front = next_is_none (world_of history).documents front (orderly history placed).children

pub documents_once : DocumentsOnce
documents_once history placed = (orderly history placed).once

pub rows_have_documents : RowsHaveDocuments
rows_have_documents history placed document missing = (orderly history placed).owned document missing

pub text_in_order : TextInOrder
text_in_order history placed document = let world : World = world_of history in row_ascends 1 (text_rows world document) (text_in_row world document (numbered_without_gaps history placed document).text)
