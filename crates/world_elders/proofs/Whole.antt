-- Bytes, rows and links of the worlds of histories name what is there.
use Rattle.std.proofs.Common.{◌≡◌, ℕ, zero, suc, ◌+◌, ◌≤◌, ◌∙◌, Bool, true, cond, List, [], ◌∷◌, ◌++◌, length, All, ap, sym, refl, subst, arith, append-nil}
use Rattle.std.specs.Prelude.{Option, Some, None, count_by}
use Rattle.std.specs.List.{fold, list_any}
use Rattle.std.proofs.lemmas.Bool.{or_left}
use Rattle.std.proofs.lemmas.List.Elements.{All-nil, All-cons, All-append, All-weaker}
use Rattle.std.proofs.lemmas.List.Folds.{list_any-append}
use Rattle.std.proofs.lemmas.List.Sums.{sum_by-append, sum_by_push}
use Rattle.febe_data.specs.Plain.{PlainSpec, PlainEntry, PlainChange, restarted, began, ended, account_changed, document_opened, document_closed, document_created, version_made, copy_opened, text_inserted, span_deleted, blocks_swapped, specs_copied, link_made, document_published}
use Rattle.world_rules.specs.declared.rows.ByteRow.{ByteRow}
use Rattle.world_rules.specs.declared.cuts.Cuts.{Cuts}
use Rattle.world_rules.specs.World.{World, LinkRow, empty_world, is_same, is_child_of, has_document, content_address, content_length, content_length_of, link_address, links_made_in}
use Rattle.world_rules.specs.Picking.{picked_addresses}
use Rattle.world_rules.specs.Edits.{cuts_of, content_addresses, new_bytes, rows_with}
use Rattle.world_rules.specs.Apply.{apply, change_world, world_of, with_swapped, link_between, link_row}
use Rattle.world_rules.specs.Placed.{ComesInAt, IsLinkedAt, IsPlaced, AllPlaced}
use Rattle.world_rules.proofs.RowsWith.{same_itself}
use Rattle.world_rules.proofs.Orderly.{IsOrderly, change_orderly, orderly as orderly_of}
use Rattle.world_elders.specs.Whole.{IsByteThere, IsLinkThere, HasRunsThere}
use Rattle.world_elders.specs.Laws.{BytesAreOwned, ShowsBytesThere, LinkRowsNameLinks, HomesAreThere, RunsAreThere}
use Rattle.world_elders.proofs.Content.{own_long, length_append}
use Rattle.world_elders.proofs.Named.{Names, Grows, byte_stays, names_stay, runs_stay, text_shows, links_name, copies_are_there, with_named, without_named, swapped_named, version_named, link_named}
use Rattle.world_elders.proofs.Runs.{runs_there}

-- the byte is a content byte that is there
abbrev IsOwned : World → ByteRow → Type 0
IsOwned world b = IsByteThere world b.address

-- the link's home is there, and its runs are
record IsLinkWhole (world : World) (link : LinkRow) : Type 0 where
  home : has_document world link.home ≡ true
  runs : HasRunsThere world link

record IsWhole (world : World) : Type 0 where
  bytes : All (IsOwned world) world.bytes
  rows : All (Names world) world.rows
  links : All (IsLinkWhole world) world.links

-- ---- worlds that grow

-- more documents, bytes and links behind those before
grown : (before after : World) (documents : List (List ℕ)) (bytes : List ByteRow) (links : List LinkRow)
    → after.documents ≡ before.documents ++ documents → after.bytes ≡ before.bytes ++ bytes → after.links ≡ before.links ++ links → Grows before after
grown before after documents bytes links d b l = record {
  documents = λ document e.
      let is : List ℕ → Bool = λ other. is_same other document in
      ap (list_any is) d ∙ list_any-append is before.documents documents ∙ or_left (has_document before document) (list_any is documents) e;
  content = λ document.
      let is : ByteRow → ℕ = λ byte. cond (is_child_of (document ++ 0 ∷ 1 ∷ []) byte.address) 1 0 in
      subst (λ (all : List ByteRow). content_length before document ≤ content_length_of all document) (sym b) (omega (arith, sum_by-append is before.bytes bytes));
  links = λ home.
      let is : LinkRow → ℕ = λ link. cond (is_same link.home home) 1 0 in
      subst (λ (all : List LinkRow). links_made_in before home ≤ count_by (λ (link : LinkRow). is_same link.home home) all) (sym l) (omega (arith, sum_by-append is before.links links));
}

module _ (before after : World) (grows : Grows before after) where
  bytes_stay : All (IsOwned before) before.bytes → All (IsOwned after) before.bytes
  bytes_stay all = All-weaker (IsOwned before) (IsOwned after) (λ b. byte_stays before after grows b.address) before.bytes all

  link_whole : (link : LinkRow) → IsLinkWhole before link → IsLinkWhole after link
  link_whole link is = record { home = grows.documents link.home is.home; runs = runs_stay before after grows link is.runs }

  links_stay : All (IsLinkWhole before) before.links → All (IsLinkWhole after) before.links
  links_stay all = All-weaker (IsLinkWhole before) (IsLinkWhole after) link_whole before.links all

  -- bytes and links are those before
  kept : after.bytes ≡ before.bytes → after.links ≡ before.links → All (Names after) after.rows → IsWhole before → IsWhole after
  kept bytes links rows whole = record {
    bytes = subst (All (IsOwned after)) (sym bytes) (bytes_stay whole.bytes);
    rows = rows;
    links = subst (All (IsLinkWhole after)) (sym links) (links_stay whole.links);
  }

-- documents, bytes and links are those before, and rows name what was there
kept_rows : (before after : World) → after.documents ≡ before.documents → after.bytes ≡ before.bytes → after.links ≡ before.links → All (Names before) after.rows → IsWhole before → IsWhole after
kept_rows before after documents bytes links rows whole =
    let grows : Grows before after =
    grown before after [] [] [] (documents ∙ sym (append-nil before.documents)) (bytes ∙ sym (append-nil before.bytes)) (links ∙ sym (append-nil before.links)) in
    kept before after grows bytes links (names_stay before after grows after.rows rows) whole

-- so do they where a document comes in
kept_document : (before after : World) (document : List ℕ) → after.documents ≡ before.documents ++ document ∷ [] → after.bytes ≡ before.bytes → after.links ≡ before.links → All (Names before) after.rows → IsWhole before → IsWhole after
kept_document before after document documents bytes links rows whole =
    let grows : Grows before after =
    grown before after (document ∷ []) [] [] documents (bytes ∙ sym (append-nil before.bytes)) (links ∙ sym (append-nil before.links)) in
    kept before after grows bytes links (names_stay before after grows after.rows rows) whole

-- ---- text that comes in

-- content addresses up to the length are of bytes that are there
content_there : (world : World) (document : List ℕ) (first count : ℕ) → has_document world document ≡ true → 1 ≤ first → first + count ≤ content_length world document + 1 → All (IsByteThere world) (content_addresses document first count)
content_there world document first zero there from le = All-nil (IsByteThere world)
content_there world document first (suc count) there from le =
    All-cons (IsByteThere world) (content_address document first) (content_addresses document (first + 1) count)
    (record { document = document; number = first; parts = refl; there = there; from_one = from; to_length = omega arith })
    (content_there world document (first + 1) count there (omega arith) (omega arith))

-- new bytes are owned where their addresses are there
new_owned : (world : World) (document : List ℕ) (first : ℕ) (text : List ℕ) → All (IsByteThere world) (content_addresses document first (length text)) → All (IsOwned world) (new_bytes document first text)
new_owned world document first [] there = All-nil (IsOwned world)
new_owned world document first (b ∷ text) there =
    All-cons (IsOwned world) (record { address = content_address document first; byte = b }) (new_bytes document (first + 1) text)
    (there 0 (content_address document first) (omega arith))
    (new_owned world document (first + 1) text (λ k d lt. there (suc k) d (omega arith)))

new_length : (world after : World) (document : List ℕ) (first : ℕ) (text : List ℕ) → after.bytes ≡ world.bytes ++ new_bytes document first text → content_length after document ≡ content_length world document + length text
new_length world after document first text bytes =
    ap (λ (all : List ByteRow). content_length_of all document) bytes
    ∙ length_append document world.bytes (new_bytes document first text)
    ∙ ap (λ (n : ℕ). content_length world document + n) (own_long document first text)

inserted : (world after : World) (document : List ℕ) (at first : ℕ) (text : List ℕ) → ComesInAt world document at first → after.documents ≡ world.documents
    → after.rows ≡ rows_with world.rows document at (content_addresses document first (length text)) → after.bytes ≡ world.bytes ++ new_bytes document first text → after.links ≡ world.links → IsWhole world → IsWhole after
inserted world after document at first text place documents rows bytes links whole =
    let more : List ByteRow = new_bytes document first text in
    let grows : Grows world after = grown world after [] more [] (documents ∙ sym (append-nil world.documents)) bytes (links ∙ sym (append-nil world.links)) in
    let long : content_length after document ≡ content_length world document + length text = new_length world after document first text bytes in
    let there : All (IsByteThere after) (content_addresses document first (length text)) =
    content_there after document first (length text) (grows.documents document place.there) (omega (arith, place.is_next)) (omega (arith, place.is_next)) in
    record {
      bytes = subst (All (IsOwned after)) (sym bytes) (All-append (IsOwned after) world.bytes more (bytes_stay world after grows whole.bytes) (new_owned after document first text there));
      rows = subst (All (Names after)) (sym rows) (with_named after world.rows document at (content_addresses document first (length text)) there (names_stay world after grows world.rows whole.rows));
      links = subst (All (IsLinkWhole after)) (sym links) (links_stay world after grows whole.links);
    }

-- ---- a link that comes in

one_more : (world after : World) (home : List ℕ) (link : LinkRow) → after.links ≡ world.links ++ link ∷ [] → is_same link.home home ≡ true → links_made_in after home ≡ links_made_in world home + 1
one_more world after home link links own =
    ap (λ (all : List LinkRow). count_by (λ (l : LinkRow). is_same l.home home) all) links
    ∙ sum_by_push (λ (l : LinkRow). cond (is_same l.home home) 1 0) world.links link
    ∙ ap (λ (b : Bool). links_made_in world home + cond b 1 0) own

linked : (world after : World) (home : List ℕ) (number place : ℕ) (from to three : List PlainSpec) → IsLinkedAt world home number place → after.documents ≡ world.documents → after.bytes ≡ world.bytes
    → after.rows ≡ world.rows ++ link_row home number place ∷ [] → after.links ≡ world.links ++ link_between world home number from to three ∷ [] → IsOrderly world → IsWhole world → IsWhole after
linked world after home number place from to three at documents bytes rows links orderly whole =
    let link : LinkRow = link_between world home number from to three in
    let grows : Grows world after = grown world after [] [] (link ∷ []) (documents ∙ sym (append-nil world.documents)) (bytes ∙ sym (append-nil world.bytes)) links in
    let home_there : has_document after home ≡ true = grows.documents home at.there in
    let counted : links_made_in after home ≡ links_made_in world home + 1 = one_more world after home link links (same_itself home) in
    let there : IsLinkThere after (link_address home number) =
    record { home = home; number = number; parts = refl; there = home_there; from_one = omega (arith, at.is_next); to_count = omega (arith, at.is_next) } in
    let runs : HasRunsThere world link = record {
      from = runs_there world whole.rows orderly.owned from;
      to = runs_there world whole.rows orderly.owned to;
      three = runs_there world whole.rows orderly.owned three;
    } in
    record {
      bytes = subst (All (IsOwned after)) (sym bytes) (bytes_stay world after grows whole.bytes);
      rows = subst (All (Names after)) (sym rows) (link_named after world.rows home number place there (names_stay world after grows world.rows whole.rows));
      links = subst (All (IsLinkWhole after)) (sym links)
          (All-append (IsLinkWhole after) world.links (link ∷ []) (links_stay world after grows whole.links)
          (All-cons (IsLinkWhole after) link [] (record { home = home_there; runs = runs_stay world after grows link runs }) (All-nil (IsLinkWhole after))));
    }

-- ---- along a history

swapped : (world : World) (document : List ℕ) (cuts : Option Cuts) → IsWhole world → IsWhole (with_swapped world document cuts)
swapped world document (Some cuts) whole = kept_rows world (with_swapped world document (Some cuts)) refl refl refl (swapped_named world world.rows document cuts whole.rows) whole
swapped world document None whole = whole

same : (world after : World) → after.documents ≡ world.documents → after.bytes ≡ world.bytes → after.links ≡ world.links → after.rows ≡ world.rows → IsWhole world → IsWhole after
same world after documents bytes links rows whole = kept_rows world after documents bytes links (subst (All (Names world)) (sym rows) whole.rows) whole

change_whole : (world : World) (session : ℕ) (change : PlainChange) → IsPlaced world change → IsOrderly world → IsWhole world → IsWhole (change_world world session change)
change_whole world session restarted placed orderly whole = same world (change_world world session restarted) refl refl refl refl whole
change_whole world session began placed orderly whole = whole
change_whole world session ended placed orderly whole = same world (change_world world session ended) refl refl refl refl whole
change_whole world session (account_changed account) placed orderly whole = same world (change_world world session (account_changed account)) refl refl refl refl whole
change_whole world session (document_opened document mode) placed orderly whole = same world (change_world world session (document_opened document mode)) refl refl refl refl whole
change_whole world session (document_closed document) placed orderly whole = same world (change_world world session (document_closed document)) refl refl refl refl whole
change_whole world session (document_created document) placed orderly whole = kept_document world (change_world world session (document_created document)) document refl refl refl whole.rows whole
change_whole world session (version_made source document) placed orderly whole =
    kept_document world (change_world world session (version_made source document)) document refl refl refl (version_named world world.rows source document whole.rows) whole
change_whole world session (copy_opened source document) placed orderly whole =
    kept_document world (change_world world session (copy_opened source document)) document refl refl refl (version_named world world.rows source document whole.rows) whole
change_whole world session (text_inserted document at first text) placed orderly whole =
    inserted world (change_world world session (text_inserted document at first text)) document at first text placed refl refl refl refl whole
change_whole world session (span_deleted document span) placed orderly whole =
    kept_rows world (change_world world session (span_deleted document span)) refl refl refl (without_named world world.rows document span whole.rows) whole
change_whole world session (blocks_swapped document cuts) placed orderly whole = swapped world document (cuts_of cuts) whole
change_whole world session (specs_copied document at specs) placed orderly whole =
    kept_rows world (change_world world session (specs_copied document at specs)) refl refl refl
    (with_named world world.rows document at (picked_addresses world specs) (copies_are_there world specs whole.rows) whole.rows) whole
change_whole world session (link_made home number place from to three) placed orderly whole =
    linked world (change_world world session (link_made home number place from to three)) home number place from to three placed refl refl refl refl orderly whole
change_whole world session (document_published document) placed orderly whole = same world (change_world world session (document_published document)) refl refl refl refl whole

whole_along : (history : List PlainEntry) (world : World) → AllPlaced world history → IsOrderly world → IsWhole world → IsWhole (fold apply world history)
whole_along [] world placed orderly whole = whole
whole_along (entry ∷ history) world placed orderly whole =
    whole_along history (apply world entry) placed.1 (change_orderly world entry.session entry.change placed.0 orderly) (change_whole world entry.session entry.change placed.0 orderly whole)

whole_of : (history : List PlainEntry) → AllPlaced empty_world history → IsWhole (world_of history)
whole_of history placed =
    whole_along history empty_world placed (orderly_of [] tt)
    (record { bytes = All-nil (IsOwned empty_world); rows = All-nil (Names empty_world); links = All-nil (IsLinkWhole empty_world) })

pub bytes_are_owned : BytesAreOwned
bytes_are_owned history placed = (whole_of history placed).bytes

pub shows_bytes_there : ShowsBytesThere
shows_bytes_there history placed document = text_shows (world_of history) document (whole_of history placed).rows

pub link_rows_name_links : LinkRowsNameLinks
link_rows_name_links history placed document = links_name (world_of history) document (whole_of history placed).rows

pub homes_are_there : HomesAreThere
homes_are_there history placed =
    let world : World = world_of history in
    All-weaker (IsLinkWhole world) (λ (link : LinkRow). has_document world link.home ≡ true) (λ link is. is.home) world.links (whole_of history placed).links

pub runs_are_there : RunsAreThere
runs_are_there history placed =
    let world : World = world_of history in
    All-weaker (IsLinkWhole world) (HasRunsThere world) (λ link is. is.runs) world.links (whole_of history placed).links
