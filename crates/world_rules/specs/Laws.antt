-- Laws that show what histories and changes make of the world.
use Rattle.std.specs.Prelude.{◌≡◌, ◌≢◌, ◌⊎◌, ℕ, zero, suc, ◌+◌, ◌-◌, ◌<◌, ◌≤◌, false, not, List, [], ◌∷◌, ◌++◌, length, map, filter, take, drop, count_by, All, Some, None}
use Rattle.std.specs.List.{filter_map, list_any, AllPairs}
use Rattle.std.specs.declared.cmp.Ordering.TheVariants.{Less}
use Rattle.std.specs.Ordering.{nat_cmp}
use Rattle.std.specs.Cmp.Lexicographic.{slice_cmp}
use Rattle.tumbler.specs.declared.span.Span.{Span}
use Rattle.febe_data.specs.LimitsView.{LimitsView}
use Rattle.febe_data.specs.Plain.{PlainSpec, PlainWant, PlainRequest, PlainEntry, version_made, copy_opened, text_inserted, span_deleted, blocks_swapped, specs_copied}
use Rattle.world_rules.specs.declared.rows.Row.{Row}
use Rattle.world_rules.specs.World.{World, LinkRow, empty_world, is_same, ascending, next_below, has_document, is_text_of, is_link_of, text_length, link_length, content_length, content_address, link_address, links_made_in, byte_at}
use Rattle.world_rules.specs.Picking.{picks, addresses_of, picked_addresses, places_of}
use Rattle.world_rules.specs.Edits.{Cuts, cuts_of, up_by, moved_to, new_rows, content_addresses, new_bytes}
use Rattle.world_rules.specs.Apply.{change_world, world_of}
use Rattle.world_rules.specs.History.{durable_entries, recovered}
use Rattle.world_rules.specs.Finding.{links_found, ids_found}
use Rattle.world_rules.specs.Refusals.{wanted}
use Rattle.world_rules.specs.Effects.{Effect, effect}
use Rattle.world_rules.specs.Answers.{text_of}
use Rattle.world_rules.specs.RelationLaws.{TextAscends}
use Rattle.world_rules.specs.Placed.{ComesInAt, IsPlaced, AllPlaced}

-- ---- rows

-- the text rows of a document, as they stand in the world
abbrev pub text_rows : World → List ℕ → List Row
text_rows world document = filter (is_text_of document) world.rows

-- its link rows
abbrev pub link_rows : World → List ℕ → List Row
link_rows world document = filter (is_link_of document) world.rows

-- k numbers in a row, from n on
abbrev pub numbers_from : ℕ → ℕ → List ℕ
numbers_from n zero = []
numbers_from n (suc k) = n ∷ numbers_from (n + 1) k

-- a document's text rows are numbered from 1 on, in their order and without gaps
abbrev pub TextIsNumbered : World → List ℕ → Type 0
TextIsNumbered world document = places_of (text_rows world document) ≡ numbers_from 1 (text_length world document)

-- its link rows are
abbrev pub LinksAreNumbered : World → List ℕ → Type 0
LinksAreNumbered world document = places_of (link_rows world document) ≡ numbers_from 1 (link_length world document)

-- both are
pub record IsNumbered (world : World) (document : List ℕ) : Type 0 where
  pub text : TextIsNumbered world document
  pub links : LinksAreNumbered world document

-- the rows of a document, of both parts
abbrev pub rows_of : World → List ℕ → List Row
rows_of world document = filter (λ (row : Row). is_same row.document document) world.rows

-- the bytes at addresses
abbrev pub text_at : World → List (List ℕ) → List ℕ
text_at world addresses = filter_map (byte_at world.bytes) addresses

-- ---- what is kept

-- two worlds have the same contents, and the same is published: all but who has what open, and the accounts
pub record HasContentsOf (one other : World) : Type 0 where
  pub documents : one.documents ≡ other.documents
  pub rows : one.rows ≡ other.rows
  pub bytes : one.bytes ≡ other.bytes
  pub links : one.links ≡ other.links
  pub published : one.published ≡ other.published

-- the kept entries alone build the contents that the whole history builds
abbrev pub KeepsContents : Type 0
KeepsContents = (history : List PlainEntry) → HasContentsOf (world_of (durable_entries history)) (world_of history)

-- what is kept once is kept at each later restart, and a restart adds nothing to keep
abbrev pub KeptAgain : Type 0
KeptAgain = (history : List PlainEntry) → durable_entries (recovered history) ≡ durable_entries history

-- ---- insert

-- All but the document's text is as it was: the rows that are none of it, in their order, the documents, the links,
-- what is published, the open documents and the accounts.
pub record LeavesAllBut (before : World) (document : List ℕ) (after : World) : Type 0 where
  pub others : filter (λ (row : Row). not (is_text_of document row)) after.rows ≡ filter (λ (row : Row). not (is_text_of document row)) before.rows
  pub same_documents : after.documents ≡ before.documents
  pub same_links : after.links ≡ before.links
  pub same_published : after.published ≡ before.published
  pub same_open_rows : after.open_rows ≡ before.open_rows
  pub same_accounts : after.accounts ≡ before.accounts

-- Text that comes in, at any place of any document, leaves all other rows.
-- Of content bytes there are the old ones and then the new ones.
abbrev pub InsertLeavesOthers : Type 0
InsertLeavesOthers = (world : World) (session : ℕ) (document : List ℕ) (at first : ℕ) (text : List ℕ)
    → LeavesAllBut world document (change_world world session (text_inserted document at first text))
    × ((change_world world session (text_inserted document at first text)).bytes ≡ world.bytes ++ new_bytes document first text)

-- text can come into the document at this place: before one of its rows, or at its end
pub record IsOpenPlace (world : World) (document : List ℕ) (at : ℕ) : Type 0 where
  pub numbered : TextIsNumbered world document
  pub from_one : 1 ≤ at
  pub to_end : at ≤ text_length world document + 1

-- the world after text came in
abbrev pub world_with : World → (document : List ℕ) (at first : ℕ) (text : List ℕ) → World
world_with world document at first text = change_world world 0 (text_inserted document at first text)

-- the rows before the place stay, then come the new ones, then the others, each moved up by the length of the text
abbrev pub InsertsRows : Type 0
InsertsRows = (world : World) (document : List ℕ) (at first : ℕ) (text : List ℕ) → IsOpenPlace world document at
    → text_rows (world_with world document at first text) document
    ≡ take (at - 1) (text_rows world document)
    ++ (new_rows document at (content_addresses document first (length text)) ++ map (up_by (length text)) (drop (at - 1) (text_rows world document)))

-- text that comes in at such a place leaves every document numbered that was
abbrev pub InsertsNumbered : Type 0
InsertsNumbered = (world : World) (document : List ℕ) (at first : ℕ) (text : List ℕ) → IsOpenPlace world document at
    → (other : List ℕ) → IsNumbered world other → IsNumbered (world_with world document at first text) other

-- none of the document's text rows shows one of the content bytes to come
abbrev pub ShowsNoneOf : World → (document : List ℕ) (first count : ℕ) → Type 0
ShowsNoneOf world document first count = All (λ (row : Row). (i : ℕ) → first ≤ i → i < first + count → row.address ≢ content_address document i) (text_rows world document)

-- The document then reads: the bytes before the place, the text, and the bytes from the place on.
abbrev pub RetrieveAfterInsert : Type 0
RetrieveAfterInsert = (world : World) (document : List ℕ) (at first : ℕ) (text : List ℕ) → IsOpenPlace world document at → ShowsNoneOf world document first (length text)
    → text_of (world_with world document at first text) (text_rows (world_with world document at first text) document)
    ≡ text_of world (take (at - 1) (text_rows world document)) ++ (text ++ text_of world (drop (at - 1) (text_rows world document)))

-- ---- copy

-- What the specs picked comes in at the place, between the rows before it and the others, which make room.
-- Documents that were numbered are again, and the content, the links and what is published are as they were.
pub record IsCopied (before : World) (document : List ℕ) (at : ℕ) (specs : List PlainSpec) (after : World) : Type 0 where
  pub text : text_rows after document
      ≡ take (at - 1) (text_rows before document)
      ++ (new_rows document at (picked_addresses before specs) ++ map (up_by (length (picked_addresses before specs))) (drop (at - 1) (text_rows before document)))
  pub reads : text_of after (text_rows after document)
      ≡ text_of before (take (at - 1) (text_rows before document)) ++ (text_at before (picked_addresses before specs) ++ text_of before (drop (at - 1) (text_rows before document)))
  pub numbered : (other : List ℕ) → IsNumbered before other → IsNumbered after other
  pub same_documents : after.documents ≡ before.documents
  pub same_bytes : after.bytes ≡ before.bytes
  pub same_links : after.links ≡ before.links
  pub same_published : after.published ≡ before.published

abbrev pub CopiesSpecs : Type 0
CopiesSpecs = (world : World) (session : ℕ) (document : List ℕ) (at : ℕ) (specs : List PlainSpec) → IsOpenPlace world document at
    → IsCopied world document at specs (change_world world session (specs_copied document at specs))

-- A copy, to any place of any document, leaves all other rows. The content bytes are as they were.
abbrev pub CopyLeavesOthers : Type 0
CopyLeavesOthers = (world : World) (session : ℕ) (document : List ℕ) (at : ℕ) (specs : List PlainSpec)
    → LeavesAllBut world document (change_world world session (specs_copied document at specs))
    × ((change_world world session (specs_copied document at specs)).bytes ≡ world.bytes)

-- ---- delete

-- the rows that the span does not pick
abbrev pub staying : Span → List Row → List Row
staying span rows = filter (λ (row : Row). not (picks span row)) rows

-- The document shows, in order, what the span did not pick, and where it was numbered it is again.
-- The rows of other documents, the content, the links and what is published are as they were.
pub record IsWithout (before : World) (document : List ℕ) (span : Span) (after : World) : Type 0 where
  pub text : addresses_of (text_rows after document) ≡ addresses_of (staying span (text_rows before document))
  pub links : addresses_of (link_rows after document) ≡ addresses_of (staying span (link_rows before document))
  pub reads : text_of after (text_rows after document) ≡ text_of before (staying span (text_rows before document))
  pub text_closes_up : TextIsNumbered before document → TextIsNumbered after document
  pub links_close_up : LinksAreNumbered before document → LinksAreNumbered after document
  pub others : (other : List ℕ) → is_same other document ≡ false → rows_of after other ≡ rows_of before other
  pub same_documents : after.documents ≡ before.documents
  pub same_bytes : after.bytes ≡ before.bytes
  pub same_links : after.links ≡ before.links
  pub same_published : after.published ≡ before.published

abbrev pub DeletesSpan : Type 0
DeletesSpan = (world : World) (session : ℕ) (document : List ℕ) (span : Span) → IsWithout world document span (change_world world session (span_deleted document span))

-- ---- version

-- The document has the rows of the source, text and links alike, each at its place and in their order.
-- The source and all other documents, the content, the links and what is published are as they were.
pub record IsVersion (before : World) (source document : List ℕ) (after : World) : Type 0 where
  pub text : text_rows after document ≡ map (moved_to document) (text_rows before source)
  pub links : link_rows after document ≡ map (moved_to document) (link_rows before source)
  pub reads : text_of after (text_rows after document) ≡ text_of before (text_rows before source)
  pub same_source : rows_of after source ≡ rows_of before source
  pub others : (other : List ℕ) → is_same other document ≡ false → rows_of after other ≡ rows_of before other
  pub comes_in : after.documents ≡ before.documents ++ document ∷ []
  pub same_bytes : after.bytes ≡ before.bytes
  pub same_links : after.links ≡ before.links
  pub same_published : after.published ≡ before.published

-- a version that comes in as a document that had no rows
abbrev pub VersionsRows : Type 0
VersionsRows = (world : World) (session : ℕ) (source document : List ℕ) → rows_of world document ≡ []
    → IsVersion world source document (change_world world session (version_made source document))
    × IsVersion world source document (change_world world session (copy_opened source document))

-- ---- rearrange

-- of a list that is numbered from 1 on, what stands from `low` up to, but without, `high`
abbrev pub between : {X : Type 0} → ℕ → ℕ → List X → List X
between low high xs = take (high - low) (drop (low - 1) xs)

-- the outer of three blocks in the other order
abbrev pub in_other_order : {X : Type 0} → Cuts → List X → List X
in_other_order cuts xs =
    take (cuts.first - 1) xs ++ (between cuts.third cuts.fourth xs ++ (between cuts.second cuts.third xs ++ (between cuts.first cuts.second xs ++ drop (cuts.fourth - 1) xs)))

-- the cuts are places of the document's text
pub record ArePlaces (world : World) (document : List ℕ) (cuts : Cuts) : Type 0 where
  pub numbered : TextIsNumbered world document
  pub from_one : 1 ≤ cuts.first
  pub to_end : cuts.fourth ≤ text_length world document + 1

-- The document's text is numbered again, and its blocks stand in the other order.
-- Its links, the rows of other documents, the content, the links and what is published are as they were.
pub record IsRearranged (before : World) (document : List ℕ) (cuts : Cuts) (after : World) : Type 0 where
  pub numbered : TextIsNumbered after document
  pub order : addresses_of (text_rows after document) ≡ addresses_of (in_other_order cuts (text_rows before document))
  pub reads : text_of after (text_rows after document) ≡ text_of before (in_other_order cuts (text_rows before document))
  pub links : link_rows after document ≡ link_rows before document
  pub others : (other : List ℕ) → is_same other document ≡ false → rows_of after other ≡ rows_of before other
  pub same_documents : after.documents ≡ before.documents
  pub same_bytes : after.bytes ≡ before.bytes
  pub same_links : after.links ≡ before.links
  pub same_published : after.published ≡ before.published

abbrev pub Rearranges : Type 0
Rearranges = (world : World) (session : ℕ) (document cuts : List ℕ) (bounds : Cuts) → cuts_of cuts ≡ Some bounds → ArePlaces world document bounds
    → IsRearranged world document bounds (change_world world session (blocks_swapped document cuts))

-- three cuts of a document's text, each not below the one before it
pub record AreThreeCuts (world : World) (document : List ℕ) (first second third : ℕ) : Type 0 where
  pub numbered : TextIsNumbered world document
  pub from_one : 1 ≤ first
  pub first_to_second : first ≤ second
  pub second_to_third : second ≤ third
  pub to_end : third ≤ text_length world document + 1

-- the world after the blocks between three cuts changed places
abbrev pub world_swapped : World → List ℕ → (first second third : ℕ) → World
world_swapped world document first second third = change_world world 0 (blocks_swapped document (first ∷ second ∷ third ∷ []))

-- where a block is empty, no text row of this document changes
abbrev pub EmptyBlockStays : Type 0
EmptyBlockStays = (world : World) (document : List ℕ) (first second third : ℕ) → AreThreeCuts world document first second third → (first ≡ second) ⊎ (second ≡ third)
    → text_rows (world_swapped world document first second third) document ≡ text_rows world document

-- the blocks change back by the cuts between them as they stand then
abbrev pub SwapsBack : Type 0
SwapsBack = (world : World) (document : List ℕ) (first second third : ℕ) → AreThreeCuts world document first second third
    → text_rows (world_swapped (world_swapped world document first second third) document first (first + (third - second)) third) document ≡ text_rows world document

-- ---- what is found

-- The second list has the same addresses as the first, and each is below those behind it, so each is there once.
pub record IsInOrder (addresses ordered : List (List ℕ)) : Type 0 where
  pub same : (address : List ℕ) → list_any (is_same address) ordered ≡ list_any (is_same address) addresses
  pub ascends : AllPairs (λ (address : List ℕ) (later : List ℕ). slice_cmp nat_cmp address later ≡ Less) ordered

-- what documents and ids that are found are put in
abbrev pub PutsInOrder : Type 0
PutsInOrder = (addresses : List (List ℕ)) → IsInOrder addresses (ascending addresses)

-- ---- histories

-- the change of a request that nothing refuses is placed
abbrev pub ServedIsPlaced : Type 0
ServedIsPlaced = (limits : LimitsView) (counted : ℕ) (world : World) (session : ℕ) (request : PlainRequest) (made : Effect)
    → wanted limits counted world session request ≡ None → effect world session request ≡ Some made → IsPlaced world made.change

-- what is kept of such a history is such a history too
abbrev pub RecoveredIsPlaced : Type 0
RecoveredIsPlaced = (history : List PlainEntry) → AllPlaced empty_world history → AllPlaced empty_world (recovered history)

-- such a history numbers each document's text rows, and its link rows, from 1 on, without gaps
abbrev pub NumberedWithoutGaps : Type 0
NumberedWithoutGaps = (history : List PlainEntry) → AllPlaced empty_world history → (document : List ℕ) → IsNumbered (world_of history) document

-- so text rows stand in the order of their places, of which no two are the same
abbrev pub TextInOrder : Type 0
TextInOrder = (history : List PlainEntry) → AllPlaced empty_world history → (document : List ℕ) → TextAscends (world_of history) document

-- after such a history each next document is one that is not there
abbrev pub NextIsNew : Type 0
NextIsNew = (history : List PlainEntry) → AllPlaced empty_world history → (front : List ℕ) → has_document (world_of history) (next_below (world_of history).documents front) ≡ false

-- each document is there once
abbrev pub DocumentsOnce : Type 0
DocumentsOnce = (history : List PlainEntry) → AllPlaced empty_world history → (document : List ℕ) → count_by (λ (d : List ℕ). is_same d document) (world_of history).documents ≤ 1

-- and no row is of a document that is not there
abbrev pub RowsHaveDocuments : Type 0
RowsHaveDocuments = (history : List PlainEntry) → AllPlaced empty_world history → (document : List ℕ) → has_document (world_of history) document ≡ false → rows_of (world_of history) document ≡ []

-- the links that were made in a document have its link addresses 1, 2, 3 and on, in the order in which they came
abbrev pub LinksNumbered : Type 0
LinksNumbered = (history : List PlainEntry) → AllPlaced empty_world history → (home : List ℕ)
    → map (λ (link : LinkRow). link.id) (filter (λ (link : LinkRow). is_same link.home home) (world_of history).links)
    ≡ map (link_address home) (numbers_from 1 (links_made_in (world_of history) home))

-- no two links have the same id
abbrev pub LinksOnce : Type 0
LinksOnce = (history : List PlainEntry) → AllPlaced empty_world history → AllPairs (λ (link : LinkRow) (later : LinkRow). link.id ≢ later.id) (world_of history).links

-- So the ids that are found, each once, are as many as the links.
abbrev pub IdsForLinks : Type 0
IdsForLinks = (history : List PlainEntry) → AllPlaced empty_world history → (session : ℕ) (want : PlainWant)
    → length (ids_found (world_of history) session want) ≡ length (links_found (world_of history) session want)

-- after such a history no text row of any document shows a content byte that is yet to come, of whatever document
abbrev pub ShowsWhatCame : Type 0
ShowsWhatCame = (history : List PlainEntry) → AllPlaced empty_world history → (shown document : List ℕ) (i : ℕ) → content_length (world_of history) document < i
    → All (λ (row : Row). row.address ≢ content_address document i) (text_rows (world_of history) shown)

-- so no document has a text row that shows one of its own content bytes that are yet to come
abbrev pub ShowsOwnContent : Type 0
ShowsOwnContent = (history : List PlainEntry) → AllPlaced empty_world history → (document : List ℕ) (count : ℕ)
    → ShowsNoneOf (world_of history) document (content_length (world_of history) document + 1) count

-- So in the world of such a history text that comes in reads at its place, between what was before it and what was after it.
abbrev pub InsertedReads : Type 0
InsertedReads = (history : List PlainEntry) → AllPlaced empty_world history → (document : List ℕ) (at first : ℕ) (text : List ℕ) → ComesInAt (world_of history) document at first
    → text_of (world_with (world_of history) document at first text) (text_rows (world_with (world_of history) document at first text) document)
    ≡ text_of (world_of history) (take (at - 1) (text_rows (world_of history) document)) ++ (text ++ text_of (world_of history) (drop (at - 1) (text_rows (world_of history) document)))
