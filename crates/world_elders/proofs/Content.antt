-- The bytes of each document's content are numbered as they come.
use Rattle.std.proofs.Common.{◌≡◌, ℕ, ◌+◌, ◌∙◌, Bool, true, false, cond, List, [], ◌∷◌, ◌++◌, length, map, ap, sym, refl, subst, arith, length-append}
use Rattle.std.specs.Prelude.{filter, Option, Some, None}
use Rattle.std.specs.List.{fold}
use Rattle.std.specs.Cmp.Lexicographic.{bytes_decides}
use Rattle.std.proofs.lemmas.List.{map-append, length-map}
use Rattle.std.proofs.lemmas.List.Elements.{filter-append}
use Rattle.std.proofs.lemmas.List.Sums.{length-filter}
use Rattle.febe_data.specs.Plain.{PlainEntry, PlainChange, restarted, began, ended, account_changed, document_opened, document_closed, document_created, version_made, copy_opened, text_inserted, span_deleted, blocks_swapped, specs_copied, link_made, document_published}
use Rattle.world_rules.specs.declared.rows.ByteRow.{ByteRow}
use Rattle.world_rules.specs.declared.cuts.Cuts.{Cuts}
use Rattle.world_rules.specs.World.{World, empty_world, is_same, is_child_of, content_address, content_length_of}
use Rattle.world_rules.specs.Edits.{cuts_of, new_bytes}
use Rattle.world_rules.specs.Apply.{apply, change_world, with_swapped}
use Rattle.world_rules.specs.Placed.{IsPlaced, AllPlaced}
use Rattle.world_rules.specs.Laws.{numbers_from}
use Rattle.world_elders.specs.Whole.{addresses_of_content}
use Rattle.world_elders.specs.Laws.{NumbersContent}
use Rattle.world_elders.proofs.Addresses.{is_content_of, not_content_of, numbers_parts, numbers_long}

-- ---- the content bytes of a document

abbrev is_content : List ℕ → ByteRow → Bool
is_content document b = is_child_of (document ++ 0 ∷ 1 ∷ []) b.address

content_append : (document : List ℕ) (bytes more : List ByteRow) → addresses_of_content (bytes ++ more) document ≡ addresses_of_content bytes document ++ addresses_of_content more document
content_append document bytes more =
    ap (map (λ (b : ByteRow). b.address)) (filter-append (is_content document) bytes more)
    ∙ map-append (λ (b : ByteRow). b.address) (filter (is_content document) bytes) (filter (is_content document) more)

content_long : (document : List ℕ) (bytes : List ByteRow) → length (addresses_of_content bytes document) ≡ content_length_of bytes document
content_long document bytes = length-map (filter (is_content document) bytes) (λ (b : ByteRow). b.address) ∙ length-filter (is_content document) bytes

-- more bytes are more content
pub length_append : (document : List ℕ) (bytes more : List ByteRow) → content_length_of (bytes ++ more) document ≡ content_length_of bytes document + length (addresses_of_content more document)
length_append document bytes more =
    sym (content_long document (bytes ++ more))
    ∙ ap length (content_append document bytes more)
    ∙ length-append (addresses_of_content bytes document) (addresses_of_content more document)
    ∙ ap (λ (n : ℕ). n + length (addresses_of_content more document)) (content_long document bytes)

-- ---- new bytes

first_new : (document : List ℕ) (first b : ℕ) (more : List ByteRow) (other : List ℕ) (is : Bool) → is_child_of (other ++ 0 ∷ 1 ∷ []) (content_address document first) ≡ is
    → addresses_of_content (record { address = content_address document first; byte = b } ∷ more) other ≡ cond is (content_address document first ∷ addresses_of_content more other) (addresses_of_content more other)
first_new document first b more other true e = rw e refl
first_new document first b more other false e = rw e refl

own_new : (document : List ℕ) (first : ℕ) (text : List ℕ) → addresses_of_content (new_bytes document first text) document ≡ map (content_address document) (numbers_from first (length text))
own_new document first [] = refl
own_new document first (b ∷ text) =
    first_new document first b (new_bytes document (first + 1) text) document true (is_content_of document first)
    ∙ ap (λ (addresses : List (List ℕ)). content_address document first ∷ addresses) (own_new document (first + 1) text)

pub own_long : (document : List ℕ) (first : ℕ) (text : List ℕ) → length (addresses_of_content (new_bytes document first text) document) ≡ length text
own_long document first text =
    ap length (own_new document first text) ∙ length-map (numbers_from first (length text)) (content_address document) ∙ numbers_long first (length text)

none_new : (document : List ℕ) (first : ℕ) (text other : List ℕ) → is_same other document ≡ false → addresses_of_content (new_bytes document first text) other ≡ []
none_new document first [] other differs = refl
none_new document first (b ∷ text) other differs =
    first_new document first b (new_bytes document (first + 1) text) other false (not_content_of document other first differs) ∙ none_new document (first + 1) text other differs

-- ---- bytes that are numbered

abbrev AreNumbered : List ByteRow → Type 0
AreNumbered bytes = (document : List ℕ) → addresses_of_content bytes document ≡ map (content_address document) (numbers_from 1 (content_length_of bytes document))

-- more bytes, with the next numbers of this document
numbered_more : (bytes more : List ByteRow) (document : List ℕ) (k : ℕ) → AreNumbered bytes
    → addresses_of_content more document ≡ map (content_address document) (numbers_from (1 + content_length_of bytes document) k)
    → addresses_of_content (bytes ++ more) document ≡ map (content_address document) (numbers_from 1 (content_length_of (bytes ++ more) document))
numbered_more bytes more document k numbered new =
    let c : ℕ = content_length_of bytes document in
    let long : length (addresses_of_content more document) ≡ k =
    ap length new ∙ length-map (numbers_from (1 + content_length_of bytes document) k) (content_address document) ∙ numbers_long (1 + content_length_of bytes document) k in
    let all : content_length_of bytes document + k ≡ content_length_of (bytes ++ more) document = omega (arith, length_append document bytes more) in
    content_append document bytes more
    ∙ (λ i. numbered document i ++ new i)
    ∙ sym (map-append (content_address document) (numbers_from 1 c) (numbers_from (1 + c) k))
    ∙ ap (map (content_address document)) (sym (numbers_parts 1 c k))
    ∙ ap (λ (n : ℕ). map (content_address document) (numbers_from 1 n)) all

numbered_step : (bytes : List ByteRow) (document : List ℕ) (first : ℕ) (text other : List ℕ) (same : Bool) → is_same other document ≡ same → first ≡ content_length_of bytes document + 1 → AreNumbered bytes
    → addresses_of_content (bytes ++ new_bytes document first text) other ≡ map (content_address other) (numbers_from 1 (content_length_of (bytes ++ new_bytes document first text) other))
numbered_step bytes document first text other true e next numbered =
    let is : other ≡ document = (bytes_decides other document).0 e in
    let begins : first ≡ 1 + content_length_of bytes document = omega arith in
    subst (λ (d : List ℕ). addresses_of_content (bytes ++ new_bytes document first text) d ≡ map (content_address d) (numbers_from 1 (content_length_of (bytes ++ new_bytes document first text) d))) (sym is)
    (numbered_more bytes (new_bytes document first text) document (length text) numbered
    (own_new document first text ∙ ap (λ (n : ℕ). map (content_address document) (numbers_from n (length text))) begins))
numbered_step bytes document first text other false e next numbered = numbered_more bytes (new_bytes document first text) other 0 numbered (none_new document first text other e)

-- ---- along a history

swapped : (world : World) (document : List ℕ) (cuts : Option Cuts) → AreNumbered world.bytes → AreNumbered (with_swapped world document cuts).bytes
swapped world document (Some cuts) numbered = numbered
swapped world document None numbered = numbered

change_numbers : (world : World) (session : ℕ) (change : PlainChange) → IsPlaced world change → AreNumbered world.bytes → AreNumbered (change_world world session change).bytes
change_numbers world session restarted placed numbered = numbered
change_numbers world session began placed numbered = numbered
change_numbers world session ended placed numbered = numbered
change_numbers world session (account_changed account) placed numbered = numbered
change_numbers world session (document_opened document mode) placed numbered = numbered
change_numbers world session (document_closed document) placed numbered = numbered
change_numbers world session (document_created document) placed numbered = numbered
change_numbers world session (version_made source document) placed numbered = numbered
change_numbers world session (copy_opened source document) placed numbered = numbered
change_numbers world session (text_inserted document at first text) placed numbered = λ other. numbered_step world.bytes document first text other (is_same other document) refl placed.is_next numbered
change_numbers world session (span_deleted document span) placed numbered = numbered
change_numbers world session (blocks_swapped document cuts) placed numbered = swapped world document (cuts_of cuts) numbered
change_numbers world session (specs_copied document at specs) placed numbered = numbered
change_numbers world session (link_made home number place from to three) placed numbered = numbered
change_numbers world session (document_published document) placed numbered = numbered

numbers_along : (history : List PlainEntry) (world : World) → AllPlaced world history → AreNumbered world.bytes → AreNumbered (fold apply world history).bytes
numbers_along [] world placed numbered = numbered
numbers_along (entry ∷ history) world placed numbered = numbers_along history (apply world entry) placed.1 (change_numbers world entry.session entry.change placed.0 numbered)

pub numbers_content : NumbersContent
numbers_content history placed = numbers_along history empty_world placed (λ document. refl)
