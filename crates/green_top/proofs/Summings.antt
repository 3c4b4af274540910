-- What is counted for a summary.
use Rattle.std.proofs.Common.{◌≡◌, ℕ, ◌+◌, ◌<◌, ◌≤◌, List, [], ◌∷◌, ◌++◌, length, take, get_or, Some, None, Option, refl, ap, ◌∙◌, sym, arith, codes}
use Rattle.std.proofs.lemmas.List.{map_more, length_push, take_more}
use Rattle.std.proofs.lemmas.Grind.{fold-append}
use Rattle.std.specs.List.{flat_map}
use Rattle.febe_data.specs.declared.entry.Entry.{Entry}
use Rattle.febe_data.specs.Plain.{PlainChange, PlainReply, plain_change, plain_entry, plain_history, restarted, began, ended, account_changed, document_opened, document_closed, document_created, version_made, copy_opened, text_inserted, span_deleted, blocks_swapped, specs_copied, link_made, document_published}
use Rattle.world_rules.specs.declared.cuts.Cuts.{Cuts}
use Rattle.world_rules.specs.Edits.{cuts_of}
use Rattle.world_rules.specs.World.{World, empty_world}
use Rattle.world_rules.specs.Apply.{change_world, apply, world_of, with_swapped}
use Rattle.febe_reply.specs.ReplyGrammar.{spell_reply}
use Rattle.green_top.specs.Summary.{sum_after, replies_sum, refusals_in, summary_line, summary_lines, summary_of}
use Rattle.green_top.specs.inside.Summing.{documents_by, links_by}

plus-zero : (n : ℕ) → n + 0 ≡ n
plus-zero n = omega arith

-- ---- documents and links, one change after another

swapped_documents : (world : World) (document : List ℕ) (cuts : Option Cuts) → length (with_swapped world document cuts).documents ≡ length world.documents
swapped_documents world document (Some cuts) = refl
swapped_documents world document None = refl

swapped_links : (world : World) (document : List ℕ) (cuts : Option Cuts) → length (with_swapped world document cuts).links ≡ length world.links
swapped_links world document (Some cuts) = refl
swapped_links world document None = refl

documents_more : (world : World) (session : ℕ) (change : PlainChange) → length (change_world world session change).documents ≡ length world.documents + documents_by change
documents_more world session restarted = sym (plus-zero (length world.documents))
documents_more world session began = sym (plus-zero (length world.documents))
documents_more world session ended = sym (plus-zero (length world.documents))
documents_more world session (account_changed account) = sym (plus-zero (length world.documents))
documents_more world session (document_opened document mode) = sym (plus-zero (length world.documents))
documents_more world session (document_closed document) = sym (plus-zero (length world.documents))
documents_more world session (document_created document) = length_push world.documents _
documents_more world session (version_made source document) = length_push world.documents _
documents_more world session (copy_opened source document) = length_push world.documents _
documents_more world session (text_inserted document at first text) = sym (plus-zero (length world.documents))
documents_more world session (span_deleted document span) = sym (plus-zero (length world.documents))
documents_more world session (blocks_swapped document cuts) = swapped_documents world document (cuts_of cuts) ∙ sym (plus-zero (length world.documents))
documents_more world session (specs_copied document at specs) = sym (plus-zero (length world.documents))
documents_more world session (link_made home number place from to three) = sym (plus-zero (length world.documents))
documents_more world session (document_published document) = sym (plus-zero (length world.documents))

links_more : (world : World) (session : ℕ) (change : PlainChange) → length (change_world world session change).links ≡ length world.links + links_by change
links_more world session restarted = sym (plus-zero (length world.links))
links_more world session began = sym (plus-zero (length world.links))
links_more world session ended = sym (plus-zero (length world.links))
links_more world session (account_changed account) = sym (plus-zero (length world.links))
links_more world session (document_opened document mode) = sym (plus-zero (length world.links))
links_more world session (document_closed document) = sym (plus-zero (length world.links))
links_more world session (document_created document) = sym (plus-zero (length world.links))
links_more world session (version_made source document) = sym (plus-zero (length world.links))
links_more world session (copy_opened source document) = sym (plus-zero (length world.links))
links_more world session (text_inserted document at first text) = sym (plus-zero (length world.links))
links_more world session (span_deleted document span) = sym (plus-zero (length world.links))
links_more world session (blocks_swapped document cuts) = swapped_links world document (cuts_of cuts) ∙ sym (plus-zero (length world.links))
links_more world session (specs_copied document at specs) = sym (plus-zero (length world.links))
links_more world session (link_made home number place from to three) = length_push world.links _
links_more world session (document_published document) = sym (plus-zero (length world.links))

world_more : (entries : List Entry) (i : ℕ) (entry : Entry) → i < length entries → entry ≡ get_or entries i entry → world_of (plain_history (take (i + 1) entries)) ≡ apply (world_of (plain_history (take i entries))) (plain_entry entry)
world_more entries i entry lt is =
    ap world_of (map_more plain_entry entries i entry lt)
    ∙ fold-append apply empty_world (plain_history (take i entries)) (plain_entry (get_or entries i entry) ∷ [])
    ∙ ap (λ (e : Entry). apply (world_of (plain_history (take i entries))) (plain_entry e)) (sym is)

pub documents_up_to : (entries : List Entry) (i : ℕ) (entry : Entry) (count : ℕ) → i < length entries → entry ≡ get_or entries i entry → count ≡ length (world_of (plain_history (take i entries))).documents
    → count + documents_by (plain_change entry.change) ≡ length (world_of (plain_history (take (i + 1) entries))).documents
documents_up_to entries i entry count lt is counted =
    ap (λ (n : ℕ). n + documents_by (plain_change entry.change)) counted
    ∙ sym (ap (λ (world : World). length world.documents) (world_more entries i entry lt is) ∙ documents_more (world_of (plain_history (take i entries))) entry.session (plain_change entry.change))

pub links_up_to : (entries : List Entry) (i : ℕ) (entry : Entry) (count : ℕ) → i < length entries → entry ≡ get_or entries i entry → count ≡ length (world_of (plain_history (take i entries))).links
    → count + links_by (plain_change entry.change) ≡ length (world_of (plain_history (take (i + 1) entries))).links
links_up_to entries i entry count lt is counted =
    ap (λ (n : ℕ). n + links_by (plain_change entry.change)) counted
    ∙ sym (ap (λ (world : World). length world.links) (world_more entries i entry lt is) ∙ links_more (world_of (plain_history (take i entries))) entry.session (plain_change entry.change))

-- no change makes more than one
pub one_document : (change : PlainChange) → documents_by change ≤ 1
one_document restarted = omega arith
one_document began = omega arith
one_document ended = omega arith
one_document (account_changed account) = omega arith
one_document (document_opened document mode) = omega arith
one_document (document_closed document) = omega arith
one_document (document_created document) = omega arith
one_document (version_made source document) = omega arith
one_document (copy_opened source document) = omega arith
one_document (text_inserted document at first text) = omega arith
one_document (span_deleted document span) = omega arith
one_document (blocks_swapped document cuts) = omega arith
one_document (specs_copied document at specs) = omega arith
one_document (link_made home number place from to three) = omega arith
one_document (document_published document) = omega arith

pub one_link : (change : PlainChange) → links_by change ≤ 1
one_link restarted = omega arith
one_link began = omega arith
one_link ended = omega arith
one_link (account_changed account) = omega arith
one_link (document_opened document mode) = omega arith
one_link (document_closed document) = omega arith
one_link (document_created document) = omega arith
one_link (version_made source document) = omega arith
one_link (copy_opened source document) = omega arith
one_link (text_inserted document at first text) = omega arith
one_link (span_deleted document span) = omega arith
one_link (blocks_swapped document cuts) = omega arith
one_link (specs_copied document at specs) = omega arith
one_link (link_made home number place from to three) = omega arith
one_link (document_published document) = omega arith

-- ---- the sum

pub sum_more : (bytes : List ℕ) (i : ℕ) (byte : ℕ) → i < length bytes → byte ≡ get_or bytes i byte → replies_sum (take (i + 1) bytes) ≡ sum_after (replies_sum (take i bytes)) byte
sum_more bytes i byte lt is =
    ap replies_sum (take_more bytes i byte lt)
    ∙ fold-append sum_after 0 (take i bytes) (get_or bytes i byte ∷ [])
    ∙ ap (sum_after (replies_sum (take i bytes))) (sym is)

-- ---- the lines

-- a text with a line more
abbrev with_line : List ℕ → (name : List ℕ) → ℕ → List ℕ
with_line text name number = text ++ summary_line name number

pub summary_is : (start : ℕ) (told : List PlainReply) (world : World) (refusals documents bytes links sum : ℕ) (o₀ o₁ o₂ o₃ o₄ o₅ o₆ o₇ : List ℕ)
    → refusals ≡ refusals_in told → documents ≡ length world.documents → bytes ≡ length world.bytes → links ≡ length world.links → sum ≡ replies_sum (flat_map spell_reply told)
    → o₀ ≡ [] → o₁ ≡ with_line o₀ (codes "start") start → o₂ ≡ with_line o₁ (codes "requests") 2010 → o₃ ≡ with_line o₂ (codes "refused") refusals → o₄ ≡ with_line o₃ (codes "documents") documents
    → o₅ ≡ with_line o₄ (codes "bytes") bytes → o₆ ≡ with_line o₅ (codes "links") links → o₇ ≡ with_line o₆ (codes "replies") sum → o₇ ≡ summary_of start told world
summary_is start told world refusals documents bytes links sum o₀ o₁ o₂ o₃ o₄ o₅ o₆ o₇ r d b l s e₀ e₁ e₂ e₃ e₄ e₅ e₆ e₇ =
    let f₁ = e₁ ∙ ap (λ (o : List ℕ). with_line o (codes "start") start) e₀ in
    let f₂ = e₂ ∙ ap (λ (o : List ℕ). with_line o (codes "requests") 2010) f₁ in
    let f₃ = e₃ ∙ ap (λ (o : List ℕ). with_line o (codes "refused") refusals) f₂ in
    let f₄ = e₄ ∙ ap (λ (o : List ℕ). with_line o (codes "documents") documents) f₃ in
    let f₅ = e₅ ∙ ap (λ (o : List ℕ). with_line o (codes "bytes") bytes) f₄ in
    let f₆ = e₆ ∙ ap (λ (o : List ℕ). with_line o (codes "links") links) f₅ in
    e₇ ∙ ap (λ (o : List ℕ). with_line o (codes "replies") sum) f₆
    ∙ ap (λ (n : ℕ). summary_lines start n documents bytes links sum) r
    ∙ ap (λ (n : ℕ). summary_lines start (refusals_in told) n bytes links sum) d
    ∙ ap (λ (n : ℕ). summary_lines start (refusals_in told) (length world.documents) n links sum) b
    ∙ ap (λ (n : ℕ). summary_lines start (refusals_in told) (length world.documents) (length world.bytes) n sum) l
    ∙ ap (λ (n : ℕ). summary_lines start (refusals_in told) (length world.documents) (length world.bytes) (length world.links) n) s
