-- Documents have documents' addresses.
use Rattle.std.proofs.Common.{◌≡◌, ◌⊎◌, inl, inr, ℕ, ◌+◌, ◌<◌, ◌∙◌, true, List, [], ◌∷◌, ◌++◌, length, Option, Some, None, All, ap, sym, subst, arith, append_assoc}
use Rattle.std.specs.Prelude.{count_by}
use Rattle.std.specs.List.{fold, list_any}
use Rattle.std.specs.Cmp.Lexicographic.{bytes_decides}
use Rattle.std.proofs.lemmas.Bool.{true≢false, or_cases}
use Rattle.std.proofs.lemmas.List.{length-append}
use Rattle.std.proofs.lemmas.List.Elements.{All-nil, All-cons, All-head, All-tail, All-append}
use Rattle.tumbler.specs.Address.{IsField, IsAccount, IsDocument, IsDocumentOf}
use Rattle.febe_data.specs.Plain.{PlainEntry, PlainChange, restarted, began, ended, account_changed, document_opened, document_closed, document_created, version_made, copy_opened, text_inserted, span_deleted, blocks_swapped, specs_copied, link_made, document_published}
use Rattle.world_rules.specs.World.{World, empty_world, is_same, is_child_of}
use Rattle.world_rules.specs.Edits.{Cuts, cuts_of}
use Rattle.world_rules.specs.Apply.{apply, change_world, world_of, with_swapped}
use Rattle.world_rules.specs.Placed.{IsAccountFront, IsSource, IsNext, IsPlaced, AllPlaced}
use Rattle.world_rules.specs.Accounts.{DocumentsAreAddresses}
use Rattle.world_rules.proofs.Accounts.{HasAccount, AllAccounts, change_accounts, known_account}

abbrev AllDocuments : World → Type 0
AllDocuments world = All IsDocument world.documents

-- ---- one of them

one_step : (documents : List (List ℕ)) (d document : List ℕ) → IsDocument d → (list_any (λ (x : List ℕ). is_same x document) documents ≡ true → IsDocument document)
    → (is_same d document ≡ true) ⊎ (list_any (λ (x : List ℕ). is_same x document) documents ≡ true) → IsDocument document
one_step documents d document here rest (inl e) = subst IsDocument ((bytes_decides d document).0 e) here
one_step documents d document here rest (inr e) = rest e

one_document : (documents : List (List ℕ)) (document : List ℕ) → All IsDocument documents → list_any (λ (x : List ℕ). is_same x document) documents ≡ true → IsDocument document
one_document [] document all e = absurd (true≢false (sym e))
one_document (d ∷ documents) document all e =
    one_step documents d document (All-head IsDocument d documents all) (one_document documents document (All-tail IsDocument d documents all)) (or_cases (is_same d document) (list_any (λ (x : List ℕ). is_same x document) documents) e)

-- ---- the next one

abbrev Above : ℕ → Type 0
Above p = 0 < p

-- the next document of an account
below_account : (account : List ℕ) (n : ℕ) → 0 < n → IsAccount account → IsDocumentOf ((account ++ 0 ∷ []) ++ n ∷ []) account
below_account account n above is = record {
  field = n ∷ [];
  parts = append_assoc account (0 ∷ []) (n ∷ []);
  account_address = is;
  document_field = record { filled = omega arith; full = All-cons Above n [] above (All-nil Above) };
  short = omega (arith, is.short, length-append (account ++ 0 ∷ []) (n ∷ []), length-append account (0 ∷ []));
}

-- the next version of a document
below_document : (source : List ℕ) (n : ℕ) → 0 < n → length source < 20 → IsDocument source → IsDocument (source ++ n ∷ [])
below_document source n above room is =
    let of : IsDocumentOf source is.0 = is.1 in
    let field : IsField of.field = of.document_field in (
      is.0,
      record {
        field = of.field ++ n ∷ [];
        parts = ap (λ (x : List ℕ). x ++ n ∷ []) of.parts ∙ append_assoc is.0 (0 ∷ of.field) (n ∷ []);
        account_address = of.account_address;
        document_field = record {
          filled = omega (arith, field.filled, length-append of.field (n ∷ []));
          full = All-append Above of.field (n ∷ []) field.full (All-cons Above n [] above (All-nil Above));
        };
        short = omega (arith, length-append source (n ∷ []));
      },
    )

below_front : (world : World) (front : List ℕ) (n : ℕ) → 0 < n → AllAccounts world → AllDocuments world → IsAccountFront world front ⊎ IsSource world front → IsDocument (front ++ n ∷ [])
below_front world front n above accounts documents (inl of) =
    (of.account, subst (λ (x : List ℕ). IsDocumentOf (x ++ n ∷ []) of.account) (sym of.parts) (below_account of.account n above (known_account world of.account accounts of.known)))
below_front world front n above accounts documents (inr source) = below_document front n above source.room (one_document world.documents front documents source.there)

next_push : (world : World) (document : List ℕ) → IsNext world document → AllAccounts world → AllDocuments world → All IsDocument (world.documents ++ document ∷ [])
next_push world document next accounts documents =
    let is : IsDocument (next.front ++ (count_by (is_child_of next.front) world.documents + 1) ∷ []) = below_front world next.front (count_by (is_child_of next.front) world.documents + 1) (omega arith) accounts documents next.is_front in
    All-append IsDocument world.documents (document ∷ []) documents (All-cons IsDocument document [] (subst IsDocument (sym next.is_next) is) (All-nil IsDocument))

-- ---- along a history

swapped_documents : (world : World) (document : List ℕ) (cuts : Option Cuts) → AllDocuments world → AllDocuments (with_swapped world document cuts)
swapped_documents world document (Some cuts) all = all
swapped_documents world document None all = all

change_documents : (world : World) (session : ℕ) (change : PlainChange) → IsPlaced world change → AllAccounts world → AllDocuments world → AllDocuments (change_world world session change)
change_documents world session restarted placed accounts all = all
change_documents world session began placed accounts all = all
change_documents world session ended placed accounts all = all
change_documents world session (account_changed account) placed accounts all = all
change_documents world session (document_opened document mode) placed accounts all = all
change_documents world session (document_closed document) placed accounts all = all
change_documents world session (document_created document) placed accounts all = next_push world document placed accounts all
change_documents world session (version_made source document) placed accounts all = next_push world document placed accounts all
change_documents world session (copy_opened source document) placed accounts all = next_push world document placed accounts all
change_documents world session (text_inserted document at first text) placed accounts all = all
change_documents world session (span_deleted document span) placed accounts all = all
change_documents world session (blocks_swapped document cuts) placed accounts all = swapped_documents world document (cuts_of cuts) all
change_documents world session (specs_copied document at specs) placed accounts all = all
change_documents world session (link_made home number place from to three) placed accounts all = all
change_documents world session (document_published document) placed accounts all = all

documents_along : (history : List PlainEntry) (world : World) → AllPlaced world history → AllAccounts world → AllDocuments world → AllDocuments (fold apply world history)
documents_along [] world placed accounts all = all
documents_along (entry ∷ history) world placed accounts all =
    documents_along history (apply world entry) placed.1 (change_accounts world entry.session entry.change placed.0 accounts) (change_documents world entry.session entry.change placed.0 accounts all)

pub documents_are_addresses : DocumentsAreAddresses
documents_are_addresses history placed document there =
    one_document (world_of history).documents document (documents_along history empty_world placed (All-nil HasAccount) (All-nil IsDocument)) there
