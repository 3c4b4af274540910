-- Whose documents are.
use Rattle.std.specs.Prelude.{◌≡◌, ◌↔◌, ℕ, true, List, Some, IfSome, IsTrue}
use Rattle.tumbler.specs.Address.{IsAccount, IsDocument, IsDocumentOf}
use Rattle.febe_data.specs.Plain.{PlainEntry}
use Rattle.world_rules.specs.World.{empty_world, has_document, is_of_account, account_of_session}
use Rattle.world_rules.specs.Apply.{world_of}
use Rattle.world_rules.specs.Readable.{owns}
use Rattle.world_rules.specs.Placed.{AllPlaced}

-- a document's address begins with one account alone, so the document is of an account exactly where that is its account
abbrev pub OfItsAccount : Type 0
OfItsAccount = (account document owner : List ℕ) → IsAccount account → IsDocumentOf document owner → (is_of_account account document ≡ true) ↔ (account ≡ owner)

-- after a history of placed changes the account that a session has set is an account's address
abbrev pub SetsAccounts : Type 0
SetsAccounts = (history : List PlainEntry) → AllPlaced empty_world history → (session : ℕ) → IfSome (account_of_session (world_of history) session) IsAccount

-- so a session has a document for its own exactly where it has set the document's account
abbrev pub OwnsByAccount : Type 0
OwnsByAccount = (history : List PlainEntry) → AllPlaced empty_world history → (session : ℕ) (document owner : List ℕ) → IsDocumentOf document owner
    → (owns (world_of history) session document ≡ true) ↔ (account_of_session (world_of history) session ≡ Some owner)

-- each document that is there has a document's address, so it has such an account
abbrev pub DocumentsAreAddresses : Type 0
DocumentsAreAddresses = (history : List PlainEntry) → AllPlaced empty_world history → (document : List ℕ) → IsTrue (has_document (world_of history) document) → IsDocument document
