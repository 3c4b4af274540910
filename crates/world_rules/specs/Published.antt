-- Who may read what after a history, and that nothing but a publish opens a document to others.
use Rattle.std.specs.Prelude.{◌≡◌, ◌⊎◌, ◌↔◌, ℕ, Bool, true, false, List, Some}
use Rattle.std.specs.List.{list_any}
use Rattle.tumbler.specs.Address.{IsDocumentOf}
use Rattle.febe_data.specs.Plain.{PlainChange, PlainEntry, document_published}
use Rattle.world_rules.specs.World.{World, empty_world, is_same, next_below, account_of_session}
use Rattle.world_rules.specs.Readable.{is_published, is_readable}
use Rattle.world_rules.specs.Apply.{world_of}
use Rattle.world_rules.specs.Placed.{AllPlaced}

-- after a history of placed changes a session may read a document exactly where that is published or of the account
-- that the session has set
abbrev pub ReadsByAccount : Type 0
ReadsByAccount = (history : List PlainEntry) → AllPlaced empty_world history → (session : ℕ) (document owner : List ℕ) → IsDocumentOf document owner
    → (is_readable (world_of history) session document ≡ true) ↔ ((is_published (world_of history) document ≡ true) ⊎ (account_of_session (world_of history) session ≡ Some owner))

-- the change publishes the document
abbrev pub publishes_by : List ℕ → PlainChange → Bool
publishes_by document (document_published marked) = is_same marked document
publishes_by document other = false

abbrev pub publishes : List ℕ → PlainEntry → Bool
publishes document entry = publishes_by document entry.change

-- a document is published exactly where some entry of the history published it, and there is no way back
abbrev pub PublishedByEntry : Type 0
PublishedByEntry = (history : List PlainEntry) (document : List ℕ) → is_published (world_of history) document ≡ list_any (publishes document) history

-- after a history of placed changes a document that is yet to come is not published, so versions are not either
abbrev pub NewIsPrivate : Type 0
NewIsPrivate = (history : List PlainEntry) → AllPlaced empty_world history → (front : List ℕ) → is_published (world_of history) (next_below (world_of history).documents front) ≡ false
