-- Changes that make new documents, and come in or move at places that are there.
use Rattle.std.specs.Prelude.{◌≡◌, ◌⊎◌, ℕ, ◌+◌, ◌<◌, ◌≤◌, true, List, [], ◌∷◌, ◌++◌, length, ⊤, IsTrue, Some}
use Rattle.std.specs.List.{list_any}
use Rattle.tumbler.specs.Address.{IsAccount}
use Rattle.febe_data.specs.Plain.{PlainEntry, PlainChange, account_changed, document_created, version_made, copy_opened, text_inserted, blocks_swapped, specs_copied, link_made, document_published}
use Rattle.world_rules.specs.declared.rows.AccountRow.{AccountRow}
use Rattle.world_rules.specs.World.{World, is_same, has_document, next_below, text_length, content_length, links_made_in, link_length}
use Rattle.world_rules.specs.Edits.{Cuts, cuts_of}
use Rattle.world_rules.specs.Apply.{apply}

-- the account is one that a session has set, or an account's address; the first is the second, by the law `sets_accounts`
abbrev pub IsKnownAccount : World → List ℕ → Type 0
IsKnownAccount world account = (list_any (λ (row : AccountRow). is_same row.account account) world.accounts ≡ true) ⊎ IsAccount account

-- documents of the account are below the front
pub record IsAccountFront (world : World) (front : List ℕ) : Type 0 where
  pub account : List ℕ
  pub parts : front ≡ account ++ 0 ∷ []
  pub known : IsKnownAccount world account

-- versions of a document that is there are, and an address has room for one place more
pub record IsSource (world : World) (front : List ℕ) : Type 0 where
  pub there : IsTrue (has_document world front)
  pub room : length front < 20

-- the document is the next one of an account, or the next version of a document
pub record IsNext (world : World) (document : List ℕ) : Type 0 where
  pub front : List ℕ
  pub is_front : IsAccountFront world front ⊎ IsSource world front
  pub is_next : document ≡ next_below world.documents front

-- text comes in between 1 and one more than the document's length, and its bytes are the document's next ones
pub record ComesInAt (world : World) (document : List ℕ) (at first : ℕ) : Type 0 where
  pub there : IsTrue (has_document world document)
  pub from_one : 1 ≤ at
  pub to_end : at ≤ text_length world document + 1
  pub is_next : first ≡ content_length world document + 1

-- copied rows come in at such a place
pub record IsCopiedTo (world : World) (document : List ℕ) (at : ℕ) : Type 0 where
  pub there : IsTrue (has_document world document)
  pub from_one : 1 ≤ at
  pub to_end : at ≤ text_length world document + 1

-- cuts are cuts, at such places
pub record IsCutAt (world : World) (document cuts : List ℕ) : Type 0 where
  pub bounds : Cuts
  pub are_cuts : cuts_of cuts ≡ Some bounds
  pub from_one : 1 ≤ bounds.first
  pub to_end : bounds.fourth ≤ text_length world document + 1

-- a link has the next number of the links that were made in its home, and comes in at the end of the home's link rows
pub record IsLinkedAt (world : World) (home : List ℕ) (number place : ℕ) : Type 0 where
  pub there : IsTrue (has_document world home)
  pub is_next : number ≡ links_made_in world home + 1
  pub at_end : place ≡ link_length world home + 1

-- Documents are new, content bytes and links have the next numbers, what comes in or moves does so at places that are
-- there, accounts are accounts' addresses, and what is published is there. Other changes may be any.
abbrev pub IsPlaced : World → PlainChange → Type 0
IsPlaced world (document_created document) = IsNext world document
IsPlaced world (version_made source document) = IsNext world document
IsPlaced world (copy_opened source document) = IsNext world document
IsPlaced world (text_inserted document at first text) = ComesInAt world document at first
IsPlaced world (blocks_swapped document cuts) = IsCutAt world document cuts
IsPlaced world (specs_copied document at specs) = IsCopiedTo world document at
IsPlaced world (link_made home number place from to three) = IsLinkedAt world home number place
IsPlaced world (account_changed account) = IsAccount account
IsPlaced world (document_published document) = IsTrue (has_document world document)
IsPlaced world other = ⊤

-- each entry is so placed in the world that it finds
abbrev pub AllPlaced : World → List PlainEntry → Type 0
AllPlaced world [] = ⊤
AllPlaced world (entry ∷ history) = IsPlaced world entry.change × AllPlaced (apply world entry) history
