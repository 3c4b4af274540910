-- When a kept entry can come after kept entries. A log holds such entries alone, each after those before it.
use Rattle.std.specs.Prelude.{◌≡◌, ◌⊎◌, ℕ, ◌+◌, ◌<◌, ◌≤◌, false, List, [], ◌∷◌, ◌++◌, length, All, IsTrue, ⊤}
use Rattle.tumbler.specs.Span.{SpanFits}
use Rattle.tumbler.specs.Address.{IsAccount}
use Rattle.febe_data.specs.Plain.{PlainSpec, PlainChange, PlainEntry, document_created, version_made, copy_opened, text_inserted, span_deleted, blocks_swapped, specs_copied, link_made, document_published}
use Rattle.world_rules.specs.World.{World, has_document, next_document, next_version, is_of_account, text_length}
use Rattle.world_rules.specs.Picking.{picked_addresses, runs_of}
use Rattle.world_rules.specs.Apply.{world_of}
use Rattle.world_rules.specs.Refusals.{runs_in_all}
use Rattle.world_rules.specs.Placed.{ComesInAt, IsCopiedTo, IsCutAt, IsLinkedAt}

-- ---- documents

-- the document is the next one of an account
pub record IsNextOf (world : World) (account document : List ℕ) : Type 0 where
  pub is_account : IsAccount account
  pub is_next : document ≡ next_document world account

-- some account's
pub record IsNextOfAccount (world : World) (document : List ℕ) : Type 0 where
  pub account : List ℕ
  pub next_of : IsNextOf world account document

-- the document is the next version of a source that has room for one more place
pub record IsUnder (world : World) (source document : List ℕ) : Type 0 where
  pub room : length source < 20
  pub is_next : document ≡ next_version world source

-- the document is the next one of an account that is not the source's, or the source has no room
pub record IsBeside (world : World) (source document : List ℕ) : Type 0 where
  pub account : List ℕ
  pub next_of : IsNextOf world account document
  pub cause : (is_of_account account source ≡ false) ⊎ (20 ≤ length source)

-- the source is there, and the document is the one that a version of it gets
pub record IsVersionOf (world : World) (source document : List ℕ) : Type 0 where
  pub there : IsTrue (has_document world source)
  pub place : IsUnder world source document ⊎ IsBeside world source document

-- ---- what comes in

-- as many positions as a document may have, and as many content bytes as there may be
abbrev pub most_positions : ℕ
most_positions = 1073741824

-- the text comes in at a place of the document, with its next bytes, and neither it nor all content grows too long
pub record TextFits (world : World) (document : List ℕ) (at first : ℕ) (text : List ℕ) : Type 0 where
  pub comes_in : ComesInAt world document at first
  pub positions : text_length world document + length text ≤ most_positions
  pub content : length world.bytes + length text ≤ most_positions

-- the documents that the specs name are there, and their spans end at an address
pub record SpecFits (world : World) (spec : PlainSpec) : Type 0 where
  pub there : IsTrue (has_document world spec.document)
  pub spans : All SpanFits spec.spans

-- what the specs pick, in not too many runs, comes in at a place of the document, which does not grow too long
pub record CopyFits (world : World) (document : List ℕ) (at : ℕ) (specs : List PlainSpec) : Type 0 where
  pub comes_in : IsCopiedTo world document at
  pub each : All (SpecFits world) specs
  pub runs : length (runs_of world specs) ≤ 65536
  pub positions : text_length world document + length (picked_addresses world specs) ≤ most_positions

-- the three lists pick, in not too many runs, what there is, and the link has the next number and place of its home
pub record LinkFits (world : World) (home : List ℕ) (number place : ℕ) (from to three : List PlainSpec) : Type 0 where
  pub comes_in : IsLinkedAt world home number place
  pub from_each : All (SpecFits world) from
  pub to_each : All (SpecFits world) to
  pub three_each : All (SpecFits world) three
  pub runs : runs_in_all world from to three ≤ 65536

-- ---- entries

-- the change can come after what made the world; changes that are not kept never fit
abbrev pub ChangeFits : World → PlainChange → Type 0
ChangeFits world (document_created document) = IsNextOfAccount world document
ChangeFits world (version_made source document) = IsVersionOf world source document
ChangeFits world (copy_opened source document) = IsVersionOf world source document
ChangeFits world (text_inserted document at first text) = TextFits world document at first text
ChangeFits world (span_deleted document span) = IsTrue (has_document world document) × SpanFits span
ChangeFits world (blocks_swapped document cuts) = IsTrue (has_document world document) × IsCutAt world document cuts
ChangeFits world (specs_copied document at specs) = CopyFits world document at specs
ChangeFits world (link_made home number place from to three) = LinkFits world home number place from to three
ChangeFits world (document_published document) = IsTrue (has_document world document)
ChangeFits world other = ⊥

-- every serial of the session is below this one
abbrev pub IsNewSerial : List PlainEntry → ℕ → ℕ → Type 0
IsNewSerial past session serial = All (λ (e : PlainEntry). e.session ≡ session → e.serial < serial) past

-- The entry can come after these: its change can, and its session and serial are numbers of which the serial is above
-- all those of the session.
pub record Fits (past : List PlainEntry) (entry : PlainEntry) : Type 0 where
  pub session : 1 ≤ entry.session
  pub serial : 1 ≤ entry.serial
  pub is_new : IsNewSerial past entry.session entry.serial
  pub change : ChangeFits (world_of past) entry.change

-- each entry of a list can come after these and those before it
abbrev pub AllFit : List PlainEntry → List PlainEntry → Type 0
AllFit past [] = ⊤
AllFit past (entry ∷ entries) = Fits past entry × AllFit (past ++ entry ∷ []) entries
