-- Laws of what is there in the world of each history of placed changes.
use Rattle.std.specs.Prelude.{ℕ, List, All, IsTrue}
use Rattle.std.specs.List.{list_any}
use Rattle.febe_data.specs.Plain.{PlainEntry}
use Rattle.world_rules.specs.declared.rows.Row.{Row}
use Rattle.world_rules.specs.declared.rows.ByteRow.{ByteRow}
use Rattle.world_rules.specs.World.{World, LinkRow, empty_world, is_same, has_document}
use Rattle.world_rules.specs.Readable.{is_published}
use Rattle.world_rules.specs.Apply.{world_of}
use Rattle.world_rules.specs.Placed.{AllPlaced}
use Rattle.world_rules.specs.Laws.{text_rows, link_rows}
use Rattle.world_elders.specs.Whole.{HasElders, ContentIsNumbered, IsByteThere, IsLinkThere, HasRunsThere}

-- this holds of the world of each history of placed changes
abbrev pub HoldsAfterPlaced : (World → Type 0) → Type 0
HoldsAfterPlaced Holds = (history : List PlainEntry) → AllPlaced empty_world history → Holds (world_of history)

-- elders are there
abbrev pub EldersAreThere : Type 0
EldersAreThere = HoldsAfterPlaced HasElders

-- the content bytes of each document are numbered from 1 to their count, in the order in which they came
abbrev pub NumbersContent : Type 0
NumbersContent = HoldsAfterPlaced (λ world. (document : List ℕ) → ContentIsNumbered world document)

-- each byte is a content byte of a document that is there
abbrev pub BytesAreOwned : Type 0
BytesAreOwned = HoldsAfterPlaced (λ world. All (λ (b : ByteRow). IsByteThere world b.address) world.bytes)

-- each text row of any document shows a content byte that has come, of a document that is there
abbrev pub ShowsBytesThere : Type 0
ShowsBytesThere = HoldsAfterPlaced (λ world. (document : List ℕ) → All (λ (row : Row). IsByteThere world row.address) (text_rows world document))

-- each such byte is in the list of bytes
abbrev pub BytesAreThere : Type 0
BytesAreThere = HoldsAfterPlaced (λ world. (address : List ℕ) → IsByteThere world address → IsTrue (list_any (λ (b : ByteRow). is_same b.address address) world.bytes))

-- each link row of any document names a link that was made in a home that is there
abbrev pub LinkRowsNameLinks : Type 0
LinkRowsNameLinks = HoldsAfterPlaced (λ world. (document : List ℕ) → All (λ (row : Row). IsLinkThere world row.address) (link_rows world document))

-- each such link is in the list of links
abbrev pub LinksAreThere : Type 0
LinksAreThere = HoldsAfterPlaced (λ world. (address : List ℕ) → IsLinkThere world address → IsTrue (list_any (λ (link : LinkRow). is_same link.id address) world.links))

-- the home of each link is a document that is there
abbrev pub HomesAreThere : Type 0
HomesAreThere = HoldsAfterPlaced (λ world. All (λ (link : LinkRow). IsTrue (has_document world link.home)) world.links)

-- each published document is there
abbrev pub PublishedAreThere : Type 0
PublishedAreThere = HoldsAfterPlaced (λ world. (document : List ℕ) → IsTrue (is_published world document) → IsTrue (has_document world document))

-- the runs of each link are content bytes that have come, of documents that are there
abbrev pub RunsAreThere : Type 0
RunsAreThere = HoldsAfterPlaced (λ world. All (HasRunsThere world) world.links)
