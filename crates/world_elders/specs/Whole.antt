-- What may be asked of a world: elders that are there, content without gaps, and rows and links that name what is there.
use Rattle.std.specs.Prelude.{◌≡◌, ℕ, ◌+◌, ◌-◌, ◌<◌, ◌≤◌, List, [], ◌∷◌, ◌++◌, map, filter, All, IsTrue}
use Rattle.febe_data.specs.declared.run.Run.{Run}
use Rattle.world_rules.specs.declared.rows.ByteRow.{ByteRow}
use Rattle.world_rules.specs.World.{World, LinkRow, has_document, is_child_of, content_address, link_address, content_length, links_made_in}
use Rattle.world_rules.specs.Laws.{numbers_from}

-- where the last place of a document is above 1, the address with 1 less there is a document too
abbrev pub HasElders : World → Type 0
HasElders world = (front : List ℕ) (k : ℕ) → 1 < k → IsTrue (has_document world (front ++ k ∷ [])) → IsTrue (has_document world (front ++ (k - 1) ∷ []))

-- ---- content

-- the addresses of a document's content bytes, in the order in which they came
abbrev pub addresses_of_content : List ByteRow → List ℕ → List (List ℕ)
addresses_of_content bytes document = map (λ (b : ByteRow). b.address) (filter (λ (b : ByteRow). is_child_of (document ++ 0 ∷ 1 ∷ []) b.address) bytes)

-- they are its content addresses 1, 2, 3 and on, up to the length of its content
abbrev pub ContentIsNumbered : World → List ℕ → Type 0
ContentIsNumbered world document = addresses_of_content world.bytes document ≡ map (content_address document) (numbers_from 1 (content_length world document))

-- the address is of a content byte that has come, of a document that is there
pub record IsByteThere (world : World) (address : List ℕ) : Type 0 where
  pub document : List ℕ
  pub number : ℕ
  pub parts : address ≡ content_address document number
  pub there : IsTrue (has_document world document)
  pub from_one : 1 ≤ number
  pub to_length : number ≤ content_length world document

-- ---- links

-- the address is of a link that was made, in a home that is there
pub record IsLinkThere (world : World) (address : List ℕ) : Type 0 where
  pub home : List ℕ
  pub number : ℕ
  pub parts : address ≡ link_address home number
  pub there : IsTrue (has_document world home)
  pub from_one : 1 ≤ number
  pub to_count : number ≤ links_made_in world home

-- the run is one content byte or more of a document that is there, all of which have come; so is the document through
-- which it was picked
pub record IsRunThere (world : World) (run : Run) : Type 0 where
  pub origin : IsTrue (has_document world run.origin)
  pub there : IsTrue (has_document world run.content)
  pub from_one : 1 ≤ run.first
  pub some : 1 ≤ run.length
  pub to_length : run.first + run.length ≤ content_length world run.content + 1

-- so are all runs of the link's three ends
pub record HasRunsThere (world : World) (link : LinkRow) : Type 0 where
  pub from : All (IsRunThere world) link.from
  pub to : All (IsRunThere world) link.to
  pub three : All (IsRunThere world) link.three
