-- The world is seven plain lists, which are read by filters.
use Rattle.std.specs.Prelude.{ℕ, ◌+◌, ◌==◌, ◌&&◌, Bool, true, false, List, [], ◌∷◌, ◌++◌, length, take, count_by, Option, Some, None, nat_eq, nat_lt, not, if◌then◌else◌}
use Rattle.std.specs.List.{find, list_any, fold}
use Rattle.std.specs.Option.{option_map}
use Rattle.std.specs.Ordering.{nat_cmp}
use Rattle.std.specs.Cmp.Lexicographic.{slice_cmp, pointwise}
use Rattle.std.specs.BTreeSet.{insert_key}
use Rattle.febe_data.specs.declared.run.Run.{Run}
use Rattle.febe_data.specs.declared.access.Mode.{Mode}
use Rattle.febe_data.specs.declared.access.Mode.TheVariants.{Read, Write}
use Rattle.world_rules.specs.declared.rows.Part.{Part}
use Rattle.world_rules.specs.declared.rows.Part.TheVariants.{Text, Links}
use Rattle.world_rules.specs.declared.rows.Row.{Row}
use Rattle.world_rules.specs.declared.rows.ByteRow.{ByteRow}
use Rattle.world_rules.specs.declared.rows.OpenRow.{OpenRow}
use Rattle.world_rules.specs.declared.rows.AccountRow.{AccountRow}

-- a link, with the runs of its three ends
pub record LinkRow : Type 0 where
  pub id : List ℕ
  pub home : List ℕ
  pub from : List Run
  pub to : List Run
  pub three : List Run

-- documents, what stands at their V-addresses, content bytes, links, published documents, open documents, and accounts
pub record World : Type 0 where
  pub documents : List (List ℕ)
  pub rows : List Row
  pub bytes : List ByteRow
  pub links : List LinkRow
  -- a document stands here once for each publish
  pub published : List (List ℕ)
  pub open_rows : List OpenRow
  pub accounts : List AccountRow

-- nothing was ever made
abbrev pub empty_world : World
empty_world = record { documents = []; rows = []; bytes = []; links = []; published = []; open_rows = []; accounts = [] }

-- ---- addresses

-- two addresses are the same
abbrev pub is_same : List ℕ → List ℕ → Bool
is_same a b = pointwise nat_eq a b

-- an address is the front and one place more
abbrev pub is_child_of : List ℕ → List ℕ → Bool
is_child_of front address = length address == length front + 1 && is_same (take (length front) address) front

-- addresses in ascending order, each once
abbrev pub ascending : List (List ℕ) → List (List ℕ)
ascending addresses = fold (insert_key (slice_cmp nat_cmp)) [] addresses

-- content byte n of a document is `document.0.1.n`
abbrev pub content_address : List ℕ → ℕ → List ℕ
content_address document n = document ++ 0 ∷ 1 ∷ n ∷ []

-- link n that was made in a document is `document.0.2.n`
abbrev pub link_address : List ℕ → ℕ → List ℕ
link_address home n = home ++ 0 ∷ 2 ∷ n ∷ []

-- text stands at the V-addresses `1.n`, links at `2.n`
abbrev pub part_number : Part → ℕ
part_number Text = 1
part_number Links = 2

abbrev pub v_address : Row → List ℕ
v_address row = part_number row.part ∷ row.n ∷ []

-- ---- documents

abbrev pub has_document : World → List ℕ → Bool
has_document world document = list_any (λ d. is_same d document) world.documents

-- The next number below an address is one more than the number of documents that are the address and one place more.
abbrev pub next_below : List (List ℕ) → List ℕ → List ℕ
next_below documents front = front ++ (count_by (is_child_of front) documents + 1) ∷ []

-- the next document of an account is `account.0.D`
abbrev pub next_document : World → List ℕ → List ℕ
next_document world account = next_below world.documents (account ++ 0 ∷ [])

-- the next version of a document is `document.k`
abbrev pub next_version : World → List ℕ → List ℕ
next_version world document = next_below world.documents document

-- a document of the account is `account.0` and more
abbrev pub is_of_account : List ℕ → List ℕ → Bool
is_of_account account document = is_same (take (length account + 1) document) (account ++ 0 ∷ [])

-- A version goes under its source where the maker's account is the source's and there is room for one more place.
-- Otherwise it is the maker's next document.
abbrev pub version_for : World → List ℕ → List ℕ → List ℕ
version_for world source account = if is_of_account account source && nat_lt (length source) 20 then next_version world source else next_document world account

-- ---- sessions

-- the account that a session has set, if it has
abbrev pub account_of_session : World → ℕ → Option (List ℕ)
account_of_session world session = option_map (λ (r : AccountRow). r.account) (find (λ r. r.session == session) world.accounts)

-- the row is that of the session's open document
abbrev pub opens : ℕ → List ℕ → OpenRow → Bool
opens session document row = row.session == session && is_same row.document document

-- what the session has the document open for, if it has it open
abbrev pub mode_of : World → ℕ → List ℕ → Option Mode
mode_of world session document = option_map (λ (r : OpenRow). r.mode) (find (opens session document) world.open_rows)

abbrev pub is_write : Mode → Bool
is_write Read = false
is_write Write = true

-- another session holds the document for writing
abbrev pub is_held_against : World → ℕ → List ℕ → Bool
is_held_against world session document = list_any (λ (r : OpenRow). not (r.session == session) && is_same r.document document && is_write r.mode) world.open_rows

-- ---- rows

abbrev pub is_text : Part → Bool
is_text Text = true
is_text Links = false

-- the row is of this document's text
abbrev pub is_text_of : List ℕ → Row → Bool
is_text_of document row = is_text row.part && is_same row.document document

-- the row is of this document's links
abbrev pub is_link_of : List ℕ → Row → Bool
is_link_of document row = not (is_text row.part) && is_same row.document document

-- how many text rows a document has
abbrev pub text_length : World → List ℕ → ℕ
text_length world document = count_by (is_text_of document) world.rows

-- how many link rows it has
abbrev pub link_length : World → List ℕ → ℕ
link_length world document = count_by (is_link_of document) world.rows

-- how many bytes of content a document has
abbrev pub content_length_of : List ByteRow → List ℕ → ℕ
content_length_of bytes document = count_by (λ (b : ByteRow). is_child_of (document ++ 0 ∷ 1 ∷ []) b.address) bytes

abbrev pub content_length : World → List ℕ → ℕ
content_length world document = content_length_of world.bytes document

-- how many links were made in a document
abbrev pub links_made_in : World → List ℕ → ℕ
links_made_in world home = count_by (λ (l : LinkRow). is_same l.home home) world.links

-- the byte at an address: the one that came there last
abbrev pub byte_at : List ByteRow → List ℕ → Option ℕ
byte_at bytes address = fold (λ found (b : ByteRow). if is_same b.address address then Some b.byte else found) None bytes
