-- Chains of pages, and the streams of bytes that they spell.
use Rattle.std.specs.Prelude.{◌≡◌, ℕ, ◌-◌, ◌*◌, ◌+◌, ◌<◌, ◌≤◌, Bool, false, ◌||◌, List, [], ◌∷◌, ◌++◌, length, take, drop, Some, nat_eq}
use Rattle.std.specs.Int.{w64, from_be_bytes}
use Rattle.page_journal.specs.Pages.{Bytes, Pages}

-- A page of a chain is the number of the next page in eight bytes, high byte first, and 4,088 bytes of the stream.
abbrev pub next_of : Bytes → ℕ
next_of page = from_be_bytes w64 (take 8 page)

abbrev pub body_of : Bytes → Bytes
body_of page = drop 8 page

-- The number of a page that a chain may have: page 0 is the header, and numbers are below 2^40.
pub record IsInUse (number : ℕ) : Type 0 where
  pub some : 0 < number
  pub low : number < 1099511627776

-- the page of this number is there, and is whole
pub record IsPageAt (pages : Pages) (number : ℕ) (page : Bytes) : Type 0 where
  pub there : pages number ≡ Some page
  pub whole : length page ≡ 4096

-- One page of a chain, the one that was named: bytes of the stream are left, and it has the first 4,088 of them, or
-- all where no more are left. What stands behind these in the page may be any bytes.
pub record IsLink (pages : Pages) (named number left : ℕ) (bytes page more : Bytes) : Type 0 where
  pub is_named : number ≡ named
  pub in_use : IsInUse number
  pub is_there : IsPageAt pages number page
  pub some : 0 < left
  pub parts : bytes ≡ take left (body_of page) ++ more

-- The pages of these numbers are a chain from the one that is named on, and spell the stream, of so many bytes. A chain
-- has as many pages as its stream needs: none where the length is 0, so any first page may be named then; and the last
-- one may name any page as its next, since the stream of a save that did not end may go on there.
abbrev pub IsChain : Pages → ℕ → List ℕ → ℕ → Bytes → Type 0
IsChain pages named [] left bytes = (left ≡ 0) × (bytes ≡ [])
IsChain pages named (number ∷ numbers) left bytes =
    (page : Bytes) × (more : Bytes) × IsLink pages named number left bytes page more × IsChain pages (next_of page) numbers (left - 4088) more

-- the number is among these
abbrev pub is_in : ℕ → List ℕ → Bool
is_in k [] = false
is_in k (number ∷ numbers) = nat_eq k number || is_in k numbers

-- no number comes twice
abbrev pub AreDistinct : List ℕ → Type 0
AreDistinct [] = Unit {0}
AreDistinct (number ∷ numbers) = (is_in number numbers ≡ false) × AreDistinct numbers

-- so many pages are as many as a stream of this length needs
pub record AreEnough (count bytes : ℕ) : Type 0 where
  pub hold : bytes ≤ 4088 * count
  pub no_more : 4088 * count < bytes + 4088

-- a chain: the numbers of its pages, and the stream that it spells
pub record PlainChain : Type 0 where
  pub numbers : List ℕ
  pub bytes : Bytes

-- the numbers of the pages of all chains
abbrev pub pages_in : List PlainChain → List ℕ
pages_in [] = []
pages_in (chain ∷ chains) = chain.numbers ++ pages_in chains
