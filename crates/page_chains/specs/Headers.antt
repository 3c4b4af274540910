-- The header, which names where the chains of all streams begin.
use Rattle.std.specs.Prelude.{◌≡◌, ℕ, ◌≤◌, List, [], ◌∷◌, length, take, drop}
use Rattle.std.specs.Int.{w64, from_be_bytes}
use Rattle.page_journal.specs.Pages.{Bytes, Pages}
use Rattle.page_chains.specs.Chains.{IsPageAt, IsChain, AreDistinct, PlainChain, pages_in}

-- the number in the eight bytes at this place, high byte first
abbrev pub number_at : ℕ → Bytes → ℕ
number_at at bytes = from_be_bytes w64 (take 8 (drop at bytes))

-- `GREENPG1`
abbrev pub header_mark : Bytes
header_mark = 71 ∷ 82 ∷ 69 ∷ 69 ∷ 78 ∷ 80 ∷ 71 ∷ 49 ∷ []

-- These bytes name the chains, one behind another: each by the number of its first page and the length of its stream.
abbrev pub AreNamed : Pages → Bytes → List PlainChain → Type 0
AreNamed pages named [] = Unit {0}
AreNamed pages named (chain ∷ chains) =
    IsChain pages (number_at 0 named) chain.numbers (number_at 8 named) chain.bytes × AreNamed pages (drop 16 named) chains

-- Page 0 is a header of these chains at this position. It begins with its mark; then come the position, the number of
-- pages in use, and what names the seven chains, in the order in which they are given. No page is twice in the chains.
pub record HasHeader (pages : Pages) (chains : List PlainChain) (position : ℕ) : Type 0 where
  pub header : Bytes
  pub is_there : IsPageAt pages 0 header
  pub marked : take 8 header ≡ header_mark
  pub position_is : number_at 8 header ≡ position
  pub used : number_at 16 header ≤ 1099511627776
  pub seven : length chains ≡ 7
  pub named : AreNamed pages (drop 24 header) chains
  pub distinct : AreDistinct (pages_in chains)
