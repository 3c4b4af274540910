-- The pages that spell a header and its chains.
use Rattle.std.specs.Prelude.{◌≡◌, ℕ, ◌-◌, ◌*◌, ◌^◌, ◌<◌, List, [], ◌∷◌, ◌++◌, length, take, drop, replicate, Some}
use Rattle.std.specs.List.{flat_map}
use Rattle.std.specs.Int.{w64, to_be_bytes}
use Rattle.page_journal.specs.Pages.{Bytes, Pages, page_bytes, Writes}
use Rattle.page_chains.specs.declared.start.Start.{Start}
use Rattle.page_chains.specs.Chains.{PlainChain, IsInUse, IsChain}
use Rattle.page_chains.specs.Headers.{header_mark}

-- the first of these pages, 0 where there is none
abbrev pub first_page : List ℕ → ℕ
first_page [] = 0
first_page (number ∷ numbers) = number

-- a page of a chain: the number of the next one, bytes of the stream, and zeros to its end
unfoldable pub link_page : ℕ → Bytes → Bytes
link_page next body = to_be_bytes w64 next ++ body ++ replicate (4088 - length body) 0

-- the pages of these numbers, as a chain that spells the stream
abbrev pub chain_writes : List ℕ → Bytes → Writes
chain_writes [] bytes = []
chain_writes (number ∷ numbers) bytes =
    page_bytes number (link_page (first_page numbers) (take 4088 bytes)) ∷ chain_writes numbers (drop 4088 bytes)

-- each page that is written is there
abbrev pub HasWrites : Writes → Pages → Type 0
HasWrites [] pages = Unit {0}
HasWrites (write ∷ writes) pages = (pages write.number ≡ Some write.bytes) × HasWrites writes pages

abbrev pub AreInUse : List ℕ → Type 0
AreInUse [] = Unit {0}
AreInUse (number ∷ numbers) = IsInUse number × AreInUse numbers

-- what names a chain in a header: the number of its first page, and the length of its stream
abbrev pub start_bytes : Start → Bytes
start_bytes start = to_be_bytes w64 start.first ++ to_be_bytes w64 start.count

-- the page of a header, with zeros to its end
unfoldable pub header_page : ℕ → ℕ → List Start → Bytes
header_page position used starts =
    header_mark ++ to_be_bytes w64 position ++ to_be_bytes w64 used ++ flat_map start_bytes starts
    ++ replicate (4072 - 16 * length starts) 0

-- each chain begins where its start says
pub record IsStart (pages : Pages) (start : Start) (chain : PlainChain) : Type 0 where
  pub first : start.first < 2 ^ 64
  pub count : start.count < 2 ^ 64
  pub is : IsChain pages start.first chain.numbers start.count chain.bytes

abbrev pub AreStarts : Pages → List Start → List PlainChain → Type 0
AreStarts pages [] [] = Unit {0}
AreStarts pages (start ∷ starts) (chain ∷ chains) = IsStart pages start chain × AreStarts pages starts chains
AreStarts pages _ _ = ⊥
