-- Laws of chains and of headers.
use Rattle.std.specs.Prelude.{◌≡◌, ℕ, ◌*◌, ◌^◌, ◌<◌, ◌≤◌, true, List, [], ◌∷◌, ◌++◌, length, take, drop, Some}
use Rattle.std.specs.List.{AllByRecursion}
use Rattle.page_journal.specs.JournalBytes.{IsWrite}
use Rattle.page_journal.specs.Pages.{Bytes, Pages, laid, AreSame, Extends}
use Rattle.page_chains.specs.declared.start.Start.{Start}
use Rattle.page_chains.specs.Chains.{IsChain, is_in, AreDistinct, AreEnough, PlainChain, pages_in}
use Rattle.page_chains.specs.Headers.{HasHeader}
use Rattle.page_chains.specs.Spelled.{first_page, link_page, chain_writes, HasWrites, AreInUse, header_page, AreStarts}

-- the pages of these numbers that were there are there as they were
abbrev pub Stay : List ℕ → Pages → Pages → Type 0
Stay numbers old new = (k : ℕ) (page : Bytes) → is_in k numbers ≡ true → old k ≡ Some page → new k ≡ Some page

-- Pages that were written so are a chain that spells the stream, where they are as many as it needs.
abbrev pub ChainIsWritten : Type 0
ChainIsWritten = (pages : Pages) (numbers : List ℕ) (bytes : Bytes) →
    HasWrites (chain_writes numbers bytes) pages → AreInUse numbers → AreEnough (length numbers) (length bytes) →
    IsChain pages (first_page numbers) numbers (length bytes) bytes

-- The pages of a chain are there once they are laid over others, where no number comes twice.
abbrev pub WritesAreThere : Type 0
WritesAreThere = (pages : Pages) (numbers : List ℕ) (bytes : Bytes) →
    AreDistinct numbers → HasWrites (chain_writes numbers bytes) (laid (chain_writes numbers bytes) pages)

-- Each page of a chain is one that a commit may write.
abbrev pub WritesAreWhole : Type 0
WritesAreWhole = (numbers : List ℕ) (bytes : Bytes) → AreInUse numbers → AllByRecursion IsWrite (chain_writes numbers bytes)

-- The first page and the length settle the pages of a chain and its stream.
abbrev pub OneChain : Type 0
OneChain = (pages : Pages) (named left : ℕ) (one other : List ℕ) (bytes more : Bytes) →
    IsChain pages named one left bytes → IsChain pages named other left more → (other ≡ one) × (more ≡ bytes)

-- The stream of a chain has the length that is said, and the chain has as many pages as that needs.
abbrev pub ChainIsLong : Type 0
ChainIsLong = (pages : Pages) (named left : ℕ) (numbers : List ℕ) (bytes : Bytes) →
    IsChain pages named numbers left bytes → (length bytes ≡ left) × AreEnough (length numbers) left

-- A chain stands where its pages stay.
abbrev pub ChainStays : Type 0
ChainStays = (old new : Pages) (named left : ℕ) (numbers : List ℕ) (bytes : Bytes) →
    Stay numbers old new → IsChain old named numbers left bytes → IsChain new named numbers left bytes

-- The front of a chain spells the front of its stream.
abbrev pub FrontIsChain : Type 0
FrontIsChain = (pages : Pages) (named left short : ℕ) (front rest : List ℕ) (bytes : Bytes) →
    short ≤ left → AreEnough (length front) short →
    IsChain pages named (front ++ rest) left bytes → IsChain pages named front short (take short bytes)

-- A longer stream goes on in the last page: where that one is written anew, with the bytes of the stream that it had
-- in front, and more pages behind it, the chain spells the longer stream.
abbrev pub ChainGoesOn : Type 0
ChainGoesOn = (old new : Pages) (named last : ℕ) (front fresh : List ℕ) (bytes more : Bytes) →
    IsChain old named (front ++ last ∷ []) (length bytes) bytes → Stay front old new → AreInUse fresh →
    HasWrites (chain_writes (last ∷ fresh) (drop (4088 * length front) bytes ++ more)) new →
    AreEnough (length (last ∷ fresh)) (length (drop (4088 * length front) bytes ++ more)) →
    IsChain new named (front ++ last ∷ fresh) (length (bytes ++ more)) (bytes ++ more)

-- The stream as it was stands too once the last page is written so, whether the pages behind it are there or not.
abbrev pub LastPageGrows : Type 0
LastPageGrows = (old new : Pages) (named last next : ℕ) (front : List ℕ) (bytes more : Bytes) →
    IsChain old named (front ++ last ∷ []) (length bytes) bytes → Stay front old new →
    new last ≡ Some (link_page next (take 4088 (drop (4088 * length front) bytes ++ more))) →
    IsChain new named (front ++ last ∷ []) (length bytes) bytes

-- A page that was written so is a header of the chains that begin where it says.
abbrev pub HeaderIsWritten : Type 0
HeaderIsWritten = (pages : Pages) (starts : List Start) (chains : List PlainChain) (position used : ℕ) →
    pages 0 ≡ Some (header_page position used starts) → position < 2 ^ 64 → used ≤ 1099511627776 →
    length chains ≡ 7 → AreStarts pages starts chains → AreDistinct (pages_in chains) →
    HasHeader pages chains position

-- A header settles its chains and its position.
abbrev pub OneHeader : Type 0
OneHeader = (pages : Pages) (one other : List PlainChain) (position place : ℕ) →
    HasHeader pages one position → HasHeader pages other place → (other ≡ one) × (place ≡ position)

-- A header stands where page 0 and the pages of its chains stay.
abbrev pub HeaderStays : Type 0
HeaderStays = (old new : Pages) (chains : List PlainChain) (position : ℕ) →
    Stay (0 ∷ pages_in chains) old new → HasHeader old chains position → HasHeader new chains position

-- A header stands where every page stays.
abbrev pub HeaderExtends : Type 0
HeaderExtends = (old new : Pages) (chains : List PlainChain) (position : ℕ) →
    Extends old new → HasHeader old chains position → HasHeader new chains position

-- The same pages have no other header.
abbrev pub SameHeader : Type 0
SameHeader = (old new : Pages) (chains : List PlainChain) (position : ℕ) →
    AreSame old new → HasHeader new chains position → HasHeader old chains position
