-- How chains are read, page after page.
use Rattle.std.specs.Prelude.{◌≡◌, ℕ, ◌<◌, ◌≤◌, Bool, true, false, ◌||◌, List, [], ◌∷◌, ◌++◌, length, take, Option, None, Some, nat_eq}
use Rattle.tumbler.specs.ListView.{ListView}
use Rattle.page_journal.specs.Pages.{Bytes, Pages}
use Rattle.page_chains.specs.declared.chain.Chain.{Chain}
use Rattle.page_chains.specs.declared.start.Start.{Start}
use Rattle.page_chains.specs.Chains.{next_of, body_of, IsInUse, IsPageAt, IsChain, is_in, AreDistinct, PlainChain, pages_in}
use Rattle.page_chains.specs.Headers.{AreNamed}
use Rattle.page_chains.specs.Reading.{plain_chains}

-- the numbers are those that were there, and this one
abbrev pub HasOneMore : ℕ → List ℕ → List ℕ → Type 0
HasOneMore number old new = (k : ℕ) → is_in k new ≡ (nat_eq k number || is_in k old)

-- both have the same numbers, in any order
abbrev pub HaveSame : List ℕ → List ℕ → Type 0
HaveSame one other = (k : ℕ) → is_in k one ≡ is_in k other

-- A page that a chain may have next where these numbers were met: it was not met, and is there.
pub record IsNext (pages : Pages) (met : List ℕ) (number : ℕ) (page : Bytes) : Type 0 where
  pub in_use : IsInUse number
  pub fresh : is_in number met ≡ false
  pub is_there : IsPageAt pages number page

-- the page is one that a chain may have next, and was met; or there is no such page
abbrev pub IsMet : Bool → Pages → List ℕ → List ℕ → ℕ → Bytes → Type 0
IsMet true pages old new number page = IsNext pages old number page × HasOneMore number old new
IsMet false pages old new number page = (other : Bytes) → IsNext pages old number other → ⊥

-- a chain has one page more, and as much of the stream as it has
pub record HasOnePage (next : ℕ) (old new : Chain) (number left : ℕ) (page : Bytes) : Type 0 where
  pub next_is : next ≡ next_of page
  pub numbers : new.numbers.items ≡ old.numbers.items ++ number ∷ []
  pub bytes : new.bytes.items ≡ old.bytes.items ++ take left (body_of page)

-- the chain has this page too, and names the next one; or the page is none
abbrev pub IsTaken : Option ℕ → Chain → Chain → ℕ → ℕ → Bytes → Type 0
IsTaken (Some next) old new number left page = HasOnePage next old new number left page
IsTaken None old new number left page = length page < 8

-- The chain has one page more, which was met and names the next one; or there is no page that it may have next.
abbrev pub IsOnePageOn : Option ℕ → Pages → List ℕ → List ℕ → Chain → Chain → ℕ → ℕ → Type 0
IsOnePageOn (Some next) pages met now old new number left =
    (page : Bytes) × IsNext pages met number page × HasOneMore number met now × HasOnePage next old new number left page
IsOnePageOn None pages met now old new number left = (page : Bytes) → IsNext pages met number page → ⊥

-- a chain of which no page comes twice, and none among these numbers
pub record IsApart (pages : Pages) (before : List ℕ) (named : ℕ) (numbers : List ℕ) (left : ℕ) (bytes : Bytes) : Type 0 where
  pub chain : IsChain pages named numbers left bytes
  pub distinct : AreDistinct (before ++ numbers)

-- the chain that begins there, and the numbers that were met; or there is no such chain
abbrev pub IsReadChain : Option Chain → Pages → List ℕ → List ℕ → Start → Type 0
IsReadChain (Some found) pages before met start =
    IsApart pages before start.first found.numbers.items start.count found.bytes.items × HaveSame met (before ++ found.numbers.items)
IsReadChain None pages before met start =
    (numbers : List ℕ) (bytes : Bytes) → IsApart pages before start.first numbers start.count bytes → ⊥

-- the same, whatever the pages were that were met when it began
abbrev pub IsReadApart : Option Chain → Pages → List ℕ → List ℕ → Start → Type 0
IsReadApart found pages entry met start =
    (before : List ℕ) → AreDistinct before → HaveSame entry before → IsReadChain found pages before met start

-- seven chains that these bytes name, of which no page comes twice
pub record AreSeven (pages : Pages) (named : Bytes) (chains : List PlainChain) : Type 0 where
  pub seven : length chains ≡ 7
  pub are : AreNamed pages named chains
  pub distinct : AreDistinct (pages_in chains)

-- the seven chains that these bytes name; or there are no such chains
abbrev pub AreReadChains : Option (ListView Chain) → Pages → Bytes → Type 0
AreReadChains (Some found) pages named = AreSeven pages named (plain_chains found.items)
AreReadChains None pages named = (chains : List PlainChain) → 112 ≤ length named → AreSeven pages named chains → ⊥
