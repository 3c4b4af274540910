-- What is known of the streams that the pages hold.
use Rattle.std.specs.Prelude.{◌≡◌, ℕ, ◌-◌, ◌*◌, Bool, true, false, List, [], ◌∷◌, ◌++◌, length, map, drop, Option, None, Some}
use Rattle.tumbler.specs.ListView.{ListView}
use Rattle.page_journal.specs.JournalView.{JournalView}
use Rattle.page_journal.specs.Pages.{Bytes}
use Rattle.page_chains.specs.declared.start.Start.{Start}
use Rattle.page_chains.specs.Chains.{is_in, PlainChain, pages_in}
use Rattle.page_chains.specs.Spelled.{first_page}
use Rattle.page_saves.specs.Courses.{Saved, Aside, Blank, Kept}
use Rattle.page_flush.specs.declared.kept_stream.KeptStream.{KeptStream}

-- what is kept of a stream: the numbers of its pages, how many bytes it has, and those that its last page has
pub record StreamView : Type 0 where
  pub numbers : List ℕ
  pub count : ℕ
  pub last : Bytes

-- What is known of the pages: their journal; whether page 0 has to be made blank before anything else is written; the
-- pages that may not be written; and the streams, where the next save may go on from them.
pub record FlushView : Type 0 where
  pub journal : JournalView
  pub needs_blank : Bool
  pub spared : List ℕ
  pub kept : Option (List StreamView)

abbrev pub plain_stream : KeptStream → StreamView
plain_stream stream = record { numbers = stream.numbers.items; count = stream.count; last = stream.last.items }

abbrev pub plain_streams : List KeptStream → List StreamView
plain_streams streams = map plain_stream streams

abbrev pub plain_kept : Option (ListView KeptStream) → Option (List StreamView)
plain_kept None = None
plain_kept (Some streams) = Some (plain_streams streams.items)

-- the streams that are kept, none where each is to be written anew
abbrev pub kept_streams : Option (List StreamView) → List StreamView
kept_streams None = []
kept_streams (Some streams) = streams

-- the pages of all these streams
abbrev pub kept_pages : List StreamView → List ℕ
kept_pages [] = []
kept_pages (stream ∷ streams) = stream.numbers ++ kept_pages streams

-- what names the stream in a header
abbrev pub start_of : StreamView → Start
start_of stream = record { first = first_page stream.numbers; count = stream.count }

-- this is the stream of the chain
pub record IsKept (stream : StreamView) (chain : PlainChain) : Type 0 where
  pub numbers : stream.numbers ≡ chain.numbers
  pub count : stream.count ≡ length chain.bytes
  pub last : stream.last ≡ drop (4088 * (length chain.numbers - 1)) chain.bytes

-- these are the streams of the chains, in their order
abbrev pub AreKept : List StreamView → List PlainChain → Type 0
AreKept [] [] = Unit {0}
AreKept (stream ∷ streams) (chain ∷ chains) = IsKept stream chain × AreKept streams chains
AreKept _ _ = ⊥

-- where streams are kept, they are those of the chains
abbrev pub Keeps : Option (List StreamView) → List PlainChain → Type 0
Keeps None chains = Unit {0}
Keeps (Some streams) chains = AreKept streams chains

-- each of these numbers is spared
abbrev pub AreSpared : List ℕ → List ℕ → Type 0
AreSpared numbers spared = (k : ℕ) → is_in k numbers ≡ true → is_in k spared ≡ true

-- of pages with a header of these chains: no blank start is to be made, the pages of the chains are spared, and streams that are kept are theirs
pub record KnowsChains (flush : FlushView) (chains : List PlainChain) : Type 0 where
  pub made : flush.needs_blank ≡ false
  pub spared : AreSpared (pages_in chains) flush.spared
  pub kept : Keeps flush.kept chains

-- What has to be known where the pages hold this, or come to it. Where they hold no header, no stream may go on, and
-- pages that were put aside want a blank start.
abbrev pub Knows : FlushView → Saved → Type 0
Knows flush (Aside found) = (flush.needs_blank ≡ true) × (flush.kept ≡ None)
Knows flush (Blank header) = flush.kept ≡ None
Knows flush (Kept chains position) = KnowsChains flush chains
