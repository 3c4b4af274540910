-- What a save writes, and what it leaves.
use Rattle.std.specs.Prelude.{◌≡◌, ◌⊎◌, ℕ, Bool, true, false, List, [], ◌∷◌, ◌++◌, map, replicate, Option, None, Some, is_some}
use Rattle.std.specs.List.{AllByRecursion}
use Rattle.green_io.specs.Areas.{Areas}
use Rattle.green_io.specs.Disk.{DiskState}
use Rattle.page_journal.specs.Pages.{Bytes}
use Rattle.page_journal.specs.JournalBytes.{opened}
use Rattle.page_chains.specs.Chains.{PlainChain, pages_in}
use Rattle.page_chains.specs.inside.Walks.{HaveSame}
use Rattle.page_saves.specs.Courses.{Saved, Aside, Blank, Kept, Holds, begun}
use Rattle.page_saves.specs.Plans.{kept_chains}
use Rattle.page_saves.specs.Resting.{RestsOn, IsSettledOn}
use Rattle.page_flush.specs.declared.stream_bytes.StreamBytes.{StreamBytes}
use Rattle.page_flush.specs.declared.stream_bytes.StreamBytes.TheVariants.{Anew, More}
use Rattle.page_flush.specs.FlushView.{StreamView, FlushView, Knows}

-- the page of a blank start
unfoldable pub blank_page : Bytes
blank_page = replicate 4096 0

-- all bytes of the stream are given
abbrev pub IsWhole : StreamBytes → Type 0
IsWhole (Anew bytes) = Unit {0}
IsWhole (More bytes) = ⊥

-- where no streams are kept, all of each is given
abbrev pub MayBeGiven : Option (List StreamView) → List StreamBytes → Type 0
MayBeGiven kept given = is_some kept ≡ false → AllByRecursion IsWhole given

-- a stream that had these bytes, once it is saved: the bytes that are given, or those behind what it had
abbrev pub stream_after : Bytes → StreamBytes → Bytes
stream_after had (Anew bytes) = bytes.items
stream_after had (More bytes) = had ++ bytes.items

-- the same of each stream, where those of these chains were saved
abbrev pub streams_after : List PlainChain → List StreamBytes → List Bytes
streams_after chains [] = []
streams_after [] (given ∷ more) = stream_after [] given ∷ streams_after [] more
streams_after (chain ∷ chains) (given ∷ more) = stream_after chain.bytes given ∷ streams_after chains more

-- the streams that the chains spell
abbrev pub bytes_in : List PlainChain → List Bytes
bytes_in chains = map (λ chain. chain.bytes) chains

-- A save: what the pages held when it began, and came to if a commit was unfinished; whether a blank start was to be made;
-- and what it is to save, the streams and the position.
pub record Save : Type 0 where
  pub was : Saved
  pub saved : Saved
  pub blank : Bool
  pub streams : List Bytes
  pub position : ℕ

abbrev pub save_of : Saved → Saved → FlushView → List StreamBytes → ℕ → Save
save_of was saved flush given position =
    record { was = was; saved = saved; blank = flush.needs_blank; streams = streams_after (kept_chains saved) given; position = position }

-- a blank start
abbrev pub IsBlankStart : Saved → Type 0
IsBlankStart (Blank header) = header ≡ blank_page
IsBlankStart _ = ⊥

-- these streams at this position
abbrev pub HasStreams : List Bytes → ℕ → Saved → Type 0
HasStreams streams position (Kept chains place) = (bytes_in chains ≡ streams) × (place ≡ position)
HasStreams streams position _ = ⊥

-- What the pages may hold while the save is made, or once it failed: what they held, or came to, when it began; a blank
-- start, where one was to be made; or what is saved.
abbrev pub MayHold : Save → Saved → Type 0
MayHold save now =
    ((now ≡ save.was) ⊎ (now ≡ save.saved)) ⊎ (((save.blank ≡ true) × IsBlankStart now) ⊎ HasStreams save.streams save.position now)

-- opening the image gives pages that hold one of these
abbrev pub GivesAny : Save → Areas → Type 0
GivesAny save image = (now : Saved) × MayHold save now × Holds now (opened image)

-- The save was made: no commit is unfinished, and the pages hold its streams, whatever a crash leaves. The next save may
-- go on from them, and spares their pages alone.
pub record IsSaved (disk : DiskState) (flush : FlushView) (save : Save) : Type 0 where
  pub chains : List PlainChain
  pub streams : bytes_in chains ≡ save.streams
  pub settled : IsSettledOn disk flush.journal (begun (Kept chains save.position))
  pub knows : Knows flush (Kept chains save.position)
  pub goes_on : is_some flush.kept ≡ true
  pub spared : HaveSame flush.spared (pages_in chains)

-- The save failed: the pages hold one of what they may hold, or come to it from another, and a save may be made from there.
pub record IsStopped (disk : DiskState) (flush : FlushView) (save : Save) : Type 0 where
  pub was : Saved
  pub saved : Saved
  pub may_was : MayHold save was
  pub may : MayHold save saved
  pub rests : RestsOn disk flush.journal was saved
  pub knows : Knows flush saved
