-- How the streams of a save are spelled on pages.
use Rattle.std.specs.Prelude.{◌≡◌, ℕ, ◌+◌, ◌-◌, ◌*◌, ◌^◌, ◌<◌, ◌≤◌, List, [], ◌∷◌, ◌++◌, length, map, drop, Option, None, Some}
use Rattle.std.specs.Int.{div_ceil}
use Rattle.page_journal.specs.Pages.{Bytes, Writes, page_bytes}
use Rattle.page_chains.specs.inside.Walks.{HaveSame}
use Rattle.page_chains.specs.Spelled.{chain_writes, header_page, AreInUse}
use Rattle.page_flush.specs.declared.stream_bytes.StreamBytes.{StreamBytes}
use Rattle.page_flush.specs.declared.stream_bytes.StreamBytes.TheVariants.{Anew, More}
use Rattle.page_flush.specs.FlushView.{StreamView, kept_pages, start_of}
use Rattle.page_flush.specs.inside.Fresh.{AreFresh}

-- the pages that are written of a stream that had some and gets more: the last one that it had, and those behind
abbrev pub written_of : List ℕ → List ℕ → List ℕ
written_of had fresh = drop (length had - 1) (had ++ fresh)

-- A stream of so many bytes keeps the pages that it had, and gets fresh ones. These bytes are spelled on the last one that
-- it had and on those behind, which are as many as they need. From the first number on, and below the second, the fresh ones
-- are chosen; the pages that were to be written before come to those after.
pub record IsSpelled (spared : List ℕ) (from to : ℕ) (had : List ℕ) (bytes : Bytes) (count : ℕ) (stream : StreamView) (before after : Writes) : Type 0 where
  pub fresh : List ℕ
  pub are_fresh : AreFresh spared from to fresh
  pub many : length fresh ≡ div_ceil (length bytes) 4088 - (length had - (length had - 1))
  pub numbers : stream.numbers ≡ had ++ fresh
  pub count_is : stream.count ≡ count
  pub short : count < 2 ^ 64
  pub last : stream.last ≡ drop (4088 * (length (written_of had fresh) - 1)) bytes
  pub in_use : AreInUse (written_of had fresh)
  pub pages : after ≡ before ++ chain_writes (written_of had fresh) bytes

-- the stream goes on with these bytes
abbrev pub GoesOnSpelled : List ℕ → ℕ → ℕ → StreamView → Bytes → StreamView → Writes → Writes → Type 0
GoesOnSpelled spared from to stream more longer before after =
    IsSpelled spared from to stream.numbers (stream.last ++ more) (stream.count + length more) longer before after

-- the stream is written anew, or goes on from what is kept of it
abbrev pub IsOneSpelled : List ℕ → ℕ → ℕ → Option StreamView → StreamBytes → StreamView → Writes → Writes → Type 0
IsOneSpelled spared from to kept (Anew bytes) stream before after = IsSpelled spared from to [] bytes.items (length bytes.items) stream before after
IsOneSpelled spared from to None (More bytes) stream before after = IsSpelled spared from to [] bytes.items (length bytes.items) stream before after
IsOneSpelled spared from to (Some kept) (More bytes) stream before after = GoesOnSpelled spared from to kept bytes.items stream before after

-- where one stream ends and the next begins: the next number to choose from, and the pages so far
pub record Between (First Rest : ℕ → Writes → Type 0) : Type 0 where
  pub number : ℕ
  pub pages : Writes
  pub first : First number pages
  pub rest : Rest number pages

-- one stream after another is spelled so
abbrev pub AreSpelled : List ℕ → ℕ → ℕ → List StreamView → List StreamBytes → List StreamView → Writes → Writes → Type 0
AreSpelled spared from to kept [] [] before after = (to ≡ from) × (after ≡ before)
AreSpelled spared from to [] (given ∷ more) (stream ∷ streams) before after =
    Between (λ number pages. IsOneSpelled spared from number None given stream before pages) (λ number pages. AreSpelled spared number to [] more streams pages after)
AreSpelled spared from to (had ∷ kept) (given ∷ more) (stream ∷ streams) before after =
    Between (λ number pages. IsOneSpelled spared from number (Some had) given stream before pages) (λ number pages. AreSpelled spared number to kept more streams pages after)
AreSpelled spared from to kept _ _ before after = ⊥

-- page 0 alone, with a header that names the streams at this position
pub record IsHeaderSpelled (position : ℕ) (streams : List StreamView) (writes : Writes) : Type 0 where
  pub used : ℕ
  pub used_is : used ≡ length (kept_pages streams) + 1
  pub few : used ≤ 1099511627776
  pub page : writes ≡ page_bytes 0 (header_page position used (map start_of streams)) ∷ []
  pub whole : length (header_page position used (map start_of streams)) ≡ 4096

-- all that a save is to write, and what is to be kept once it is written
pub record IsPrepared (spared : List ℕ) (kept : List StreamView) (given : List StreamBytes) (position : ℕ) (streams : List StreamView) (reached : List ℕ) (pages header : Writes) : Type 0 where
  pub to : ℕ
  pub spelled : AreSpelled spared 1 to kept given streams [] pages
  pub header_is : IsHeaderSpelled position streams header
  pub reached_are : HaveSame reached (kept_pages streams)
  pub short : position < 2 ^ 64
