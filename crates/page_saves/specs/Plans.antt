-- Which pages a save may write, and how it writes its streams.
use Rattle.std.specs.Prelude.{◌≡◌, ◌⊎◌, ℕ, ◌*◌, ◌+◌, ◌^◌, ◌<◌, ◌≤◌, false, List, [], ◌∷◌, ◌++◌, length, map, take, drop}
use Rattle.std.specs.List.{flat_map, AllByRecursion}
use Rattle.page_journal.specs.Pages.{Bytes, PageBytes, page_bytes, Writes}
use Rattle.page_chains.specs.declared.start.Start.{Start}
use Rattle.page_chains.specs.Chains.{PlainChain, is_in, AreDistinct, AreEnough, pages_in}
use Rattle.page_chains.specs.Spelled.{first_page, link_page, chain_writes, header_page, AreInUse}
use Rattle.page_saves.specs.Courses.{Saved, Blank, Kept, Lead, LeadsEach, Leads, begun, after}

-- the numbers of the pages that are written, in their order
abbrev pub numbers_of : Writes → List ℕ
numbers_of writes = map (λ write. write.number) writes

-- This is the last page of the chain, with the bytes that the stream has there in front.
pub record Grows (chain : PlainChain) (write : PageBytes) : Type 0 where
  pub front : List ℕ
  pub next : ℕ
  pub more : Bytes
  pub numbers : chain.numbers ≡ front ++ write.number ∷ []
  pub bytes : write.bytes ≡ link_page next (take 4088 (drop (4088 * length front) chain.bytes ++ more))

-- it is so of one of the chains
abbrev pub GrowsOne : List PlainChain → PageBytes → Type 0
GrowsOne [] write = ⊥
GrowsOne (chain ∷ chains) write = Grows chain write ⊎ GrowsOne chains write

-- A page beside what a header of these chains names: not page 0, and a page of none of the chains, or a chain's last one
-- with the bytes that it has to have.
pub record IsBeside (chains : List PlainChain) (write : PageBytes) : Type 0 where
  pub some : 0 < write.number
  pub apart : (is_in write.number (pages_in chains) ≡ false) ⊎ GrowsOne chains write

-- Pages beside what a header names leave the header, one by one.
abbrev pub BesideLeads : Type 0
BesideLeads = (chains : List PlainChain) (position : ℕ) (writes : Writes) →
    AreDistinct (numbers_of writes) → AllByRecursion (IsBeside chains) writes → LeadsEach (Kept chains position) [] writes

-- Behind a blank start any pages but page 0 may be written.
abbrev pub BlankLeads : Type 0
BlankLeads = (header : Bytes) (writes : Writes) →
    AreDistinct (numbers_of writes) → AllByRecursion (λ write. 0 < write.number) writes → LeadsEach (Blank header) [] writes

-- A blank start needs nothing of the pages that are there.
abbrev pub StartLeads : Type 0
StartLeads = (saved : Saved) (header : Bytes) → Leads saved [] (page_bytes 0 header ∷ []) (Blank header)

-- How a stream is written: anew, on these pages; or on from its last page. Then its pages are those in front of that one,
-- that one, and fresh ones behind it, and its bytes those that it had, and those that come.
pub data Plan : Type 0 where
  Anew : List ℕ → Bytes → Plan
  GoesOn : List ℕ → ℕ → List ℕ → Bytes → Bytes → Plan

-- the chain that a stream has then
abbrev pub plan_chain : Plan → PlainChain
plan_chain (Anew numbers bytes) = record { numbers = numbers; bytes = bytes }
plan_chain (GoesOn front last fresh had more) = record { numbers = front ++ last ∷ fresh; bytes = had ++ more }

-- the pages that are written for it
abbrev pub plan_writes : Plan → Writes
plan_writes (Anew numbers bytes) = chain_writes numbers bytes
plan_writes (GoesOn front last fresh had more) = chain_writes (last ∷ fresh) (drop (4088 * length front) had ++ more)

-- where the header says that it begins
abbrev pub plan_start : Plan → Start
plan_start plan = record { first = first_page (plan_chain plan).numbers; count = length (plan_chain plan).bytes }

-- the pages that are new to it are in use, and its pages are as many as it needs
pub record IsPlanned (plan : Plan) : Type 0 where
  pub first : first_page (plan_chain plan).numbers < 2 ^ 64
  pub count : length (plan_chain plan).bytes < 2 ^ 64
  pub fresh : AreInUse (numbers_of (plan_writes plan))
  pub enough : AreEnough (length (plan_chain plan).numbers) (length (plan_chain plan).bytes)

-- a stream that goes on is the one that is kept
abbrev pub GoesOnFrom : PlainChain → Plan → Type 0
GoesOnFrom chain (Anew numbers bytes) = Unit {0}
GoesOnFrom chain (GoesOn front last fresh had more) = (chain.numbers ≡ front ++ last ∷ []) × (chain.bytes ≡ had)

-- each stream is written anew, or goes on from the chain of its place
abbrev pub ArePlans : List PlainChain → List Plan → Type 0
ArePlans chains [] = Unit {0}
ArePlans [] (Anew numbers bytes ∷ plans) = IsPlanned (Anew numbers bytes) × ArePlans [] plans
ArePlans [] (GoesOn front last fresh had more ∷ plans) = ⊥
ArePlans (chain ∷ chains) (plan ∷ plans) = (IsPlanned plan × GoesOnFrom chain plan) × ArePlans chains plans

-- the chains that a save may go on from
abbrev pub kept_chains : Saved → List PlainChain
kept_chains (Kept chains position) = chains
kept_chains _ = []

-- Once all its streams are written, the header makes a save count.
abbrev pub HeaderLeads : Type 0
HeaderLeads = (saved : Saved) (plans : List Plan) (position used : ℕ) →
    length plans ≡ 7 → ArePlans (kept_chains saved) plans → AreDistinct (pages_in (map plan_chain plans)) →
    position < 2 ^ 64 → used ≤ 1099511627776 →
    Lead (after saved (flat_map plan_writes plans)) (page_bytes 0 (header_page position used (map plan_start plans)) ∷ []) (begun (Kept (map plan_chain plans) position))
