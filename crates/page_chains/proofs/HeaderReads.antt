-- What is read of a header, where the disk tells what it reads.
use Rattle.std.proofs.Common.{◌≡◌, ℕ, ◌+◌, ◌<◌, ◌≤◌, Bool, true, false, List, [], ◌∷◌, ◌++◌, length, drop, Option, None, Some, IsTrue, refl, sym, ◌∙◌, ap, subst, arith, length-drop}
use Rattle.std.proofs.lemmas.List.{map_push}
use Rattle.tumbler.specs.ListView.{ListView}
use Rattle.green_io.specs.Areas.{Areas}
use Rattle.green_io.specs.Disk.{WhereTold}
use Rattle.page_journal.specs.Answers.{IsPage}
use Rattle.page_journal.specs.Pages.{Bytes, pages_of}
use Rattle.page_chains.specs.declared.chain.Chain.{Chain}
use Rattle.page_chains.specs.declared.start.Start.{Start}
use Rattle.page_chains.specs.Chains.{PlainChain, pages_in}
use Rattle.page_chains.specs.Headers.{number_at, AreNamed}
use Rattle.page_chains.specs.Reading.{plain_chain, plain_chains, IsReadHeader}
use Rattle.page_chains.specs.inside.Fields.{IsMarked}
use Rattle.page_chains.specs.inside.Walks.{AreReadChains}
use Rattle.page_chains.proofs.Heading.{same_page}
use Rattle.page_chains.proofs.Gathering.{AreGathered, gathered_none, gathered_more, gathered_stuck, gathered_short, gathered_all}
use Rattle.page_chains.proofs.ChainReads.{ReadsFrom}

-- every seven chains that are named have those that were read
abbrev pub GathersFrom : Option Areas → Bytes → List Chain → List ℕ → Bytes → ℕ → Type 0
GathersFrom told starts chains met rest read = WhereTold told (λ areas. AreGathered (pages_of areas.home) starts (plain_chains chains) met rest read)

pub gathers_none : (told : Option Areas) (starts : Bytes) (chains : List Chain) (met : List ℕ) → chains ≡ [] → met ≡ [] → GathersFrom told starts chains met starts 0
gathers_none None starts chains met none no_met = tt
gathers_none (Some areas) starts chains met none no_met =
    subst (λ (l : List Chain). AreGathered (pages_of areas.home) starts (plain_chains l) met starts 0) (sym none) (gathered_none (pages_of areas.home) starts met no_met)

pub gathers_more : (told now_told : Option Areas) (starts : Bytes) (chains more : List Chain) (met now : List ℕ) (rest behind : Bytes) (read : ℕ) (start : Start) (chain : Chain) (answer : Option Chain) → now_told ≡ told → answer ≡ Some chain → start.first ≡ number_at 0 rest → start.count ≡ number_at 8 rest → behind ≡ drop 16 rest → more ≡ chains ++ chain ∷ [] → ReadsFrom now_told met answer now start → GathersFrom told starts chains met rest read → GathersFrom told starts more now behind (read + 1)
gathers_more told now_told starts chains more met now rest behind read start chain answer same answer_is first count behind_is more_is found is =
    at_told told (subst (λ (o : Option Chain). ReadsFrom told met o now start) answer_is (subst (λ (r : Option Areas). ReadsFrom r met answer now start) same found)) is
  where
    at_told : (told : Option Areas) → ReadsFrom told met (Some chain) now start → GathersFrom told starts chains met rest read → GathersFrom told starts more now behind (read + 1)
    at_told None found is = tt
    at_told (Some areas) found is =
        let apart = found (pages_in (plain_chains chains)) is.distinct is.same in
        subst (λ (l : List PlainChain). AreGathered (pages_of areas.home) starts l now behind (read + 1)) (sym (ap plain_chains more_is ∙ map_push plain_chain chains chain))
        (gathered_more (pages_of areas.home) starts (plain_chains chains) met now rest behind read start.first start.count (plain_chain chain) first count behind_is apart.0 apart.1 is)

pub gathers_stuck : (told now_told : Option Areas) (starts : Bytes) (chains : List Chain) (met now : List ℕ) (rest : Bytes) (read : ℕ) (start : Start) (answer : Option Chain) → now_told ≡ told → answer ≡ None → read < 7 → start.first ≡ number_at 0 rest → start.count ≡ number_at 8 rest → ReadsFrom now_told met answer now start → GathersFrom told starts chains met rest read → WhereTold told (λ areas. AreReadChains None (pages_of areas.home) starts)
gathers_stuck told now_told starts chains met now rest read start answer same none few first count found is =
    at_told told (subst (λ (o : Option Chain). ReadsFrom told met o now start) none (subst (λ (r : Option Areas). ReadsFrom r met answer now start) same found)) is
  where
    at_told : (told : Option Areas) → ReadsFrom told met None now start → GathersFrom told starts chains met rest read → WhereTold told (λ areas. AreReadChains None (pages_of areas.home) starts)
    at_told None found is = tt
    at_told (Some areas) found is = λ all long seven.
        gathered_stuck (pages_of areas.home) starts (plain_chains chains) met rest read start.first start.count few first count (found (pages_in (plain_chains chains)) is.distinct is.same) is all seven

pub gathers_short : (told : Option Areas) (starts : Bytes) (chains : List Chain) (met : List ℕ) (rest : Bytes) (read : ℕ) → read < 7 → length rest < 16 → GathersFrom told starts chains met rest read → WhereTold told (λ areas. AreReadChains None (pages_of areas.home) starts)
gathers_short None starts chains met rest read few short is = tt
gathers_short (Some areas) starts chains met rest read few short is = λ all long seven.
    gathered_short (pages_of areas.home) starts (plain_chains chains) met rest read few short is long

pub gathers_all : (told : Option Areas) (starts : Bytes) (chains : ListView Chain) (met : List ℕ) (rest : Bytes) (read : ℕ) → 7 ≤ read → read ≤ 7 → GathersFrom told starts chains.items met rest read → WhereTold told (λ areas. AreReadChains (Some chains) (pages_of areas.home) starts)
gathers_all None starts chains met rest read many few is = tt
gathers_all (Some areas) starts chains met rest read many few is = gathered_all (pages_of areas.home) starts (plain_chains chains.items) met rest read many few is

-- page 0 is not there
pub no_page : (told : Option Areas) (page : Bytes) → WhereTold told (λ areas. IsPage false page (pages_of areas.home 0)) → WhereTold told (λ areas. IsReadHeader (pages_of areas.home) None)
no_page None page none = tt
no_page (Some areas) page none = λ chains position is. let there = is.is_there.there in cc (none, there)

-- page 0 is no header
pub no_front : (told : Option Areas) (page : Bytes) → WhereTold told (λ areas. IsPage true page (pages_of areas.home 0)) → (IsMarked page → length page < 24) → WhereTold told (λ areas. IsReadHeader (pages_of areas.home) None)
no_front None page read none = tt
no_front (Some areas) page read none = λ chains position is.
    let same : page ≡ is.header = same_page (pages_of areas.home) 0 is.header page is.is_there.there read in
    let short = none (subst IsMarked (sym same) record { mark = is.marked; used = is.used }) in
    let long = is.is_there.whole in
    absurd (omega (arith, short, ap length same, long))

page_there : (told : Option Areas) (there : Bool) (page : Bytes) → there ≡ true → WhereTold told (λ areas. IsPage there page (pages_of areas.home 0)) → WhereTold told (λ areas. IsPage true page (pages_of areas.home 0))
page_there told there page is_there read = subst (λ (t : Bool). WhereTold told (λ areas. IsPage t page (pages_of areas.home 0))) is_there read

chains_told : (told now_told : Option Areas) (answer wanted : Option (ListView Chain)) (starts : Bytes) → now_told ≡ told → answer ≡ wanted → WhereTold now_told (λ areas. AreReadChains answer (pages_of areas.home) starts) → WhereTold told (λ areas. AreReadChains wanted (pages_of areas.home) starts)
chains_told told now_told answer wanted starts same answer_is found =
    subst (λ (o : Option (ListView Chain)). WhereTold told (λ areas. AreReadChains o (pages_of areas.home) starts)) answer_is
    (subst (λ (r : Option Areas). WhereTold r (λ areas. AreReadChains answer (pages_of areas.home) starts)) same found)

-- one of the chains is not there
pub no_chains : (told now_told : Option Areas) (there : Bool) (page seen starts : Bytes) (answer : Option (ListView Chain)) → now_told ≡ told → there ≡ true → seen ≡ page → answer ≡ None → WhereTold told (λ areas. IsPage there page (pages_of areas.home 0)) → starts ≡ drop 24 seen → WhereTold now_told (λ areas. AreReadChains answer (pages_of areas.home) starts) → WhereTold told (λ areas. IsReadHeader (pages_of areas.home) None)
no_chains told now_told there page seen starts answer same is_there seen_is none read starts_are found =
    at_told told (page_there told there page is_there read) (chains_told told now_told answer None starts same none found)
  where
    at_told : (told : Option Areas) → WhereTold told (λ areas. IsPage true page (pages_of areas.home 0)) → WhereTold told (λ areas. AreReadChains None (pages_of areas.home) starts) → WhereTold told (λ areas. IsReadHeader (pages_of areas.home) None)
    at_told None read none = tt
    at_told (Some areas) read none = λ chains position is.
        let one : is.header ≡ page = same_page (pages_of areas.home) 0 page is.header read is.is_there.there in
        let named : drop 24 is.header ≡ starts = ap (drop 24) (one ∙ sym seen_is) ∙ sym starts_are in
        let whole = is.is_there.whole in
        none chains (omega (arith, ap length named, length-drop 24 is.header, whole))
        record { seven = is.seven; are = subst (λ (l : Bytes). AreNamed (pages_of areas.home) l chains) named is.named; distinct = is.distinct }

pub header_read : (told now_told : Option Areas) (there : Bool) (page seen starts : Bytes) (chains : ListView Chain) (position : ℕ) (answer : Option (ListView Chain)) → now_told ≡ told → there ≡ true → seen ≡ page → answer ≡ Some chains → WhereTold told (λ areas. IsPage there page (pages_of areas.home 0)) → WhereTold told (λ areas. IsTrue there → length page ≡ 4096) → IsMarked seen → position ≡ number_at 8 seen → starts ≡ drop 24 seen → WhereTold now_told (λ areas. AreReadChains answer (pages_of areas.home) starts) → WhereTold told (λ areas. IsReadHeader (pages_of areas.home) (Some record { position = position; chains = chains }))
header_read told now_told there page seen starts chains position answer same is_there seen_is answer_is read whole marked position_is starts_are found =
    at_told told (page_there told there page is_there read) (subst (λ (t : Bool). WhereTold told (λ areas. IsTrue t → length page ≡ 4096)) is_there whole) (subst IsMarked seen_is marked) (chains_told told now_told answer (Some chains) starts same answer_is found)
  where
    at_told : (told : Option Areas) → WhereTold told (λ areas. IsPage true page (pages_of areas.home 0)) → WhereTold told (λ areas. IsTrue true → length page ≡ 4096) → IsMarked page → WhereTold told (λ areas. AreReadChains (Some chains) (pages_of areas.home) starts) → WhereTold told (λ areas. IsReadHeader (pages_of areas.home) (Some record { position = position; chains = chains }))
    at_told None read whole marked found = tt
    at_told (Some areas) read whole marked found = record {
      header = page;
      is_there = record { there = read; whole = whole refl };
      marked = marked.mark;
      position_is = sym (position_is ∙ ap (number_at 8) seen_is);
      used = marked.used;
      seven = found.seven;
      named = subst (λ (l : Bytes). AreNamed (pages_of areas.home) l (plain_chains chains.items)) (starts_are ∙ ap (drop 24) seen_is) found.are;
      distinct = found.distinct;
    }

pub ruleset header_steps = (gathers_short, gathers_all, no_page, no_front)
