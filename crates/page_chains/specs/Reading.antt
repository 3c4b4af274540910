-- What reading a header gives.
use Rattle.std.specs.Prelude.{ℕ, List, Option, None, Some, map}
use Rattle.page_journal.specs.Pages.{Pages}
use Rattle.page_chains.specs.declared.chain.Chain.{Chain}
use Rattle.page_chains.specs.declared.header.Header.{Header}
use Rattle.page_chains.specs.Chains.{PlainChain}
use Rattle.page_chains.specs.Headers.{HasHeader}

abbrev pub plain_chain : Chain → PlainChain
plain_chain chain = record { numbers = chain.numbers.items; bytes = chain.bytes.items }

abbrev pub plain_chains : List Chain → List PlainChain
plain_chains chains = map plain_chain chains

-- The header that was found is one; or there is none, of any chains and at any position.
abbrev pub IsReadHeader : Pages → Option Header → Type 0
IsReadHeader pages (Some found) = HasHeader pages (plain_chains found.chains.items) found.position
IsReadHeader pages None = (chains : List PlainChain) (position : ℕ) → HasHeader pages chains position → ⊥
