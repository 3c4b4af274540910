use Rattle.std.proofs.Common.{subst, List, ℕ}
use Rattle.tumbler.specs.Address.{IsMadeIn}
use Rattle.tumbler.proofs.tumbler.Tumbler.document_of.Goals as goal

pub returns-in-None-clause-none : goal.returns-in-None-clause-none
returns-in-None-clause-none c = subst (λ (places : List ℕ). (document : List ℕ) → IsMadeIn places document → ⊥) c.places.ensures.value c.in-None.ensures.none
