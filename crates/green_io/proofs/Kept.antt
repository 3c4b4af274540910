-- Lemmas on known bytes that were kept before a read.
use Rattle.std.proofs.Common.{ℕ, List, [], Option, None, Some, sym, ◌∙◌}
use Rattle.std.specs.Io.KnownBytes.{Keeps, Consumes}

-- what consumes nothing keeps what it had
pub Keeps-of_no_read : (a b c : Option (List ℕ)) → Keeps a b → Consumes b c [] → Keeps a c
Keeps-of_no_read None b c p q = tt
Keeps-of_no_read (Some x) None c p q = absurd p
Keeps-of_no_read (Some x) (Some y) None p q = absurd q
Keeps-of_no_read (Some x) (Some y) (Some z) p q = sym q ∙ p
