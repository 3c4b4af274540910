-- Bytes that are read and written, one part after the other.
use Rattle.std.proofs.Common.{ℕ, ◌≤◌, arith, List, [], ◌++◌, Option, Some, None, refl, ap, ◌∙◌, sym, append_assoc}
use Rattle.std.proofs.lemmas.List.{append-nil}
use Rattle.std.specs.Io.KnownBytes.{Appends, Consumes}
use Rattle.green_io.specs.Outside.{HasRisen}

-- bytes were consumed, and then more
pub consumes_more : (a b c : Option (List ℕ)) (xs ys : List ℕ) → Consumes a b xs → Consumes b c ys → Consumes a c (xs ++ ys)
consumes_more None b c xs ys p q = tt
consumes_more (Some as') None c xs ys p q = absurd p
consumes_more (Some as') (Some bs) None xs ys p q = absurd q
consumes_more (Some as') (Some bs) (Some cs) xs ys p q = p ∙ ap (λ (r : List ℕ). xs ++ r) q ∙ sym (append_assoc xs ys cs)

pub consumes_nothing : (a : Option (List ℕ)) → Consumes a a []
consumes_nothing None = tt
consumes_nothing (Some xs) = refl

pub appends_nothing : (a : Option (List ℕ)) → Appends a a []
appends_nothing None = tt
appends_nothing (Some xs) = sym (append-nil xs)

pub appends_both : (a b c : Option (List ℕ)) (xs ys : List ℕ) → Appends a b xs → Appends b c ys → Appends a c (xs ++ ys)
appends_both None b c xs ys p q = tt
appends_both (Some as') None c xs ys p q = absurd p
appends_both (Some as') (Some bs) None xs ys p q = absurd q
appends_both (Some as') (Some bs) (Some cs) xs ys p q = q ∙ ap (λ (r : List ℕ). r ++ ys) p ∙ append_assoc as' xs ys

pub risen_since : (a b c : ℕ) → a ≤ b → HasRisen b c → HasRisen a c
risen_since a b c le h = omega arith

pub risen_until : (a b c : ℕ) → b ≤ c → HasRisen a b → HasRisen a c
risen_until a b c le h = omega arith
