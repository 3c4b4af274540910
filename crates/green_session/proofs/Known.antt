-- Known bytes, one piece after the other.
use Rattle.std.proofs.Common.{◌≡◌, ◌≢◌, ℕ, ◌+◌, ◌<◌, List, [], ◌++◌, Option, Some, None, length, take, drop, ap, ◌∙◌, sym, append_assoc, refl, arith}
use Rattle.std.proofs.Math.Seq.{take-add}
use Rattle.std.proofs.lemmas.List.{append-nil, length-take-le}
use Rattle.std.specs.Io.KnownBytes.{Appends, Consumes, Keeps}

-- bytes were appended, and then more
pub appends_more : (a b c : Option (List ℕ)) (m n : ℕ) (bytes rest : List ℕ) → rest ≡ drop m bytes → Appends a b (take m bytes) → Appends b c (take n rest) → Appends a c (take (m + n) bytes)
appends_more None b c m n bytes rest e p q = tt
appends_more (Some xs) None c m n bytes rest e p q = absurd p
appends_more (Some xs) (Some ys) None m n bytes rest e p q = absurd q
appends_more (Some xs) (Some ys) (Some zs) m n bytes rest e p q =
    q ∙ ap (λ (r : List ℕ). r ++ take n rest) p ∙ append_assoc xs (take m bytes) (take n rest)
    ∙ ap (λ (r : List ℕ). xs ++ (take m bytes ++ take n r)) e ∙ ap (λ (r : List ℕ). xs ++ r) (sym (take-add m n bytes))

-- fewer of some bytes are not all of them
pub fewer_bytes : (n : ℕ) (bytes : List ℕ) → n < length bytes → take n bytes ≢ bytes
fewer_bytes n bytes lt all = absurd (omega (arith, lt, length-take-le n bytes (omega (arith, lt)), ap length all))

pub ruleset known = (appends_more, fewer_bytes)

-- bytes were consumed, and then more
pub consumes_more : (a b c : Option (List ℕ)) (xs ys : List ℕ) → Consumes a b xs → Consumes b c ys → Consumes a c (xs ++ ys)
consumes_more None b c xs ys p q = tt
consumes_more (Some as') None c xs ys p q = absurd p
consumes_more (Some as') (Some bs) None xs ys p q = absurd q
consumes_more (Some as') (Some bs) (Some cs) xs ys p q = p ∙ ap (λ (r : List ℕ). xs ++ r) q ∙ sym (append_assoc xs ys cs)

pub appends_nothing : (a : Option (List ℕ)) → Appends a a []
appends_nothing None = tt
appends_nothing (Some xs) = sym (append-nil xs)

pub consumes_nothing : (a : Option (List ℕ)) → Consumes a a []
consumes_nothing None = tt
consumes_nothing (Some xs) = refl

-- bytes were consumed, and then none
pub consumes_kept : (a b c : Option (List ℕ)) (xs : List ℕ) → Consumes a b xs → Keeps b c → Consumes a c xs
consumes_kept None b c xs p q = tt
consumes_kept (Some as') None c xs p q = absurd p
consumes_kept (Some as') (Some bs) None xs p q = absurd q
consumes_kept (Some as') (Some bs) (Some cs) xs p q = p ∙ ap (λ (r : List ℕ). xs ++ r) (sym q)
