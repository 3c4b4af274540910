-- What is found and what is not.
use Rattle.std.proofs.Common.{◌≡◌, Bool, true, false, Option, Some, None, ap, true≢false}

abbrev value_or : {X : Type 0} → X → Option X → X
value_or d (Some x) = x
value_or d None = d

abbrev is_there : {X : Type 0} → Option X → Bool
is_there (Some x) = true
is_there None = false

pub one_value : {X : Type 0} (x y : X) → Some x ≡ Some y → x ≡ y
one_value x y e = ap (value_or x) e

pub none_there : {X : Type 0} (x : X) → Some x ≡ None → ⊥
none_there x e = true≢false (ap is_there e)
