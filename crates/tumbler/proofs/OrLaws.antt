-- How "or" is moved about.
use Rattle.std.proofs.Common.{◌≡◌, Bool, true, false, ◌||◌, refl}

pub or_again : (a b : Bool) → (a || b) ≡ (a || (a || b))
or_again true b = refl
or_again false b = refl

pub or_across : (a b c : Bool) → (a || (b || c)) ≡ (b || (a || c))
or_across true true c = refl
or_across true false c = refl
or_across false b c = refl

pub or_aside : (a b c : Bool) → ((a || b) || c) ≡ (b || (a || c))
or_aside true true c = refl
or_aside true false c = refl
or_aside false b c = refl

pub or_none : (a : Bool) → a ≡ (a || false)
or_none true = refl
or_none false = refl
