-- What stands in a text after things were written one behind the other.
use Rattle.std.proofs.Common.{◌≡◌, ℕ, List, [], ◌++◌, Result, Ok, Err, ap, ◌∙◌, append_assoc}
use Rattle.std.specs.Prelude.{OnOk}

pub then_more : {T E : Type 0} (r : Result T E) (old a b first last : List ℕ) → first ≡ old ++ a → OnOk r (last ≡ first ++ b) → OnOk r (last ≡ old ++ (a ++ b))
then_more (Ok x) old a b first last e f = f ∙ ap (λ (ds : List ℕ). ds ++ b) e ∙ append_assoc old a b
then_more (Err x) old a b first last e f = tt

-- a text that began with nothing
pub three_parts : (none first second third a b c : List ℕ) → none ≡ [] → first ≡ none ++ a → second ≡ first ++ b → third ≡ second ++ c → third ≡ a ++ (b ++ c)
three_parts none first second third a b c e f g h =
    h ∙ ap (λ (ds : List ℕ). ds ++ c) (g ∙ ap (λ (ds : List ℕ). ds ++ b) (f ∙ ap (λ (ds : List ℕ). ds ++ a) e)) ∙ append_assoc a b c
