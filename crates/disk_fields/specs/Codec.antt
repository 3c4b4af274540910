-- When reading and writing belong together.
use Rattle.std.specs.Prelude.{◌≡◌, ℕ, ◌<◌, List, ◌++◌, Option, Some, All}
use Rattle.febe_fields.proofs.ListLaws.{ReadsAgain}

abbrev pub AreBytes : List ℕ → Type 0
AreBytes bytes = All (λ b. b < 256) bytes

-- what is read has a spelling, and that is what was read
abbrev pub ReadsRight : {X : Type 0} → (X → Type 0) → (List ℕ → Option (X × List ℕ)) → (X → List ℕ) → Type 0
ReadsRight {X} IsSpelled read spell = (bytes rest : List ℕ) (x : X) → AreBytes bytes → read bytes ≡ Some (x, rest) → (bytes ≡ spell x ++ rest) × IsSpelled x

-- what is read is exactly what is written so
pub record Codec {X : Type 0} (IsSpelled : X → Type 0) (read : List ℕ → Option (X × List ℕ)) (spell : X → List ℕ) : Type 0 where
  pub again : ReadsAgain IsSpelled read spell
  pub right : ReadsRight IsSpelled read spell
