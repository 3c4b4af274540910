-- One test after another.
use Rattle.std.proofs.Common.{◌≡◌, Bool, true, false, IsTrue}
use Rattle.std.specs.Prelude.{◌↔◌}

-- a part fails, and so does the whole
pub refuted : {Part Whole : Type 0} (r : Bool) → (IsTrue r ↔ Part) → r ≡ false → (Whole → Part) → IsTrue false ↔ Whole
refuted r iff not part = (λ never. absurd cc, λ whole. let yes : r ≡ true = iff.1 (part whole) in absurd cc)

pub passed : {Part : Type 0} (r : Bool) → (IsTrue r ↔ Part) → r ≡ true → Part
passed r iff so = iff.0 so
