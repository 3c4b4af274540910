-- Scanning: a state and what each byte makes of it.
use Rattle.std.specs.Prelude.{ℕ, suc, ◌+◌, List, [], ◌∷◌}
use Rattle.febe_fields.specs.declared.scanned.Scanned.{Scanned}
use Rattle.febe_fields.specs.declared.scanned.Scanned.TheVariants.{Incomplete, Complete, Bad}

-- what a byte makes of a state: another state, the end, or nothing that is right
pub data Outcome (State : Type 0) : Type 0 where
  goes : State → Outcome State
  done : Outcome State
  fails : Outcome State

-- the same, so many bytes later
abbrev pub behind : ℕ → Scanned → Scanned
behind n Incomplete = Incomplete
behind n (Complete used) = Complete (n + used)
behind n (Bad at) = Bad (n + at)

-- the same, one byte later
abbrev pub behind_one : Scanned → Scanned
behind_one Incomplete = Incomplete
behind_one (Complete used) = Complete (suc used)
behind_one (Bad at) = Bad (suc at)

abbrev pub scan_on : {State : Type 0} → Outcome State → (State → Scanned) → Scanned
scan_on (goes s) on = behind_one (on s)
scan_on done on = Complete 1
scan_on fails on = Bad 0

-- what scanning says of the bytes: one state after the other, byte by byte
unfoldable pub scan : {State : Type 0} → (State → ℕ → Outcome State) → State → List ℕ → Scanned
scan step s [] = Incomplete
scan step s (b ∷ bytes) = scan_on (step s b) (λ next. scan step next bytes)
