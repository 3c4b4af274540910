-- The end of a log that is being closed.
use Rattle.std.specs.Prelude.{◌≡◌, ◌≢◌, ◌⊎◌, ℕ, ◌==◌, Bool, false, List, [], ◌∷◌, ◌++◌, drop}

-- the area is this
abbrev pub IsThat : List ℕ → List ℕ → Type 0
IsThat bytes area = area ≡ bytes

-- a gate stands there, and is 0
abbrev pub begins_shut : List ℕ → Bool
begins_shut [] = false
begins_shut (gate ∷ rest) = gate == 0

-- What a crash leaves of a log that had these bytes at its end, while a 0 is written to the gate there: any byte in
-- the gate's place, or none where there was none. A gate that is 0 is not written.
abbrev pub HasTornGate : List ℕ → List ℕ → List ℕ → Type 0
HasTornGate front [] log = (log ≡ front) ⊎ ((byte : ℕ) × (log ≡ front ++ (byte ∷ [])))
HasTornGate front (gate ∷ rest) log = (gate ≢ 0) × ((byte : ℕ) × (log ≡ front ++ (byte ∷ rest)))

-- a log with these bytes at its end has a gate 0 there, in place of the first of them, or where none is
abbrev pub ClosesEnd : List ℕ → List ℕ → List ℕ → List ℕ → Type 0
ClosesEnd front end old new = old ≡ front ++ end → new ≡ front ++ (0 ∷ drop 1 end)
