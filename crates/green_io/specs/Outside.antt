-- What a read and a write do to the bytes that a source has left and a sink has taken, and to the count of faults.
use Rattle.std.specs.Prelude.{ℕ, ◌+◌, ◌-◌, ◌^◌, ◌≤◌, min, List, length, take, Option}
use Rattle.std.specs.Io.KnownBytes.{Consumes, Appends, Keeps, IsAtEnd}
use Rattle.green_io.specs.declared.source.ReadAnswer.{ReadAnswer}
use Rattle.green_io.specs.declared.source.ReadAnswer.TheVariants.{Got, End, Failed}
use Rattle.green_io.specs.declared.sink.WriteAnswer.{WriteAnswer}
use Rattle.green_io.specs.declared.sink.WriteAnswer.TheVariants.{Took, Failed as WriteFailed}

-- a count is greater afterwards than before, or at the greatest number
abbrev pub HasRisen : ℕ → ℕ → Type 0
HasRisen before after = min (before + 1) (2 ^ 64 - 1) ≤ after

-- a read gave at least one byte, taken from the front of what was left; or it met the end, where nothing is
-- left; or it failed, and what was left stays
abbrev pub IsReadOutcome : ReadAnswer → Option (List ℕ) → Option (List ℕ) → List ℕ → Type 0
IsReadOutcome (Got n) old new into = (1 ≤ n) × (n ≤ length into) × Consumes old new (take n into)
IsReadOutcome End old new into = Keeps old new × IsAtEnd new
IsReadOutcome Failed old new into = Keeps old new

-- this holds if the read failed
abbrev pub OnFailedRead : ReadAnswer → Type 0 → Type 0
OnFailedRead (Got n) fact = Unit {0}
OnFailedRead End fact = Unit {0}
OnFailedRead Failed fact = fact

-- a write took at least one byte, from the front of what it was given; or it failed, and what was taken stays
abbrev pub IsWriteOutcome : WriteAnswer → Option (List ℕ) → Option (List ℕ) → List ℕ → Type 0
IsWriteOutcome (Took n) old new bytes = (1 ≤ n) × (n ≤ length bytes) × Appends old new (take n bytes)
IsWriteOutcome WriteFailed old new bytes = Keeps old new

-- this holds if the write failed
abbrev pub OnFailedWrite : WriteAnswer → Type 0 → Type 0
OnFailedWrite (Took n) fact = Unit {0}
OnFailedWrite WriteFailed fact = fact
