-- Reading an area with a log piece by piece, and the gate of the second area.
use Rattle.std.specs.Prelude.{◌≡◌, ℕ, ◌+◌, ◌≤◌, Bool, true, false, List, ◌++◌, length, take, drop}
use Rattle.edit_log.specs.Log.{IsEnd}
use Rattle.edit_log.specs.Second.{IsOpened}

-- Behind what was read of the area some bytes more were read; or there are none.
abbrev pub ReadsOn : Bool → List ℕ → List ℕ → List ℕ → Type 0
ReadsOn true old new area = (n : ℕ) × (length old + n ≤ length area) × (new ≡ old ++ take n (drop (length old) area))
ReadsOn false old new area = (length area ≤ length old) × (new ≡ old)

-- these bytes are the front of the area
abbrev pub IsRead : List ℕ → List ℕ → Type 0
IsRead bytes area = bytes ≡ take (length bytes) area

-- The second area is open; or it reads like the end of a log.
abbrev pub TellsOpen : Bool → List ℕ → Type 0
TellsOpen true second = IsOpened (λ rest. Unit {0}) second
TellsOpen false second = IsEnd second
