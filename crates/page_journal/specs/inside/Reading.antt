-- Reading an area piece by piece.
use Rattle.std.specs.Prelude.{◌≡◌, ℕ, ◌+◌, ◌≤◌, Bool, true, false, length, take, drop}
use Rattle.page_journal.specs.Pages.{Bytes}

-- Of what is wanted behind a place some bytes more were read; or there are none.
abbrev pub ReadsOn : Bool → ℕ → Bytes → Bytes → Bytes → Type 0
ReadsOn true at old new area = (old ≡ take (length old) (drop at area)) → (new ≡ take (length new) (drop at area))
ReadsOn false at old new area = (length area ≤ at + length old) × (new ≡ old)
