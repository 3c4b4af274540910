-- Where a place lies among the positions of a part. Only private functions cite this.
use Rattle.std.specs.Prelude.{◌≡◌, ℕ, ◌+◌, ◌<◌, ◌≤◌, true, false, List, [], ◌∷◌}
use Rattle.tumbler.specs.Places.{comes_before}

-- positions below n come before the place, those from n on do not
pub record IsBound (part : ℕ) (place : List ℕ) (length n : ℕ) : Type 0 where
  pub from_one : 1 ≤ n
  pub to_end : n ≤ length + 1
  pub before : (m : ℕ) → 1 ≤ m → m < n → comes_before (part ∷ m ∷ []) place ≡ true
  pub past : (m : ℕ) → n ≤ m → m ≤ length → comes_before (part ∷ m ∷ []) place ≡ false
