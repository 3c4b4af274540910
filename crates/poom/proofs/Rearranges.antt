-- Cuts, and the blocks between them.
use Rattle.std.proofs.Common.{◌≡◌, ◌≢◌, ◌⊎◌, inl, inr, ℕ, ◌≤◌, List, [], ◌∷◌, length, get_or, refl, arith}
use Rattle.poom.specs.Laid.{AreCuts, rearranged, swapped_at}

-- the ends of two blocks of a text, and what comes of it where they change places
pub record AreBlocks (cuts : List ℕ) (end first second third fourth : ℕ) : Type 0 where
  pub from_one : 1 ≤ first
  pub before : first ≤ second
  pub between : second ≤ third
  pub behind : third ≤ fourth
  pub to_end : fourth ≤ end
  pub is : (addresses : List (List ℕ)) → swapped_at first second third fourth addresses ≡ rearranged cuts addresses

pub few_cuts : (cuts : List ℕ) (end : ℕ) → AreCuts cuts end → (length cuts ≡ 3) ⊎ (length cuts ≡ 4)
few_cuts [] end cut = elim cut [ ]
few_cuts (a ∷ []) end cut = elim cut [ ]
few_cuts (a ∷ b ∷ []) end cut = elim cut [ ]
few_cuts (a ∷ b ∷ c ∷ d ∷ e ∷ cuts) end cut = elim cut [ ]
few_cuts (a ∷ b ∷ c ∷ []) end cut = inl refl
few_cuts (a ∷ b ∷ c ∷ d ∷ []) end cut = inr refl

pub three_cuts : (cuts : List ℕ) (end : ℕ) → AreCuts cuts end → length cuts ≡ 3 → AreBlocks cuts end (get_or cuts 0 0) (get_or cuts 1 0) (get_or cuts 1 0) (get_or cuts 2 0)
three_cuts [] end cut is = elim cut [ ]
three_cuts (a ∷ []) end cut is = elim cut [ ]
three_cuts (a ∷ b ∷ []) end cut is = elim cut [ ]
three_cuts (a ∷ b ∷ c ∷ d ∷ e ∷ cuts) end cut is = elim cut [ ]
three_cuts (a ∷ b ∷ c ∷ []) end cut is = record { from_one = cut.0; before = cut.1; between = omega arith; behind = cut.2; to_end = cut.3; is = λ addresses. refl }
three_cuts (a ∷ b ∷ c ∷ d ∷ []) end cut is = absurd (omega (arith, is))

pub four_cuts : (cuts : List ℕ) (end : ℕ) → AreCuts cuts end → length cuts ≢ 3 → AreBlocks cuts end (get_or cuts 0 0) (get_or cuts 1 0) (get_or cuts 2 0) (get_or cuts 3 0)
four_cuts [] end cut is = elim cut [ ]
four_cuts (a ∷ []) end cut is = elim cut [ ]
four_cuts (a ∷ b ∷ []) end cut is = elim cut [ ]
four_cuts (a ∷ b ∷ c ∷ d ∷ e ∷ cuts) end cut is = elim cut [ ]
four_cuts (a ∷ b ∷ c ∷ []) end cut is = absurd (is refl)
four_cuts (a ∷ b ∷ c ∷ d ∷ []) end cut is = record { from_one = cut.0; before = cut.1; between = cut.2; behind = cut.3; to_end = cut.4; is = λ addresses. refl }

pub at_least_three : (cuts : List ℕ) (end : ℕ) → AreCuts cuts end → 3 ≤ length cuts
at_least_three [] end cut = elim cut [ ]
at_least_three (a ∷ []) end cut = elim cut [ ]
at_least_three (a ∷ b ∷ []) end cut = elim cut [ ]
at_least_three (a ∷ b ∷ c ∷ d ∷ e ∷ cuts) end cut = elim cut [ ]
at_least_three (a ∷ b ∷ c ∷ []) end cut = omega arith
at_least_three (a ∷ b ∷ c ∷ d ∷ []) end cut = omega arith

pub at_least_four : (cuts : List ℕ) (end : ℕ) → AreCuts cuts end → length cuts ≢ 3 → 4 ≤ length cuts
at_least_four [] end cut is = elim cut [ ]
at_least_four (a ∷ []) end cut is = elim cut [ ]
at_least_four (a ∷ b ∷ []) end cut is = elim cut [ ]
at_least_four (a ∷ b ∷ c ∷ d ∷ e ∷ cuts) end cut is = elim cut [ ]
at_least_four (a ∷ b ∷ c ∷ []) end cut is = absurd (is refl)
at_least_four (a ∷ b ∷ c ∷ d ∷ []) end cut is = omega arith

pub ruleset cuts = (at_least_three, at_least_four)
