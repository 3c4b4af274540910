-- Edits of the world's lists, one item after the other.
use Rattle.std.proofs.Common.{◌≡◌, ℕ, suc, ◌+◌, ◌-◌, ◌<◌, ◌∙◌, List, [], ◌∷◌, ◌++◌, arith, refl, append_assoc}
use Rattle.world_rules.specs.World.{content_address}
use Rattle.world_rules.specs.Edits.{content_addresses}

-- where there is one more address to come, it is the next
pub addresses_more : (document : List ℕ) (first count k : ℕ) (made all : List (List ℕ)) → k < count → made ++ content_addresses document first (count - k) ≡ all
    → (made ++ content_address document first ∷ []) ++ content_addresses document (first + 1) (count - (k + 1)) ≡ all
addresses_more document first count k made all lt before =
    let e : count - k ≡ suc (count - (k + 1)) = omega arith in
    append_assoc made (content_address document first ∷ []) (content_addresses document (first + 1) (count - (k + 1))) ∙ (rw e at before)

pub addresses_done : (document : List ℕ) (first count k : ℕ) → count ≡ k → content_addresses document first (count - k) ≡ []
addresses_done document first count k e =
    let none : count - k ≡ 0 = omega arith in
    rw none refl

pub ruleset edited = (addresses_done)
