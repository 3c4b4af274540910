-- Ids of links in order have their homes in order.
use Rattle.std.proofs.Common.{◌≡◌, ◌∙◌, ℕ, zero, suc, ◌+◌, ◌<◌, List, [], ◌∷◌, ◌++◌, All, refl, sym, ap, arith, inl, inr, ◌⊎◌}
use Rattle.std.proofs.lemmas.List.Elements.{All-head, All-tail}
use Rattle.tumbler.specs.Places.{IsBefore, IsUpTo}
use Rattle.tumbler.specs.Address.{IsDocument}
use Rattle.tumbler.proofs.Order.{before_by_first, before_by_rest, before_cases, before_before, never_before_itself, upto_or_before}
use Rattle.tumbler.proofs.Before.{never_before_none}
use Rattle.tumbler.proofs.DocumentFields.{fields}
use Rattle.world_rules.specs.World.{link_address}

-- how many places are 0
abbrev zeros : List ℕ → ℕ
zeros [] = 0
zeros (zero ∷ places) = suc (zeros places)
zeros (suc x ∷ places) = zeros places

zeros_together : (a b : List ℕ) → zeros (a ++ b) ≡ zeros a + zeros b
zeros_together [] b = omega arith
zeros_together (zero ∷ a) b =
    let rest = zeros_together a b in
    let all : suc (zeros (a ++ b)) ≡ suc (zeros a) + zeros b = omega (arith, rest) in
    all
zeros_together (suc x ∷ a) b = zeros_together a b

no_zeros : (a : List ℕ) → All (λ p. 0 < p) a → zeros a ≡ 0
no_zeros [] full = refl
no_zeros (zero ∷ a) full = absurd (omega (arith, All-head (λ p. 0 < p) 0 a full))
no_zeros (suc x ∷ a) full = no_zeros a (All-tail (λ p. 0 < p) (suc x) a full)

two_zeros : (document : List ℕ) → IsDocument document → zeros document ≡ 2
two_zeros document is =
    let f = fields document is in
    let one : zeros (f.node ++ (0 ∷ (f.user ++ (0 ∷ f.field)))) ≡ zeros f.node + suc (zeros (f.user ++ (0 ∷ f.field))) = zeros_together f.node (0 ∷ (f.user ++ (0 ∷ f.field))) in
    let two : zeros (f.user ++ (0 ∷ f.field)) ≡ zeros f.user + suc (zeros f.field) = zeros_together f.user (0 ∷ f.field) in
    let sum : zeros f.node + suc (zeros (f.user ++ (0 ∷ f.field))) ≡ 2 = omega (arith, two, no_zeros f.node f.node_full, no_zeros f.user f.user_full, no_zeros f.field f.field_full) in
    ap zeros f.whole ∙ one ∙ sum

-- equal first places leave equally many zeros
behind : (x y : ℕ) (a b : List ℕ) → x ≡ y → zeros (x ∷ a) ≡ zeros (y ∷ b) → zeros a ≡ zeros b
behind zero zero a b e same = let up : suc (zeros a) ≡ suc (zeros b) = same in omega (arith, up)
behind zero (suc y) a b e same = absurd (omega (arith, e))
behind (suc x) zero a b e same = absurd (omega (arith, e))
behind (suc x) (suc y) a b e same = same

-- a home that comes before another, which has as many zeros, is before it with a 0 behind it too
home_first : (a b u v : List ℕ) → IsBefore a b → zeros a ≡ zeros b → IsBefore (a ++ 0 ∷ u) (b ++ v)
home_first [] [] u v less same = absurd (never_before_itself [] less)
home_first [] (zero ∷ b) u v less same = let up : 0 ≡ suc (zeros b) = same in absurd (omega (arith, up))
home_first [] (suc y ∷ b) u v less same = before_by_first 0 (suc y) u (b ++ v) (omega arith)
home_first (x ∷ a) [] u v less same = absurd (never_before_none (x ∷ a) less)
home_first (x ∷ a) (y ∷ b) u v less same = step (before_cases x y a b less) (λ before rest. home_first a b u v before rest)
  where
    step : (x < y) ⊎ ((x ≡ y) × IsBefore a b) → (IsBefore a b → zeros a ≡ zeros b → IsBefore (a ++ 0 ∷ u) (b ++ v)) → IsBefore (x ∷ a ++ 0 ∷ u) (y ∷ b ++ v)
    step (inl lt) rest = before_by_first x y (a ++ 0 ∷ u) (b ++ v) lt
    step (inr alike) rest = rw (alike.0) (before_by_rest y (a ++ 0 ∷ u) (b ++ v) (rest alike.1 (behind x y a b alike.0 same)))

pub homes_ascend : (a b : List ℕ) (n m : ℕ) → IsDocument a → IsDocument b → IsBefore (link_address a n) (link_address b m) → IsUpTo a b
homes_ascend a b n m is_a is_b less = elim (upto_or_before a b) [
  | inl upto ↦ upto
  | inr back ↦
      absurd (never_before_itself (link_address a n)
      (before_before (link_address a n) (link_address b m) (link_address a n) less (home_first b a (2 ∷ m ∷ []) (0 ∷ 2 ∷ n ∷ []) back (two_zeros b is_b ∙ sym (two_zeros a is_a)))))
]
