-- What stands behind a home in the address of one of its links.
use Rattle.std.proofs.Common.{◌≡◌, ◌∙◌, ℕ, ◌+◌, Bool, true, false, true≢false, not, nat_eq, List, [], ◌∷◌, ◌++◌, length, get_or, refl, sym, ap, arith, length-append}
use Rattle.std.specs.Prelude.{IsTrue, ◌↔◌}
use Rattle.std.specs.Cmp.Lexicographic.{pointwise, bytes_decides}
use Rattle.world_rules.specs.World.{link_address}

-- ---- three places

pub three_places : (end : List ℕ) → length end ≡ 3 → end ≡ get_or end 0 0 ∷ get_or end 1 0 ∷ get_or end 2 0 ∷ []
three_places [] long = absurd (omega (arith, long))
three_places (a ∷ []) long = absurd (omega (arith, long))
three_places (a ∷ b ∷ []) long = absurd (omega (arith, long))
three_places (a ∷ b ∷ c ∷ []) long = refl
three_places (a ∷ b ∷ c ∷ d ∷ end) long = absurd (omega (arith, long))

pub end_made : (end : List ℕ) (number : ℕ) → length end ≡ 3 → get_or end 0 0 ≡ 0 → get_or end 1 0 ≡ 2 → get_or end 2 0 ≡ number → end ≡ 0 ∷ 2 ∷ number ∷ []
end_made end number long a b c = three_places end long ∙ (λ i. a i ∷ b i ∷ c i ∷ [])

pub first_of_end : (end : List ℕ) (number : ℕ) → end ≡ 0 ∷ 2 ∷ number ∷ [] → get_or end 0 0 ≡ 0
first_of_end end number is = ap (λ (ps : List ℕ). get_or ps 0 0) is

pub second_of_end : (end : List ℕ) (number : ℕ) → end ≡ 0 ∷ 2 ∷ number ∷ [] → get_or end 1 0 ≡ 2
second_of_end end number is = ap (λ (ps : List ℕ). get_or ps 1 0) is

pub last_of_end : (end : List ℕ) (number : ℕ) → end ≡ 0 ∷ 2 ∷ number ∷ [] → get_or end 2 0 ≡ number
last_of_end end number is = ap (λ (ps : List ℕ). get_or ps 2 0) is

-- ---- places that are compared

not_false : (b : Bool) → not b ≡ false → b ≡ true
not_false true e = refl
not_false false e = sym e

pub same_start : (start front home : List ℕ) (other : Bool) → front ≡ home → other ≡ not (pointwise nat_eq start front) → other ≡ false → start ≡ home
same_start start front home other is says e = (bytes_decides start front).0 (not_false (pointwise nat_eq start front) (sym says ∙ e)) ∙ is

pub other_start : (start front home : List ℕ) (other : Bool) → front ≡ home → other ≡ not (pointwise nat_eq start front) → other ≡ true → start ≡ home → ⊥
other_start start front home other is says e same = true≢false (sym e ∙ says ∙ ap not ((bytes_decides start front).1 (same ∙ sym is)))

-- ---- a home and what stands behind it

same_back : (a xs ys : List ℕ) → a ++ xs ≡ a ++ ys → xs ≡ ys
same_back [] xs ys e = e
same_back (x ∷ a) xs ys e =
    let rest : a ++ xs ≡ a ++ ys = cc in
    same_back a xs ys rest

same_front : (a b xs ys : List ℕ) → length a ≡ length b → a ++ xs ≡ b ++ ys → a ≡ b
same_front [] [] xs ys long e = refl
same_front [] (y ∷ b) xs ys long e = absurd (omega (arith, long))
same_front (x ∷ a) [] xs ys long e = absurd (omega (arith, long))
same_front (x ∷ a) (y ∷ b) xs ys long e =
    let first : x ≡ y = cc in
    let rest : a ++ xs ≡ b ++ ys = cc in
    let tail : a ≡ b = same_front a b xs ys (omega (arith, long)) rest in
    λ i. first i ∷ tail i

module _ (id home : List ℕ) (number : ℕ) where
  pub link_long : id ≡ link_address home number → length id ≡ length home + 3
  link_long is =
      let long = ap length is in
      omega (arith, long, length-append home (0 ∷ 2 ∷ number ∷ []))

  module _ (start end : List ℕ) (parts : id ≡ start ++ end) (long : length start ≡ length home) where
    pub link_starts : id ≡ link_address home number → start ≡ home
    link_starts is = same_front start home end (0 ∷ 2 ∷ number ∷ []) long (sym parts ∙ is)

    pub link_ends : (b : Bool) → start ≡ home → IsTrue b ↔ (end ≡ 0 ∷ 2 ∷ number ∷ []) → IsTrue b ↔ (id ≡ link_address home number)
    link_ends b same decides = (
      (λ t. parts ∙ (λ i. same i ++ decides.0 t i)),
      (λ is. decides.1 (same_back home end (0 ∷ 2 ∷ number ∷ []) (ap (λ (ps : List ℕ). ps ++ end) (sym same) ∙ sym parts ∙ is))),
    )
