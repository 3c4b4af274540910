-- Marks that are set one after another.
use Rattle.std.proofs.Common.{◌≡◌, ◌∙◌, ◌⊎◌, inl, inr, ℕ, ◌+◌, ◌<◌, ◌≤◌, Bool, List, [], ◌∷◌, ◌++◌, length, take, map, get_or, sym, ap, subst, arith}
use Rattle.std.specs.Prelude.{IsTrue}
use Rattle.std.specs.List.{Contains}
use Rattle.std.proofs.lemmas.List.{take_more, take_all, map-append}
use Rattle.std.proofs.lemmas.List.Elements.{Contains-append_left, Contains-append_right, Contains-append_cases}
use Rattle.enfilade_core.specs.NewNumbers.{is_marked}
use Rattle.enfilade_sweep.specs.Marks.{MarksMore}

pub marked_none : (marks : List Bool) → MarksMore [] marks marks
marked_none marks k = (λ h. inl h, λ s. elim s [ inl h ↦ h | inr c ↦ absurd (omega (arith, c.1)) ])

pub marked_more : {X : Type 0} (f : X → ℕ) (xs : List X) (i : ℕ) (x d : X) (old mid new : List Bool) → i < length xs → x ≡ get_or xs i d
    → MarksMore (map f (take i xs)) old mid → MarksMore (f x ∷ []) mid new → MarksMore (map f (take (i + 1) xs)) old new
marked_more {X} f xs i x d old mid new lt is front last k = (to, from)
  where
    all : map f (take (i + 1) xs) ≡ map f (take i xs) ++ f x ∷ []
    all = ap (map f) (take_more xs i d lt) ∙ map-append f (take i xs) (get_or xs i d ∷ []) ∙ ap (λ (y : X). map f (take i xs) ++ f y ∷ []) (sym is)

    to : IsTrue (is_marked new k) → IsTrue (is_marked old k) ⊎ Contains (map f (take (i + 1) xs)) k
    to h = elim ((last k).0 h) [
      | inl mid_marked ↦ elim ((front k).0 mid_marked) [
        | inl was ↦ inl was
        | inr c ↦ inr (subst (λ (ns : List ℕ). Contains ns k) (sym all) (Contains-append_left (map f (take i xs)) (f x ∷ []) k c))
      ]
      | inr c ↦ inr (subst (λ (ns : List ℕ). Contains ns k) (sym all) (Contains-append_right (map f (take i xs)) (f x ∷ []) k c))
    ]

    from : IsTrue (is_marked old k) ⊎ Contains (map f (take (i + 1) xs)) k → IsTrue (is_marked new k)
    from (inl was) = (last k).1 (inl ((front k).1 (inl was)))
    from (inr c) = elim (Contains-append_cases (map f (take i xs)) (f x ∷ []) k (subst (λ (ns : List ℕ). Contains ns k) all c)) [
      | inl early ↦ (last k).1 (inl ((front k).1 (inr early)))
      | inr late ↦ (last k).1 (inr late)
    ]

pub marked_all : {X : Type 0} (f : X → ℕ) (xs : List X) (i : ℕ) (old new : List Bool) → length xs ≤ i → MarksMore (map f (take i xs)) old new → MarksMore (map f xs) old new
marked_all f xs i old new le h = subst (λ (ys : List _). MarksMore (map f ys) old new) (take_all i xs le) h
