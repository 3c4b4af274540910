-- Pages that are chosen.
use Rattle.std.proofs.Common.{◌≡◌, ◌⊎◌, inl, inr, ⊎_elim, ℕ, ◌+◌, ◌<◌, ◌≤◌, Bool, true, false, ◌||◌, List, [], ◌∷◌, ◌++◌, length, nat_eq, refl, ap, ◌∙◌, sym, subst, arith, append-nil}
use Rattle.std.proofs.lemmas.Bool.{cases_Bool, cases_eq, or_cases, both_ways, false≢true, eqb-true}
use Rattle.std.proofs.lemmas.List.{append_assoc, length-append}
use Rattle.page_chains.specs.Chains.{is_in, AreDistinct}
use Rattle.page_flush.specs.inside.Fresh.{IsFresh, AreFresh, AreChosen}

pub fresh_rises : (spared : List ℕ) (from to : ℕ) (numbers : List ℕ) → AreFresh spared from to numbers → from ≤ to
fresh_rises spared from to [] are = are
fresh_rises spared from to (n ∷ ns) are = omega (arith, are.0.behind, fresh_rises spared (n + 1) to ns are.1)

fresh_push : (spared : List ℕ) (from mid number : ℕ) (numbers : List ℕ) → AreFresh spared from mid numbers → IsFresh spared mid number → AreFresh spared from (number + 1) (numbers ++ number ∷ [])
fresh_push spared from mid number [] are is =
    let least : from ≤ number = omega (arith, are, is.behind) in
    let same : number + 1 ≤ number + 1 = omega arith in
    (record { behind = least; low = is.low; apart = is.apart }, same)
fresh_push spared from mid number (n ∷ ns) are is = (are.0, fresh_push spared (n + 1) mid number ns are.1 is)

pub chosen_none : (spared : List ℕ) (from : ℕ) (old : List ℕ) → AreChosen spared from from 0 old old
chosen_none spared from old = record { fresh = []; numbers = sym (append-nil old); many = refl; are = omega arith }

pub chosen_more : (spared : List ℕ) (from mid to count : ℕ) (old was now : List ℕ) (number : ℕ) → AreChosen spared from mid count old was → IsFresh spared mid number → now ≡ was ++ number ∷ [] → to ≡ number + 1 → AreChosen spared from to (count + 1) old now
chosen_more spared from mid to count old was now number chosen is more next = record {
  fresh = chosen.fresh ++ number ∷ [];
  numbers = more ∙ ap (λ (l : List ℕ). l ++ number ∷ []) chosen.numbers ∙ append_assoc old chosen.fresh (number ∷ []);
  many = length-append chosen.fresh (number ∷ []) ∙ ap (λ (n : ℕ). n + 1) chosen.many;
  are = subst (λ (n : ℕ). AreFresh spared from n (chosen.fresh ++ number ∷ [])) (sym next) (fresh_push spared from mid number chosen.fresh chosen.are is);
}

-- the next number is spared too
pub lowest_more : (spared : List ℕ) (from number : ℕ) → ((k : ℕ) → from ≤ k → k < number → is_in k spared ≡ true) → is_in number spared ≡ true → (k : ℕ) → from ≤ k → k < number + 1 → is_in k spared ≡ true
lowest_more spared from number below this k low lt = ⊎_elim
    (λ (same : k ≡ number). ap (λ (n : ℕ). is_in n spared) same ∙ this)
    (λ (apart : k ≡ number → ⊥). let under : k < number = omega (arith, lt, apart) in below k low under)
    (cases_eq k number)

-- a number that is chosen, from this one on
pub record IsLater (spared : List ℕ) (from number : ℕ) : Type 0 where
  pub behind : from ≤ number
  pub apart : is_in number spared ≡ false

-- below the second number, too
pub record IsWithin (spared : List ℕ) (from to number : ℕ) : Type 0 where
  pub later : IsLater spared from number
  pub below : number < to

pub fresh_in : (spared : List ℕ) (from to : ℕ) (numbers : List ℕ) (k : ℕ) → AreFresh spared from to numbers → is_in k numbers ≡ true → IsWithin spared from to k
fresh_in spared from to [] k are among = absurd (false≢true among)
fresh_in spared from to (n ∷ ns) k are among =
    let rises : n + 1 ≤ to = fresh_rises spared (n + 1) to ns are.1 in
    ⊎_elim
    (λ (here : nat_eq k n ≡ true).
    let same : k ≡ n = eqb-true k n here in
    let behind : from ≤ k = omega (arith, are.0.behind, same) in
    let below : k < to = omega (arith, rises, same) in
    record { later = record { behind = behind; apart = subst (λ (m : ℕ). is_in m spared ≡ false) (sym same) are.0.apart }; below = below })
    (λ (there : is_in k ns ≡ true).
    let rest = fresh_in spared (n + 1) to ns k are.1 there in
    let behind : from ≤ k = omega (arith, are.0.behind, rest.later.behind) in
    record { later = record { behind = behind; apart = rest.later.apart }; below = rest.below })
    (or_cases (nat_eq k n) (is_in k ns) among)

pub fresh_distinct : (spared : List ℕ) (from to : ℕ) (numbers : List ℕ) → AreFresh spared from to numbers → AreDistinct numbers
fresh_distinct spared from to [] are = tt
fresh_distinct spared from to (n ∷ ns) are = (
  ⊎_elim
      (λ (among : is_in n ns ≡ true).
      let rest = fresh_in spared (n + 1) to ns n are.1 among in
      let none : ⊥ = omega (arith, rest.later.behind) in
      absurd none)
      (λ (apart : is_in n ns ≡ false). apart)
      (cases_Bool (is_in n ns)),
  fresh_distinct spared (n + 1) to ns are.1,
)
