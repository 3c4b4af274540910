-- What a search finds in lists that changed.
use Rattle.std.proofs.Common.{◌≡◌, ◌∙◌, ℕ, ◌&&◌, ◌||◌, Bool, true, false, List, [], ◌∷◌, ◌++◌, Option, Some, None, Ordering, Less, Equal, Greater, cond, refl, sym, ap, true≢false, arith}
use Rattle.std.proofs.lemmas.Bool.Decides.{nat_tests}
use Rattle.std.specs.Prelude.{◌==◌, All}
use Rattle.std.specs.List.{find, filter}
use Rattle.std.specs.Ordering.{match_ordering}
use Rattle.std.specs.BTreeSet.{insert_key}
use Rattle.std.specs.Cmp.Lexicographic.{bytes_decides}
use Rattle.std.proofs.lemmas.List.Elements.{All-head, All-tail}
use Rattle.world_rules.specs.World.{is_same}
use Rattle.tree_world.proofs.Options.{none_there}

pub both : (a b : Bool) → (a && b) ≡ true → (a ≡ true) × (b ≡ true)
both true true e = (refl, refl)
both true false e = absurd (true≢false (sym e))
both false b e = absurd (true≢false (sym e))

pub either_none : (a b : Bool) → (a || b) ≡ false → (a ≡ false) × (b ≡ false)
either_none true b e = absurd (true≢false e)
either_none false b e = (refl, e)

pub false_when : (b : Bool) → (b ≡ true → ⊥) → b ≡ false
false_when true h = absurd (h refl)
false_when false h = refl

-- ---- numbers and addresses

pub number_alike : (n : ℕ) → (n == n) ≡ true
number_alike n = grind (arith, nat_tests)

pub number_is : (a b : ℕ) → (a == b) ≡ true → a ≡ b
number_is a b e = grind (arith, nat_tests, e)

pub address_alike : (a : List ℕ) → is_same a a ≡ true
address_alike a = (bytes_decides a a).1 refl

pub address_is : (a b : List ℕ) → is_same a b ≡ true → a ≡ b
address_is a b e = (bytes_decides a b).0 e

-- ---- lists

module _ {X : Type 0} (p : X → Bool) where
  -- all that passes is left out
  pub find_gone : (q : X → Bool) → ((x : X) → p x ≡ true → q x ≡ false) → (xs : List X) → find p (filter q xs) ≡ None
  find_gone q out [] = refl
  find_gone q out (x ∷ xs) = step (q x) refl (find_gone q out xs)
    where
      step : (b : Bool) → q x ≡ b → find p (filter q xs) ≡ None → find p (cond b (x ∷ filter q xs) (filter q xs)) ≡ None
      step true e rest = rw (false_when (p x) (λ passes. true≢false (sym e ∙ out x passes))) rest
      step false e rest = rest

  -- all that passes stays
  pub find_kept : (q : X → Bool) → ((x : X) → p x ≡ true → q x ≡ true) → (xs : List X) → find p (filter q xs) ≡ find p xs
  find_kept q stay [] = refl
  find_kept q stay (x ∷ xs) = step (q x) refl (find_kept q stay xs)
    where
      step : (b : Bool) → q x ≡ b → find p (filter q xs) ≡ find p xs → find p (cond b (x ∷ filter q xs) (filter q xs)) ≡ find p (x ∷ xs)
      step true e rest = ap (λ (found : Option X). cond (p x) (Some x) found) rest
      step false e rest = rest ∙ sym (ap (λ b. cond b (Some x) (find p xs)) (false_when (p x) (λ passes. true≢false (sym (stay x passes) ∙ e))))

  -- one comes in at the end
  pub find_last_own : (xs : List X) (y : X) → find p xs ≡ None → p y ≡ true → find p (xs ++ y ∷ []) ≡ Some y
  find_last_own [] y none own = rw own refl
  find_last_own (x ∷ xs) y none own = step (p x) none (find_last_own xs y)
    where
      step : (b : Bool) → cond b (Some x) (find p xs) ≡ None → (find p xs ≡ None → p y ≡ true → find p (xs ++ y ∷ []) ≡ Some y) → cond b (Some x) (find p (xs ++ y ∷ [])) ≡ Some y
      step true h rest = absurd (none_there x h)
      step false h rest = rest h own

  pub find_last_other : (xs : List X) (y : X) → p y ≡ false → find p (xs ++ y ∷ []) ≡ find p xs
  find_last_other [] y other = rw other refl
  find_last_other (x ∷ xs) y other = ap (λ (found : Option X). cond (p x) (Some x) found) (find_last_other xs y other)

  -- one comes in at its place, where none is equal to it
  module _ (cmp : X → X → Ordering) (y : X) where
    abbrev Apart : X → Type 0
    Apart x = cmp y x ≡ Equal → ⊥

    pub find_in_own : (xs : List X) → All Apart xs → find p xs ≡ None → p y ≡ true → find p (insert_key cmp xs y) ≡ Some y
    find_in_own [] apart none own = rw own refl
    find_in_own (x ∷ xs) apart none own = step (cmp y x) refl (p x) refl none (λ h. find_in_own xs (All-tail Apart x xs apart) h own)
      where
        behind : (b : Bool) → cond b (Some x) (find p xs) ≡ None → (find p xs ≡ None → find p (insert_key cmp xs y) ≡ Some y) → cond b (Some x) (find p (insert_key cmp xs y)) ≡ Some y
        behind true h rest = absurd (none_there x h)
        behind false h rest = rest h

        step : (r : Ordering) → cmp y x ≡ r → (b : Bool) → p x ≡ b → cond b (Some x) (find p xs) ≡ None → (find p xs ≡ None → find p (insert_key cmp xs y) ≡ Some y)
            → find p (match_ordering r (y ∷ x ∷ xs) (x ∷ xs) (x ∷ insert_key cmp xs y)) ≡ Some y
        step Less e b is h rest = rw own refl
        step Equal e b is h rest = absurd (All-head Apart x xs apart e)
        step Greater e b is h rest = rw is (behind b h rest)

    pub find_in_other : (xs : List X) → p y ≡ false → find p (insert_key cmp xs y) ≡ find p xs
    find_in_other [] other = rw other refl
    find_in_other (x ∷ xs) other = step (cmp y x) (find_in_other xs other)
      where
        step : (r : Ordering) → find p (insert_key cmp xs y) ≡ find p xs → find p (match_ordering r (y ∷ x ∷ xs) (x ∷ xs) (x ∷ insert_key cmp xs y)) ≡ find p (x ∷ xs)
        step Less rest = rw other refl
        step Equal rest = refl
        step Greater rest = ap (λ (found : Option X). cond (p x) (Some x) found) rest
