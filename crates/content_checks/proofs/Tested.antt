-- What tests of addresses and of lists have told.
use Rattle.std.proofs.Common.{◌≡◌, ◌≢◌, ◌∙◌, ℕ, Bool, true, false, not, eqb, List, [], ◌∷◌, length, refl, ap, sym, subst, arith, Result, Ok, eq-eqb, true≢false}
use Rattle.std.specs.Prelude.{IfOk, nat_eq}
use Rattle.std.specs.Cmp.Lexicographic.{pointwise, same_text}
use Rattle.std.proofs.lemmas.List.{nil_from_length}
use Rattle.std.proofs.lemmas.Bool.Decides.{nat_tests}

true_test : (b : Bool) → not b ≡ false → true ≡ b
true_test true e = refl
true_test false e = e

pub same_places : (a b : List ℕ) → not (pointwise nat_eq a b) ≡ false → a ≡ b
same_places a b e = same_text a b (true_test (pointwise nat_eq a b) e)

none_long : (n : ℕ) → eqb n 0 ≡ true → n ≡ 0
none_long n e = grind (arith, nat_tests)

pub nothing_there : {X : Type 0} (xs : List X) → eqb (length xs) 0 ≡ true → xs ≡ []
nothing_there xs e = nil_from_length xs (none_long (length xs) e)

pub ok_is : {E : Type 0} (r : Result (List ℕ) E) (x wanted : List ℕ) → r ≡ Ok x → IfOk r (λ t. t ≡ wanted) → x ≡ wanted
ok_is {E} r x wanted is h = subst (λ (o : Result (List ℕ) E). IfOk o (λ t. t ≡ wanted)) is h

pub same_itself : (a : List ℕ) → pointwise nat_eq a a ≡ true
same_itself [] = refl
same_itself (x ∷ a) = let here : eqb x x ≡ true = eq-eqb x x refl in rw here (same_itself a)

pub other_places : (a b : List ℕ) → true ≡ not (pointwise nat_eq a b) → a ≢ b
other_places a b e same = absurd (both (pointwise nat_eq a b) e (ap (pointwise nat_eq a) (sym same) ∙ same_itself a))
  where
    both : (p : Bool) → true ≡ not p → p ≡ true → ⊥
    both true e h = true≢false e
    both false e h = true≢false (sym h)
