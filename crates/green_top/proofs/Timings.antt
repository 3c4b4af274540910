-- The answers of a clock, one after another.
use Rattle.std.proofs.Common.{◌≡◌, ℕ, suc, zero, ◌+◌, ◌<◌, List, [], ◌∷◌, ◌++◌, length, Option, None, Some, ap, ◌∙◌, refl, sym, subst, arith}
use Rattle.std.specs.Prelude.{slice_index}
use Rattle.green_io.specs.Clock.{IsNext}
use Rattle.green_top.specs.Times.{Coming, AreFirst, GivenBy}

none_given : (f : ℕ → ℕ) → AreFirst [] f f
none_given f = record { given = λ k within. absurd (omega (arith, within)); left = λ k. ap f (omega arith) }

-- the first of them, and the others
tail_of : (x : ℕ) (xs : List ℕ) (f g : ℕ → ℕ) → AreFirst (x ∷ xs) f g → AreFirst xs (λ k. f (suc k)) g
tail_of x xs f g are = record {
  given = λ k within. are.given (suc k) (omega (arith, within));
  left = λ k. are.left k ∙ ap f (omega arith);
}

with_head : (x : ℕ) (xs : List ℕ) (f g : ℕ → ℕ) → x ≡ f 0 → AreFirst xs (λ k. f (suc k)) g → AreFirst (x ∷ xs) f g
with_head x xs f g is are = record { given = each; left = λ k. are.left k ∙ ap f (omega arith) }
  where
    each : (k : ℕ) → k < length (x ∷ xs) → slice_index (x ∷ xs) k ≡ f k
    each zero within = is
    each (suc k) within = are.given k (omega (arith, within))

-- those that come where others had come
moved : (ys : List ℕ) (f g h : ℕ → ℕ) → ((k : ℕ) → g k ≡ f k) → AreFirst ys g h → AreFirst ys f h
moved ys f g h same are = record {
  given = λ k within. are.given k within ∙ same k;
  left = λ k. are.left k ∙ same (length ys + k);
}

first_both : (xs ys : List ℕ) (f g h : ℕ → ℕ) → AreFirst xs f g → AreFirst ys g h → AreFirst (xs ++ ys) f h
first_both [] ys f g h a b = moved ys f g h (λ k. a.left k ∙ ap f (omega arith)) b
first_both (x ∷ xs) ys f g h a b = with_head x (xs ++ ys) f h (a.given 0 (omega arith)) (first_both xs ys (λ k. f (suc k)) g h (tail_of x xs f g a) b)

pub given_none : (a : Coming) → GivenBy [] a a
given_none None = tt
given_none (Some f) = none_given f

pub given_one : (moment : ℕ) (a b : Coming) → IsNext moment a b → GivenBy (moment ∷ []) a b
given_one moment None None next = tt
given_one moment None (Some g) next = absurd next
given_one moment (Some f) None next = absurd next
given_one moment (Some f) (Some g) next = with_head moment [] f g next.0 (record { given = λ k within. absurd (omega (arith, within)); left = λ k. next.1 k ∙ ap f (omega arith) })

pub given_both : (xs ys : List ℕ) (a b c : Coming) → GivenBy xs a b → GivenBy ys b c → GivenBy (xs ++ ys) a c
given_both xs ys None None None g h = tt
given_both xs ys None None (Some z) g h = absurd h
given_both xs ys None (Some y) c g h = absurd g
given_both xs ys (Some x) None c g h = absurd g
given_both xs ys (Some x) (Some y) None g h = absurd h
given_both xs ys (Some x) (Some y) (Some z) g h = first_both xs ys x y z g h
