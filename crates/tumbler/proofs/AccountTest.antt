-- The test of an account tells what the parts say.
use Rattle.std.proofs.Common.{◌≡◌, ℕ, zero, suc, ◌<◌, ◌&&◌, true, ltb, leb, List, [], ◌∷◌, ◌++◌, length, All, refl, arith, ap, ◌∙◌}
use Rattle.std.specs.List.{list_all}
use Rattle.std.proofs.lemmas.Bool.{and_parts, and_from, ltb-true, lt-ltb, leb-true, le-leb}
use Rattle.std.proofs.lemmas.List.Elements.{All-head, All-tail, All-cons, All-nil}
use Rattle.tumbler.specs.Address.{IsField, IsAccount, before_first_zero, after_first_zero, field_test, account_test}
use Rattle.tumbler.specs.Laws.{AccountTested}

all_full : (xs : List ℕ) → list_all (λ p. ltb 0 p) xs ≡ true → All (λ p. 0 < p) xs
all_full [] e = All-nil (λ p. 0 < p)
all_full (x ∷ xs) e =
    let parts = and_parts (ltb 0 x) (list_all (λ p. ltb 0 p) xs) e in
    All-cons (λ p. 0 < p) x xs (ltb-true 0 x parts.0) (all_full xs parts.1)

full_all : (xs : List ℕ) → All (λ p. 0 < p) xs → list_all (λ p. ltb 0 p) xs ≡ true
full_all [] h = refl
full_all (x ∷ xs) h = and_from (ltb 0 x) (list_all (λ p. ltb 0 p) xs) (lt-ltb 0 x (All-head (λ p. 0 < p) x xs h)) (full_all xs (All-tail (λ p. 0 < p) x xs h))

pub field_from_test : (xs : List ℕ) → field_test xs ≡ true → IsField xs
field_from_test xs e =
    let parts = and_parts (ltb 0 (length xs)) (list_all (λ p. ltb 0 p) xs) e in
    record { filled = ltb-true 0 (length xs) parts.0; full = all_full xs parts.1 }

pub test_from_field : (xs : List ℕ) → IsField xs → field_test xs ≡ true
test_from_field xs h = and_from (ltb 0 (length xs)) (list_all (λ p. ltb 0 p) xs) (lt-ltb 0 (length xs) h.filled) (full_all xs h.full)

-- where something stands after the first 0, the list is what stands before it, a 0, and that
cut_at_zero : (xs : List ℕ) → 0 < length (after_first_zero xs) → xs ≡ before_first_zero xs ++ 0 ∷ after_first_zero xs
cut_at_zero [] h = absurd (omega arith)
cut_at_zero (zero ∷ xs) h = refl
cut_at_zero (suc p ∷ xs) h = ap (λ (r : List ℕ). suc p ∷ r) (cut_at_zero xs h)

before-cut : (a b : List ℕ) → All (λ p. 0 < p) a → before_first_zero (a ++ 0 ∷ b) ≡ a
before-cut [] b h = refl
before-cut (zero ∷ a) b h = absurd (let above : 0 < 0 = All-head (λ p. 0 < p) 0 a h in omega arith)
before-cut (suc p ∷ a) b h = ap (λ (r : List ℕ). suc p ∷ r) (before-cut a b (All-tail (λ p. 0 < p) (suc p) a h))

after-cut : (a b : List ℕ) → All (λ p. 0 < p) a → after_first_zero (a ++ 0 ∷ b) ≡ b
after-cut [] b h = refl
after-cut (zero ∷ a) b h = absurd (let above : 0 < 0 = All-head (λ p. 0 < p) 0 a h in omega arith)
after-cut (suc p ∷ a) b h = after-cut a b (All-tail (λ p. 0 < p) (suc p) a h)

from_test : (places : List ℕ) → account_test places ≡ true → IsAccount places
from_test places e =
    let outer = and_parts (field_test (before_first_zero places) && field_test (after_first_zero places)) (leb (length places) 12) e in
    let inner = and_parts (field_test (before_first_zero places)) (field_test (after_first_zero places)) outer.0 in
    let user = field_from_test (after_first_zero places) inner.1 in
    record {
      node = before_first_zero places;
      user = after_first_zero places;
      parts = cut_at_zero places user.filled;
      node_field = field_from_test (before_first_zero places) inner.0;
      user_field = user;
      short = leb-true (length places) 12 outer.1;
    }

to_test : (places : List ℕ) → IsAccount places → account_test places ≡ true
to_test places a =
    let node : before_first_zero places ≡ a.node = ap before_first_zero a.parts ∙ before-cut a.node a.user a.node_field.full in
    let user : after_first_zero places ≡ a.user = ap after_first_zero a.parts ∙ after-cut a.node a.user a.node_field.full in
    and_from (field_test (before_first_zero places) && field_test (after_first_zero places)) (leb (length places) 12)
    (and_from (field_test (before_first_zero places)) (field_test (after_first_zero places))
    (rw node (test_from_field a.node a.node_field)) (rw user (test_from_field a.user a.user_field)))
    (le-leb (length places) 12 a.short)

pub account_tested : AccountTested
account_tested places = (from_test places, to_test places)
