-- Runs whose spans meet have a byte in common.
use Rattle.std.proofs.Common.{◌≡◌, ℕ, ◌+◌, Bool, true, false, ◌&&◌, nat_lt, nat_le, max, min, List, refl, sym, ◌∙◌, arith}
use Rattle.std.proofs.lemmas.Bool.Decides.{nat_tests}
use Rattle.febe_data.specs.declared.run.Run.{Run}
use Rattle.world_rules.specs.World.{is_same, content_address}
use Rattle.world_rules.specs.Picking.{is_in_run}
use Rattle.world_rules.specs.Meeting.{shares_byte}
use Rattle.tree_world.specs.Laws.{HaveByte, RunsMeetExactly}
use Rattle.tree_world.proofs.Places.{alike, content_is, number_is, runs_met}

-- ---- tests that hold

two_hold : (p q : Bool) → (p && q) ≡ true → (p ≡ true) × (q ≡ true)
two_hold true true e = (refl, refl)
two_hold true false e = let never : ⊥ = cc in absurd never
two_hold false q e = let never : ⊥ = cc in absurd never

both_hold : (p q : Bool) → p ≡ true → q ≡ true → (p && q) ≡ true
both_hold true true e f = refl
both_hold true false e f = let never : ⊥ = cc in absurd never
both_hold false q e f = let never : ⊥ = cc in absurd never

three_hold : (s p q : Bool) → (s && p && q) ≡ true → (s ≡ true) × ((p && q) ≡ true)
three_hold true p q e = (refl, e)
three_hold false p q e = let never : ⊥ = cc in absurd never

all_hold : (s p q : Bool) → s ≡ true → (p && q) ≡ true → (s && p && q) ≡ true
all_hold true p q e f = f
all_hold false p q e f = let never : ⊥ = cc in absurd never

-- ---- numbers in two stretches

numbers_shared : (n k m l : ℕ) → nat_lt (max n m) (min (n + k) (m + l)) ≡ true → ((nat_le n (max n m) && nat_lt (max n m) (n + k)) ≡ true) × ((nat_le m (max n m) && nat_lt (max n m) (m + l)) ≡ true)
numbers_shared n k m l e = (grind (arith, nat_tests, e), grind (arith, nat_tests, e))

shared_numbers : (n k m l x : ℕ) → (nat_le n x && nat_lt x (n + k)) ≡ true → (nat_le m x && nat_lt x (m + l)) ≡ true → nat_lt (max n m) (min (n + k) (m + l)) ≡ true
shared_numbers n k m l x a b = grind (arith, nat_tests, a, b)

-- ---- bytes

in_run : (content : List ℕ) (number : ℕ) (run : Run) → is_in_run (content_address content number) run ≡ (is_same content run.content && nat_le run.first number && nat_lt number (run.first + run.length))
in_run content number run = λ i. is_same (content_is content number i) run.content && nat_le run.first (number_is content number i) && nat_lt (number_is content number i) (run.first + run.length)

have_byte : (a b : Run) → shares_byte a b ≡ true → HaveByte a b
have_byte a b e =
    let number = max a.first b.first in
    let parts = two_hold (is_same a.content b.content) (nat_lt (max a.first b.first) (min (a.first + a.length) (b.first + b.length))) e in
    let numbers = numbers_shared a.first a.length b.first b.length parts.1 in
    record {
      number = number;
      in_first = in_run a.content number a ∙ all_hold (is_same a.content a.content) (nat_le a.first number) (nat_lt number (a.first + a.length)) (alike a.content) numbers.0;
      in_second = in_run a.content number b ∙ all_hold (is_same a.content b.content) (nat_le b.first number) (nat_lt number (b.first + b.length)) parts.0 numbers.1;
    }

byte_shared : (a b : Run) → HaveByte a b → shares_byte a b ≡ true
byte_shared a b have =
    let number = have.number in
    let first = three_hold (is_same a.content a.content) (nat_le a.first number) (nat_lt number (a.first + a.length)) (sym (in_run a.content number a) ∙ have.in_first) in
    let second = three_hold (is_same a.content b.content) (nat_le b.first number) (nat_lt number (b.first + b.length)) (sym (in_run a.content number b) ∙ have.in_second) in
    both_hold (is_same a.content b.content) (nat_lt (max a.first b.first) (min (a.first + a.length) (b.first + b.length))) second.0
    (shared_numbers a.first a.length b.first b.length number first.1 second.1)

pub runs_meet_exactly : RunsMeetExactly
runs_meet_exactly a b is is' = (λ e. have_byte a b (sym (runs_met a b is is') ∙ e), λ have. runs_met a b is is' ∙ byte_shared a b have)
