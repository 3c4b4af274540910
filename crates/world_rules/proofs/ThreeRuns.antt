-- Three numbers that are counted together, each up to what the ones before it have left.
use Rattle.std.proofs.Common.{◌≡◌, ◌+◌, ◌-◌, ◌≤◌, ℕ, true, false, arith}
use Rattle.std.specs.Prelude.{nat_lt}
use Rattle.std.proofs.lemmas.Bool.Decides.{nat_tests}

pub at_most : (most n : ℕ) → nat_lt most n ≡ false → n ≤ most
at_most most n e = grind (arith, nat_tests)

pub first_is_more : (a b c : ℕ) → nat_lt 65536 a ≡ true → nat_lt 65536 (a + b + c) ≡ true
first_is_more a b c e = grind (arith, nat_tests)

pub second_is_more : (a b c : ℕ) → nat_lt 65536 a ≡ false → nat_lt (65536 - a) b ≡ true → nat_lt 65536 (a + b + c) ≡ true
second_is_more a b c few e = grind (arith, nat_tests)

pub third_is_more : (a b c : ℕ) → nat_lt 65536 a ≡ false → nat_lt (65536 - a) b ≡ false → nat_lt (65536 - a - b) c ≡ true → nat_lt 65536 (a + b + c) ≡ true
third_is_more a b c few less e = grind (arith, nat_tests)

pub all_are_few : (a b c : ℕ) → nat_lt 65536 a ≡ false → nat_lt (65536 - a) b ≡ false → nat_lt (65536 - a - b) c ≡ false → nat_lt 65536 (a + b + c) ≡ false
all_are_few a b c few less e = grind (arith, nat_tests)

pub ruleset counted = (at_most, first_is_more, second_is_more, third_is_more, all_are_few)
