-- Numbers in decimal: a word is at most one of them, and has digits alone.
use Rattle.std.proofs.Common.{◌≡◌, ◌≢◌, ℕ, ◌<◌, ◌≤◌, ◌^◌, true, List, length, get_or, Result, Ok, Err, sym, ap, ◌∙◌, arith}
use Rattle.std.specs.Prelude.{decimal, bytes_eq, not}
use Rattle.std.proofs.lemmas.Slice.Eq.{bytes_eq-Decides}
use Rattle.std.specs.Str.Parse.{ParsesUnsigned}
use Rattle.std.proofs.lemmas.Fmt.{parse-decimal, decimal_injective}
use Rattle.server_words.specs.Words.{SpellsNumber, SpellsNoNumber}

no_error : {E : Type 0} (result : Result ℕ E) (error : E) (n : ℕ) → result ≡ Err error → result ≡ Ok n → ⊥
no_error result error n is e = let both = sym is ∙ e in cc

same_ok : {E : Type 0} (m n : ℕ) → (let r : Result ℕ E = Ok m in r) ≡ Ok n → m ≡ n
same_ok m n e = cc

-- what can't be parsed is no number
pub unparsed : {E : Type 0} (word : List ℕ) (result : Result ℕ E) (error : E) → ParsesUnsigned 32 10 word result → result ≡ Err error → (n : ℕ) → n < 2 ^ 32 → word ≢ decimal n
unparsed word result error parses is n fits e = no_error result error n is (parse-decimal 32 n word result fits (omega arith) e parses)

-- a number is written in one way
pub written_otherwise : {E : Type 0} (word : List ℕ) (result : Result ℕ E) (number : ℕ) → ParsesUnsigned 32 10 word result → result ≡ Ok number → word ≢ decimal number → (n : ℕ) → n < 2 ^ 32 → word ≢ decimal n
written_otherwise word result number parses is other n fits e =
    other (e ∙ ap decimal (same_ok n number (sym (parse-decimal 32 n word result fits (omega arith) e parses) ∙ is)))

-- texts that are not the same
pub differ : (xs ys : List ℕ) → true ≡ not (bytes_eq xs ys) → xs ≢ ys
differ xs ys e is = let same = (bytes_eq-Decides xs ys).1 is in cc

-- no number of 32 bits, so none of a range within them
pub none_within : (least most : ℕ) (word : List ℕ) → most < 2 ^ 32 → ((n : ℕ) → n < 2 ^ 32 → word ≢ decimal n) → SpellsNoNumber least most word
none_within least most word fits none n spells = none n (omega (arith, spells.below)) spells.spelled

-- the only number that the word is, is past the bounds
pub past_bounds : (least most : ℕ) (word : List ℕ) (number : ℕ) → most < 2 ^ 32 → number < 2 ^ 32 → word ≡ decimal number → (least ≤ number → number ≤ most → ⊥) → SpellsNoNumber least most word
past_bounds least most word number fits fits-number is past n spells =
    let same : n ≡ number = decimal_injective n number (omega (arith, spells.below)) (omega arith) (sym spells.spelled ∙ is) in
    past (omega (arith, spells.above)) (omega (arith, spells.below))
