-- What the tests of a record find.
use Rattle.std.proofs.Common.{◌≡◌, ℕ, suc, ◌*◌, ◌<◌, ◌≤◌, Bool, true, false, ◌&&◌, length, take, drop, nat_le, nat_lt, sym, ◌∙◌, ap, arith, le-leb, lt-ltb, le-ltb}
use Rattle.std.proofs.lemmas.Bool.{lt-leb, and_left}
use Rattle.std.specs.Int.{w64, from_be_bytes}
use Rattle.page_journal.specs.Pages.{Bytes}
use Rattle.page_journal.specs.JournalBytes.{count_of, entries, all_low, begins_with_record}

first_of_run : (count n : ℕ) (rest : Bytes) → count ≡ suc n → all_low (entries count rest) ≡ (nat_lt (from_be_bytes w64 (take 8 rest)) 1099511627776 && all_low (entries n (drop 4104 rest)))
first_of_run count n rest more = ap (λ (m : ℕ). all_low (entries m rest)) more

-- the first number is in use
pub low_first : (count n number : ℕ) (rest behind : Bytes) → count ≡ suc n → number ≡ from_be_bytes w64 (take 8 rest) → behind ≡ drop 4104 rest → number < 1099511627776 → all_low (entries n behind) ≡ all_low (entries count rest)
low_first count n number rest behind more number_is behind_is low =
    let test : nat_lt (from_be_bytes w64 (take 8 rest)) 1099511627776 ≡ true = ap (λ (k : ℕ). nat_lt k 1099511627776) (sym number_is) ∙ lt-ltb number 1099511627776 low in
    ap (λ (l : Bytes). all_low (entries n l)) behind_is
    ∙ sym (first_of_run count n rest more ∙ ap (λ (b : Bool). b && all_low (entries n (drop 4104 rest))) test)

-- it is not
pub high_first : (count n number : ℕ) (rest : Bytes) → count ≡ suc n → number ≡ from_be_bytes w64 (take 8 rest) → 1099511627776 ≤ number → false ≡ all_low (entries count rest)
high_first count n number rest more number_is high =
    let test : nat_lt (from_be_bytes w64 (take 8 rest)) 1099511627776 ≡ false = ap (λ (k : ℕ). nat_lt k 1099511627776) (sym number_is) ∙ le-ltb number 1099511627776 high in
    sym (first_of_run count n rest more ∙ ap (λ (b : Bool). b && all_low (entries n (drop 4104 rest))) test)

pub none_high : (count : ℕ) (rest : Bytes) → count ≡ 0 → true ≡ all_low (entries count rest)
none_high count rest none = sym (ap (λ (m : ℕ). all_low (entries m rest)) none)

pub begins_short : (bytes : Bytes) → length bytes < 4 → false ≡ begins_with_record bytes
unfolding begins_with_record
begins_short bytes short = sym (and_left (nat_le 4 (length bytes)) (nat_le 1 (count_of bytes) && (nat_le (count_of bytes) 1024 && (nat_le (4104 * count_of bytes) (length (drop 4 bytes)) && all_low (entries (count_of bytes) (drop 4 bytes))))) (lt-leb 4 (length bytes) short))

passed : (test rest : Bool) → test ≡ true → (test && rest) ≡ rest
passed test rest is = ap (λ (b : Bool). b && rest) is

failed : (test rest : Bool) → test ≡ false → (test && rest) ≡ false
failed test rest is = ap (λ (b : Bool). b && rest) is

pub begins_none : (bytes : Bytes) (count : ℕ) → 4 ≤ length bytes → count ≡ count_of bytes → count ≡ 0 → false ≡ begins_with_record bytes
unfolding begins_with_record
begins_none bytes count long is none =
    let few : nat_le 1 (count_of bytes) ≡ false = ap (nat_le 1) (sym is) ∙ lt-leb 1 count (omega (arith, none)) in
    sym (passed (nat_le 4 (length bytes)) (nat_le 1 (count_of bytes) && (nat_le (count_of bytes) 1024 && (nat_le (4104 * count_of bytes) (length (drop 4 bytes)) && all_low (entries (count_of bytes) (drop 4 bytes))))) (le-leb 4 (length bytes) long)
    ∙ failed (nat_le 1 (count_of bytes)) (nat_le (count_of bytes) 1024 && (nat_le (4104 * count_of bytes) (length (drop 4 bytes)) && all_low (entries (count_of bytes) (drop 4 bytes)))) few)

pub begins_many : (bytes : Bytes) (count : ℕ) → 4 ≤ length bytes → count ≡ count_of bytes → 1024 < count → false ≡ begins_with_record bytes
unfolding begins_with_record
begins_many bytes count long is many =
    let some : nat_le 1 (count_of bytes) ≡ true = ap (nat_le 1) (sym is) ∙ le-leb 1 count (omega (arith, many)) in
    let over : nat_le (count_of bytes) 1024 ≡ false = ap (λ (k : ℕ). nat_le k 1024) (sym is) ∙ lt-leb count 1024 many in
    sym (passed (nat_le 4 (length bytes)) (nat_le 1 (count_of bytes) && (nat_le (count_of bytes) 1024 && (nat_le (4104 * count_of bytes) (length (drop 4 bytes)) && all_low (entries (count_of bytes) (drop 4 bytes))))) (le-leb 4 (length bytes) long)
    ∙ passed (nat_le 1 (count_of bytes)) (nat_le (count_of bytes) 1024 && (nat_le (4104 * count_of bytes) (length (drop 4 bytes)) && all_low (entries (count_of bytes) (drop 4 bytes)))) some
    ∙ failed (nat_le (count_of bytes) 1024) (nat_le (4104 * count_of bytes) (length (drop 4 bytes)) && all_low (entries (count_of bytes) (drop 4 bytes))) over)

pub begins_cut : (bytes pages : Bytes) (count : ℕ) → 4 ≤ length bytes → count ≡ count_of bytes → 1 ≤ count → count ≤ 1024 → pages ≡ drop 4 bytes → length pages < 4104 * count → false ≡ begins_with_record bytes
unfolding begins_with_record
begins_cut bytes pages count long is more few are cut =
    let some : nat_le 1 (count_of bytes) ≡ true = ap (nat_le 1) (sym is) ∙ le-leb 1 count more in
    let within : nat_le (count_of bytes) 1024 ≡ true = ap (λ (k : ℕ). nat_le k 1024) (sym is) ∙ le-leb count 1024 few in
    let short : nat_le (4104 * count_of bytes) (length (drop 4 bytes)) ≡ false = ap (λ (k : ℕ). nat_le (4104 * k) (length (drop 4 bytes))) (sym is) ∙ ap (λ (l : Bytes). nat_le (4104 * count) (length l)) (sym are) ∙ lt-leb (4104 * count) (length pages) cut in
    sym (passed (nat_le 4 (length bytes)) (nat_le 1 (count_of bytes) && (nat_le (count_of bytes) 1024 && (nat_le (4104 * count_of bytes) (length (drop 4 bytes)) && all_low (entries (count_of bytes) (drop 4 bytes))))) (le-leb 4 (length bytes) long)
    ∙ passed (nat_le 1 (count_of bytes)) (nat_le (count_of bytes) 1024 && (nat_le (4104 * count_of bytes) (length (drop 4 bytes)) && all_low (entries (count_of bytes) (drop 4 bytes)))) some
    ∙ passed (nat_le (count_of bytes) 1024) (nat_le (4104 * count_of bytes) (length (drop 4 bytes)) && all_low (entries (count_of bytes) (drop 4 bytes))) within
    ∙ failed (nat_le (4104 * count_of bytes) (length (drop 4 bytes))) (all_low (entries (count_of bytes) (drop 4 bytes))) short)

pub begins_whole : (bytes pages : Bytes) (count : ℕ) → 4 ≤ length bytes → count ≡ count_of bytes → 1 ≤ count → count ≤ 1024 → pages ≡ drop 4 bytes → 4104 * count ≤ length pages → all_low (entries count pages) ≡ begins_with_record bytes
unfolding begins_with_record
begins_whole bytes pages count long is more few are fits =
    let some : nat_le 1 (count_of bytes) ≡ true = ap (nat_le 1) (sym is) ∙ le-leb 1 count more in
    let within : nat_le (count_of bytes) 1024 ≡ true = ap (λ (k : ℕ). nat_le k 1024) (sym is) ∙ le-leb count 1024 few in
    let enough : nat_le (4104 * count_of bytes) (length (drop 4 bytes)) ≡ true = ap (λ (k : ℕ). nat_le (4104 * k) (length (drop 4 bytes))) (sym is) ∙ ap (λ (l : Bytes). nat_le (4104 * count) (length l)) (sym are) ∙ le-leb (4104 * count) (length pages) fits in
    ap (λ (k : ℕ). all_low (entries k pages)) is ∙ ap (λ (l : Bytes). all_low (entries (count_of bytes) l)) are
    ∙ sym (passed (nat_le 4 (length bytes)) (nat_le 1 (count_of bytes) && (nat_le (count_of bytes) 1024 && (nat_le (4104 * count_of bytes) (length (drop 4 bytes)) && all_low (entries (count_of bytes) (drop 4 bytes))))) (le-leb 4 (length bytes) long)
    ∙ passed (nat_le 1 (count_of bytes)) (nat_le (count_of bytes) 1024 && (nat_le (4104 * count_of bytes) (length (drop 4 bytes)) && all_low (entries (count_of bytes) (drop 4 bytes)))) some
    ∙ passed (nat_le (count_of bytes) 1024) (nat_le (4104 * count_of bytes) (length (drop 4 bytes)) && all_low (entries (count_of bytes) (drop 4 bytes))) within
    ∙ passed (nat_le (4104 * count_of bytes) (length (drop 4 bytes))) (all_low (entries (count_of bytes) (drop 4 bytes))) enough)
