-- The words of a command line by their number.
use Rattle.std.proofs.Common.{Global, String, map, string_bytes, ◌≡◌, ◌≢◌, ℕ, ◌<◌, ◌^◌, true, false, List, [], ◌∷◌, length, get_or, Result, Ok, Err, refl, sym, ap, ◌∙◌, arith}
use Rattle.std.specs.Prelude.{decimal, codes, bytes_eq, not, Bool}
use Rattle.std.proofs.lemmas.Slice.Eq.{bytes_eq-Decides}
use Rattle.std.proofs.lemmas.List.{get_or-map}
use Rattle.std.specs.Str.Parse.{ParsesUnsigned}
use Rattle.std.proofs.lemmas.Fmt.{parse-decimal, decimal_injective}
use Rattle.febe_data.specs.LimitsView.{LimitsView, AreLimits}
use Rattle.green_top.specs.Words.{is_folder, SpellLimits, SpellNoLimits, AreWords, AreGenerateWords, AreNoWords}

-- words of another number are no form

other_session : (words : List (List ℕ)) → length words ≢ 2 → length words ≢ 6 → (limits : LimitsView) → ¬ AreWords words limits
other_session [] two six limits is = is
other_session (a ∷ []) two six limits is = is
other_session (a ∷ b ∷ []) two six limits is = two refl
other_session (a ∷ b ∷ c ∷ []) two six limits is = is
other_session (a ∷ b ∷ c ∷ d ∷ []) two six limits is = is
other_session (a ∷ b ∷ c ∷ d ∷ e ∷ []) two six limits is = is
other_session (a ∷ b ∷ c ∷ d ∷ e ∷ f ∷ []) two six limits is = six refl
other_session (a ∷ b ∷ c ∷ d ∷ e ∷ f ∷ g ∷ more) two six limits is = is

other_generate : (words : List (List ℕ)) → length words ≢ 4 → (start : ℕ) → ¬ AreGenerateWords words start
other_generate [] four start is = is
other_generate (a ∷ []) four start is = is
other_generate (a ∷ b ∷ []) four start is = is
other_generate (a ∷ b ∷ c ∷ []) four start is = is
other_generate (a ∷ b ∷ c ∷ d ∷ []) four start is = four refl
other_generate (a ∷ b ∷ c ∷ d ∷ e ∷ more) four start is = is

pub other_number : (words : List (List ℕ)) → length words ≢ 2 → length words ≢ 4 → length words ≢ 6 → AreNoWords words
other_number words two four six = record { no_session = other_session words two six; no_generate = other_generate words four }

-- ---- numbers

no_error : {E : Type 0} (result : Result ℕ E) (error : E) (n : ℕ) → result ≡ Err error → result ≡ Ok n → ⊥
no_error result error n is e = let both = sym is ∙ e in cc

same_ok : {E : Type 0} (m n : ℕ) → (let r : Result ℕ E = Ok m in r) ≡ Ok n → m ≡ n
same_ok m n e = cc

-- what can't be parsed is no number
pub unparsed : {E : Type 0} (word : List ℕ) (result : Result ℕ E) (error : E) → ParsesUnsigned 32 10 word result → result ≡ Err error → (n : ℕ) → n < 2 ^ 32 → word ≢ decimal n
unparsed word result error parses is n fits e = no_error result error n is (parse-decimal 32 n word result fits (omega arith) e parses)

-- a number is written in one way
pub written_otherwise : {E : Type 0} (word : List ℕ) (result : Result ℕ E) (number : ℕ) → ParsesUnsigned 32 10 word result → result ≡ Ok number → word ≢ decimal number → (n : ℕ) → n < 2 ^ 32 → word ≢ decimal n
written_otherwise word result number parses is other n fits e =
    other (e ∙ ap decimal (same_ok n number (sym (parse-decimal 32 n word result fits (omega arith) e parses) ∙ is)))

-- numbers past their bounds are no limits
pub past_bounds : (entries text flush : List ℕ) (e t f : ℕ) → entries ≡ decimal e → text ≡ decimal t → flush ≡ decimal f → e < 2 ^ 32 → t < 2 ^ 32 → f < 2 ^ 32 → ¬ AreLimits e t f → SpellNoLimits entries text flush
past_bounds entries text flush e t f is-e is-t is-f fits-e fits-t fits-f past limits s =
    let same-e : limits.entries ≡ e = decimal_injective limits.entries e (omega (arith, s.bounds.entries_bound)) (omega (arith, fits-e)) (sym s.entries_are ∙ is-e) in
    let same-t : limits.text ≡ t = decimal_injective limits.text t (omega (arith, s.bounds.text_bound)) (omega (arith, fits-t)) (sym s.text_is ∙ is-t) in
    let same-f : limits.flush ≡ f = decimal_injective limits.flush f (omega (arith, s.bounds.flush_bound)) (omega (arith, fits-f)) (sym s.flush_is ∙ is-f) in
    past (rw (same-e, same-t, same-f) at s.bounds)

-- ---- texts that are the same or not

pub differ : (xs ys : List ℕ) → true ≡ not (bytes_eq xs ys) → xs ≢ ys
differ xs ys e is = let same = (bytes_eq-Decides xs ys).1 is in cc

pub agree : (xs ys : List ℕ) → false ≡ not (bytes_eq xs ys) → xs ≡ ys
agree xs ys e = (bytes_eq-Decides xs ys).0 (by (bytes_eq xs ys) e)
  where
    by : (b : Bool) → false ≡ not b → b ≡ true
    by true e = refl
    by false e = absurd (let f = e in cc)

-- ---- four words, and six

-- a word's bytes, among the bytes of all
pub at_word : (words : List (String Global)) (k : ℕ) (word : String Global) (bytes : List ℕ) → k < length words → word ≡ get_or words k word → bytes ≡ string_bytes word → bytes ≡ get_or (map string_bytes words) k bytes
at_word words k word bytes lt is e = e ∙ ap string_bytes is ∙ sym (get_or-map string_bytes words k word bytes lt)

pub four_words : (ws : List (List ℕ)) (folder option number : List ℕ) → length ws ≡ 4 → folder ≡ get_or ws 1 folder → option ≡ get_or ws 2 option → number ≡ get_or ws 3 number
    → is_folder folder ≡ true → option ≡ codes "--generate" → (start : ℕ) → number ≡ decimal start → start < 2 ^ 32 → AreGenerateWords ws start
four_words (a ∷ b ∷ c ∷ d ∷ []) folder option number four is-folder is-option is-number right named start is fits =
    (ap is_folder (sym is-folder) ∙ right, sym is-option ∙ named, sym is-number ∙ is, fits)
four_words other folder option number four is-folder is-option is-number right named start is fits = absurd (omega (arith, four))

pub six_words : (ws : List (List ℕ)) (folder option entries text flush : List ℕ) → length ws ≡ 6 → folder ≡ get_or ws 1 folder → option ≡ get_or ws 2 option → entries ≡ get_or ws 3 entries → text ≡ get_or ws 4 text → flush ≡ get_or ws 5 flush
    → is_folder folder ≡ true → option ≡ codes "--limits" → (limits : LimitsView) → SpellLimits entries text flush limits → AreWords ws limits
six_words (a ∷ b ∷ c ∷ d ∷ e ∷ f ∷ []) folder option entries text flush six is-folder is-option is-entries is-text is-flush right named limits s =
    (ap is_folder (sym is-folder) ∙ right, sym is-option ∙ named, rw (is-entries, is-text, is-flush) at s)
six_words other folder option entries text flush six is-folder is-option is-entries is-text is-flush right named limits s = absurd (omega (arith, six))

six_generates : (ws : List (List ℕ)) → length ws ≡ 6 → (start : ℕ) → ¬ AreGenerateWords ws start
six_generates ws six = other_generate ws (λ four. omega (arith, six, four))

pub six_no_words : (ws : List (List ℕ)) (entries text flush : List ℕ) → length ws ≡ 6 → entries ≡ get_or ws 3 entries → text ≡ get_or ws 4 text → flush ≡ get_or ws 5 flush → SpellNoLimits entries text flush → AreNoWords ws
six_no_words ws entries text flush six is-entries is-text is-flush none = record {
  no_session = no_limits ws six is-entries is-text is-flush;
  no_generate = six_generates ws six;
}
  where
    no_limits : (ws : List (List ℕ)) → length ws ≡ 6 → entries ≡ get_or ws 3 entries → text ≡ get_or ws 4 text → flush ≡ get_or ws 5 flush → (limits : LimitsView) → ¬ AreWords ws limits
    no_limits (a ∷ b ∷ c ∷ d ∷ e ∷ f ∷ []) six is-entries is-text is-flush limits is = none limits (rw (is-entries, is-text, is-flush) is.2)
    no_limits other six is-entries is-text is-flush limits is = absurd (omega (arith, six))
