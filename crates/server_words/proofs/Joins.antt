-- Words that are joined by a mark: the front ends where the mark first stands.
use Rattle.std.proofs.Common.{◌≡◌, ◌≢◌, ◌↔◌, ◌⊎◌, inl, inr, ◌^◌, ◌+◌, ◌%◌, ℕ, zero, suc, ◌<◌, ◌≤◌, List, [], ◌∷◌, ◌++◌, length, get_or, Bor, Option, Some, None, MatchOption, Bool, true, false, ◌&&◌, IsTrue, true≢false, refl, sym, subst, ◌∙◌, arith}
use Rattle.std.specs.Prelude.{decimal}
use Rattle.std.proofs.lemmas.Str.Pattern.{IsSplitOnceResult, split_after, split_parts}
use Rattle.std.proofs.lemmas.Fmt.{decimal_by_steps, decimal_nonempty}
use Rattle.std.proofs.lemmas.Bool.Decides.{nat_tests}
use Rattle.server_words.specs.Words.{is_folder, SpellsNumber, IsPort, IsAddress, IsNumber, AreJoined, IsByteNumber, IsPair, IsTriple, IsHost}

-- the mark does not stand in the word
abbrev pub HasNo : ℕ → List ℕ → Type 0
HasNo mark word = (i : ℕ) → i < length word → get_or word i 0 ≢ mark

-- no word of this kind has the mark
abbrev pub NoneHas : ℕ → (List ℕ → Type 0) → Type 0
NoneHas mark Kind = (word : List ℕ) → Kind word → HasNo mark word

none_in_append : (mark : ℕ) (xs ys : List ℕ) → HasNo mark xs → HasNo mark ys → HasNo mark (xs ++ ys)
none_in_append mark [] ys left right i lt = right i lt
none_in_append mark (x ∷ xs) ys left right zero lt = left 0 (omega arith)
none_in_append mark (x ∷ xs) ys left right (suc i) lt = none_in_append mark xs ys (λ j h. left (suc j) (omega arith)) right i (omega arith)

none_in_cons : (mark x : ℕ) (xs : List ℕ) → x ≢ mark → HasNo mark xs → HasNo mark (x ∷ xs)
none_in_cons mark x xs differs rest zero lt = differs
none_in_cons mark x xs differs rest (suc i) lt = rest i (omega arith)

digit_has_none : (mark n : ℕ) → (mark < 48) ⊎ (57 < mark) → n < 10 → HasNo mark ((48 + n) ∷ [])
digit_has_none mark n outside small = none_in_cons mark (48 + n) [] (λ e. elim outside [ inl low ↦ omega arith | inr high ↦ omega arith ]) (λ i lt. absurd (omega arith))

-- a number has digits alone
number_has_none : (mark least most : ℕ) → (mark < 48) ⊎ (57 < mark) → most < 2 ^ 64 → NoneHas mark (IsNumber least most)
number_has_none mark least most outside fits word is =
    subst (HasNo mark) (sym is.spells.spelled)
    (decimal_by_steps (λ n ds. HasNo mark ds) (λ n small. digit_has_none mark n outside small)
    (λ n ds large front. none_in_append mark ds ((48 + n % 10) ∷ []) front (digit_has_none mark (n % 10) outside (omega arith))) is.number (omega (arith, is.spells.below)))

joined_has_none : (mark other : ℕ) (Front Rest : List ℕ → Type 0) → other ≢ mark → NoneHas mark Front → NoneHas mark Rest → NoneHas mark (AreJoined other Front Rest)
joined_has_none mark other Front Rest differs front rest word is = subst (HasNo mark) (sym is.joined) (none_in_append mark is.front (other ∷ is.rest) (front is.front is.front_is) (none_in_cons mark other is.rest differs (rest is.rest is.rest_is)))

byte_has_none : (mark : ℕ) → (mark < 48) ⊎ (57 < mark) → NoneHas mark IsByteNumber
byte_has_none mark outside = number_has_none mark 0 255 outside (omega arith)

pub byte_has_no_stop : NoneHas 46 IsByteNumber
byte_has_no_stop = byte_has_none 46 (inl (omega arith))

byte_has_no_colon : NoneHas 58 IsByteNumber
byte_has_no_colon = byte_has_none 58 (inr (omega arith))

differ_stop_colon : ◌≢◌ {A = ℕ} 46 58
differ_stop_colon e = let bad : ◌≡◌ {A = ℕ} 46 58 = e in absurd (omega arith)

pub host_has_no_colon : NoneHas 58 IsHost
host_has_no_colon =
    joined_has_none 58 46 IsByteNumber IsTriple differ_stop_colon byte_has_no_colon
    (joined_has_none 58 46 IsByteNumber IsPair differ_stop_colon byte_has_no_colon
    (joined_has_none 58 46 IsByteNumber IsByteNumber differ_stop_colon byte_has_no_colon byte_has_no_colon))

-- what a word that is split at the mark comes to
pub is_joined : (mark : ℕ) (Front Rest : List ℕ → Type 0) (word : List ℕ) (split : Option (Bor (List ℕ) × Bor (List ℕ))) → mark < 128 → NoneHas mark Front → IsSplitOnceResult mark word split
    → MatchOption split (¬ AreJoined mark Front Rest word) (λ parts. AreJoined mark Front Rest word ↔ (Front parts.0.now × Rest parts.1.now))
is_joined mark Front Rest word None small plain split = λ (j : AreJoined mark Front Rest word). split_after mark word j.front j.rest None split small j.joined (plain j.front j.front_is)
is_joined mark Front Rest word (Some parts) small plain split = (
  λ j. (let same = split_after mark word j.front j.rest (Some parts) split small j.joined (plain j.front j.front_is) in (subst Front (sym same.0) j.front_is, subst Rest (sym same.1) j.rest_is)),
  λ both. record { front = parts.0.now; rest = parts.1.now; joined = (split_parts mark word (Some parts) split small).0; front_is = both.0; rest_is = both.1 },
)

module _ (mark : ℕ) (Front Rest : List ℕ → Type 0) (word : List ℕ) (split : Option (Bor (List ℕ) × Bor (List ℕ))) (small : mark < 128) (plain : NoneHas mark Front) (cases : IsSplitOnceResult mark word split) where
  pub no_parts : split ≡ None → IsTrue false ↔ AreJoined mark Front Rest word
  no_parts none = (λ e. absurd (true≢false (sym e)), λ j. absurd (by split none (is_joined mark Front Rest word split small plain cases) j))
    where
      by : (o : Option (Bor (List ℕ) × Bor (List ℕ))) → o ≡ None → MatchOption o (¬ AreJoined mark Front Rest word) (λ parts. AreJoined mark Front Rest word ↔ (Front parts.0.now × Rest parts.1.now)) → ¬ AreJoined mark Front Rest word
      by None none m = m
      by (Some x) none m = absurd (let e = none in cc)

  pub some_parts : (front rest : Bor (List ℕ)) → split ≡ Some (front, rest) → AreJoined mark Front Rest word ↔ (Front front.now × Rest rest.now)
  some_parts front rest some = subst (λ o. MatchOption o (¬ AreJoined mark Front Rest word) (λ parts. AreJoined mark Front Rest word ↔ (Front parts.0.now × Rest parts.1.now))) some (is_joined mark Front Rest word split small plain cases)

  pub first_fails : (front rest : Bor (List ℕ)) → split ≡ Some (front, rest) → (b : Bool) → IsTrue b ↔ Front front.now → b ≡ false → IsTrue b ↔ AreJoined mark Front Rest word
  first_fails front rest some b decides fails =
      (λ e. absurd (true≢false (sym e ∙ fails)), λ j. decides.1 ((some_parts front rest some).0 j).0)

  pub first_holds : (front rest : Bor (List ℕ)) → split ≡ Some (front, rest) → (b d : Bool) → IsTrue b ↔ Front front.now → b ≡ true → IsTrue d ↔ Rest rest.now → IsTrue d ↔ AreJoined mark Front Rest word
  first_holds front rest some b d decides holds decides_rest = (
    λ e. (some_parts front rest some).1 (decides.0 holds, decides_rest.0 e),
    λ j. decides_rest.1 ((some_parts front rest some).0 j).1,
  )

-- ---- how a word of each kind begins

begins : (word : List ℕ) → 0 < length word → HasNo 45 word → is_folder word ≡ true
begins [] some none = absurd (omega arith)
begins (first ∷ word) some none = let differs : first ≢ 45 = none 0 (omega arith) in grind (arith, nat_tests)

begins_append : (front rest : List ℕ) → is_folder front ≡ true → is_folder (front ++ rest) ≡ true
begins_append [] rest right = absurd (let e = right in cc)
begins_append (first ∷ front) rest right = right

-- no number begins with a hyphen
pub number_begins : (least most : ℕ) (word : List ℕ) (n : ℕ) → most < 2 ^ 64 → SpellsNumber least most word n → is_folder word ≡ true
number_begins least most word n fits spells =
    begins word (subst (λ (w : List ℕ). 0 < length w) (sym spells.spelled) (decimal_nonempty n (omega (arith, spells.below))))
    (number_has_none 45 least most (inl (omega arith)) fits word (record { number = n; spells = spells }))

joined_begins : (mark : ℕ) (Front Rest : List ℕ → Type 0) (word : List ℕ) → ((front : List ℕ) → Front front → is_folder front ≡ true) → AreJoined mark Front Rest word → is_folder word ≡ true
joined_begins mark Front Rest word front is = subst (λ (w : List ℕ). is_folder w ≡ true) (sym is.joined) (begins_append is.front (mark ∷ is.rest) (front is.front is.front_is))

byte_begins : (word : List ℕ) → IsByteNumber word → is_folder word ≡ true
byte_begins word is = number_begins 0 255 word is.number (omega arith) is.spells

-- no address begins with a hyphen
pub address_begins : (word : List ℕ) → IsAddress word → is_folder word ≡ true
address_begins word is = joined_begins 58 IsHost IsPort word (λ host h. joined_begins 46 IsByteNumber IsTriple host byte_begins h) is
