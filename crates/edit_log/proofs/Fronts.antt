-- What is done to the front of the second area, as lists.
use Rattle.std.proofs.Common.{◌≡◌, inl, inr, ⊎_elim, ℕ, zero, suc, ◌+◌, ◌≤◌, List, [], ◌∷◌, ◌++◌, length, take, drop, refl, sym, ◌∙◌, ap, subst, Bool, true, Option, None, Some, arith}
use Rattle.std.specs.Prelude.{◌==◌}
use Rattle.std.proofs.lemmas.Bool.{cases_eq}
use Rattle.std.proofs.lemmas.Bool.Decides.{nat_tests}
use Rattle.green_io.specs.Areas.{Areas}
use Rattle.green_io.specs.Disk.{WhereTold, CutTo, PartlyCut, Written, Torn}
use Rattle.edit_log.specs.Log.{IsEnd}
use Rattle.edit_log.specs.Images.{AsRead, InSecond}
use Rattle.edit_log.specs.inside.Ends.{IsThat, begins_shut}
use Rattle.edit_log.specs.inside.Migration.{BeginsShut, IsClosedOr}
use Rattle.edit_log.proofs.Parts.{torn_gate, written_at, written_last}

take_none : (k : ℕ) (rest : List ℕ) → rest ≡ [] → take k rest ≡ []
take_none zero rest none = ap (take zero) none
take_none (suc k) rest none = ap (take (suc k)) none

-- the front of what is closed is closed
end_take : (k : ℕ) (bytes : List ℕ) → IsEnd bytes → IsEnd (take k bytes)
end_take zero [] ends = tt
end_take zero (gate ∷ rest) ends = tt
end_take (suc k) [] ends = tt
end_take (suc k) (gate ∷ rest) ends = ⊎_elim (λ other. inl other) (λ none. inr (take_none k rest none)) ends

-- one byte at most is closed
few_end : (bytes : List ℕ) → length bytes ≤ 1 → IsEnd bytes
few_end [] few = tt
few_end (byte ∷ []) few = inr refl
few_end (byte ∷ more ∷ rest) few = absurd (omega arith)

pub shut_end : (area : List ℕ) → BeginsShut area → IsEnd area
shut_end area (rest, is) = subst IsEnd (sym is) (inl (λ e. absurd (omega arith)))

pub that_shut : (rest area : List ℕ) → IsThat (0 ∷ rest) area → BeginsShut area
that_shut rest area is = (rest, is)

-- ---- the first step

shut_is : (area : List ℕ) → begins_shut area ≡ true → BeginsShut area
shut_is [] shut = absurd (cc shut)
shut_is (gate ∷ rest) shut = (rest, ap (λ (k : ℕ). k ∷ rest) (is_zero gate shut))
  where
    is_zero : (gate : ℕ) → (gate == 0) ≡ true → gate ≡ 0
    is_zero gate shut = grind (arith, nat_tests)

-- a gate that was read as 0
pub told_shut : (reads : Option Areas) (second : List ℕ) (shut : Bool) → AsRead reads (InSecond (IsThat second)) → WhereTold reads (λ areas. shut ≡ begins_shut areas.second) → shut ≡ true → BeginsShut second
told_shut None second shut read tells is = absurd read
told_shut (Some areas) second shut read tells is = shut_is second (ap begins_shut (sym read) ∙ sym tells ∙ is)

pub that_end : (second area : List ℕ) → IsEnd second → IsThat second area → IsEnd area
that_end second area ends is = subst IsEnd (sym is) ends

-- a cut leaves what is closed so
pub cut_end : (n : ℕ) (old new : List ℕ) → IsEnd old → PartlyCut n old new → IsEnd new
cut_end n old new ends cut = subst IsEnd cut.front (end_take (length new) old ends)

pub cut_to_none : (old new : List ℕ) → CutTo 0 old new → IsThat [] new
cut_to_none [] new cut = cut
cut_to_none (gate ∷ rest) new cut = cut

-- whatever byte is there of the gate, it is the only one
pub torn_alone : (old new : List ℕ) → IsThat [] old → Torn 0 1 old new → IsEnd new
torn_alone old new is torn = few_end new (omega (arith, torn.no_longer, ap length is))

pub written_alone : (old new : List ℕ) → IsThat [] old → Written 0 (0 ∷ []) old new → BeginsShut new
written_alone old new is written = ([], written_last [] old new (0 ∷ []) is written)

-- ---- the second step

head_is : (x y : ℕ) (xs ys : List ℕ) → x ∷ xs ≡ y ∷ ys → y ≡ x
head_is x y xs ys same = cc

-- a cut behind the gate leaves it
pub cut_shut : (old new : List ℕ) → BeginsShut old → PartlyCut 1 old new → BeginsShut new
cut_shut old [] (rest, is) cut = absurd (omega (arith, cut.no_shorter, ap length is))
cut_shut old (x ∷ xs) (rest, is) cut =
    (xs, ap (λ (k : ℕ). k ∷ xs) (head_is 0 x (take (length xs) rest) xs (sym (ap (take (suc (length xs))) is) ∙ cut.front)))

pub cut_to_gate : (old new : List ℕ) → BeginsShut old → CutTo 1 old new → IsThat (0 ∷ []) new
cut_to_gate old new (rest, is) cut = cut ∙ ap (take 1) is ∙ one_taken rest
  where
    one_taken : (rest : List ℕ) → take 1 (0 ∷ rest) ≡ 0 ∷ []
    one_taken [] = refl
    one_taken (x ∷ rest) = refl

-- ---- the third step

pub behind_gate : (at : ℕ) (written : List ℕ) → at ≡ length (0 ∷ written) → 1 ≤ at
behind_gate at written at_end = omega (arith, at_end)

-- a write behind the gate leaves it
pub torn_behind_gate : (at n : ℕ) (old new : List ℕ) → 1 ≤ at → BeginsShut old → Torn at n old new → BeginsShut new
torn_behind_gate zero n old new behind shut torn = absurd (omega (arith, behind))
torn_behind_gate (suc k) n old new behind (rest, is) torn =
    (take k rest ++ torn.any ++ drop (suc k + n) old, torn.bytes ∙ ap (λ (l : List ℕ). take (suc k) l ++ torn.any ++ drop (suc k + n) old) is)

pub written_more : (at : ℕ) (written bytes old new : List ℕ) → at ≡ length (0 ∷ written) → IsThat (0 ∷ written) old → Written at bytes old new → IsThat (0 ∷ (written ++ bytes)) new
written_more at written bytes old new at_end is put = written_last (0 ∷ written) old new bytes is (subst (λ (k : ℕ). Written k bytes old new) at_end put)

-- ---- the fourth step

-- whatever byte the gate is, the area is closed, or it is open as it will be
pub torn_opening : (rest old new : List ℕ) → IsThat (0 ∷ rest) old → Torn 0 1 old new → IsClosedOr (1 ∷ rest) new
torn_opening rest old new is torn =
    let gate = torn_gate [] 0 rest old new is torn in
    ⊎_elim
    (λ opened. inr (gate.1 ∙ ap (λ (k : ℕ). k ∷ rest) opened))
    (λ other. inl (subst IsEnd (sym gate.1) (inl other)))
    (cases_eq gate.0 1)

pub written_opening : (rest old new : List ℕ) → IsThat (0 ∷ rest) old → Written 0 (1 ∷ []) old new → IsThat (1 ∷ rest) new
written_opening rest old new is written = written_at [] (0 ∷ []) rest old new (1 ∷ []) 0 is refl refl written
