-- Addresses that come so many after others.
use Rattle.std.proofs.Common.{◌≡◌, ◌≢◌, ℕ, zero, suc, ◌+◌, ◌<◌, Bool, true, false, not, List, [], ◌∷◌, ◌++◌, refl, arith, ap, ◌∙◌, sym, subst}
use Rattle.std.specs.Prelude.{◌↔◌, IsTrue, nat_eq}
use Rattle.std.specs.Cmp.Lexicographic.{pointwise, bytes_decides}
use Rattle.std.proofs.lemmas.Bool.{eqb-true, eq-eqb, both_ways, false≢true, not-true, not-false}
use Rattle.std.proofs.lemmas.List.{same_from_push}
use Rattle.granfilade.specs.Content.{so_far_on}

pub step-last : (front : List ℕ) (l k : ℕ) → so_far_on (front ++ l ∷ []) k ≡ front ++ (l + k) ∷ []
step-last [] l zero = ap (λ (n : ℕ). n ∷ []) (omega arith)
step-last [] l (suc k) = refl
step-last (x ∷ front) l zero = ap (λ (n : ℕ). x ∷ front ++ n ∷ []) (omega arith)
step-last (x ∷ []) l (suc k) = refl
step-last (x ∷ y ∷ front) l (suc k) = ap (λ (places : List ℕ). x ∷ places) (step-last (y ∷ front) l (suc k))

-- the places in front and the last one tell an address
pub met-parts : (one other front beside : List ℕ) (last wanted k m : ℕ) → one ≡ front ++ last ∷ [] → other ≡ beside ++ wanted ∷ [] → so_far_on one k ≡ so_far_on other m → (front ≡ beside) × (last + k ≡ wanted + m)
met-parts one other front beside last wanted k m is there e =
    same_from_push front beside (last + k) (wanted + m) (sym (ap (λ (a : List ℕ). so_far_on a k) is ∙ step-last front last k) ∙ e ∙ ap (λ (a : List ℕ). so_far_on a m) there ∙ step-last beside wanted m)

pub met-from : (one other front beside : List ℕ) (last wanted k m : ℕ) → one ≡ front ++ last ∷ [] → other ≡ beside ++ wanted ∷ [] → front ≡ beside → last + k ≡ wanted + m → so_far_on one k ≡ so_far_on other m
met-from one other front beside last wanted k m is there f l =
    ap (λ (a : List ℕ). so_far_on a k) is ∙ step-last front last k ∙ ap (λ (places : List ℕ). places ++ (last + k) ∷ []) f ∙ ap (λ (n : ℕ). beside ++ n ∷ []) l ∙ sym (step-last beside wanted m)
    ∙ sym (ap (λ (a : List ℕ). so_far_on a m) there)

pub met-then : (one other front beside : List ℕ) (last wanted k m : ℕ) (differ : Bool) → one ≡ front ++ last ∷ [] → other ≡ beside ++ wanted ∷ [] → differ ≡ not (pointwise nat_eq front beside) → differ ≡ false → IsTrue (nat_eq (last + k) (wanted + m)) ↔ so_far_on one k ≡ so_far_on other m
met-then one other front beside last wanted k m differ is there test is_false = (
  λ e. met-from one other front beside last wanted k m is there ((bytes_decides front beside).0 (not-false (pointwise nat_eq front beside) (sym test ∙ is_false))) (eqb-true (last + k) (wanted + m) e),
  λ e. eq-eqb (last + k) (wanted + m) (met-parts one other front beside last wanted k m is there e).1,
)

pub met-else : (one other front beside : List ℕ) (last wanted k m : ℕ) (differ : Bool) → one ≡ front ++ last ∷ [] → other ≡ beside ++ wanted ∷ [] → differ ≡ not (pointwise nat_eq front beside) → differ ≡ true → IsTrue false ↔ so_far_on one k ≡ so_far_on other m
met-else one other front beside last wanted k m differ is there test is_true = (
  λ e. absurd (false≢true e),
  λ e. absurd (both_ways (pointwise nat_eq front beside) (not-true (pointwise nat_eq front beside) (sym test ∙ is_true)) ((bytes_decides front beside).1 (met-parts one other front beside last wanted k m is there e).0)),
)

-- an address with places ends in one of them
pub last-split : (places : List ℕ) → places ≢ [] → (front : List ℕ) × (last : ℕ) × (places ≡ front ++ last ∷ [])
last-split [] some = absurd (some refl)
last-split (x ∷ []) some = ([], x, refl)
last-split (x ∷ y ∷ places) some =
    let behind = last-split (y ∷ places) (λ e. cc) in
    (x ∷ behind.0, behind.1, ap (λ (ps : List ℕ). x ∷ ps) behind.2)

-- the next ones are the same too
pub met-next : (one other : List ℕ) (k m : ℕ) → one ≢ [] → other ≢ [] → so_far_on one k ≡ so_far_on other m → so_far_on one (k + 1) ≡ so_far_on other (m + 1)
met-next one other k m some also e =
    let a = last-split one some in
    let b = last-split other also in
    let parts = met-parts one other a.0 b.0 a.1 b.1 k m a.2 b.2 e in
    met-from one other a.0 b.0 a.1 b.1 (k + 1) (m + 1) a.2 b.2 parts.0 (omega (arith, parts.1))
