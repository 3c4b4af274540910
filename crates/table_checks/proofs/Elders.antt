-- The address with one less in its last place.
use Rattle.std.proofs.Common.{◌≡◌, ◌∙◌, ℕ, zero, suc, ◌+◌, ◌-◌, ◌<◌, ◌≤◌, ◌==◌, Bool, false, true≢false, List, [], ◌∷◌, ◌++◌, length, get_or, refl, sym, ap, subst, arith, length-append}
use Rattle.std.proofs.Math.Seq.{get_or-append_seam}
use Rattle.std.proofs.lemmas.List.{take_more, take_all}
use Rattle.std.specs.Prelude.{IsTrue, take, ◌↔◌}
use Rattle.tumbler.specs.Places.{trimmed, lessened, just_before}
use Rattle.page_tables.specs.declared.tables.TableDocument.{TableDocument}
use Rattle.table_checks.specs.TableRows.{is_listed}
use Rattle.table_checks.specs.Sound.{HasElder}

lessened_last : (front : List ℕ) (k : ℕ) → lessened (front ++ k ∷ []) ≡ front ++ (k - 1) ∷ []
lessened_last [] k = refl
lessened_last (x ∷ []) k = refl
lessened_last (x ∷ y ∷ front) k = ap (λ (ps : List ℕ). x ∷ ps) (lessened_last (y ∷ front) k)

led : (x : ℕ) (front ps : List ℕ) (k : ℕ) → trimmed ps ≡ front ++ suc k ∷ [] → trimmed (x ∷ ps) ≡ x ∷ front ++ suc k ∷ []
led zero [] ps k e = rw e refl
led zero (y ∷ front) ps k e = rw e refl
led (suc x) front ps k e = ap (λ (qs : List ℕ). suc x ∷ qs) e

trimmed_last : (front : List ℕ) (k : ℕ) → trimmed (front ++ suc k ∷ []) ≡ front ++ suc k ∷ []
trimmed_last [] k = refl
trimmed_last (x ∷ front) k = led x front (front ++ suc k ∷ []) k (trimmed_last front k)

trimmed_at : (front : List ℕ) (k : ℕ) → 0 < k → trimmed (front ++ k ∷ []) ≡ front ++ k ∷ []
trimmed_at front zero some = absurd (omega (arith, some))
trimmed_at front (suc k) some = trimmed_last front k

elder_is : (front : List ℕ) (k : ℕ) → 1 < k → just_before (front ++ k ∷ []) ≡ front ++ (k - 1) ∷ []
elder_is front k above = ap trimmed (lessened_last front k) ∙ trimmed_at front (k - 1) (omega (arith, above))

-- ---- what decides whether the elder is there

no_end : (front : List ℕ) (k : ℕ) → length (front ++ k ∷ []) ≡ 0 → ⊥
no_end front k e = omega (arith, e, length-append front (k ∷ []))

-- zero has no last place
pub elder_of_none : (rows : List TableDocument) (address : List ℕ) → length address ≡ 0 → HasElder rows address
elder_of_none rows address none front k parts above = absurd (no_end front k (ap length (sym parts) ∙ none))

last_is : (front : List ℕ) (k : ℕ) (address : List ℕ) → address ≡ front ++ k ∷ [] → get_or address (length address - 1) 0 ≡ k
last_is front k address parts =
    let at : length address - 1 ≡ length front = omega (arith, ap length parts, length-append front (k ∷ [])) in
    ap (λ (n : ℕ). get_or address n 0) at ∙ ap (λ (ps : List ℕ). get_or ps (length front) 0) parts ∙ get_or-append_seam front k [] 0

-- nor is there an elder where the last place is 1
pub elder_of_small : (rows : List TableDocument) (address : List ℕ) → get_or address (length address - 1) 0 < 2 → HasElder rows address
elder_of_small rows address small front k parts above = absurd (omega (arith, small, above, last_is front k address parts))

ends_in : (address : List ℕ) → 0 < length address → address ≡ take (length address - 1) address ++ get_or address (length address - 1) 0 ∷ []
ends_in address some =
    let whole : take (length address - 1 + 1) address ≡ address = take_all (length address - 1 + 1) address (omega (arith, some)) in
    sym whole ∙ take_more address (length address - 1) 0 (omega (arith, some))

pub elder_decided : (rows : List TableDocument) (address : List ℕ) (b : Bool) → 0 < length address → 2 ≤ get_or address (length address - 1) 0 → b ≡ is_listed rows (just_before address) → IsTrue b ↔ HasElder rows address
elder_decided rows address b some above is =
    let last : ℕ = get_or address (length address - 1) 0 in
    let front : List ℕ = take (length address - 1) address in
    let parts : address ≡ front ++ last ∷ [] = ends_in address some in
    let more : 1 < last = omega (arith, above) in (
      (λ t f k p a. ap (is_listed rows) (sym (elder_is f k a) ∙ ap just_before (sym p)) ∙ sym is ∙ t),
      (λ has. is ∙ ap (is_listed rows) (ap just_before parts ∙ elder_is front last more) ∙ has front last parts more),
    )

-- ---- places as they lie in memory

filled : (n : ℕ) (empty : Bool) → empty ≡ (n == 0) → empty ≡ false → 0 < n
filled zero empty is e = absurd (true≢false (sym is ∙ e))
filled (suc n) empty is e = omega arith

pub elder_found : (rows : List TableDocument) (address places : List ℕ) (b empty : Bool) → places ≡ address → empty ≡ (length places == 0) → empty ≡ false → 2 ≤ get_or places (length places - 1) 0 → b ≡ is_listed rows (just_before address) → IsTrue b ↔ HasElder rows address
elder_found rows address places b empty same is e above listed =
    let some : 0 < length places = filled (length places) empty is e in
    elder_decided rows address b (subst (λ (ps : List ℕ). 0 < length ps) same some) (subst (λ (ps : List ℕ). 2 ≤ get_or ps (length ps - 1) 0) same above) listed
