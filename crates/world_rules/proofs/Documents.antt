-- Documents below an address, which are numbered as they come.
use Rattle.std.proofs.Common.{◌≡◌, ℕ, ◌+◌, ◌≤◌, ◌∙◌, ◌||◌, Bool, true, false, cond, List, [], ◌∷◌, ◌++◌, length, ap, sym, refl, subst, arith, length-append}
use Rattle.std.specs.Prelude.{count_by, filter}
use Rattle.std.specs.List.{list_any}
use Rattle.std.specs.Cmp.Lexicographic.{bytes_decides}
use Rattle.std.proofs.lemmas.Bool.{and_from, or_parts, eq-eqb, false_from_ne_true}
use Rattle.std.proofs.lemmas.List.{take_at}
use Rattle.std.proofs.lemmas.List.Folds.{list_any-append}
use Rattle.std.proofs.lemmas.List.Sums.{sum_by_push, length-filter}
use Rattle.world_rules.specs.World.{is_same, is_child_of, next_below}
use Rattle.world_rules.proofs.RowsWith.{same_itself}

-- the document is one of these
abbrev pub has : List (List ℕ) → List ℕ → Bool
has documents document = list_any (λ (d : List ℕ). is_same d document) documents

-- ---- addresses

no_end : (n : ℕ) (ys : List ℕ) → [] ≡ ys ++ n ∷ [] → ⊥
no_end n ys e = let long : 0 ≡ length ys + 1 = ap length e ∙ length-append ys (n ∷ []) in omega arith

-- one place more than an address: the address, and the place
pub same_end : (xs ys : List ℕ) (m n : ℕ) → xs ++ m ∷ [] ≡ ys ++ n ∷ [] → (xs ≡ ys) × (m ≡ n)
same_end [] [] m n e = (refl, cc)
same_end [] (y ∷ ys) m n e = absurd (no_end n ys (cc))
same_end (x ∷ xs) [] m n e = absurd (no_end m xs (cc))
same_end (x ∷ xs) (y ∷ ys) m n e =
    let head : x ≡ y = cc in
    let rest = same_end xs ys m n (cc) in
    (λ i. head i ∷ rest.0 i, rest.1)

pub child : (front : List ℕ) (n : ℕ) → is_child_of front (front ++ n ∷ []) ≡ true
child front n =
    and_from _ _ (eq-eqb (length (front ++ n ∷ [])) (length front + 1) (length-append front (n ∷ [])))
    (rw (take_at front (n ∷ []) (length front) refl) (same_itself front))

-- ---- one more document

pub has_push : (documents : List (List ℕ)) (document other : List ℕ) → has (documents ++ document ∷ []) other ≡ false → (has documents other ≡ false) × (is_same document other ≡ false)
has_push documents document other e =
    let test : List ℕ → Bool = λ d. is_same d other in
    let parts = or_parts (list_any test documents) (list_any test (document ∷ [])) (sym (list_any-append test documents (document ∷ [])) ∙ e) in
    (parts.0, (or_parts (is_same document other) false parts.1).0)

-- each place below an address is at most as high as the documents there are many
abbrev pub Children : List (List ℕ) → Type 0
Children documents = (front : List ℕ) (n : ℕ) → has documents (front ++ n ∷ []) ≡ true → n ≤ count_by (is_child_of front) documents

pub next_is_none : (documents : List (List ℕ)) (front : List ℕ) → Children documents → has documents (next_below documents front) ≡ false
next_is_none documents front children =
    false_from_ne_true (has documents (next_below documents front))
    (λ (e : has documents (next_below documents front) ≡ true).
    let below : count_by (is_child_of front) documents + 1 ≤ count_by (is_child_of front) documents = children front (count_by (is_child_of front) documents + 1) e in
    omega arith)

count_push : (documents : List (List ℕ)) (document front : List ℕ) → count_by (is_child_of front) (documents ++ document ∷ []) ≡ count_by (is_child_of front) documents + cond (is_child_of front document) 1 0
count_push documents document front = sum_by_push (λ (d : List ℕ). cond (is_child_of front d) 1 0) documents document

grows : (n k : ℕ) (more : Bool) → n ≤ k → n ≤ k + cond more 1 0
grows n k true le = omega arith
grows n k false le = omega arith

or_false : (b : Bool) → (b || false) ≡ true → b ≡ true
or_false true e = refl
or_false false e = e

children_step : (documents : List (List ℕ)) (below front : List ℕ) (n : ℕ) (before : Bool) → has documents (front ++ n ∷ []) ≡ before → Children documents
    → (before || (is_same (next_below documents below) (front ++ n ∷ []) || false)) ≡ true → n ≤ count_by (is_child_of front) (documents ++ next_below documents below ∷ [])
children_step documents below front n true e children found =
    subst (λ (k : ℕ). n ≤ k) (sym (count_push documents (next_below documents below) front)) (grows n (count_by (is_child_of front) documents) (is_child_of front (next_below documents below)) (children front n e))
children_step documents below front n false e children found =
    let same : next_below documents below ≡ front ++ n ∷ [] = (bytes_decides (next_below documents below) (front ++ n ∷ [])).0 (or_false (is_same (next_below documents below) (front ++ n ∷ [])) found) in
    let ends = same_end below front (count_by (is_child_of below) documents + 1) n same in
    let counted : count_by (is_child_of front) documents + 1 ≡ n = ap (λ (f : List ℕ). count_by (is_child_of f) documents + 1) (sym ends.0) ∙ ends.1 in
    let is_child : is_child_of front (next_below documents below) ≡ true = ap (is_child_of front) same ∙ child front n in
    let all : count_by (is_child_of front) (documents ++ next_below documents below ∷ []) ≡ count_by (is_child_of front) documents + 1 =
    count_push documents (next_below documents below) front ∙ ap (λ (b : Bool). count_by (is_child_of front) documents + cond b 1 0) is_child in
    omega arith

pub children_push : (documents : List (List ℕ)) (below : List ℕ) → Children documents → Children (documents ++ next_below documents below ∷ [])
children_push documents below children front n e =
    children_step documents below front n (has documents (front ++ n ∷ [])) refl children
    (sym (list_any-append (λ (d : List ℕ). is_same d (front ++ n ∷ [])) documents (next_below documents below ∷ [])) ∙ e)

-- ---- each document once

abbrev pub Once : List (List ℕ) → Type 0
Once documents = (document : List ℕ) → count_by (λ (d : List ℕ). is_same d document) documents ≤ 1

none_passes : (document : List ℕ) (documents : List (List ℕ)) → has documents document ≡ false → filter (λ (d : List ℕ). is_same d document) documents ≡ []
none_passes document [] missing = refl
none_passes document (d ∷ documents) missing =
    let parts = or_parts (is_same d document) (has documents document) missing in
    rw parts.0 (none_passes document documents parts.1)

none_counted : (documents : List (List ℕ)) (document : List ℕ) → has documents document ≡ false → count_by (λ (d : List ℕ). is_same d document) documents ≡ 0
none_counted documents document missing = sym (length-filter (λ (d : List ℕ). is_same d document) documents) ∙ ap length (none_passes document documents missing)

once_step : (documents : List (List ℕ)) (new document : List ℕ) (same : Bool) → is_same new document ≡ same → has documents new ≡ false → count_by (λ (d : List ℕ). is_same d document) documents ≤ 1
    → count_by (λ (d : List ℕ). is_same d document) documents + cond same 1 0 ≤ 1
once_step documents new document true e missing once =
    let none : count_by (λ (d : List ℕ). is_same d document) documents ≡ 0 = none_counted documents document (ap (has documents) (sym ((bytes_decides new document).0 e)) ∙ missing) in
    omega arith
once_step documents new document false e missing once = omega arith

pub once_push : (documents : List (List ℕ)) (new : List ℕ) → has documents new ≡ false → Once documents → Once (documents ++ new ∷ [])
once_push documents new missing once document =
    subst (λ (n : ℕ). n ≤ 1) (sym (sum_by_push (λ (d : List ℕ). cond (is_same d document) 1 0) documents new))
    (once_step documents new document (is_same new document) refl missing (once document))
