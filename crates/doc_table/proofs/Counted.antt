-- How counts follow the documents that come in and go.
use Rattle.std.proofs.Common.{◌≡◌, ◌∙◌, ℕ, zero, suc, ◌+◌, ◌-◌, ◌<◌, ◌≤◌, ◌&&◌, Bool, true, false, cond, List, [], ◌∷◌, ◌++◌, length, take, get_or, refl, sym, ap, true≢false, arith, length-append, eqb-true, eq-eqb, nat_eq}
use Rattle.std.proofs.lemmas.List.Sums.{sum_by-cons, sum_by-insert, sum_by-remove, count_by-le-length}
use Rattle.std.specs.Prelude.{count_by, ◌==◌}
use Rattle.std.specs.List.{sum_by, insert, remove}
use Rattle.std.specs.BTreeMap.{BTreeMap}
use Rattle.std.specs.declared.boxed.Box.{Box}
use Rattle.world_rules.proofs.Specs.{sum_by-map}
use Rattle.world_rules.specs.World.{is_same, is_child_of}
use Rattle.world_rules.specs.Counting.{count_in, CountsAs}
use Rattle.world_rules.proofs.CountSteps.{up_step, down_step, same_is}
use Rattle.doc_table.specs.declared.rows.DocumentRow.{DocumentRow}
use Rattle.doc_table.specs.DocumentRows.{documents_in}
use Rattle.doc_table.specs.inside.Kept.{unboxed, HoldsCounts, first_sibling}
use Rattle.doc_table.proofs.Ordered.{long}

-- ---- siblings

long_sibling : (document : List ℕ) → length (first_sibling document) ≡ length document
long_sibling [] = refl
long_sibling (x ∷ []) = refl
long_sibling (x ∷ y ∷ places) = ap suc (long_sibling (y ∷ places))

pub sibling_front : (document : List ℕ) (n : ℕ) → n + 1 ≡ length document → first_sibling document ≡ take n document ++ 1 ∷ []
sibling_front [] n e = absurd (omega (arith, e))
sibling_front (x ∷ []) zero e = refl
sibling_front (x ∷ []) (suc n) e = absurd (omega (arith, e))
sibling_front (x ∷ y ∷ places) zero e = absurd (omega (arith, e))
sibling_front (x ∷ y ∷ places) (suc n) e = ap (λ (xs : List ℕ). x ∷ xs) (sibling_front (y ∷ places) n (omega (arith, e)))

sibling_long : (front document : List ℕ) → length document ≡ length front + 1 → is_same (first_sibling document) (front ++ 1 ∷ []) ≡ is_same (take (length front) document) front
sibling_long [] [] e = absurd (omega (arith, e))
sibling_long [] (x ∷ []) e = refl
sibling_long [] (x ∷ y ∷ places) e = absurd (omega (arith, e))
sibling_long (f ∷ front) [] e = absurd (omega (arith, e))
sibling_long (f ∷ front) (x ∷ []) e = absurd (omega (arith, e))
sibling_long (f ∷ front) (x ∷ y ∷ places) e = ap (λ (b : Bool). nat_eq x f && b) (sibling_long front (y ∷ places) (omega (arith, e)))

sibling_other : (front document : List ℕ) (b : Bool) → is_same (first_sibling document) (front ++ 1 ∷ []) ≡ b → (length document ≡ length front + 1 → ⊥) → b ≡ false
sibling_other front document false e other = refl
sibling_other front document true e other =
    let same = ap length (same_is (first_sibling document) (front ++ 1 ∷ []) e) in
    absurd (other (sym (long_sibling document) ∙ same ∙ length-append front (1 ∷ [])))

sibling_step : (front document : List ℕ) (b : Bool) → (length document == length front + 1) ≡ b → is_same (first_sibling document) (front ++ 1 ∷ []) ≡ (b && is_same (take (length front) document) front)
sibling_step front document true e = sibling_long front document (eqb-true (length document) (length front + 1) e)
sibling_step front document false e = sibling_other front document _ refl (λ same. true≢false (sym (eq-eqb (length document) (length front + 1) same) ∙ e))

-- two documents have one first sibling exactly if they are one front and one place more
pub sibling_seen : (front document : List ℕ) → is_same (first_sibling document) (front ++ 1 ∷ []) ≡ is_child_of front document
sibling_seen front document = sibling_step front document (length document == length front + 1) refl

count_agree : {X : Type 0} (p q : X → Bool) → ((x : X) → p x ≡ q x) → (xs : List X) → count_by p xs ≡ count_by q xs
count_agree p q agree [] = refl
count_agree p q agree (x ∷ xs) =
    sum_by-cons (λ y. cond (p y) 1 0) x xs ∙ ap (λ b. cond b 1 0 + count_by p xs) (agree x) ∙ ap (λ n. cond (q x) 1 0 + n) (count_agree p q agree xs) ∙ sym (sum_by-cons (λ y. cond (q y) 1 0) x xs)

pub siblings_counted : (front first : List ℕ) (documents : List (List ℕ)) (counts : BTreeMap (List ℕ) ℕ) → HoldsCounts documents counts → first ≡ front ++ 1 ∷ [] → count_in counts first ≡ count_by (is_child_of front) documents
siblings_counted front first documents counts holds is =
    ap (count_in counts) is ∙ holds (front ++ 1 ∷ []) ∙ count_agree (λ d. is_same (first_sibling d) (front ++ 1 ∷ [])) (is_child_of front) (sibling_seen front) documents

-- ---- bounds

pub count_small : {R A : Type 0} (first : List ℕ) (boxes : List (Box (DocumentRow R) A)) (counts : BTreeMap (List ℕ) ℕ) → HoldsCounts (documents_in (unboxed boxes)) counts → count_in counts first ≤ length boxes
count_small first boxes counts holds =
    rw (holds first, ← long boxes) (count_by-le-length (λ d. is_same (first_sibling d) first) (documents_in (unboxed boxes)))

-- ---- changes

by_boxes : {R A : Type 0} (p : List ℕ → Bool) (boxes : List (Box (DocumentRow R) A)) → count_by p (documents_in (unboxed boxes)) ≡ sum_by (λ (b : Box (DocumentRow R) A). cond (p b.value.document) 1 0) boxes
by_boxes p boxes = sum_by-map (λ (row : DocumentRow _). row.document) (λ d. cond (p d) 1 0) (unboxed boxes) ∙ sum_by-map (λ b. b.value) (λ (row : DocumentRow _). cond (p row.document) 1 0) boxes

pub counts_added : {R A : Type 0} (document first : List ℕ) (boxes : List (Box (DocumentRow R) A)) (n : ℕ) (new : Box (DocumentRow R) A) (old now : BTreeMap (List ℕ) ℕ) → new.value.document ≡ document → first ≡ first_sibling document
    → HoldsCounts (documents_in (unboxed boxes)) old → CountsAs first (count_in old first + 1) old now → HoldsCounts (documents_in (unboxed (insert boxes n new))) now
counts_added {R} {A} document first boxes n new old now own is holds counted key =
    let p : List ℕ → Bool = λ d. is_same (first_sibling d) key in
    let f : Box (DocumentRow R) A → ℕ = λ b. cond (p b.value.document) 1 0 in
    let there : is_same first key ≡ p new.value.document = ap (λ k. is_same k key) (is ∙ ap first_sibling (sym own)) in
    counted key ∙ up_step first key old (count_by p (documents_in (unboxed boxes))) (is_same first key) refl (holds key)
    ∙ ap (λ b. count_by p (documents_in (unboxed boxes)) + cond b 1 0) there
    ∙ ap (λ m. m + f new) (by_boxes p boxes) ∙ sym (sum_by-insert f boxes n new) ∙ sym (by_boxes p (insert boxes n new))

pub counts_removed : {R A : Type 0} (document first : List ℕ) (boxes : List (Box (DocumentRow R) A)) (n : ℕ) (d : Box (DocumentRow R) A) (old now : BTreeMap (List ℕ) ℕ) → n < length boxes → (get_or boxes n d).value.document ≡ document
    → first ≡ first_sibling document → HoldsCounts (documents_in (unboxed boxes)) old → CountsAs first (count_in old first - 1) old now → HoldsCounts (documents_in (unboxed (remove boxes n))) now
counts_removed {R} {A} document first boxes n d old now within own is holds counted key =
    let p : List ℕ → Bool = λ e. is_same (first_sibling e) key in
    let f : Box (DocumentRow R) A → ℕ = λ b. cond (p b.value.document) 1 0 in
    let there : p (get_or boxes n d).value.document ≡ is_same first key = ap (λ k. is_same k key) (ap first_sibling own ∙ sym is) in
    let rest : count_by p (documents_in (unboxed (remove boxes n))) + cond (is_same first key) 1 0 ≡ count_by p (documents_in (unboxed boxes)) =
    ap (λ b. count_by p (documents_in (unboxed (remove boxes n))) + cond b 1 0) (sym there) ∙ ap (λ m. m + f (get_or boxes n d)) (by_boxes p (remove boxes n)) ∙ sum_by-remove f boxes n d within ∙ sym (by_boxes p boxes) in
    counted key ∙ down_step first key old (count_by p (documents_in (unboxed boxes))) (count_by p (documents_in (unboxed (remove boxes n)))) (is_same first key) refl (holds key) rest
