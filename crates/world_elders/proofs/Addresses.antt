-- Addresses of content bytes and of links, and their numbers in a row.
use Rattle.std.proofs.Common.{◌≡◌, ℕ, zero, suc, ◌+◌, ◌-◌, ◌∙◌, eqb, true, false, List, [], ◌∷◌, ◌++◌, length, take, ap, sym, refl, subst, arith, append_assoc}
use Rattle.std.specs.Prelude.{slice_index}
use Rattle.std.specs.Cmp.Lexicographic.{bytes_decides}
use Rattle.std.proofs.lemmas.Bool.{and_parts, eqb-true, false_from_ne_true, true≢false}
use Rattle.std.proofs.lemmas.List.{take_at, length-append}
use Rattle.world_rules.specs.World.{is_same, is_child_of, content_address}
use Rattle.world_rules.specs.Picking.{content_of, number_of}
use Rattle.world_rules.specs.Laws.{numbers_from}
use Rattle.world_rules.proofs.Documents.{same_end, child}

-- ---- one place more

-- what an address and one place more is below, is that address
pub front_is : (front below : List ℕ) (n : ℕ) → is_child_of front (below ++ n ∷ []) ≡ true → front ≡ below
front_is front below n e =
    let parts = and_parts (eqb (length (below ++ n ∷ [])) (length front + 1)) (is_same (take (length front) (below ++ n ∷ [])) front) e in
    let long : length (below ++ n ∷ []) ≡ length front + 1 = eqb-true (length (below ++ n ∷ [])) (length front + 1) parts.0 in
    let as_long : length below ≡ length front = omega (arith, length-append below (n ∷ [])) in
    let taken : take (length front) (below ++ n ∷ []) ≡ front = (bytes_decides (take (length front) (below ++ n ∷ [])) front).0 parts.1 in
    sym taken ∙ take_at below (n ∷ []) (length front) as_long

-- ---- content

content_split : (document : List ℕ) (n : ℕ) → (document ++ 0 ∷ 1 ∷ []) ++ n ∷ [] ≡ content_address document n
content_split document n = append_assoc document (0 ∷ 1 ∷ []) (n ∷ [])

pub is_content_of : (document : List ℕ) (n : ℕ) → is_child_of (document ++ 0 ∷ 1 ∷ []) (content_address document n) ≡ true
is_content_of document n = subst (λ (address : List ℕ). is_child_of (document ++ 0 ∷ 1 ∷ []) address ≡ true) (content_split document n) (child (document ++ 0 ∷ 1 ∷ []) n)

-- a content byte of one document alone
pub content_owner : (document other : List ℕ) (n : ℕ) → is_child_of (other ++ 0 ∷ 1 ∷ []) (content_address document n) ≡ true → other ≡ document
content_owner document other n e =
    let fronts : other ++ 0 ∷ 1 ∷ [] ≡ document ++ 0 ∷ 1 ∷ [] =
    front_is (other ++ 0 ∷ 1 ∷ []) (document ++ 0 ∷ 1 ∷ []) n (subst (λ (address : List ℕ). is_child_of (other ++ 0 ∷ 1 ∷ []) address ≡ true) (sym (content_split document n)) e) in
    let middle = same_end (other ++ 0 ∷ []) (document ++ 0 ∷ []) 1 1 (append_assoc other (0 ∷ []) (1 ∷ []) ∙ fronts ∙ sym (append_assoc document (0 ∷ []) (1 ∷ []))) in
    (same_end other document 0 0 middle.0).0

pub not_content_of : (document other : List ℕ) (n : ℕ) → is_same other document ≡ false → is_child_of (other ++ 0 ∷ 1 ∷ []) (content_address document n) ≡ false
not_content_of document other n differs =
    false_from_ne_true (is_child_of (other ++ 0 ∷ 1 ∷ []) (content_address document n))
    (λ (e : is_child_of (other ++ 0 ∷ 1 ∷ []) (content_address document n) ≡ true).
    true≢false (sym ((bytes_decides other document).1 (content_owner document other n e)) ∙ differs))

-- ---- the document and the number of a content byte

long_content : (document : List ℕ) (n : ℕ) → length (content_address document n) ≡ length document + 3
long_content document n = length-append document (0 ∷ 1 ∷ n ∷ [])

last_place : (front : List ℕ) (n : ℕ) → slice_index (front ++ n ∷ []) (length front) ≡ n
last_place [] n = refl
last_place (x ∷ front) n = last_place front n

pub content_is : (document : List ℕ) (n : ℕ) → content_of (content_address document n) ≡ document
content_is document n =
    let short : length document ≡ length (content_address document n) - 3 = omega (arith, long_content document n) in
    take_at document (0 ∷ 1 ∷ n ∷ []) (length (content_address document n) - 3) short

pub number_is : (document : List ℕ) (n : ℕ) → number_of (content_address document n) ≡ n
number_is document n =
    let front : List ℕ = document ++ 0 ∷ 1 ∷ [] in
    let last : length (content_address document n) - 1 ≡ length (document ++ 0 ∷ 1 ∷ []) = omega (arith, long_content document n, length-append document (0 ∷ 1 ∷ [])) in
    ap (slice_index (content_address document n)) last
    ∙ ap (λ (address : List ℕ). slice_index address (length (document ++ 0 ∷ 1 ∷ []))) (sym (content_split document n))
    ∙ last_place (document ++ 0 ∷ 1 ∷ []) n

-- ---- numbers in a row

-- so many numbers, and so many more behind them
pub numbers_parts : (n c k : ℕ) → numbers_from n (c + k) ≡ numbers_from n c ++ numbers_from (n + c) k
numbers_parts n zero k =
    let none : zero + k ≡ k = omega arith in
    let same : n ≡ n + zero = omega arith in
    ap (numbers_from n) none ∙ ap (λ (m : ℕ). numbers_from m k) same
numbers_parts n (suc c) k =
    let one_more : suc c + k ≡ suc (c + k) = omega arith in
    let start : (n + 1) + c ≡ n + suc c = omega arith in
    ap (numbers_from n) one_more
    ∙ ap (λ (ns : List ℕ). n ∷ ns) (numbers_parts (n + 1) c k ∙ ap (λ (m : ℕ). numbers_from (n + 1) c ++ numbers_from m k) start)

pub numbers_long : (n k : ℕ) → length (numbers_from n k) ≡ k
numbers_long n zero = refl
numbers_long n (suc k) = ap suc (numbers_long (n + 1) k)
