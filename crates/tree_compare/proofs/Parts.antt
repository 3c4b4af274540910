-- Parts of bytes that are laid out.
use Rattle.std.proofs.Common.{◌≡◌, ◌≢◌, ℕ, zero, suc, ◌+◌, ◌-◌, ◌≤◌, Bool, true, false, List, [], ◌∷◌, length, take, drop, map, refl, arith, ap, ◌∙◌, sym}
use Rattle.std.specs.Prelude.{◌↔◌, IsTrue, nat_eq}
use Rattle.std.specs.Cmp.Lexicographic.{pointwise, bytes_decides}
use Rattle.std.proofs.lemmas.List.{length-take-le, length-drop}
use Rattle.std.proofs.lemmas.Bool.{iff_false, false≢true}
use Rattle.std.specs.List.{All}
use Rattle.std.proofs.lemmas.List.Elements.{All-weaker}
use Rattle.granfilade.specs.Content.{ByteAt, so_far_on, laid_from, laid}
use Rattle.tree_compare.specs.declared.stretch.Stretch.{Stretch}
use Rattle.tree_compare.specs.Stretches.{byte_count, laid_stretch, IsStretch}
use Rattle.tree_compare.proofs.Addresses.{met-next}

laid_from-take : (start : List ℕ) (k n : ℕ) (bytes : List ℕ) → take n (laid_from start k bytes) ≡ laid_from start k (take n bytes)
laid_from-take start k zero bytes = refl
laid_from-take start k (suc n) [] = refl
laid_from-take start k (suc n) (byte ∷ bytes) = ap (λ (ats : List ByteAt). record { address = so_far_on start k; byte = byte } ∷ ats) (laid_from-take start (k + 1) n bytes)

laid_from-drop : (start : List ℕ) (k n : ℕ) (bytes : List ℕ) → drop n (laid_from start k bytes) ≡ laid_from start (k + n) (drop n bytes)
laid_from-drop start k zero bytes = ap (λ (j : ℕ). laid_from start j bytes) (omega arith)
laid_from-drop start k (suc n) [] = refl
laid_from-drop start k (suc n) (byte ∷ bytes) = laid_from-drop start (k + 1) n bytes ∙ ap (λ (j : ℕ). laid_from start j (drop n bytes)) (omega arith)

pub laid-part : (start : List ℕ) (k n : ℕ) (bytes : List ℕ) → take n (drop k (laid start bytes)) ≡ laid_from start k (take n (drop k bytes))
laid-part start k n bytes =
    ap (take n) (laid_from-drop start 0 k bytes) ∙ laid_from-take start (0 + k) n (drop k bytes) ∙ ap (λ (j : ℕ). laid_from start j (take n (drop k bytes))) (omega arith)

pub length-laid_from : (start : List ℕ) (k : ℕ) (bytes : List ℕ) → length (laid_from start k bytes) ≡ length bytes
length-laid_from start k [] = refl
length-laid_from start k (byte ∷ bytes) = ap suc (length-laid_from start (k + 1) bytes)

bytes-laid : (start : List ℕ) (k : ℕ) (bytes : List ℕ) → map (λ (at : ByteAt). at.byte) (laid_from start k bytes) ≡ bytes
bytes-laid start k [] = refl
bytes-laid start k (byte ∷ bytes) = ap (λ (bs : List ℕ). byte ∷ bs) (bytes-laid start (k + 1) bytes)

laid-same : (one other : List ℕ) (k m : ℕ) (bytes : List ℕ) → one ≢ [] → other ≢ [] → so_far_on one k ≡ so_far_on other m → laid_from one k bytes ≡ laid_from other m bytes
laid-same one other k m [] some also e = refl
laid-same one other k m (byte ∷ bytes) some also e =
    ap (λ (a : List ℕ). record { address = a; byte = byte } ∷ laid_from one (k + 1) bytes) e
    ∙ ap (λ (ats : List ByteAt). record { address = so_far_on other m; byte = byte } ∷ ats) (laid-same one other (k + 1) (m + 1) bytes some also (met-next one other k m some also e))

abbrev first_address : List ByteAt → List ℕ → List ℕ
first_address [] none = none
first_address (at ∷ ats) none = at.address

laid-first : (one other : List ℕ) (k m : ℕ) (bytes others : List ℕ) → 1 ≤ length bytes → 1 ≤ length others → laid_from one k bytes ≡ laid_from other m others → so_far_on one k ≡ so_far_on other m
laid-first one other k m [] others some also e = absurd (omega (arith, some))
laid-first one other k m (byte ∷ bytes) [] some also e = absurd (omega (arith, also))
laid-first one other k m (byte ∷ bytes) (b ∷ others) some also e = ap (λ (ats : List ByteAt). first_address ats (so_far_on one k)) e

part-long : (bytes : List ℕ) (k n : ℕ) → k + n ≤ length bytes → length (take n (drop k bytes)) ≡ n
part-long bytes k n le = length-take-le n (drop k bytes) (omega (arith, length-drop k bytes, le))

pub parts-same : (one other bytes others : List ℕ) (k m n : ℕ) → one ≢ [] → other ≢ [] → so_far_on one k ≡ so_far_on other m → take n (drop k bytes) ≡ take n (drop m others) → take n (drop k (laid one bytes)) ≡ take n (drop m (laid other others))
parts-same one other bytes others k m n some also e b =
    laid-part one k n bytes ∙ ap (laid_from one k) b ∙ laid-same one other k m (take n (drop m others)) some also e ∙ sym (laid-part other m n others)

pub parts-first : (one other bytes others : List ℕ) (k m n : ℕ) → 1 ≤ n → k + n ≤ length bytes → m + n ≤ length others → take n (drop k (laid one bytes)) ≡ take n (drop m (laid other others)) → so_far_on one k ≡ so_far_on other m
parts-first one other bytes others k m n some here there e =
    laid-first one other k m (take n (drop k bytes)) (take n (drop m others)) (omega (arith, part-long bytes k n here, some)) (omega (arith, part-long others m n there, some))
    (sym (laid-part one k n bytes) ∙ e ∙ laid-part other m n others)

pub parts-bytes : (one other bytes others : List ℕ) (k m n : ℕ) → take n (drop k (laid one bytes)) ≡ take n (drop m (laid other others)) → take n (drop k bytes) ≡ take n (drop m others)
parts-bytes one other bytes others k m n e =
    sym (bytes-laid one k (take n (drop k bytes))) ∙ ap (map (λ (at : ByteAt). at.byte)) (sym (laid-part one k n bytes) ∙ e ∙ laid-part other m n others) ∙ bytes-laid other m (take n (drop m others))

-- ---- what the code tells

pub part-differs : (one other bytes others : List ℕ) (k m n : ℕ) (met : Bool) → 1 ≤ n → k + n ≤ length bytes → m + n ≤ length others → (IsTrue met ↔ so_far_on one k ≡ so_far_on other m) → met ≡ false
    → IsTrue false ↔ take n (drop k (laid one bytes)) ≡ take n (drop m (laid other others))
part-differs one other bytes others k m n met some here there told fails = (
  λ e. absurd (false≢true e),
  λ e. absurd (iff_false told fails (parts-first one other bytes others k m n some here there e)),
)

pub part-same : (one other bytes others : List ℕ) (k m n : ℕ) (met same : Bool) → one ≢ [] → other ≢ [] → (IsTrue met ↔ so_far_on one k ≡ so_far_on other m) → met ≡ true
    → same ≡ pointwise nat_eq (take (k + n - k) (drop k bytes)) (take (m + n - m) (drop m others)) → IsTrue same ↔ take n (drop k (laid one bytes)) ≡ take n (drop m (laid other others))
part-same one other bytes others k m n met same some also told holds test =
    let here : k + n - k ≡ n = omega arith in
    let there : m + n - m ≡ n = omega arith in
    let left : take (k + n - k) (drop k bytes) ≡ take n (drop k bytes) = ap (λ (j : ℕ). take j (drop k bytes)) here in
    let right : take (m + n - m) (drop m others) ≡ take n (drop m others) = ap (λ (j : ℕ). take j (drop m others)) there in
    let decides = bytes_decides (take (k + n - k) (drop k bytes)) (take (m + n - m) (drop m others)) in (
      λ e. parts-same one other bytes others k m n some also (told.0 holds) (sym left ∙ decides.0 (sym test ∙ e) ∙ right),
      λ e. test ∙ decides.1 (left ∙ parts-bytes one other bytes others k m n e ∙ sym right),
    )

-- a stretch has as many bytes laid out as it has
pub stretch-counted : (stretch : Stretch) → byte_count stretch ≡ length (laid_stretch stretch)
stretch-counted stretch = sym (length-laid_from stretch.start 0 stretch.bytes.now)

pub stretches-filled : (stretches : List Stretch) → All IsStretch stretches → All (λ (s : Stretch). 1 ≤ byte_count s) stretches
stretches-filled stretches each = All-weaker IsStretch (λ (s : Stretch). 1 ≤ byte_count s) (λ s h. h.filled) stretches each
