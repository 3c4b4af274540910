-- The bytes that lie in a span.
use Rattle.std.proofs.Common.{◌≡◌, ℕ, zero, suc, ◌+◌, ◌-◌, ◌<◌, ◌≤◌, Bool, true, false, not, ◌&&◌, cond, ltb, List, [], ◌∷◌, ◌++◌, length, take, drop, map, refl, arith, ap, ◌∙◌, sym, inl, inr, append-nil}
use Rattle.std.specs.List.{filter}
use Rattle.std.proofs.lemmas.Bool.{cases_lt, lt-ltb, le-ltb}
use Rattle.std.proofs.lemmas.List.{map-append, drop-take}
use Rattle.std.proofs.lemmas.List.Elements.{filter-append}
use Rattle.tumbler.specs.Places.{comes_before}
use Rattle.tumbler.specs.Span.{end_of}
use Rattle.tumbler.specs.declared.span.Span.{Span}
use Rattle.granfilade.specs.Content.{ByteAt, so_far_on, laid_from, laid, lies_in, bytes_in}

-- ---- of one row

drop-none : (n : ℕ) → drop {A = ℕ} n [] ≡ []
drop-none zero = refl
drop-none (suc n) = refl

pub take-none : (n : ℕ) → take {A = ℕ} n [] ≡ []
take-none zero = refl
take-none (suc n) = refl

cut-before : (from to k byte : ℕ) (bytes : List ℕ) → k < from → drop (from - k) (take (to - k) (byte ∷ bytes)) ≡ drop (from - (k + 1)) (take (to - (k + 1)) bytes)
cut-before from to k byte bytes lt =
    let more : from - k ≡ suc (from - (k + 1)) = omega (arith, lt) in
    elim (cases_lt k to) [
      | inl less ↦ let one : to - k ≡ suc (to - (k + 1)) = omega (arith, less) in rw (more, one) refl
      | inr past ↦ let none : to - k ≡ 0 = omega (arith, past) in let still : to - (k + 1) ≡ 0 = omega (arith, past) in rw (more, none, still) (sym (drop-none (from - (k + 1))))
    ]

cut-within : (from to k byte : ℕ) (bytes : List ℕ) → from ≤ k → k < to → drop (from - k) (take (to - k) (byte ∷ bytes)) ≡ byte ∷ drop (from - (k + 1)) (take (to - (k + 1)) bytes)
cut-within from to k byte bytes le lt =
    let none : from - k ≡ 0 = omega (arith, le) in
    let still : from - (k + 1) ≡ 0 = omega (arith, le) in
    let one : to - k ≡ suc (to - (k + 1)) = omega (arith, lt) in rw (none, still, one) refl

cut-past : (from to k byte : ℕ) (bytes : List ℕ) → to ≤ k → drop (from - k) (take (to - k) (byte ∷ bytes)) ≡ drop (from - (k + 1)) (take (to - (k + 1)) bytes)
cut-past from to k byte bytes le =
    let none : to - k ≡ 0 = omega (arith, le) in
    let still : to - (k + 1) ≡ 0 = omega (arith, le) in
    rw (none, still) (drop-none (from - k) ∙ sym (drop-none (from - (k + 1))))

out_before : (k from : ℕ) (b : Bool) → k < from → not (ltb k from) && b ≡ false
out_before k from b lt = rw (lt-ltb k from lt) refl

out_past : (k from to : ℕ) → from ≤ k → to ≤ k → not (ltb k from) && ltb k to ≡ false
out_past k from to le past = rw (le-ltb k from le, le-ltb k to past) refl

in_both : (k from to : ℕ) → from ≤ k → k < to → not (ltb k from) && ltb k to ≡ true
in_both k from to le lt = rw (le-ltb k from le, lt-ltb k to lt) refl

-- one byte more in front
byte-out : (span : Span) (at : ByteAt) (rest : List ByteAt) → lies_in span at.address ≡ false → bytes_in span (at ∷ rest) ≡ bytes_in span rest
byte-out span at rest e = ap (λ t. map (λ (b : ByteAt). b.byte) (cond t (at ∷ filter (λ b. lies_in span b.address) rest) (filter (λ b. lies_in span b.address) rest))) e

byte-in : (span : Span) (at : ByteAt) (rest : List ByteAt) → lies_in span at.address ≡ true → bytes_in span (at ∷ rest) ≡ at.byte ∷ bytes_in span rest
byte-in span at rest e = ap (λ t. map (λ (b : ByteAt). b.byte) (cond t (at ∷ filter (λ b. lies_in span b.address) rest) (filter (λ b. lies_in span b.address) rest))) e

-- of bytes from the k-th on, those between two numbers lie in the span
pub picked : (span : Span) (start : List ℕ) (from to k : ℕ) (bytes : List ℕ) → ((j : ℕ) → j < k + length bytes → lies_in span (so_far_on start j) ≡ not (ltb j from) && ltb j to)
    → bytes_in span (laid_from start k bytes) ≡ drop (from - k) (take (to - k) bytes)
picked span start from to k [] tests = sym (ap (drop (from - k)) (take-none (to - k)) ∙ drop-none (from - k))
picked span start from to k (byte ∷ bytes) tests =
    let at : ByteAt = record { address = so_far_on start k; byte = byte } in
    let rest = laid_from start (k + 1) bytes in
    let here = tests k (omega arith) in
    let more = picked span start from to (k + 1) bytes (λ j h. tests j (omega (arith, h))) in
    elim (cases_lt k from) [
      | inl lt ↦ byte-out span at rest (here ∙ out_before k from (ltb k to) lt) ∙ more ∙ sym (cut-before from to k byte bytes lt)
      | inr le ↦ elim (cases_lt k to) [
        | inl lt ↦ byte-in span at rest (here ∙ in_both k from to le lt) ∙ ap (λ bs. byte ∷ bs) more ∙ sym (cut-within from to k byte bytes le lt)
        | inr past ↦ byte-out span at rest (here ∙ out_past k from to le past) ∙ more ∙ sym (cut-past from to k byte bytes past)
      ]
    ]

both_tests : (a b c d : Bool) → a ≡ c → b ≡ d → not a && b ≡ not c && d
both_tests a b c d e h = rw (e, h) refl

tested : (span : Span) (start end : List ℕ) (count from to : ℕ) → end ≡ end_of span → ((k : ℕ) → k < count → comes_before (so_far_on start k) span.start ≡ ltb k from)
    → ((k : ℕ) → k < count → comes_before (so_far_on start k) end ≡ ltb k to) → (j : ℕ) → j < count → lies_in span (so_far_on start j) ≡ not (ltb j from) && ltb j to
tested span start end count from to is first last j lt =
    both_tests (comes_before (so_far_on start j) span.start) (comes_before (so_far_on start j) (end_of span)) (ltb j from) (ltb j to) (first j lt)
    (ap (comes_before (so_far_on start j)) (sym is) ∙ last j lt)

-- the bytes of a row between two numbers, where these say which ones come before the span's start and end
pub part : (span : Span) (start end : List ℕ) (bytes : List ℕ) (from to : ℕ) → end ≡ end_of span → ((k : ℕ) → k < length bytes → comes_before (so_far_on start k) span.start ≡ ltb k from)
    → ((k : ℕ) → k < length bytes → comes_before (so_far_on start k) end ≡ ltb k to) → bytes_in span (laid start bytes) ≡ drop from (take to bytes)
part span start end bytes from to is first last =
    let whole = picked span start from to 0 bytes (λ j h. tested span start end (length bytes) from to is first last j (omega (arith, h))) in
    let a : from - 0 ≡ from = omega arith in
    let b : to - 0 ≡ to = omega arith in
    whole ∙ ap (λ n. drop n (take (to - 0) bytes)) a ∙ ap (λ n. drop from (take n bytes)) b

drop-take_none : (from to : ℕ) (bytes : List ℕ) → to ≤ from → drop from (take to bytes) ≡ []
drop-take_none from zero bytes h = drop-none from
drop-take_none from (suc to) [] h = drop-none from
drop-take_none zero (suc to) (byte ∷ bytes) h = absurd (omega (arith, h))
drop-take_none (suc from) (suc to) (byte ∷ bytes) h = drop-take_none from to bytes (omega (arith, h))

pub part-none : (span : Span) (start end : List ℕ) (bytes held : List ℕ) (from to : ℕ) → end ≡ end_of span → ((k : ℕ) → k < length bytes → comes_before (so_far_on start k) span.start ≡ ltb k from)
    → ((k : ℕ) → k < length bytes → comes_before (so_far_on start k) end ≡ ltb k to) → to ≤ from → held ≡ held ++ bytes_in span (laid start bytes)
part-none span start end bytes held from to is first last le =
    sym (ap (λ bs. held ++ bs) (part span start end bytes from to is first last ∙ drop-take_none from to bytes le) ∙ append-nil held)

pub part-some : (span : Span) (start end : List ℕ) (bytes held : List ℕ) (from to : ℕ) → end ≡ end_of span → ((k : ℕ) → k < length bytes → comes_before (so_far_on start k) span.start ≡ ltb k from)
    → ((k : ℕ) → k < length bytes → comes_before (so_far_on start k) end ≡ ltb k to) → from ≤ to → take (to - from) (drop from bytes) ≡ bytes_in span (laid start bytes)
part-some span start end bytes held from to is first last le =
    let reach : to ≡ from + (to - from) = omega (arith, le) in
    sym (part span start end bytes from to is first last ∙ ap (λ n. drop from (take n bytes)) reach ∙ drop-take from (to - from) bytes)

-- nothing where no address lies in the span
pub part-outside : (span : Span) (start : List ℕ) (bytes : List ℕ) → ((j : ℕ) → j < length bytes → lies_in span (so_far_on start j) ≡ false) → bytes_in span (laid start bytes) ≡ []
part-outside span start bytes out = picked span start 0 0 0 bytes (λ j h. out j (omega (arith, h)) ∙ sym (out_past j 0 0 (omega arith) (omega arith)))

-- ---- of several rows

pub bytes_in-append : (span : Span) (xs ys : List ByteAt) → bytes_in span (xs ++ ys) ≡ bytes_in span xs ++ bytes_in span ys
bytes_in-append span xs ys =
    ap (map (λ (b : ByteAt). b.byte)) (filter-append (λ b. lies_in span b.address) xs ys) ∙ map-append (λ (b : ByteAt). b.byte) (filter (λ b. lies_in span b.address) xs) (filter (λ b. lies_in span b.address) ys)
