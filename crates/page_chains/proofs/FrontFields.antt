-- The fields in front of a header, one behind another.
use Rattle.std.proofs.Common.{◌≡◌, ℕ, ◌<◌, ◌≤◌, length, take, drop, ◌∙◌, ap, subst, arith, length-drop, drop-drop}
use Rattle.std.specs.Int.{w64, from_be_bytes}
use Rattle.page_journal.specs.Pages.{Bytes}
use Rattle.page_chains.specs.Headers.{number_at, header_mark}
use Rattle.page_chains.specs.inside.Fields.{IsMarked}

pub second : (page one two : Bytes) → one ≡ drop 8 page → two ≡ drop 8 one → two ≡ drop 16 page
second page one two one_is two_is = two_is ∙ ap (drop 8) one_is ∙ drop-drop 8 8 page

pub third : (page one two three : Bytes) → one ≡ drop 8 page → two ≡ drop 8 one → three ≡ drop 8 two → three ≡ drop 24 page
third page one two three one_is two_is three_is = three_is ∙ ap (drop 8) (second page one two one_is two_is) ∙ drop-drop 8 16 page

pub front_short : (page one two : Bytes) → one ≡ drop 8 page → two ≡ drop 8 one → length two < 8 → length page < 24
front_short page one two one_is two_is short =
    omega (arith, ap length (second page one two one_is two_is), length-drop 16 page, short)

used_is : (page one two : Bytes) (used : ℕ) → one ≡ drop 8 page → two ≡ drop 8 one → used ≡ from_be_bytes w64 (take 8 two) → used ≡ number_at 16 page
used_is page one two used one_is two_is is = is ∙ ap (λ (l : Bytes). from_be_bytes w64 (take 8 l)) (second page one two one_is two_is)

pub front_marked : (page one two : Bytes) (used : ℕ) → take 8 page ≡ header_mark → one ≡ drop 8 page → two ≡ drop 8 one → used ≡ from_be_bytes w64 (take 8 two) → used ≤ 1099511627776 → IsMarked page
front_marked page one two used mark one_is two_is is few = record {
  mark = mark;
  used = subst (λ (k : ℕ). k ≤ 1099511627776) (used_is page one two used one_is two_is is) few;
}

pub front_many : (page one two : Bytes) (used : ℕ) → one ≡ drop 8 page → two ≡ drop 8 one → used ≡ from_be_bytes w64 (take 8 two) → 1099511627776 < used → IsMarked page → length page < 24
front_many page one two used one_is two_is is many marked =
    let few = marked.used in
    let same = used_is page one two used one_is two_is is in
    absurd (omega (arith, many, same, few))
