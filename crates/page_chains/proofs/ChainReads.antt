-- What is read of pages and chains, where the disk tells what it reads.
use Rattle.std.proofs.Common.{◌≡◌, ℕ, ◌-◌, ◌<◌, ◌≤◌, min, Bool, true, false, true≢false, List, [], ◌∷◌, ◌++◌, length, take, drop, Option, None, Some, IsTrue, refl, sym, ◌∙◌, ap, subst, arith}
use Rattle.std.proofs.lemmas.List.{take_min}
use Rattle.green_io.specs.Areas.{Areas}
use Rattle.green_io.specs.Disk.{WhereTold}
use Rattle.page_journal.specs.Answers.{IsPage}
use Rattle.page_journal.specs.Pages.{Bytes, pages_of}
use Rattle.page_chains.specs.declared.chain.Chain.{Chain}
use Rattle.page_chains.specs.declared.start.Start.{Start}
use Rattle.page_chains.specs.Chains.{next_of, body_of, is_in, AreDistinct}
use Rattle.page_chains.specs.inside.Walks.{HasOneMore, HaveSame, IsMet, IsTaken, IsOnePageOn, IsReadApart}
use Rattle.page_chains.proofs.Walking.{IsWalked, walked_none, walked_more, walked_stuck, walked_all}

pub page_taken : (left count : ℕ) (part body page : Bytes) → count ≡ min left (length body) → part ≡ take count body → body ≡ drop 8 page → part ≡ take left (body_of page)
page_taken left count part body page count_is part_is body_is =
    part_is ∙ ap (λ (k : ℕ). take k body) count_is ∙ take_min left body ∙ ap (take left) body_is

pub none_at_zero : (told : Option Areas) (met now : List ℕ) (number : ℕ) (page : Bytes) → number ≡ 0 → WhereTold told (λ areas. IsMet false (pages_of areas.home) met now number page)
none_at_zero None met now number page zero = tt
none_at_zero (Some areas) met now number page zero = λ other next. let some = next.in_use.some in absurd (omega (arith, zero, some))

pub none_past : (told : Option Areas) (met now : List ℕ) (number : ℕ) (page : Bytes) → 1099511627776 ≤ number → WhereTold told (λ areas. IsMet false (pages_of areas.home) met now number page)
none_past None met now number page high = tt
none_past (Some areas) met now number page high = λ other next. let low = next.in_use.low in absurd (omega (arith, high, low))

pub none_twice : (told : Option Areas) (met now : List ℕ) (number : ℕ) (page : Bytes) → is_in number met ≡ true → WhereTold told (λ areas. IsMet false (pages_of areas.home) met now number page)
none_twice None met now number page twice = tt
none_twice (Some areas) met now number page twice = λ other next. absurd (true≢false (sym twice ∙ next.fresh))

pub next_read : (told now_told : Option Areas) (there : Bool) (met now : List ℕ) (number : ℕ) (page : Bytes) → now_told ≡ told → 0 < number → number < 1099511627776 → is_in number met ≡ false → HasOneMore number met now → WhereTold now_told (λ areas. IsPage there page (pages_of areas.home number)) → WhereTold now_told (λ areas. IsTrue there → length page ≡ 4096) → WhereTold told (λ areas. IsMet there (pages_of areas.home) met now number page)
next_read told now_told there met now number page same some low fresh more read whole =
    at_told told there (subst (λ (r : Option Areas). WhereTold r (λ areas. IsPage there page (pages_of areas.home number))) same read) (subst (λ (r : Option Areas). WhereTold r (λ areas. IsTrue there → length page ≡ 4096)) same whole)
  where
    at_told : (told : Option Areas) (there : Bool) → WhereTold told (λ areas. IsPage there page (pages_of areas.home number)) → WhereTold told (λ areas. IsTrue there → length page ≡ 4096) → WhereTold told (λ areas. IsMet there (pages_of areas.home) met now number page)
    at_told None there read whole = tt
    at_told (Some areas) true read whole = (record { in_use = record { some = some; low = low }; fresh = fresh; is_there = record { there = read; whole = whole refl } }, more)
    at_told (Some areas) false read whole = λ other next. cc (read, next.is_there.there)

pub link_read : (told : Option Areas) (there : Bool) (next : Option ℕ) (met now : List ℕ) (old new : Chain) (number left : ℕ) (page seen : Bytes) → there ≡ true → seen ≡ page → WhereTold told (λ areas. IsMet there (pages_of areas.home) met now number page) → IsTaken next old new number left seen → WhereTold told (λ areas. IsOnePageOn next (pages_of areas.home) met now old new number left)
link_read told there next met now old new number left page seen found same is taken =
    at_told told next (subst (λ (t : Bool). WhereTold told (λ areas. IsMet t (pages_of areas.home) met now number page)) found is) (subst (IsTaken next old new number left) same taken)
  where
    at_told : (told : Option Areas) (next : Option ℕ) → WhereTold told (λ areas. IsMet true (pages_of areas.home) met now number page) → IsTaken next old new number left page → WhereTold told (λ areas. IsOnePageOn next (pages_of areas.home) met now old new number left)
    at_told None next is taken = tt
    at_told (Some areas) None is taken = let whole = is.0.is_there.whole in absurd (omega (arith, whole, taken))
    at_told (Some areas) (Some next) is taken = (page, is.0, is.1, taken)

-- every chain from the start has what was read, whatever pages were met before it
abbrev pub WalksFrom : Option Areas → List ℕ → Start → List ℕ → Bytes → List ℕ → ℕ → ℕ → Type 0
WalksFrom told entry start done bytes met named left =
    WhereTold told (λ areas. (before : List ℕ) → AreDistinct before → HaveSame entry before → IsWalked (pages_of areas.home) before start.first start.count done bytes met named left)

pub walks_none : (told : Option Areas) (entry : List ℕ) (start : Start) (done : List ℕ) (bytes : Bytes) → done ≡ [] → bytes ≡ [] → WalksFrom told entry start done bytes entry start.first start.count
walks_none told entry start done bytes none empty =
    subst (λ (l : List ℕ). WalksFrom told entry start l bytes entry start.first start.count) (sym none)
    (subst (λ (b : Bytes). WalksFrom told entry start [] b entry start.first start.count) (sym empty) (at_told told))
  where
    at_told : (told : Option Areas) → WalksFrom told entry start [] [] entry start.first start.count
    at_told None = tt
    at_told (Some areas) = λ before distinct same. walked_none (pages_of areas.home) before start.first start.count entry distinct same

pub walks_more : (told now_told : Option Areas) (entry : List ℕ) (start : Start) (old new : Chain) (met now : List ℕ) (named next left less : ℕ) (link : Option ℕ) → now_told ≡ told → link ≡ Some next → 0 < left → less ≡ left - 4088 → WhereTold now_told (λ areas. IsOnePageOn link (pages_of areas.home) met now old new named left) → WalksFrom told entry start old.numbers.items old.bytes.items met named left → WalksFrom told entry start new.numbers.items new.bytes.items now next less
walks_more told now_told entry start old new met now named next left less link same link_is some less_is on is =
    at_told told (subst (λ (k : Option ℕ). WhereTold told (λ areas. IsOnePageOn k (pages_of areas.home) met now old new named left)) link_is
    (subst (λ (r : Option Areas). WhereTold r (λ areas. IsOnePageOn link (pages_of areas.home) met now old new named left)) same on)) is
  where
    at_told : (told : Option Areas) → WhereTold told (λ areas. IsOnePageOn (Some next) (pages_of areas.home) met now old new named left) → WalksFrom told entry start old.numbers.items old.bytes.items met named left → WalksFrom told entry start new.numbers.items new.bytes.items now next less
    at_told None link is = tt
    at_told (Some areas) link is = λ before distinct known.
        let more = walked_more (pages_of areas.home) before start.first start.count old.numbers.items old.bytes.items met now named left link.0 some link.1 link.2 (is before distinct known) in
        subst (λ (l : List ℕ). IsWalked (pages_of areas.home) before start.first start.count l new.bytes.items now next less) (sym link.3.numbers)
        (subst (λ (b : Bytes). IsWalked (pages_of areas.home) before start.first start.count (old.numbers.items ++ named ∷ []) b now next less) (sym link.3.bytes)
        (subst (λ (k : ℕ). IsWalked (pages_of areas.home) before start.first start.count (old.numbers.items ++ named ∷ []) (old.bytes.items ++ take left (body_of link.0)) now k less) (sym link.3.next_is)
        (subst (λ (k : ℕ). IsWalked (pages_of areas.home) before start.first start.count (old.numbers.items ++ named ∷ []) (old.bytes.items ++ take left (body_of link.0)) now (next_of link.0) k) (sym less_is) more)))

-- what reading a chain gives, whatever pages were met before it
abbrev pub ReadsFrom : Option Areas → List ℕ → Option Chain → List ℕ → Start → Type 0
ReadsFrom told entry found met start = WhereTold told (λ areas. IsReadApart found (pages_of areas.home) entry met start)

pub walks_stuck : (told now_told : Option Areas) (entry : List ℕ) (start : Start) (old new : Chain) (met now : List ℕ) (named left : ℕ) (link : Option ℕ) → now_told ≡ told → link ≡ None → 0 < left → WhereTold now_told (λ areas. IsOnePageOn link (pages_of areas.home) met now old new named left) → WalksFrom told entry start old.numbers.items old.bytes.items met named left → ReadsFrom told entry None now start
walks_stuck told now_told entry start old new met now named left link same none some on is =
    at_told told (subst (λ (k : Option ℕ). WhereTold told (λ areas. IsOnePageOn k (pages_of areas.home) met now old new named left)) none
    (subst (λ (r : Option Areas). WhereTold r (λ areas. IsOnePageOn link (pages_of areas.home) met now old new named left)) same on)) is
  where
    at_told : (told : Option Areas) → WhereTold told (λ areas. IsOnePageOn None (pages_of areas.home) met now old new named left) → WalksFrom told entry start old.numbers.items old.bytes.items met named left → ReadsFrom told entry None now start
    at_told None link is = tt
    at_told (Some areas) link is = λ before distinct known.
        walked_stuck (pages_of areas.home) before start.first start.count old.numbers.items old.bytes.items met named left some link (is before distinct known)

pub walks_all : (told : Option Areas) (entry : List ℕ) (start : Start) (chain : Chain) (met : List ℕ) (named left : ℕ) → left ≤ 0 → WalksFrom told entry start chain.numbers.items chain.bytes.items met named left → ReadsFrom told entry (Some chain) met start
walks_all None entry start chain met named left none is = tt
walks_all (Some areas) entry start chain met named left none is = λ before distinct known.
    let walked = is before distinct known in
    (walked_all (pages_of areas.home) before start.first start.count chain.numbers.items chain.bytes.items met named left (omega (arith, none)) walked, walked.same)

pub ruleset chain_steps = (walks_none, walks_all)
