-- What writes of pages, whole or torn, leave of the pages of Home.
use Rattle.std.proofs.Common.{◌≡◌, ◌⊎◌, inl, inr, ⊎_elim, ℕ, ◌+◌, ◌-◌, ◌*◌, ◌<◌, ◌≤◌, Bool, true, false, true≢false, cond, ◌||◌, [], ◌∷◌, ◌++◌, length, take, drop, None, Some, nat_eq, nat_le, refl, sym, ◌∙◌, ap, subst, arith, length-append, length-drop, take_at, eqb-true, ne_eqb, le-leb, leb-true}
use Rattle.std.proofs.lemmas.Bool.{eqb-false, cases_lt, or_parts, cond-false}
use Rattle.std.proofs.lemmas.Option.{cond_some}
use Rattle.std.specs.List.{AllByRecursion}
use Rattle.green_io.specs.Disk.{Written, Torn}
use Rattle.page_journal.specs.Pages.{Bytes, Pages, PageBytes, Writes, pages_of, put, laid, is_written, written_at, home_after, AreSame, Extends, Spares}
use Rattle.page_journal.specs.JournalBytes.{IsWrite}
use Rattle.page_journal.proofs.Ranges.{same_range, torn_keeps, written_torn, written_drop}

pub page_there : (home : Bytes) (k : ℕ) → 4096 * k + 4096 ≤ length home → pages_of home k ≡ Some (take 4096 (drop (4096 * k) home))
unfolding pages_of
page_there home k fits = rw (le-leb (4096 * k + 4096) (length home) fits) refl

pub page_past : (home : Bytes) (k : ℕ) → length home < 4096 * k + 4096 → pages_of home k ≡ None
unfolding pages_of
page_past home k past = cond-false (nat_le (4096 * k + 4096) (length home)) (Some (take 4096 (drop (4096 * k) home))) None (is_false (nat_le (4096 * k + 4096) (length home)) (λ e. let fits = leb-true _ _ e in absurd (omega (arith, fits, past))))
  where
    is_false : (b : Bool) → (b ≡ true → ⊥) → b ≡ false
    is_false true not_true = absurd (not_true refl)
    is_false false not_true = refl

pub page_found : (home : Bytes) (k : ℕ) (page : Bytes) → pages_of home k ≡ Some page → (4096 * k + 4096 ≤ length home) × (take 4096 (drop (4096 * k) home) ≡ page)
unfolding pages_of
page_found home k page is =
    let found = cond_some (nat_le (4096 * k + 4096) (length home)) (take 4096 (drop (4096 * k) home)) page is in
    (leb-true _ _ found.0, found.1)

outside : (n k i : ℕ) → (k ≡ n → ⊥) → 4096 * k ≤ i → i < 4096 * k + 4096 → (i < 4096 * n) ⊎ (4096 * n + 4096 ≤ i)
outside n k i differ from below =
    ⊎_elim
    (λ (lt : i < 4096 * n). inl lt)
    (λ (ge : 4096 * n ≤ i). inr (past n k i differ from below ge))
    (cases_lt i (4096 * n))
  where
    past : (n k i : ℕ) → (k ≡ n → ⊥) → 4096 * k ≤ i → i < 4096 * k + 4096 → 4096 * n ≤ i → 4096 * n + 4096 ≤ i
    past n k i differ from below ge = omega (arith, differ)

-- a torn write of one page leaves every other page that is there
pub page_beside : (n : ℕ) (old new : Bytes) → Torn (4096 * n) 4096 old new → (k : ℕ) → nat_eq k n ≡ false → (page : Bytes) → pages_of old k ≡ Some page → pages_of new k ≡ Some page
page_beside n old new torn k apart page is =
    let found = page_found old k page is in
    let fits : 4096 * k + 4096 ≤ length old = found.0 in
    let fits_new : 4096 * k + 4096 ≤ length new = omega (arith, torn.no_shorter, fits) in
    page_there new k fits_new
    ∙ ap (λ (p : Bytes). Some p) (same_range old new (4096 * k) 4096 fits fits_new
    (λ i from below. torn_keeps (4096 * n) 4096 old new torn i (omega (arith, below, fits)) (outside n k i (eqb-false k n apart) from below))
    ∙ found.1)

-- a whole write of a page puts it there
pub page_filled : (n : ℕ) (bytes old new : Bytes) → length bytes ≡ 4096 → Written (4096 * n) bytes old new → pages_of new n ≡ Some bytes
page_filled n bytes old new whole written =
    let at : drop (4096 * n) new ≡ bytes ++ drop (4096 * n + length bytes) old = written_drop (4096 * n) bytes old new written in
    let long : length new - (4096 * n) ≡ length bytes + length (drop (4096 * n + length bytes) old) = sym (length-drop (4096 * n) new) ∙ ap length at ∙ length-append bytes (drop (4096 * n + length bytes) old) in
    page_there new n (omega (arith, whole, long))
    ∙ ap (λ (p : Bytes). Some p) (ap (take 4096) at ∙ take_at bytes (drop (4096 * n + length bytes) old) 4096 whole)

spares_next : (write : PageBytes) (writes : Writes) (pages : Pages) (home new : Bytes) → length write.bytes ≡ 4096 → Written (4096 * write.number) write.bytes home new → Spares (write ∷ writes) pages (pages_of home) → Spares writes (put write pages) (pages_of new)
spares_next write writes pages home new whole written spares k page apart is = by_test (nat_eq k write.number) refl is
  where
    by_test : (t : Bool) → nat_eq k write.number ≡ t → cond t (Some write.bytes) (pages k) ≡ Some page → pages_of new k ≡ Some page
    by_test true e is = subst (λ (n : ℕ). pages_of new n ≡ Some page) (sym (eqb-true k write.number e)) (page_filled write.number write.bytes home new whole written ∙ is)
    by_test false e is =
        let none : (nat_eq k write.number || is_written writes k) ≡ false = ap (λ (t : Bool). t || is_written writes k) e ∙ apart in
        page_beside write.number home new (subst (λ (m : ℕ). Torn (4096 * write.number) m home new) whole (written_torn (4096 * write.number) write.bytes home new written)) k e page (spares k page none is)

-- writes over Home give the pages with them laid over, where every other page was there already
pub laid_over : (writes : Writes) (pages : Pages) (home : Bytes) → AllByRecursion IsWrite writes → Spares writes pages (pages_of home) → Extends (laid writes pages) (pages_of (home_after writes home))
laid_over [] pages home are spares = λ k page is. spares k page refl is
laid_over (write ∷ writes) pages home are spares =
    laid_over writes (put write pages) (written_at (4096 * write.number) write.bytes home) are.1
    (spares_next write writes pages home (written_at (4096 * write.number) write.bytes home) are.0.whole refl spares)

pub laid_over_itself : (writes : Writes) (home : Bytes) → AllByRecursion IsWrite writes → Extends (laid writes (pages_of home)) (pages_of (home_after writes home))
laid_over_itself writes home are = laid_over writes (pages_of home) home are (λ k page apart is. is)

put_more : (write : PageBytes) (less more : Pages) → Extends less more → Extends (put write less) (put write more)
put_more write less more extends k page is = by_test (nat_eq k write.number) is
  where
    by_test : (t : Bool) → cond t (Some write.bytes) (less k) ≡ Some page → cond t (Some write.bytes) (more k) ≡ Some page
    by_test true is = is
    by_test false is = extends k page is

pub laid_more : (writes : Writes) (less more : Pages) → Extends less more → Extends (laid writes less) (laid writes more)
laid_more [] less more extends = extends
laid_more (write ∷ writes) less more extends = laid_more writes (put write less) (put write more) (put_more write less more extends)

-- a page that no write is to
pub laid_other : (writes : Writes) (pages : Pages) (k : ℕ) → is_written writes k ≡ false → laid writes pages k ≡ pages k
laid_other [] pages k apart = refl
laid_other (write ∷ writes) pages k apart =
    let parts = or_parts (nat_eq k write.number) (is_written writes k) apart in
    laid_other writes (put write pages) k parts.1 ∙ cond-false (nat_eq k write.number) (Some write.bytes) (pages k) parts.0

pub spares_from_laid : (writes : Writes) (old new : Pages) → Extends (laid writes old) new → Spares writes old new
spares_from_laid writes old new extends k page apart is = extends k page (laid_other writes old k apart ∙ is)

pub part_laid : (part pages : Pages) (writes : Writes) → Extends part pages → ((k : ℕ) (page : Bytes) → part k ≡ Some page → is_written writes k ≡ false) → Extends part (laid writes pages)
part_laid part pages writes extends apart k page is = laid_other writes pages k (apart k page is) ∙ extends k page is

-- a torn write of one of the pages spares all others
pub torn_spares : (writes : Writes) (pages : Pages) (n : ℕ) (old new : Bytes) → is_written writes n ≡ true → Spares writes pages (pages_of old) → Torn (4096 * n) 4096 old new → Spares writes pages (pages_of new)
torn_spares writes pages n old new among spares torn k page apart is =
    page_beside n old new torn k (ne_eqb k n (λ e. true≢false (sym among ∙ ap (is_written writes) (sym e) ∙ apart))) page (spares k page apart is)

pub same_extends : (a b c : Pages) → AreSame b c → Extends a b → Extends a c
same_extends a b c same extends k page is = same k ∙ extends k page is

pub extends_then : (a b c : Pages) → Extends a b → Extends b c → Extends a c
extends_then a b c first next k page is = next k page (first k page is)
