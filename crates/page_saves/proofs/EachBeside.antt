-- Pages that leave what is held lead one by one.
use Rattle.std.proofs.Common.{◌≡◌, ℕ, ◌<◌, false, List, [], ◌∷◌, ◌++◌, map, nat_eq, refl, ap, ◌∙◌, sym, subst, ne_eqb}
use Rattle.std.specs.List.{AllByRecursion}
use Rattle.std.proofs.lemmas.Bool.{or_parts, eqb-false}
use Rattle.std.proofs.lemmas.List.{map-append, append_assoc}
use Rattle.page_journal.specs.Pages.{Bytes, Pages, PageBytes, Writes, put, laid, page_bytes, Extends}
use Rattle.page_chains.specs.Chains.{is_in, AreDistinct, PlainChain}
use Rattle.page_chains.specs.Spelled.{HasWrites}
use Rattle.page_chains.proofs.Lists.{distinct_fresh}
use Rattle.page_saves.specs.Courses.{Saved, Blank, Kept, Holds, IsOn, after, begun, LeadsEach, Leads}
use Rattle.page_saves.specs.Plans.{numbers_of, IsBeside}
use Rattle.page_saves.proofs.BesideHeader.{put-other, put-itself, apart-from, none-below, header-beside}

-- what is written stays, and there is one page more
has-more : (written : Writes) (write : PageBytes) (pages new : Pages) → is_in write.number (numbers_of written) ≡ false → Extends (put write pages) new → HasWrites written pages → HasWrites (written ++ write ∷ []) new
has-more [] write pages new apart more has = (more write.number write.bytes (put-itself write pages), tt)
has-more (w ∷ ws) write pages new apart more has =
    let parts = or_parts (nat_eq write.number w.number) (is_in write.number (numbers_of ws)) apart in
    (more w.number w.bytes (put-other write pages w.number (other w.number write.number parts.0) ∙ has.0), has-more ws write pages new parts.1 more has.1)
  where
    other : (a b : ℕ) → nat_eq b a ≡ false → nat_eq a b ≡ false
    other a b not = ne_eqb a b (λ e. eqb-false b a not (sym e))

-- each page that may be written leaves what is held
abbrev pub Leave : Saved → (PageBytes → Type 0) → Type 0
Leave saved May = (write : PageBytes) → May write → (pages new : Pages) → Holds saved pages → Extends (put write pages) new → Holds saved new

pub each-leads : (saved : Saved) (May : PageBytes → Type 0) → Leave saved May → (written writes : Writes) → AreDistinct (numbers_of (written ++ writes)) → AllByRecursion May writes → LeadsEach saved written writes
each-leads saved May leave written [] distinct may = tt
each-leads saved May leave written (w ∷ ws) distinct may =
    let apart : is_in w.number (numbers_of written) ≡ false = distinct_fresh (numbers_of written) (numbers_of ws) w.number (subst AreDistinct (map-append (λ (write : PageBytes). write.number) written (w ∷ ws)) distinct) in
    let joined : (written ++ w ∷ []) ++ ws ≡ written ++ w ∷ ws = append_assoc written (w ∷ []) ws in (
      λ pages new on more. record { holds = leave w may.0 pages new on.holds more; has = has-more written w pages new apart more on.has },
      each-leads saved May leave (written ++ w ∷ []) ws (subst (λ (x : Writes). AreDistinct (numbers_of x)) (sym joined) distinct) may.1,
    )

pub beside-leads : (chains : List PlainChain) (position : ℕ) (writes : Writes) → AreDistinct (numbers_of writes) → AllByRecursion (IsBeside chains) writes → LeadsEach (Kept chains position) [] writes
beside-leads chains position writes distinct beside =
    each-leads (Kept chains position) (IsBeside chains) (λ write is pages new held more. header-beside pages new chains position write is more held) [] writes distinct beside

pub blank-leads : (header : Bytes) (writes : Writes) → AreDistinct (numbers_of writes) → AllByRecursion (λ write. 0 < write.number) writes → LeadsEach (Blank header) [] writes
blank-leads header writes distinct some =
    each-leads (Blank header) (λ write. 0 < write.number) (λ write is pages new held more. more 0 header (put-other write pages 0 (none-below write.number is) ∙ held)) [] writes distinct some

pub start-leads : (saved : Saved) (header : Bytes) → Leads saved [] (page_bytes 0 header ∷ []) (Blank header)
start-leads saved header = record { each = tt; ends = λ pages new on more. record { holds = more 0 header (put-itself (page_bytes 0 header) pages); has = tt } }
