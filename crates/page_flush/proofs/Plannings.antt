-- How all streams are planned, one after another.
use Rattle.std.proofs.Common.{◌≡◌, ◌⊎◌, inl, inr, ⊎_elim, ℕ, suc, ◌+◌, ◌-◌, ◌<◌, ◌≤◌, Bool, true, false, ◌||◌, List, [], ◌∷◌, ◌++◌, length, map, drop, Some, nat_eq, refl, ap, ap₂, ◌∙◌, sym, subst, arith}
use Rattle.std.specs.List.{AllByRecursion, flat_map}
use Rattle.std.proofs.lemmas.Bool.{cases_Bool, or_cases, both_ways, false≢true, eqb-true, or_from}
use Rattle.std.proofs.lemmas.List.{append_assoc, length-append, map-append}
use Rattle.page_journal.specs.Pages.{Bytes, Pages, PageBytes, Writes}
use Rattle.page_chains.specs.declared.start.Start.{Start}
use Rattle.page_chains.specs.Chains.{IsChain, is_in, AreDistinct, AreEnough, PlainChain, pages_in, next_of}
use Rattle.page_chains.specs.Headers.{AreNamed, number_at}
use Rattle.page_chains.specs.Spelled.{AreInUse}
use Rattle.page_chains.proofs.Chaining.{chain_long}
use Rattle.page_chains.proofs.Lists.{in_append, in_front, in_back, in_itself}
use Rattle.page_saves.specs.Plans.{numbers_of, Grows, GrowsOne, Plan, Anew as WrittenAnew, plan_chain, plan_writes, plan_start, ArePlans}
use Rattle.page_flush.specs.declared.stream_bytes.StreamBytes.{StreamBytes}
use Rattle.page_flush.specs.declared.stream_bytes.StreamBytes.TheVariants.{Anew, More}
use Rattle.page_flush.specs.FlushView.{StreamView, IsKept, AreKept, AreSpared, start_of}
use Rattle.page_flush.specs.Saving.{IsWhole, stream_after, streams_after, bytes_in}
use Rattle.page_flush.specs.inside.Fresh.{AreFresh}
use Rattle.page_flush.specs.inside.Spells.{IsOneSpelled, AreSpelled}
use Rattle.page_flush.proofs.FreshPages.{IsLater, fresh_rises, fresh_in, fresh_distinct}
use Rattle.page_flush.proofs.Heads.{Head, Planned, IsBesideOne, IsWholeChain, more_head, whole_head, anew_head}

here : (k : ℕ) (ns : List ℕ) → is_in k (k ∷ ns) ≡ true
here k ns = in_itself k ns

only : (k n : ℕ) → is_in k (n ∷ []) ≡ true → k ≡ n
only k n among = ⊎_elim (λ (e : nat_eq k n ≡ true). eqb-true k n e) (λ (none : false ≡ true). absurd (false≢true none)) (or_cases (nat_eq k n) false among)

later : (from to : ℕ) → 1 ≤ from → from ≤ to → 1 ≤ to
later from to low rises = omega (arith, low, rises)

crossed : (k mid : ℕ) → k < mid → mid ≤ k → ⊥
crossed k mid below behind = omega (arith, below, behind)

earlier : (spared : List ℕ) (from mid k : ℕ) → from ≤ mid → IsLater spared mid k → IsLater spared from k
earlier spared from mid k rises is = record { behind = omega (arith, rises, is.behind); apart = is.apart }

ends : (front : List ℕ) (last : ℕ) → [] ≡ front ++ last ∷ [] → ⊥
ends front last none = omega (arith, ap length none, length-append front (last ∷ []))

-- lists that have no number in common
pub distinct_both : (a b : List ℕ) → AreDistinct a → AreDistinct b → ((k : ℕ) → is_in k a ≡ true → is_in k b ≡ true → ⊥) → AreDistinct (a ++ b)
distinct_both [] b one other apart = other
distinct_both (n ∷ a) b one other apart =
    let beside : is_in n b ≡ false = ⊎_elim
    (λ (among : is_in n b ≡ true). absurd (apart n (here n a) among))
    (λ (not : is_in n b ≡ false). not)
    (cases_Bool (is_in n b)) in
    (in_append n a b ∙ or_from (is_in n a) (is_in n b) one.0 beside, distinct_both a b one.1 other (λ k in_a in_b. apart k (in_back k (n ∷ []) a in_a) in_b))

either : (k : ℕ) (a b : List ℕ) → is_in k (a ++ b) ≡ true → (is_in k a ≡ true) ⊎ (is_in k b ≡ true)
either k a b among = or_cases (is_in k a) (is_in k b) (sym (in_append k a b) ∙ among)

-- a page that may be written beside what a header of these chains names
pub record IsBesideSome (spared : List ℕ) (Last : PageBytes → Type 0) (write : PageBytes) : Type 0 where
  pub some : 0 < write.number
  pub apart : (is_in write.number spared ≡ false) ⊎ Last write

beside_more : (spared : List ℕ) (Last Other : PageBytes → Type 0) (writes : Writes) → ((write : PageBytes) → Last write → Other write) → AllByRecursion (IsBesideSome spared Last) writes → AllByRecursion (IsBesideSome spared Other) writes
beside_more spared Last Other [] follows all = tt
beside_more spared Last Other (w ∷ ws) follows all =
    (record { some = all.0.some; apart = ⊎_elim (λ (a : is_in w.number spared ≡ false). inl a) (λ (l : Last w). inr (follows w l)) all.0.apart }, beside_more spared Last Other ws follows all.1)

beside_one : (spared : List ℕ) (chain : PlainChain) (Last : PageBytes → Type 0) (writes : Writes) → AllByRecursion (IsBesideOne spared chain) writes → AllByRecursion (IsBesideSome spared (λ write. Grows chain write ⊎ Last write)) writes
beside_one spared chain Last [] all = tt
beside_one spared chain Last (w ∷ ws) all =
    (record { some = all.0.some; apart = ⊎_elim (λ (a : is_in w.number spared ≡ false). inl a) (λ (g : Grows chain w). inr (inl g)) all.0.apart }, beside_one spared chain Last ws all.1)

all_both : (P : PageBytes → Type 0) (a b : Writes) → AllByRecursion P a → AllByRecursion P b → AllByRecursion P (a ++ b)
all_both P [] b one other = other
all_both P (w ∷ a) b one other = (one.0, all_both P a b one.1 other)

-- What plans of some streams are, whose old pages these are, and of whose last pages this holds.
pub record Common (spared : List ℕ) (from to : ℕ) (olds : List ℕ) (Last : PageBytes → Type 0) (streams : List StreamView) (before after : Writes) (plans : List Plan) : Type 0 where
  pub pages : after ≡ before ++ flat_map plan_writes plans
  pub starts : map plan_start plans ≡ map start_of streams
  pub kept : AreKept streams (map plan_chain plans)
  pub rises : from ≤ to
  pub among : (k : ℕ) → is_in k (pages_in (map plan_chain plans)) ≡ true → (is_in k olds ≡ true) ⊎ IsLater spared from k
  pub distinct : AreDistinct olds → AreSpared olds spared → AreDistinct (pages_in (map plan_chain plans))
  pub beside : AllByRecursion (IsBesideSome spared Last) (flat_map plan_writes plans)
  pub written : (k : ℕ) → is_in k (numbers_of (flat_map plan_writes plans)) ≡ true → is_in k (pages_in (map plan_chain plans)) ≡ true
  pub written_distinct : AreDistinct (pages_in (map plan_chain plans)) → AreDistinct (numbers_of (flat_map plan_writes plans))

no_more : (writes : Writes) → writes ++ [] ≡ writes
no_more [] = refl
no_more (w ∷ ws) = ap (λ (l : Writes). w ∷ l) (no_more ws)

common_none : (spared : List ℕ) (from to : ℕ) (olds : List ℕ) (Last : PageBytes → Type 0) (before after : Writes) → from ≤ to → after ≡ before → Common spared from to olds Last [] before after []
common_none spared from to olds Last before after rises same = record {
  pages = same ∙ sym (no_more before);
  starts = refl;
  kept = tt;
  rises = rises;
  among = λ k among. absurd (false≢true among);
  distinct = λ distinct spares. tt;
  beside = tt;
  written = λ k among. among;
  written_distinct = λ distinct. tt;
}

-- the pages of a chain that are written are among its pages
number-front : (a b : List ℕ) → AreDistinct (a ++ b) → AreDistinct b
number-front [] b distinct = distinct
number-front (n ∷ a) b distinct = number-front a b distinct.1

distinct_first : (a b : List ℕ) → AreDistinct (a ++ b) → AreDistinct a
distinct_first [] b distinct = tt
distinct_first (n ∷ a) b distinct = (
  ⊎_elim
      (λ (among : is_in n a ≡ true). absurd (both_ways (is_in n (a ++ b)) distinct.0 (in_front n a b among)))
      (λ (not : is_in n a ≡ false). not)
      (cases_Bool (is_in n a)),
  distinct_first a b distinct.1,
)

-- no number of the one part is in the other
distinct_parts : (a b : List ℕ) (k : ℕ) → AreDistinct (a ++ b) → is_in k a ≡ true → is_in k b ≡ true → ⊥
distinct_parts [] b k distinct one other = false≢true one
distinct_parts (n ∷ a) b k distinct one other = ⊎_elim
    (λ (here : is_in k (n ∷ []) ≡ true). both_ways (is_in n (a ++ b)) distinct.0 (in_back n a b (subst (λ (m : ℕ). is_in m b ≡ true) (only k n here) other)))
    (λ (there : is_in k a ≡ true). distinct_parts a b k distinct.1 there other)
    (either k (n ∷ []) a one)

common_more : (spared : List ℕ) (from mid to : ℕ) (olds : List ℕ) (Last : PageBytes → Type 0) (chain : PlainChain) (given : StreamBytes) (stream : StreamView) (streams : List StreamView) (before middle after : Writes) (plan : Plan) (plans : List Plan)
    → Head spared from mid chain given stream before middle plan → Common spared mid to olds Last streams middle after plans
    → Common spared from to (chain.numbers ++ olds) (λ write. Grows chain write ⊎ Last write) (stream ∷ streams) before after (plan ∷ plans)
common_more spared from mid to olds Last chain given stream streams before middle after plan plans head rest =
    let first : List ℕ = (plan_chain plan).numbers in
    let others : List ℕ = pages_in (map plan_chain plans) in
    let rises : from ≤ mid = fresh_rises spared from mid head.fresh head.fresh_are in
    let whole : numbers_of (plan_writes plan ++ flat_map plan_writes plans) ≡ numbers_of (plan_writes plan) ++ numbers_of (flat_map plan_writes plans) = map-append (λ (w : PageBytes). w.number) (plan_writes plan) (flat_map plan_writes plans) in
    let of_first : (k : ℕ) → is_in k first ≡ true → (is_in k head.had ≡ true) ⊎ (is_in k head.fresh ≡ true) = λ k among. either k head.had head.fresh (sym (ap (is_in k) head.numbers) ∙ among) in
    let is_written : (k : ℕ) → is_in k (numbers_of (plan_writes plan)) ≡ true → is_in k first ≡ true = λ k among. ap (is_in k) head.written ∙ in_back k head.front (numbers_of (plan_writes plan)) among in
    record {
      pages = rest.pages ∙ ap (λ (l : Writes). l ++ flat_map plan_writes plans) head.pages ∙ append_assoc before (plan_writes plan) (flat_map plan_writes plans);
      starts = ap₂ (λ (s : Start) (l : List Start). s ∷ l) head.start rest.starts;
      kept = (head.kept, rest.kept);
      rises = omega (arith, rises, rest.rises);
      among = λ k among. ⊎_elim
          (λ (one : is_in k first ≡ true). ⊎_elim
          (λ (had : is_in k head.had ≡ true). inl (in_front k chain.numbers olds (head.had_are k had)))
          (λ (fresh : is_in k head.fresh ≡ true). inr ((fresh_in spared from mid head.fresh k head.fresh_are fresh).later))
          (of_first k one))
          (λ (other : is_in k others ≡ true). ⊎_elim
          (λ (old : is_in k olds ≡ true). inl (in_back k chain.numbers olds old))
          (λ (later : IsLater spared mid k). inr (earlier spared from mid k rises later))
          (rest.among k other))
          (either k first others among);
      distinct = λ distinct spares.
          let old_spares : AreSpared olds spared = λ k among. spares k (in_back k chain.numbers olds among) in
          distinct_both first others
          (subst AreDistinct (sym head.numbers)
          (distinct_both head.had head.fresh (head.had_distinct (distinct_first chain.numbers olds distinct)) (fresh_distinct spared from mid head.fresh head.fresh_are)
          (λ k had fresh. both_ways (is_in k spared) (fresh_in spared from mid head.fresh k head.fresh_are fresh).later.apart (spares k (in_front k chain.numbers olds (head.had_are k had))))))
          (rest.distinct (number-front chain.numbers olds distinct) old_spares)
          (λ k one other. ⊎_elim
          (λ (had : is_in k head.had ≡ true). ⊎_elim
          (λ (old : is_in k olds ≡ true). distinct_parts chain.numbers olds k distinct (head.had_are k had) old)
          (λ (later : IsLater spared mid k). both_ways (is_in k spared) later.apart (spares k (in_front k chain.numbers olds (head.had_are k had))))
          (rest.among k other))
          (λ (fresh : is_in k head.fresh ≡ true).
          let within = fresh_in spared from mid head.fresh k head.fresh_are fresh in
          ⊎_elim
          (λ (old : is_in k olds ≡ true). both_ways (is_in k spared) within.later.apart (old_spares k old))
          (λ (later : IsLater spared mid k). crossed k mid within.below later.behind)
          (rest.among k other))
          (of_first k one));
      beside = all_both (IsBesideSome spared (λ write. Grows chain write ⊎ Last write)) (plan_writes plan) (flat_map plan_writes plans)
          (beside_one spared chain Last (plan_writes plan) head.beside)
          (beside_more spared Last (λ write. Grows chain write ⊎ Last write) (flat_map plan_writes plans) (λ write last. inr last) rest.beside);
      written = λ k among. ⊎_elim
          (λ (one : is_in k (numbers_of (plan_writes plan)) ≡ true). in_front k first others (is_written k one))
          (λ (other : is_in k (numbers_of (flat_map plan_writes plans)) ≡ true). in_back k first others (rest.written k other))
          (either k (numbers_of (plan_writes plan)) (numbers_of (flat_map plan_writes plans)) (sym (ap (is_in k) whole) ∙ among));
      written_distinct = λ distinct. subst AreDistinct (sym whole)
          (distinct_both (numbers_of (plan_writes plan)) (numbers_of (flat_map plan_writes plans))
          (number-front head.front (numbers_of (plan_writes plan)) (subst AreDistinct head.written (distinct_first first others distinct)))
          (rest.written_distinct (number-front first others distinct))
          (λ k one other. distinct_parts first others k distinct (is_written k one) (rest.written k other)));
    }

-- All streams are planned so, where those of these chains were saved.
pub record Plans (spared : List ℕ) (from to : ℕ) (chains : List PlainChain) (given : List StreamBytes) (streams : List StreamView) (before after : Writes) : Type 0 where
  pub plans : List Plan
  pub are : ArePlans chains plans
  pub many : length plans ≡ length given
  pub bytes : bytes_in (map plan_chain plans) ≡ streams_after chains given
  pub common : Common spared from to (pages_in chains) (GrowsOne chains) streams before after plans

plans_none : (spared : List ℕ) (from to : ℕ) (chains : List PlainChain) (before after : Writes) → from ≤ to → after ≡ before → Plans spared from to chains [] [] before after
plans_none spared from to [] before after rises same = record { plans = []; are = tt; many = refl; bytes = refl; common = common_none spared from to [] (GrowsOne []) before after rises same }
plans_none spared from to (c ∷ cs) before after rises same = record { plans = []; are = tt; many = refl; bytes = refl; common = common_none spared from to (pages_in (c ∷ cs)) (GrowsOne (c ∷ cs)) before after rises same }

plans_more : (spared : List ℕ) (from mid to : ℕ) (chain : PlainChain) (chains : List PlainChain) (given : StreamBytes) (more : List StreamBytes) (stream : StreamView) (streams : List StreamView) (before middle after : Writes)
    → Planned spared from mid chain given stream before middle → Plans spared mid to chains more streams middle after → Plans spared from to (chain ∷ chains) (given ∷ more) (stream ∷ streams) before after
plans_more spared from mid to chain chains given more stream streams before middle after first rest = record {
  plans = first.plan ∷ rest.plans;
  are = ((first.head.planned, first.head.goes_on), rest.are);
  many = ap (λ (n : ℕ). suc n) rest.many;
  bytes = ap₂ (λ (b : Bytes) (l : List Bytes). b ∷ l) first.head.bytes rest.bytes;
  common = common_more spared from mid to (pages_in chains) (GrowsOne chains) chain given stream streams before middle after first.plan rest.plans first.head rest.common;
}

-- the chain of a stream that was not saved
abbrev unsaved : PlainChain
unsaved = record { numbers = []; bytes = [] }

plans_new : (spared : List ℕ) (from mid to : ℕ) (given : StreamBytes) (more : List StreamBytes) (stream : StreamView) (streams : List StreamView) (before middle after : Writes) (numbers : List ℕ) (bytes : Bytes)
    → Head spared from mid unsaved given stream before middle (WrittenAnew numbers bytes) → Plans spared mid to [] more streams middle after → Plans spared from to [] (given ∷ more) (stream ∷ streams) before after
plans_new spared from mid to given more stream streams before middle after numbers bytes head rest =
    let common = common_more spared from mid to [] (GrowsOne []) unsaved given stream streams before middle after (WrittenAnew numbers bytes) rest.plans head rest.common in
    record {
      plans = WrittenAnew numbers bytes ∷ rest.plans;
      are = (head.planned, rest.are);
      many = ap (λ (n : ℕ). suc n) rest.many;
      bytes = ap₂ (λ (b : Bytes) (l : List Bytes). b ∷ l) head.bytes rest.bytes;
      common = record {
        pages = common.pages;
        starts = common.starts;
        kept = common.kept;
        rises = common.rises;
        among = common.among;
        distinct = common.distinct;
        beside = beside_more spared (λ write. Grows unsaved write ⊎ GrowsOne [] write) (GrowsOne []) (flat_map plan_writes (WrittenAnew numbers bytes ∷ rest.plans)) (λ write last. absurd (⊎_elim (λ (g : Grows unsaved write). ends g.front write.number g.numbers) (λ (none : ⊥). none) last)) common.beside;
        written = common.written;
        written_distinct = common.written_distinct;
      };
    }

-- streams that are all given whole
pub plans_whole : (spared : List ℕ) (from to : ℕ) (chains : List PlainChain) (given : List StreamBytes) (streams : List StreamView) (before after : Writes) → 1 ≤ from → AllByRecursion IsWhole given → AreSpelled spared from to [] given streams before after → Plans spared from to chains given streams before after
plans_whole spared from to chains [] [] before after low whole is = plans_none spared from to chains before after (omega (arith, is.0)) is.1
plans_whole spared from to chains [] (s ∷ ss) before after low whole is = absurd is
plans_whole spared from to chains (g ∷ gs) [] before after low whole is = absurd is
plans_whole spared from to chains (More b ∷ gs) (s ∷ ss) before after low whole is = absurd whole.0
plans_whole spared from to [] (Anew b ∷ gs) (s ∷ ss) before after low whole is =
    let head = anew_head spared from is.number unsaved (Anew b) s before is.pages b.items low refl is.first in
    let next : 1 ≤ is.number = later from is.number low (fresh_rises spared from is.number is.first.fresh is.first.are_fresh) in
    plans_new spared from is.number to (Anew b) gs s ss before is.pages after is.first.fresh b.items head (plans_whole spared is.number to [] gs ss is.pages after next whole.1 is.rest)
plans_whole spared from to (c ∷ cs) (Anew b ∷ gs) (s ∷ ss) before after low whole is =
    let next : 1 ≤ is.number = later from is.number low (fresh_rises spared from is.number is.first.fresh is.first.are_fresh) in
    plans_more spared from is.number to c cs (Anew b) gs s ss before is.pages after (whole_head spared from is.number c (Anew b) s before is.pages b.items low refl is.first)
    (plans_whole spared is.number to cs gs ss is.pages after next whole.1 is.rest)

one_kept : (spared : List ℕ) (from to : ℕ) (kept : StreamView) (chain : PlainChain) (given : StreamBytes) (stream : StreamView) (before after : Writes) → 1 ≤ from → IsKept kept chain → IsWholeChain chain → IsOneSpelled spared from to (Some kept) given stream before after → Planned spared from to chain given stream before after
one_kept spared from to kept chain (Anew b) stream before after low are whole is = whole_head spared from to chain (Anew b) stream before after b.items low refl is
one_kept spared from to kept chain (More b) stream before after low are whole is = more_head spared from to kept chain (More b) b.items stream before after low refl are whole is

one_rises : (spared : List ℕ) (from to : ℕ) (kept : StreamView) (given : StreamBytes) (stream : StreamView) (before after : Writes) → 1 ≤ from → IsOneSpelled spared from to (Some kept) given stream before after → 1 ≤ to
one_rises spared from to kept (Anew b) stream before after low is = later from to low (fresh_rises spared from to is.fresh is.are_fresh)
one_rises spared from to kept (More b) stream before after low is = later from to low (fresh_rises spared from to is.fresh is.are_fresh)

-- streams that go on from what is kept of them, or are given whole
pub plans_kept : (spared : List ℕ) (from to : ℕ) (kept : List StreamView) (chains : List PlainChain) (given : List StreamBytes) (streams : List StreamView) (before after : Writes) → 1 ≤ from → AreKept kept chains → AllByRecursion IsWholeChain chains → AreSpelled spared from to kept given streams before after → Plans spared from to chains given streams before after
plans_kept spared from to [] (c ∷ cs) given streams before after low are whole is = absurd are
plans_kept spared from to (k ∷ ks) [] given streams before after low are whole is = absurd are
plans_kept spared from to [] [] [] [] before after low are whole is = plans_none spared from to [] before after (omega (arith, is.0)) is.1
plans_kept spared from to [] [] [] (s ∷ ss) before after low are whole is = absurd is
plans_kept spared from to [] [] (g ∷ gs) [] before after low are whole is = absurd is
plans_kept spared from to [] [] (Anew b ∷ gs) (s ∷ ss) before after low are whole is =
    let head = anew_head spared from is.number unsaved (Anew b) s before is.pages b.items low refl is.first in
    let next : 1 ≤ is.number = later from is.number low (fresh_rises spared from is.number is.first.fresh is.first.are_fresh) in
    plans_new spared from is.number to (Anew b) gs s ss before is.pages after is.first.fresh b.items head (plans_kept spared is.number to [] [] gs ss is.pages after next tt tt is.rest)
plans_kept spared from to [] [] (More b ∷ gs) (s ∷ ss) before after low are whole is =
    let head = anew_head spared from is.number unsaved (More b) s before is.pages b.items low refl is.first in
    let next : 1 ≤ is.number = later from is.number low (fresh_rises spared from is.number is.first.fresh is.first.are_fresh) in
    plans_new spared from is.number to (More b) gs s ss before is.pages after is.first.fresh b.items head (plans_kept spared is.number to [] [] gs ss is.pages after next tt tt is.rest)
plans_kept spared from to (k ∷ ks) (c ∷ cs) [] [] before after low are whole is = plans_none spared from to (c ∷ cs) before after (omega (arith, is.0)) is.1
plans_kept spared from to (k ∷ ks) (c ∷ cs) [] (s ∷ ss) before after low are whole is = absurd is
plans_kept spared from to (k ∷ ks) (c ∷ cs) (g ∷ gs) [] before after low are whole is = absurd is
plans_kept spared from to (k ∷ ks) (c ∷ cs) (g ∷ gs) (s ∷ ss) before after low are whole is =
    plans_more spared from is.number to c cs g gs s ss before is.pages after (one_kept spared from is.number k c g s before is.pages low are.0 whole.0 is.first)
    (plans_kept spared is.number to ks cs gs ss is.pages after (one_rises spared from is.number k g s before is.pages low is.first) are.1 whole.1 is.rest)

chain_in_use : (pages : Pages) (named left : ℕ) (numbers : List ℕ) (bytes : Bytes) → IsChain pages named numbers left bytes → AreInUse numbers
chain_in_use pages named left [] bytes is = tt
chain_in_use pages named left (n ∷ ns) bytes is = (is.2.in_use, chain_in_use pages (next_of is.0) (left - 4088) ns is.1 is.3)

-- chains that a header names are whole
pub named_whole : (pages : Pages) (named : Bytes) (chains : List PlainChain) → AreNamed pages named chains → AllByRecursion IsWholeChain chains
named_whole pages named [] are = tt
named_whole pages named (c ∷ cs) are =
    let long = chain_long pages (number_at 0 named) (number_at 8 named) c.numbers c.bytes are.0 in (
      record {
        enough = subst (λ (n : ℕ). AreEnough (length c.numbers) n) (sym long.0) long.1;
        in_use = chain_in_use pages (number_at 0 named) (number_at 8 named) c.numbers c.bytes are.0;
      },
      named_whole pages (drop 16 named) cs are.1,
    )
