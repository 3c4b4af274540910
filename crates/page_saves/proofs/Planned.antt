-- Once its streams are written, a header makes a save count.
use Rattle.std.proofs.Common.{◌≡◌, ◌⊎◌, inl, inr, ⊎_elim, ℕ, ◌+◌, ◌-◌, ◌*◌, ◌^◌, ◌<◌, ◌≤◌, Bool, true, false, List, [], ◌∷◌, ◌++◌, length, map, take, drop, Some, nat_eq, refl, ap, ◌∙◌, sym, subst, arith, ne_eqb}
use Rattle.std.specs.List.{flat_map}
use Rattle.std.proofs.lemmas.Bool.{or_parts, or_from}
use Rattle.std.proofs.lemmas.List.{length-map, length-append, length-drop}
use Rattle.page_journal.specs.Pages.{Bytes, Pages, PageBytes, Writes, page_bytes, put, laid, Extends}
use Rattle.page_chains.specs.declared.start.Start.{Start}
use Rattle.page_chains.specs.Chains.{IsInUse, IsChain, is_in, AreDistinct, AreEnough, PlainChain, pages_in, next_of}
use Rattle.page_chains.specs.Headers.{AreNamed, HasHeader, number_at}
use Rattle.page_chains.specs.Laws.{Stay}
use Rattle.page_chains.specs.Spelled.{first_page, chain_writes, header_page, HasWrites, AreInUse, IsStart, AreStarts}
use Rattle.page_chains.proofs.Chaining.{chain_long}
use Rattle.page_chains.proofs.Heading.{header_written}
use Rattle.page_chains.proofs.Writing.{chain_written, chain_on}
use Rattle.page_saves.specs.Courses.{Saved, Aside, Blank, Kept, Holds, IsOn, after, begun, Lead}
use Rattle.page_saves.specs.Plans.{numbers_of, Plan, Anew, GoesOn, plan_chain, plan_writes, plan_start, IsPlanned, GoesOnFrom, ArePlans, kept_chains}
use Rattle.page_saves.proofs.BesideHeader.{put-other, put-itself, none-below, stay-beside}

numbers-written : (numbers : List ℕ) (bytes : Bytes) → numbers_of (chain_writes numbers bytes) ≡ numbers
numbers-written [] bytes = refl
numbers-written (n ∷ ns) bytes = ap (λ (x : List ℕ). n ∷ x) (numbers-written ns (drop 4088 bytes))

has-front : (a b : Writes) (pages : Pages) → HasWrites (a ++ b) pages → HasWrites a pages
has-front [] b pages has = tt
has-front (w ∷ ws) b pages has = (has.0, has-front ws b pages has.1)

has-back : (a b : Writes) (pages : Pages) → HasWrites (a ++ b) pages → HasWrites b pages
has-back [] b pages has = has
has-back (w ∷ ws) b pages has = has-back ws b pages has.1

above-none : (n : ℕ) → 0 < n → nat_eq n 0 ≡ false
above-none n some = ne_eqb n 0 (λ e. absurd (omega (arith, e, some)))

-- page 0 comes over pages that are written
has-under : (writes : Writes) (header : Bytes) (pages new : Pages) → AreInUse (numbers_of writes) → Extends (put (page_bytes 0 header) pages) new → HasWrites writes pages → HasWrites writes new
has-under [] header pages new in_use more has = tt
has-under (w ∷ ws) header pages new in_use more has = (
  more w.number w.bytes (put-other (page_bytes 0 header) pages w.number (above-none w.number in_use.0.some) ∙ has.0),
  has-under ws header pages new in_use.1 more has.1,
)

-- page 0 is in no chain
chain-some : (pages : Pages) (named left : ℕ) (numbers : List ℕ) (bytes : Bytes) → IsChain pages named numbers left bytes → is_in 0 numbers ≡ false
chain-some pages named left [] bytes is = refl
chain-some pages named left (n ∷ ns) bytes is = or_from (nat_eq 0 n) (is_in 0 ns) (none-below n is.2.in_use.some) (chain-some pages (next_of is.0) (left - 4088) ns is.1 is.3)

in-front : (k : ℕ) (a b : List ℕ) → is_in k (a ++ b) ≡ false → is_in k a ≡ false
in-front k [] b not = refl
in-front k (n ∷ a) b not = let parts = or_parts (nat_eq k n) (is_in k (a ++ b)) not in or_from (nat_eq k n) (is_in k a) parts.0 (in-front k a b parts.1)

chain-named : (pages : Pages) (named left : ℕ) (front : List ℕ) (last : ℕ) (fresh : List ℕ) (bytes : Bytes) → IsChain pages named (front ++ last ∷ []) left bytes → named ≡ first_page (front ++ last ∷ fresh)
chain-named pages named left [] last fresh bytes is = sym is.2.is_named
chain-named pages named left (n ∷ front) last fresh bytes is = sym is.2.is_named

-- a stream that is written anew
anew-starts : (new : Pages) (numbers : List ℕ) (bytes : Bytes) → IsPlanned (Anew numbers bytes) → HasWrites (chain_writes numbers bytes) new → IsStart new (plan_start (Anew numbers bytes)) (plan_chain (Anew numbers bytes))
anew-starts new numbers bytes planned has = record {
  first = planned.first;
  count = planned.count;
  is = chain_written new numbers bytes has (subst AreInUse (numbers-written numbers bytes) planned.fresh) planned.enough;
}

-- a stream that goes on
on-starts : (pages new : Pages) (named left : ℕ) (header : Bytes) (front : List ℕ) (last : ℕ) (fresh : List ℕ) (had more : Bytes) → IsPlanned (GoesOn front last fresh had more) → Extends (put (page_bytes 0 header) pages) new
    → IsChain pages named (front ++ last ∷ []) left had → HasWrites (plan_writes (GoesOn front last fresh had more)) new → IsStart new (plan_start (GoesOn front last fresh had more)) (plan_chain (GoesOn front last fresh had more))
on-starts pages new named left header front last fresh had more planned over is has =
    let long = chain_long pages named left (front ++ last ∷ []) had is in
    let kept = long.1 in
    let whole = planned.enough in
    let behind : Bytes = drop (4088 * length front) had ++ more in
    let count : length behind ≡ (length had - 4088 * length front) + length more = length-append (drop (4088 * length front) had) more ∙ ap (λ (k : ℕ). k + length more) (length-drop (4088 * length front) had) in
    let old_pages : length (front ++ last ∷ []) ≡ length front + 1 = length-append front (last ∷ []) in
    let new_pages : length (front ++ last ∷ fresh) ≡ length front + (length fresh + 1) = length-append front (last ∷ fresh) ∙ omega arith in
    let all : length (had ++ more) ≡ length had + length more = length-append had more in
    let fresh_pages : length (last ∷ fresh) ≡ length fresh + 1 = omega arith in
    let enough : AreEnough (length (last ∷ fresh)) (length behind) = record {
      hold = omega (arith, count, old_pages, new_pages, all, fresh_pages, long.0, kept.no_more, whole.hold, whole.no_more);
      no_more = omega (arith, count, old_pages, new_pages, all, fresh_pages, long.0, kept.no_more, whole.hold, whole.no_more);
    } in
    let in_use = subst AreInUse (numbers-written (last ∷ fresh) behind) planned.fresh in
    let stay = stay-beside front (page_bytes 0 header) pages new (in-front 0 front (last ∷ []) (chain-some pages named left (front ++ last ∷ []) had is)) over in
    let chain = chain_on pages new named last left front fresh had more is long.0 stay in_use.1 has enough in
    record {
      first = planned.first;
      count = planned.count;
      is = subst (λ (k : ℕ). IsChain new k (front ++ last ∷ fresh) (length (had ++ more)) (had ++ more)) (chain-named pages named left front last fresh had is) chain;
    }

starts-are : (pages new : Pages) (named header : Bytes) (kept : List PlainChain) (plans : List Plan) → ArePlans kept plans → AreNamed pages named kept → Extends (put (page_bytes 0 header) pages) new → HasWrites (flat_map plan_writes plans) pages
    → AreStarts new (map plan_start plans) (map plan_chain plans)
starts-are pages new named header kept [] are names over has = tt
starts-are pages new named header [] (Anew numbers bytes ∷ plans) are names over has = (
  anew-starts new numbers bytes are.0 (has-under (chain_writes numbers bytes) header pages new are.0.fresh over (has-front (chain_writes numbers bytes) (flat_map plan_writes plans) pages has)),
  starts-are pages new named header [] plans are.1 names over (has-back (chain_writes numbers bytes) (flat_map plan_writes plans) pages has),
)
starts-are pages new named header [] (GoesOn front last fresh had more ∷ plans) are names over has = absurd are
starts-are pages new named header (chain ∷ kept) (Anew numbers bytes ∷ plans) are names over has = (
  anew-starts new numbers bytes are.0.0 (has-under (chain_writes numbers bytes) header pages new are.0.0.fresh over (has-front (chain_writes numbers bytes) (flat_map plan_writes plans) pages has)),
  starts-are pages new (drop 16 named) header kept plans are.1 names.1 over (has-back (chain_writes numbers bytes) (flat_map plan_writes plans) pages has),
)
starts-are pages new named header (chain ∷ kept) (GoesOn front last fresh had more ∷ plans) are names over has =
    let plan : Plan = GoesOn front last fresh had more in
    let is = subst (λ (b : Bytes). IsChain pages (number_at 0 named) (front ++ last ∷ []) (number_at 8 named) b) are.0.1.1 (subst (λ (ns : List ℕ). IsChain pages (number_at 0 named) ns (number_at 8 named) chain.bytes) are.0.1.0 names.0) in (
      on-starts pages new (number_at 0 named) (number_at 8 named) header front last fresh had more are.0.0 over is (has-under (plan_writes plan) header pages new are.0.0.fresh over (has-front (plan_writes plan) (flat_map plan_writes plans) pages has)),
      starts-are pages new (drop 16 named) header kept plans are.1 names.1 over (has-back (plan_writes plan) (flat_map plan_writes plans) pages has),
    )

-- the chains that a save may go on from are named
record Named (pages : Pages) (kept : List PlainChain) : Type 0 where
  pub named : Bytes
  pub are : AreNamed pages named kept

names-of : (saved : Saved) (pages : Pages) → Holds saved pages → Named pages (kept_chains saved)
names-of (Aside found) pages holds = record { named = []; are = tt }
names-of (Blank header) pages holds = record { named = []; are = tt }
names-of (Kept chains position) pages holds = record { named = drop 24 holds.header; are = holds.named }

pub header-leads : (saved : Saved) (plans : List Plan) (position used : ℕ) → length plans ≡ 7 → ArePlans (kept_chains saved) plans → AreDistinct (pages_in (map plan_chain plans)) → position < 2 ^ 64 → used ≤ 1099511627776
    → Lead (after saved (flat_map plan_writes plans)) (page_bytes 0 (header_page position used (map plan_start plans)) ∷ []) (begun (Kept (map plan_chain plans) position))
header-leads saved plans position used seven are distinct low few = λ pages new on more.
    let header : Bytes = header_page position used (map plan_start plans) in
    let names = names-of saved pages on.holds in
    record {
      holds = header_written new (map plan_start plans) (map plan_chain plans) position used (more 0 header (put-itself (page_bytes 0 header) pages)) low few (length-map plans plan_chain ∙ seven)
          (starts-are pages new names.named header (kept_chains saved) plans are names.are more on.has) distinct;
      has = tt;
    }
