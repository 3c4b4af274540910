-- A page beside what a header names leaves the header.
use Rattle.std.proofs.Common.{◌≡◌, ◌⊎◌, inl, inr, ⊎_elim, ℕ, ◌<◌, ◌*◌, ◌||◌, Bool, true, false, List, [], ◌∷◌, ◌++◌, length, take, drop, Some, nat_eq, refl, ap, ◌∙◌, sym, subst, arith, eq-eqb, ne_eqb}
use Rattle.std.proofs.lemmas.Bool.{both_ways, or_parts, or_from}
use Rattle.std.proofs.lemmas.List.{append_assoc}
use Rattle.page_journal.specs.Pages.{Bytes, Pages, PageBytes, put, Extends}
use Rattle.page_chains.specs.Chains.{IsChain, is_in, AreDistinct, PlainChain, pages_in}
use Rattle.page_chains.specs.Headers.{AreNamed, HasHeader}
use Rattle.page_chains.specs.Laws.{Stay}
use Rattle.page_chains.proofs.Chaining.{chain_long, chain_stays}
use Rattle.page_chains.proofs.Lists.{in_itself, in_append, in_front, in_back, distinct_fresh}
use Rattle.page_chains.proofs.Writing.{last_grows}
use Rattle.page_saves.specs.Plans.{Grows, GrowsOne, IsBeside}

pub put-other : (write : PageBytes) (pages : Pages) (k : ℕ) → nat_eq k write.number ≡ false → put write pages k ≡ pages k
put-other write pages k apart = rw apart refl

pub put-itself : (write : PageBytes) (pages : Pages) → put write pages write.number ≡ Some write.bytes
put-itself write pages = rw (eq-eqb write.number write.number refl) refl

-- one number is among them, the other is not
pub apart-from : (k n : ℕ) (numbers : List ℕ) → is_in k numbers ≡ true → is_in n numbers ≡ false → nat_eq k n ≡ false
apart-from k n numbers among not = ne_eqb k n (λ e. both_ways (is_in n numbers) not (subst (λ (m : ℕ). is_in m numbers ≡ true) e among))

pub stay-beside : (numbers : List ℕ) (write : PageBytes) (pages new : Pages) → is_in write.number numbers ≡ false → Extends (put write pages) new → Stay numbers pages new
stay-beside numbers write pages new apart more = λ k page among there.
    more k page (put-other write pages k (apart-from k write.number numbers among apart) ∙ there)

pub distinct-back : (a b : List ℕ) → AreDistinct (a ++ b) → AreDistinct b
distinct-back [] b distinct = distinct
distinct-back (n ∷ a) b distinct = distinct-back a b distinct.1

pub distinct-front : (a b : List ℕ) → AreDistinct (a ++ b) → AreDistinct a
distinct-front [] b distinct = tt
distinct-front (n ∷ a) b distinct = ((or_parts (is_in n a) (is_in n b) (sym (in_append n a b) ∙ distinct.0)).0, distinct-front a b distinct.1)

pub none-below : (n : ℕ) → 0 < n → nat_eq 0 n ≡ false
none-below n some = ne_eqb 0 n (λ e. absurd (omega (arith, e, some)))

-- what is among the ones behind is not among those in front
pub distinct-apart : (a b : List ℕ) (n : ℕ) → AreDistinct (a ++ b) → is_in n b ≡ true → is_in n a ≡ false
distinct-apart [] b n distinct among = refl
distinct-apart (m ∷ a) b n distinct among = or_from (nat_eq n m) (is_in n a) (apart-from n m (a ++ b) (in_back n a b among) distinct.0) (distinct-apart a b n distinct.1 among)

named-stays : (old new : Pages) (named : Bytes) (chains : List PlainChain) → Stay (pages_in chains) old new → AreNamed old named chains → AreNamed new named chains
named-stays old new named [] stay are = tt
named-stays old new named (chain ∷ chains) stay are = (
  chain_stays old new _ _ chain.numbers chain.bytes (λ k page among there. stay k page (in_front k chain.numbers (pages_in chains) among) there) are.0,
  named-stays old new (drop 16 named) chains (λ k page among there. stay k page (in_back k chain.numbers (pages_in chains) among) there) are.1,
)

-- the page that grows is among those of the chains
grown-in : (chains : List PlainChain) (write : PageBytes) → GrowsOne chains write → is_in write.number (pages_in chains) ≡ true
grown-in [] write grows = absurd grows
grown-in (chain ∷ chains) write grows = ⊎_elim
    (λ (first : Grows chain write). in_front write.number chain.numbers (pages_in chains) (ap (is_in write.number) first.numbers ∙ in_back write.number first.front (write.number ∷ []) (in_itself write.number [])))
    (λ (other : GrowsOne chains write). in_back write.number chain.numbers (pages_in chains) (grown-in chains write other))
    grows

chain-grows : (pages new : Pages) (named left : ℕ) (chain : PlainChain) (write : PageBytes) → AreDistinct chain.numbers → Grows chain write → Extends (put write pages) new → IsChain pages named chain.numbers left chain.bytes → IsChain new named chain.numbers left chain.bytes
chain-grows pages new named left chain write distinct grows more is =
    let parts = grows.numbers in
    let apart : is_in write.number grows.front ≡ false = distinct_fresh grows.front [] write.number (subst AreDistinct parts distinct) in
    let long = (chain_long pages named left chain.numbers chain.bytes is).0 in
    let there = more write.number write.bytes (put-itself write pages) ∙ ap (λ (b : Bytes). Some b) grows.bytes in
    subst (λ (ns : List ℕ). IsChain new named ns left chain.bytes) (sym parts)
    (last_grows pages new named write.number grows.next left grows.front chain.bytes grows.more (subst (λ (ns : List ℕ). IsChain pages named ns left chain.bytes) parts is) long (stay-beside grows.front write pages new apart more) there)

named-grows : (pages new : Pages) (named : Bytes) (chains : List PlainChain) (write : PageBytes) → AreDistinct (pages_in chains) → GrowsOne chains write → Extends (put write pages) new → AreNamed pages named chains → AreNamed new named chains
named-grows pages new named [] write distinct grows more are = tt
named-grows pages new named (chain ∷ chains) write distinct grows more are = ⊎_elim
    (λ (first : Grows chain write).
    let whole : AreDistinct (first.front ++ write.number ∷ pages_in chains) = subst AreDistinct (ap (λ (ns : List ℕ). ns ++ pages_in chains) first.numbers ∙ append_assoc first.front (write.number ∷ []) (pages_in chains)) distinct in
    let behind : is_in write.number (pages_in chains) ≡ false = (distinct-back first.front (write.number ∷ pages_in chains) whole).0 in
    (chain-grows pages new _ _ chain write (distinct-front chain.numbers (pages_in chains) distinct) first more are.0, named-stays pages new (drop 16 named) chains (stay-beside (pages_in chains) write pages new behind more) are.1))
    (λ (other : GrowsOne chains write).
    let apart : is_in write.number chain.numbers ≡ false = distinct-apart chain.numbers (pages_in chains) write.number distinct (grown-in chains write other) in
    (chain_stays pages new _ _ chain.numbers chain.bytes (stay-beside chain.numbers write pages new apart more) are.0, named-grows pages new (drop 16 named) chains write (distinct-back chain.numbers (pages_in chains) distinct) other more are.1))
    grows

pub header-beside : (pages new : Pages) (chains : List PlainChain) (position : ℕ) (write : PageBytes) → IsBeside chains write → Extends (put write pages) new → HasHeader pages chains position → HasHeader new chains position
header-beside pages new chains position write beside more h = record {
  header = h.header;
  is_there = record { there = more 0 h.header (put-other write pages 0 (none-below write.number beside.some) ∙ h.is_there.there); whole = h.is_there.whole };
  marked = h.marked;
  position_is = h.position_is;
  used = h.used;
  seven = h.seven;
  named = ⊎_elim
      (λ (apart : is_in write.number (pages_in chains) ≡ false). named-stays pages new (drop 24 h.header) chains (stay-beside (pages_in chains) write pages new apart more) h.named)
      (λ (grows : GrowsOne chains write). named-grows pages new (drop 24 h.header) chains write h.distinct grows more h.named)
      beside.apart;
  distinct = h.distinct;
}
