-- How many of the chains of a header were read.
use Rattle.std.proofs.Common.{◌≡◌, ℕ, ◌+◌, ◌*◌, ◌<◌, ◌≤◌, List, [], ◌∷◌, ◌++◌, length, drop, refl, sym, ◌∙◌, ap, subst, arith, append_assoc, append-nil, length-append, length-drop, drop-drop}
use Rattle.std.proofs.lemmas.Bool.{or_parts}
use Rattle.page_journal.specs.Pages.{Bytes, Pages}
use Rattle.page_chains.specs.Chains.{IsChain, is_in, AreDistinct, PlainChain, pages_in}
use Rattle.page_chains.specs.Headers.{number_at, AreNamed}
use Rattle.page_chains.specs.inside.Walks.{HaveSame, IsApart, AreSeven}
use Rattle.page_chains.proofs.Lists.{in_append}
use Rattle.page_chains.proofs.Chaining.{one_chain}
use Rattle.page_chains.proofs.Heading.{same_chain}

-- what is left of chains behind those that were read
pub record AreRest (pages : Pages) (done : List PlainChain) (rest : Bytes) (all : List PlainChain) : Type 0 where
  pub more : List PlainChain
  pub all_are : all ≡ done ++ more
  pub named : AreNamed pages rest more

-- These chains were read, and every seven chains that are named have them. The others are named by what is left.
pub record AreGathered (pages : Pages) (starts : Bytes) (done : List PlainChain) (met : List ℕ) (rest : Bytes) (read : ℕ) : Type 0 where
  pub count : length done ≡ read
  pub rest_is : rest ≡ drop (16 * read) starts
  pub distinct : AreDistinct (pages_in done)
  pub same : HaveSame met (pages_in done)
  pub grows : (more : List PlainChain) → AreNamed pages rest more → AreNamed pages starts (done ++ more)
  pub only : (all : List PlainChain) → read ≤ length all → AreNamed pages starts all → AreRest pages done rest all

pub gathered_none : (pages : Pages) (starts : Bytes) (met : List ℕ) → met ≡ [] → AreGathered pages starts [] met starts 0
gathered_none pages starts met none = record {
  count = refl;
  rest_is = refl;
  distinct = tt;
  same = λ k. ap (is_in k) none;
  grows = λ more are. are;
  only = λ all long are. record { more = all; all_are = refl; named = are };
}

pages_more : (done : List PlainChain) (chain : PlainChain) → pages_in (done ++ chain ∷ []) ≡ pages_in done ++ chain.numbers
pages_more [] chain = append-nil chain.numbers
pages_more (c ∷ cs) chain = ap (λ (l : List ℕ). c.numbers ++ l) (pages_more cs chain) ∙ sym (append_assoc c.numbers (pages_in cs) chain.numbers)

pub pages_both : (one other : List PlainChain) → pages_in (one ++ other) ≡ pages_in one ++ pages_in other
pages_both [] other = refl
pages_both (c ∷ cs) other = ap (λ (l : List ℕ). c.numbers ++ l) (pages_both cs other) ∙ sym (append_assoc c.numbers (pages_in cs) (pages_in other))

next_rest : (pages : Pages) (done : List PlainChain) (rest : Bytes) (chain : PlainChain) (all more : List PlainChain) → length done < length all → ((other : PlainChain) → IsChain pages (number_at 0 rest) other.numbers (number_at 8 rest) other.bytes → other ≡ chain) → all ≡ done ++ more → AreNamed pages rest more → AreRest pages (done ++ chain ∷ []) (drop 16 rest) all
next_rest pages done rest chain all [] long one all_are named = absurd (omega (arith, long, ap length all_are, length-append done []))
next_rest pages done rest chain all (c ∷ cs) long one all_are named = record {
  more = cs;
  all_are = all_are ∙ ap (λ (x : PlainChain). done ++ x ∷ cs) (one c named.0) ∙ sym (append_assoc done (chain ∷ []) cs);
  named = named.1;
}

-- one chain more was read
pub gathered_more : (pages : Pages) (starts : Bytes) (done : List PlainChain) (met now : List ℕ) (rest behind : Bytes) (read first count : ℕ) (chain : PlainChain) → first ≡ number_at 0 rest → count ≡ number_at 8 rest → behind ≡ drop 16 rest → IsApart pages (pages_in done) first chain.numbers count chain.bytes → HaveSame now (pages_in done ++ chain.numbers) → AreGathered pages starts done met rest read → AreGathered pages starts (done ++ chain ∷ []) now behind (read + 1)
gathered_more pages starts done met now rest behind read first count chain first_is count_is behind_is apart same is =
    let chained : IsChain pages (number_at 0 rest) chain.numbers (number_at 8 rest) chain.bytes =
    subst (λ (k : ℕ). IsChain pages k chain.numbers (number_at 8 rest) chain.bytes) first_is (subst (λ (k : ℕ). IsChain pages first chain.numbers k chain.bytes) count_is apart.chain) in
    let moved : 16 * read + 16 ≡ 16 * (read + 1) = omega arith in
    record {
      count = length-append done (chain ∷ []) ∙ ap (λ (k : ℕ). k + 1) is.count;
      rest_is = behind_is ∙ ap (drop 16) is.rest_is ∙ drop-drop 16 (16 * read) starts ∙ ap (λ (k : ℕ). drop k starts) moved;
      distinct = subst AreDistinct (sym (pages_more done chain)) apart.distinct;
      same = λ k. same k ∙ ap (is_in k) (sym (pages_more done chain));
      grows = λ more are. subst (AreNamed pages starts) (sym (append_assoc done (chain ∷ []) more)) (is.grows (chain ∷ more) (chained, subst (λ (l : Bytes). AreNamed pages l more) behind_is are));
      only = λ all long are.
          let fewer : read ≤ length all = omega (arith, long) in
          let left = is.only all fewer are in
          subst (λ (l : Bytes). AreRest pages (done ++ chain ∷ []) l all) (sym behind_is)
          (next_rest pages done rest chain all left.more (omega (arith, is.count, long))
          (λ other one. let same = one_chain pages (number_at 0 rest) (number_at 8 rest) chain.numbers other.numbers chain.bytes other.bytes chained one in same_chain chain other same.0 same.1)
          left.all_are left.named);
    }

front_distinct : (a b : List ℕ) → AreDistinct (a ++ b) → AreDistinct a
front_distinct [] b are = tt
front_distinct (n ∷ a) b are = ((or_parts (is_in n a) (is_in n b) (sym (in_append n a b) ∙ are.0)).0, front_distinct a b are.1)

-- no chain may stand next
stuck : (pages : Pages) (done : List PlainChain) (rest : Bytes) (first count : ℕ) (all more : List PlainChain) → first ≡ number_at 0 rest → count ≡ number_at 8 rest → length done < length all → all ≡ done ++ more → AreNamed pages rest more → AreDistinct (pages_in all) → ((numbers : List ℕ) (bytes : Bytes) → IsApart pages (pages_in done) first numbers count bytes → ⊥) → ⊥
stuck pages done rest first count all [] first_is count_is long all_are named distinct none = absurd (omega (arith, long, ap length all_are, length-append done []))
stuck pages done rest first count all (c ∷ cs) first_is count_is long all_are named distinct none =
    let pages_are : pages_in all ≡ (pages_in done ++ c.numbers) ++ pages_in cs = ap pages_in all_are ∙ pages_both done (c ∷ cs) ∙ sym (append_assoc (pages_in done) c.numbers (pages_in cs)) in
    none c.numbers c.bytes record {
      chain = subst (λ (k : ℕ). IsChain pages k c.numbers count c.bytes) (sym first_is) (subst (λ (k : ℕ). IsChain pages (number_at 0 rest) c.numbers k c.bytes) (sym count_is) named.0);
      distinct = front_distinct (pages_in done ++ c.numbers) (pages_in cs) (subst AreDistinct pages_are distinct);
    }

pub gathered_stuck : (pages : Pages) (starts : Bytes) (done : List PlainChain) (met : List ℕ) (rest : Bytes) (read first count : ℕ) → read < 7 → first ≡ number_at 0 rest → count ≡ number_at 8 rest → ((numbers : List ℕ) (bytes : Bytes) → IsApart pages (pages_in done) first numbers count bytes → ⊥) → AreGathered pages starts done met rest read → (all : List PlainChain) → AreSeven pages starts all → ⊥
gathered_stuck pages starts done met rest read first count few first_is count_is none is all seven =
    let left = is.only all (omega (arith, few, seven.seven)) seven.are in
    stuck pages done rest first count all left.more first_is count_is (omega (arith, is.count, few, seven.seven)) left.all_are left.named seven.distinct none

pub gathered_short : (pages : Pages) (starts : Bytes) (done : List PlainChain) (met : List ℕ) (rest : Bytes) (read : ℕ) → read < 7 → length rest < 16 → AreGathered pages starts done met rest read → 112 ≤ length starts → ⊥
gathered_short pages starts done met rest read few short is long =
    omega (arith, ap length is.rest_is, length-drop (16 * read) starts, few, short, long)

pub gathered_all : (pages : Pages) (starts : Bytes) (done : List PlainChain) (met : List ℕ) (rest : Bytes) (read : ℕ) → 7 ≤ read → read ≤ 7 → AreGathered pages starts done met rest read → AreSeven pages starts done
gathered_all pages starts done met rest read many few is = record {
  seven = omega (arith, is.count, many, few);
  are = subst (AreNamed pages starts) (append-nil done) (is.grows [] tt);
  distinct = is.distinct;
}
