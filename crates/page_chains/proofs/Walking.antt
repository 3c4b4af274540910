-- How far the reading of a chain has come.
use Rattle.std.proofs.Common.{◌≡◌, ℕ, ◌-◌, ◌<◌, Bool, true, false, ◌||◌, List, [], ◌∷◌, ◌++◌, take, Some, nat_eq, refl, sym, ◌∙◌, ap, subst, arith, append_assoc, append-nil}
use Rattle.page_journal.specs.Pages.{Bytes, Pages}
use Rattle.page_chains.specs.Chains.{next_of, body_of, IsPageAt, IsChain, is_in, AreDistinct}
use Rattle.page_chains.specs.inside.Walks.{HasOneMore, HaveSame, IsNext, IsApart}
use Rattle.page_chains.proofs.Lists.{in_append, distinct_push, distinct_fresh}
use Rattle.page_chains.proofs.Heading.{same_page}

-- what is left of a chain behind the pages that were read
pub record IsRest (pages : Pages) (done : List ℕ) (bytes : Bytes) (named left : ℕ) (all : List ℕ) (stream : Bytes) : Type 0 where
  pub numbers : List ℕ
  pub more : Bytes
  pub all_are : all ≡ done ++ numbers
  pub stream_is : stream ≡ bytes ++ more
  pub chain : IsChain pages named numbers left more

-- These pages of a chain were read, and these bytes of its stream, and every chain from its start has them.
pub record IsWalked (pages : Pages) (before : List ℕ) (first count : ℕ) (done : List ℕ) (bytes : Bytes) (met : List ℕ) (named left : ℕ) : Type 0 where
  pub distinct : AreDistinct (before ++ done)
  pub same : HaveSame met (before ++ done)
  pub grows : (numbers : List ℕ) (more : Bytes) → IsChain pages named numbers left more → IsChain pages first (done ++ numbers) count (bytes ++ more)
  pub only : (all : List ℕ) (stream : Bytes) → IsChain pages first all count stream → IsRest pages done bytes named left all stream

pub walked_none : (pages : Pages) (before : List ℕ) (first count : ℕ) (met : List ℕ) → AreDistinct before → HaveSame met before → IsWalked pages before first count [] [] met first count
walked_none pages before first count met distinct same = record {
  distinct = subst AreDistinct (sym (append-nil before)) distinct;
  same = λ k. same k ∙ ap (is_in k) (sym (append-nil before));
  grows = λ numbers more is. is;
  only = λ all stream is. record { numbers = all; more = stream; all_are = refl; stream_is = refl; chain = is };
}

-- the first page of what is left is the one that is there
first_left : (pages : Pages) (named left : ℕ) (page : Bytes) (numbers : List ℕ) (bytes : Bytes) → 0 < left → IsPageAt pages named page → IsChain pages named numbers left bytes → IsRest pages (named ∷ []) (take left (body_of page)) (next_of page) (left - 4088) numbers bytes
first_left pages named left page [] bytes some there is = absurd (omega (arith, is.0, some))
first_left pages named left page (n ∷ ns) bytes some there is =
    let same : is.0 ≡ page = same_page pages named page is.0 there.there (subst (λ (k : ℕ). pages k ≡ Some is.0) is.2.is_named is.2.is_there.there) in
    record {
      numbers = ns;
      more = is.1;
      all_are = ap (λ (k : ℕ). k ∷ ns) is.2.is_named;
      stream_is = is.2.parts ∙ ap (λ (p : Bytes). take left (body_of p) ++ is.1) same;
      chain = subst (λ (p : Bytes). IsChain pages (next_of p) ns (left - 4088) is.1) same is.3;
    }

joined : (pages : Pages) (done front : List ℕ) (bytes part : Bytes) (named left next short : ℕ) (all : List ℕ) (stream : Bytes) → (rest : IsRest pages done bytes named left all stream) → IsRest pages front part next short rest.numbers rest.more → IsRest pages (done ++ front) (bytes ++ part) next short all stream
joined pages done front bytes part named left next short all stream rest tail = record {
  numbers = tail.numbers;
  more = tail.more;
  all_are = rest.all_are ∙ ap (λ (l : List ℕ). done ++ l) tail.all_are ∙ sym (append_assoc done front tail.numbers);
  stream_is = rest.stream_is ∙ ap (λ (l : Bytes). bytes ++ l) tail.stream_is ∙ sym (append_assoc bytes part tail.more);
  chain = tail.chain;
}

met_more : (before done met now : List ℕ) (named : ℕ) → HaveSame met (before ++ done) → HasOneMore named met now → HaveSame now (before ++ (done ++ named ∷ []))
met_more before done met now named same more k =
    more k ∙ ap (λ (t : Bool). nat_eq k named || t) (same k)
    ∙ turn (nat_eq k named) (is_in k (before ++ done))
    ∙ sym (in_append k (before ++ done) (named ∷ []))
    ∙ ap (is_in k) (append_assoc before done (named ∷ []))
  where
    turn : (t x : Bool) → (t || x) ≡ (x || (t || false))
    turn true true = refl
    turn true false = refl
    turn false true = refl
    turn false false = refl

-- one page more was read
pub walked_more : (pages : Pages) (before : List ℕ) (first count : ℕ) (done : List ℕ) (bytes : Bytes) (met now : List ℕ) (named left : ℕ) (page : Bytes) → 0 < left → IsNext pages met named page → HasOneMore named met now → IsWalked pages before first count done bytes met named left → IsWalked pages before first count (done ++ named ∷ []) (bytes ++ take left (body_of page)) now (next_of page) (left - 4088)
walked_more pages before first count done bytes met now named left page some next more is = record {
  distinct = subst AreDistinct (append_assoc before done (named ∷ [])) (distinct_push (before ++ done) named is.distinct (sym (is.same named) ∙ next.fresh));
  same = met_more before done met now named is.same more;
  grows = λ numbers rest chain.
      subst (λ (l : List ℕ). IsChain pages first l count ((bytes ++ take left (body_of page)) ++ rest)) (sym (append_assoc done (named ∷ []) numbers))
      (subst (λ (b : Bytes). IsChain pages first (done ++ named ∷ numbers) count b) (sym (append_assoc bytes (take left (body_of page)) rest))
      (is.grows (named ∷ numbers) (take left (body_of page) ++ rest)
      (page, rest, record { is_named = refl; in_use = next.in_use; is_there = next.is_there; some = some; parts = refl }, chain)));
  only = λ all stream chain.
      let rest = is.only all stream chain in
      joined pages done (named ∷ []) bytes (take left (body_of page)) named left (next_of page) (left - 4088) all stream rest
      (first_left pages named left page rest.numbers rest.more some next.is_there rest.chain);
}

-- the first page of what is left, where there is one that was not met
next_left : (pages : Pages) (named left : ℕ) (met before : List ℕ) (numbers : List ℕ) (bytes : Bytes) → 0 < left → HaveSame met before → AreDistinct (before ++ numbers) → IsChain pages named numbers left bytes → (page : Bytes) × IsNext pages met named page
next_left pages named left met before [] bytes some same distinct is = absurd (omega (arith, is.0, some))
next_left pages named left met before (n ∷ ns) bytes some same distinct is =
    let fresh : is_in n met ≡ false = same n ∙ distinct_fresh before ns n distinct in
    (is.0, subst (λ (k : ℕ). IsNext pages met k is.0) is.2.is_named record { in_use = is.2.in_use; fresh = fresh; is_there = is.2.is_there })

-- no chain may have the page that comes next
pub walked_stuck : (pages : Pages) (before : List ℕ) (first count : ℕ) (done : List ℕ) (bytes : Bytes) (met : List ℕ) (named left : ℕ) → 0 < left → ((page : Bytes) → IsNext pages met named page → ⊥) → IsWalked pages before first count done bytes met named left → (all : List ℕ) (stream : Bytes) → IsApart pages before first all count stream → ⊥
walked_stuck pages before first count done bytes met named left some none is all stream apart =
    let rest = is.only all stream apart.chain in
    let distinct : AreDistinct ((before ++ done) ++ rest.numbers) = subst AreDistinct (ap (λ (l : List ℕ). before ++ l) rest.all_are ∙ sym (append_assoc before done rest.numbers)) apart.distinct in
    let next = next_left pages named left met (before ++ done) rest.numbers rest.more some is.same distinct rest.chain in
    none next.0 next.1

-- nothing is left
pub walked_all : (pages : Pages) (before : List ℕ) (first count : ℕ) (done : List ℕ) (bytes : Bytes) (met : List ℕ) (named left : ℕ) → left ≡ 0 → IsWalked pages before first count done bytes met named left → IsApart pages before first done count bytes
walked_all pages before first count done bytes met named left none is = record {
  chain = subst (λ (l : List ℕ). IsChain pages first l count bytes) (append-nil done)
      (subst (λ (b : Bytes). IsChain pages first (done ++ []) count b) (append-nil bytes) (is.grows [] [] (none, refl)));
  distinct = is.distinct;
}
