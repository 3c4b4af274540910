-- What a chain settles, and where it stands.
use Rattle.std.proofs.Common.{◌≡◌, ℕ, ◌-◌, ◌≤◌, min, List, [], ◌∷◌, ◌++◌, length, take, Some, refl, sym, ◌∙◌, ap, ap₂, subst, arith, length-append, length-drop, length-take, take-take}
use Rattle.page_journal.specs.Pages.{Bytes, Pages}
use Rattle.page_chains.specs.Chains.{next_of, body_of, IsChain, AreEnough}
use Rattle.page_chains.specs.Laws.{Stay}
use Rattle.page_chains.proofs.Lists.{take-append, in_itself, in_more}

pub one_chain : (pages : Pages) (named left : ℕ) (one other : List ℕ) (bytes more : Bytes) → IsChain pages named one left bytes → IsChain pages named other left more → (other ≡ one) × (more ≡ bytes)
one_chain pages named left [] [] bytes more a b = (refl, b.1 ∙ sym a.1)
one_chain pages named left [] (m ∷ ms) bytes more a b = absurd (omega (arith, a.0, b.2.some))
one_chain pages named left (n ∷ ns) [] bytes more a b = absurd (omega (arith, b.0, a.2.some))
one_chain pages named left (n ∷ ns) (m ∷ ms) bytes more a b =
    let one_named : n ≡ named = a.2.is_named in
    let other_named : m ≡ named = b.2.is_named in
    let one_there : pages n ≡ Some a.0 = a.2.is_there.there in
    let other_there : pages m ≡ Some b.0 = b.2.is_there.there in
    let page : b.0 ≡ a.0 = cc in
    let rest = one_chain pages (next_of a.0) (left - 4088) ns ms a.1 b.1 a.3 (subst (λ (p : Bytes). IsChain pages (next_of p) ms (left - 4088) b.1) page b.3) in (
      ap₂ (λ (k : ℕ) (l : List ℕ). k ∷ l) (other_named ∙ sym one_named) rest.0,
      b.2.parts ∙ ap₂ (λ (p l : Bytes). take left (body_of p) ++ l) page rest.1 ∙ sym a.2.parts,
    )

pub body_long : (page : Bytes) → length page ≡ 4096 → length (body_of page) ≡ 4088
body_long page whole = omega (arith, length-drop 8 page, whole)

long_parts : (left : ℕ) (bytes page more : Bytes) → length page ≡ 4096 → bytes ≡ take left (body_of page) ++ more → length more ≡ left - 4088 → length bytes ≡ left
long_parts left bytes page more whole parts rest =
    omega (arith, ap length parts, length-append (take left (body_of page)) more, length-take left (body_of page), body_long page whole, rest)

pub chain_long : (pages : Pages) (named left : ℕ) (numbers : List ℕ) (bytes : Bytes) → IsChain pages named numbers left bytes → (length bytes ≡ left) × AreEnough (length numbers) left
chain_long pages named left [] bytes is = (ap length is.1 ∙ sym is.0, record { hold = omega (arith, is.0); no_more = omega (arith, is.0) })
chain_long pages named left (n ∷ ns) bytes is =
    let rest = chain_long pages (next_of is.0) (left - 4088) ns is.1 is.3 in (
      long_parts left bytes is.0 is.1 is.2.is_there.whole is.2.parts rest.0,
      record { hold = omega (arith, rest.1.hold); no_more = omega (arith, rest.1.no_more, is.2.some) },
    )

pub chain_stays : (old new : Pages) (named left : ℕ) (numbers : List ℕ) (bytes : Bytes) → Stay numbers old new → IsChain old named numbers left bytes → IsChain new named numbers left bytes
chain_stays old new named left [] bytes stay is = is
chain_stays old new named left (n ∷ ns) bytes stay is = (
  is.0,
  is.1,
  record {
    is_named = is.2.is_named;
    in_use = is.2.in_use;
    is_there = record { there = stay n is.0 (in_itself n ns) is.2.is_there.there; whole = is.2.is_there.whole };
    some = is.2.some;
    parts = is.2.parts;
  },
  chain_stays old new (next_of is.0) (left - 4088) ns is.1 (λ k page e there. stay k page (in_more k n ns e) there) is.3,
)

front_parts : (left short : ℕ) (bytes page more : Bytes) → short ≤ left → length page ≡ 4096 → bytes ≡ take left (body_of page) ++ more → take short bytes ≡ take short (body_of page) ++ take (short - 4088) more
front_parts left short bytes page more below whole parts =
    let long : length (take left (body_of page)) ≡ min left 4088 = length-take left (body_of page) ∙ ap (min left) (body_long page whole) in
    let gap : short - length (take left (body_of page)) ≡ short - 4088 = omega (arith, long, below) in
    ap (take short) parts
    ∙ take-append short (take left (body_of page)) more
    ∙ ap₂ (λ (l : Bytes) (k : ℕ). l ++ take k more) (take-take short left (body_of page) below) gap

none_taken : (bytes : Bytes) (short : ℕ) → short ≡ 0 → take short bytes ≡ []
none_taken bytes short none = ap (λ (k : ℕ). take k bytes) none

pub front_chain : (pages : Pages) (named left short : ℕ) (front rest : List ℕ) (bytes : Bytes) → short ≤ left → AreEnough (length front) short → IsChain pages named (front ++ rest) left bytes → IsChain pages named front short (take short bytes)
front_chain pages named left short [] rest bytes below enough is =
    let none : short ≡ 0 = omega (arith, enough.hold) in
    (none, none_taken bytes short none)
front_chain pages named left short (n ∷ ns) rest bytes below enough is = (
  is.0,
  take (short - 4088) is.1,
  record {
    is_named = is.2.is_named;
    in_use = is.2.in_use;
    is_there = is.2.is_there;
    some = omega (arith, enough.no_more);
    parts = front_parts left short bytes is.0 is.1 below is.2.is_there.whole is.2.parts;
  },
  front_chain pages (next_of is.0) (left - 4088) (short - 4088) ns rest is.1 (omega (arith, below))
      (record { hold = omega (arith, enough.hold); no_more = omega (arith, enough.no_more) }) is.3,
)
