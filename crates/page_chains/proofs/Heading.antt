-- What a header settles, where it stands, and what is written as one.
use Rattle.std.proofs.Common.{◌≡◌, ℕ, suc, ◌+◌, ◌-◌, ◌*◌, ◌^◌, ◌<◌, ◌≤◌, List, [], ◌∷◌, ◌++◌, length, take, drop, replicate, Some, refl, sym, ◌∙◌, ap, ap₂, subst, arith, append_assoc, length-append, take_at, drop_at, drop-drop}
use Rattle.std.proofs.lemmas.List.{length-replicate}
use Rattle.std.proofs.lemmas.Nat.{from_be_bytes-to_be_bytes_8}
use Rattle.std.specs.List.{flat_map}
use Rattle.std.specs.Int.{w64, to_be_bytes, from_be_bytes}
use Rattle.page_journal.specs.Pages.{Bytes, Pages}
use Rattle.page_chains.specs.declared.start.Start.{Start}
use Rattle.page_chains.specs.Chains.{IsChain, AreDistinct, PlainChain, pages_in}
use Rattle.page_chains.specs.Headers.{number_at, header_mark, AreNamed, HasHeader}
use Rattle.page_chains.specs.Spelled.{start_bytes, header_page, AreStarts}
use Rattle.page_chains.specs.Laws.{Stay}
use Rattle.page_chains.proofs.Lists.{in_itself, in_more, in_front, in_back}
use Rattle.page_chains.proofs.Chaining.{one_chain, chain_stays}

chain_of : List ℕ → Bytes → PlainChain
chain_of numbers bytes = record { numbers = numbers; bytes = bytes }

pub same_chain : (one other : PlainChain) → other.numbers ≡ one.numbers → other.bytes ≡ one.bytes → other ≡ one
unfolding chain_of
same_chain one other numbers bytes = ap₂ chain_of numbers bytes

pub one_named : (pages : Pages) (named : Bytes) (one other : List PlainChain) → length other ≡ length one → AreNamed pages named one → AreNamed pages named other → other ≡ one
one_named pages named [] [] long a b = refl
one_named pages named [] (d ∷ ds) long a b = absurd (omega (arith, long))
one_named pages named (c ∷ cs) [] long a b = absurd (omega (arith, long))
one_named pages named (c ∷ cs) (d ∷ ds) long a b =
    let first = one_chain pages (number_at 0 named) (number_at 8 named) c.numbers d.numbers c.bytes d.bytes a.0 b.0 in
    ap₂ (λ (x : PlainChain) (l : List PlainChain). x ∷ l) (same_chain c d first.0 first.1) (one_named pages (drop 16 named) cs ds (omega (arith, long)) a.1 b.1)

pub same_page : (pages : Pages) (k : ℕ) (one other : Bytes) → pages k ≡ Some one → pages k ≡ Some other → other ≡ one
same_page pages k one other a b = cc

pub one_header : (pages : Pages) (one other : List PlainChain) (position place : ℕ) → HasHeader pages one position → HasHeader pages other place → (other ≡ one) × (place ≡ position)
one_header pages one other position place a b =
    let page : b.header ≡ a.header = same_page pages 0 a.header b.header a.is_there.there b.is_there.there in
    let named = subst (λ (h : Bytes). AreNamed pages (drop 24 h) other) page b.named in (
      one_named pages (drop 24 a.header) one other (b.seven ∙ sym a.seven) a.named named,
      sym b.position_is ∙ ap (number_at 8) page ∙ a.position_is,
    )

named_stay : (old new : Pages) (named : Bytes) (chains : List PlainChain) → Stay (pages_in chains) old new → AreNamed old named chains → AreNamed new named chains
named_stay old new named [] stay are = tt
named_stay old new named (c ∷ cs) stay are = (
  chain_stays old new (number_at 0 named) (number_at 8 named) c.numbers c.bytes (λ k page e there. stay k page (in_front k c.numbers (pages_in cs) e) there) are.0,
  named_stay old new (drop 16 named) cs (λ k page e there. stay k page (in_back k c.numbers (pages_in cs) e) there) are.1,
)

pub header_stays : (old new : Pages) (chains : List PlainChain) (position : ℕ) → Stay (0 ∷ pages_in chains) old new → HasHeader old chains position → HasHeader new chains position
header_stays old new chains position stay is = record {
  header = is.header;
  is_there = record { there = stay 0 is.header (in_itself 0 (pages_in chains)) is.is_there.there; whole = is.is_there.whole };
  marked = is.marked;
  position_is = is.position_is;
  used = is.used;
  seven = is.seven;
  named = named_stay old new (drop 24 is.header) chains (λ k page e there. stay k page (in_more k 0 (pages_in chains) e) there) is.named;
  distinct = is.distinct;
}

-- the fields of a header, one behind another
record AreFields (header mark position used behind : Bytes) : Type 0 where
  pub at_mark : take 8 header ≡ mark
  pub at_position : take 8 (drop 8 header) ≡ position
  pub at_used : take 8 (drop 16 header) ≡ used
  pub at_starts : drop 24 header ≡ behind

fields : (mark position used behind header : Bytes) → length mark ≡ 8 → length position ≡ 8 → length used ≡ 8 → header ≡ mark ++ (position ++ (used ++ behind)) → AreFields header mark position used behind
fields mark position used behind header m p u is =
    let one : drop 8 header ≡ position ++ (used ++ behind) = ap (drop 8) is ∙ drop_at mark (position ++ (used ++ behind)) 8 m in
    let two : drop 16 header ≡ used ++ behind = sym (drop-drop 8 8 header) ∙ ap (drop 8) one ∙ drop_at position (used ++ behind) 8 p in
    record {
      at_mark = ap (take 8) is ∙ take_at mark (position ++ (used ++ behind)) 8 m;
      at_position = ap (take 8) one ∙ take_at position (used ++ behind) 8 p;
      at_used = ap (take 8) two ∙ take_at used behind 8 u;
      at_starts = sym (drop-drop 8 16 header) ∙ ap (drop 8) two ∙ drop_at used behind 8 u;
    }

nested : (a b c d e : Bytes) → (((a ++ b) ++ c) ++ d) ++ e ≡ a ++ (b ++ (c ++ (d ++ e)))
nested a b c d e = simp append_assoc

header_fields : (position used : ℕ) (starts : List Start) → AreFields (header_page position used starts) header_mark (to_be_bytes w64 position) (to_be_bytes w64 used) (flat_map start_bytes starts ++ replicate (4072 - 16 * length starts) 0)
unfolding header_page
header_fields position used starts =
    fields header_mark (to_be_bytes w64 position) (to_be_bytes w64 used) (flat_map start_bytes starts ++ replicate (4072 - 16 * length starts) 0) _ refl refl refl
    (nested header_mark (to_be_bytes w64 position) (to_be_bytes w64 used) (flat_map start_bytes starts) (replicate (4072 - 16 * length starts) 0))

long_start : (first count rest : Bytes) → length first ≡ 8 → length count ≡ 8 → length ((first ++ count) ++ rest) ≡ 16 + length rest
long_start first count rest f c = omega (arith, length-append (first ++ count) rest, length-append first count)

pub long_starts : (starts : List Start) → length (flat_map start_bytes starts) ≡ 16 * length starts
long_starts [] = refl
long_starts (s ∷ ss) =
    let rest : 16 + length (flat_map start_bytes ss) ≡ 16 * suc (length ss) = omega (arith, long_starts ss) in
    long_start (to_be_bytes w64 s.first) (to_be_bytes w64 s.count) (flat_map start_bytes ss) refl refl ∙ rest

long_parts : (a b c d e : Bytes) (n : ℕ) → length a ≡ 8 → length b ≡ 8 → length c ≡ 8 → length d ≡ n → n ≤ 4072 → length e ≡ 4072 - n → length ((((a ++ b) ++ c) ++ d) ++ e) ≡ 4096
long_parts a b c d e n la lb lc ld fits le =
    omega (arith, length-append (((a ++ b) ++ c) ++ d) e, length-append ((a ++ b) ++ c) d, length-append (a ++ b) c, length-append a b)

pub header_long : (position used : ℕ) (starts : List Start) → length starts ≡ 7 → length (header_page position used starts) ≡ 4096
unfolding header_page
header_long position used starts seven =
    long_parts header_mark (to_be_bytes w64 position) (to_be_bytes w64 used) (flat_map start_bytes starts) (replicate (4072 - 16 * length starts) 0) (16 * length starts) refl refl refl (long_starts starts) (omega (arith, seven)) (length-replicate (4072 - 16 * length starts) 0)

-- the first start, and what is behind it
start_parts : (first count rest zeros all : Bytes) → length first ≡ 8 → length count ≡ 8 → all ≡ ((first ++ count) ++ rest) ++ zeros → (take 8 all ≡ first) × (take 8 (drop 8 all) ≡ count) × (drop 16 all ≡ rest ++ zeros)
start_parts first count rest zeros all f c is =
    let nest : all ≡ first ++ (count ++ (rest ++ zeros)) = is ∙ simp append_assoc in
    let one : drop 8 all ≡ count ++ (rest ++ zeros) = ap (drop 8) nest ∙ drop_at first (count ++ (rest ++ zeros)) 8 f in (
      ap (take 8) nest ∙ take_at first (count ++ (rest ++ zeros)) 8 f,
      ap (take 8) one ∙ take_at count (rest ++ zeros) 8 c,
      sym (drop-drop 8 8 all) ∙ ap (drop 8) one ∙ drop_at count (rest ++ zeros) 8 c,
    )

starts_named : (pages : Pages) (starts : List Start) (chains : List PlainChain) (zeros : Bytes) → AreStarts pages starts chains → AreNamed pages (flat_map start_bytes starts ++ zeros) chains
starts_named pages [] [] zeros are = tt
starts_named pages [] (c ∷ cs) zeros are = absurd are
starts_named pages (s ∷ ss) [] zeros are = absurd are
starts_named pages (s ∷ ss) (c ∷ cs) zeros are =
    let parts = start_parts (to_be_bytes w64 s.first) (to_be_bytes w64 s.count) (flat_map start_bytes ss) zeros (flat_map start_bytes (s ∷ ss) ++ zeros) refl refl refl in
    let first : number_at 0 (flat_map start_bytes (s ∷ ss) ++ zeros) ≡ s.first = ap (from_be_bytes w64) parts.0 ∙ from_be_bytes-to_be_bytes_8 s.first are.0.first in
    let count : number_at 8 (flat_map start_bytes (s ∷ ss) ++ zeros) ≡ s.count = ap (from_be_bytes w64) parts.1 ∙ from_be_bytes-to_be_bytes_8 s.count are.0.count in (
      subst (λ (k : ℕ). IsChain pages k c.numbers (number_at 8 (flat_map start_bytes (s ∷ ss) ++ zeros)) c.bytes) (sym first)
          (subst (λ (k : ℕ). IsChain pages s.first c.numbers k c.bytes) (sym count) are.0.is),
      subst (λ (l : Bytes). AreNamed pages l cs) (sym parts.2) (starts_named pages ss cs zeros are.1),
    )

starts_long : (pages : Pages) (starts : List Start) (chains : List PlainChain) → AreStarts pages starts chains → length starts ≡ length chains
starts_long pages [] [] are = refl
starts_long pages [] (c ∷ cs) are = absurd are
starts_long pages (s ∷ ss) [] are = absurd are
starts_long pages (s ∷ ss) (c ∷ cs) are = ap suc (starts_long pages ss cs are.1)

pub header_written : (pages : Pages) (starts : List Start) (chains : List PlainChain) (position used : ℕ) → pages 0 ≡ Some (header_page position used starts) → position < 2 ^ 64 → used ≤ 1099511627776 → length chains ≡ 7 → AreStarts pages starts chains → AreDistinct (pages_in chains) → HasHeader pages chains position
header_written pages starts chains position used there low few seven are distinct =
    let parts = header_fields position used starts in
    let used_is : number_at 16 (header_page position used starts) ≡ used = ap (from_be_bytes w64) parts.at_used ∙ from_be_bytes-to_be_bytes_8 used (omega (arith, few)) in
    record {
      header = header_page position used starts;
      is_there = record { there = there; whole = header_long position used starts (starts_long pages starts chains are ∙ seven) };
      marked = parts.at_mark;
      position_is = ap (from_be_bytes w64) parts.at_position ∙ from_be_bytes-to_be_bytes_8 position low;
      used = subst (λ (k : ℕ). k ≤ 1099511627776) (sym used_is) few;
      seven = seven;
      named = subst (λ (l : Bytes). AreNamed pages l chains) (sym parts.at_starts) (starts_named pages starts chains (replicate (4072 - 16 * length starts) 0) are);
      distinct = distinct;
    }
