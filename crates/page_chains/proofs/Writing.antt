-- What is written as a chain is one.
use Rattle.std.proofs.Common.{◌≡◌, ℕ, suc, ◌+◌, ◌-◌, ◌*◌, ◌^◌, ◌<◌, ◌≤◌, min, Bool, false, ◌||◌, List, [], ◌∷◌, ◌++◌, length, take, drop, replicate, Some, nat_eq, refl, sym, ◌∙◌, ap, ap₂, subst, arith, append_assoc, append-nil, length-append, length-drop, length-take, take_at, drop_at, take_all, take-append-drop, take-take, drop-drop, eq-eqb}
use Rattle.std.proofs.lemmas.Bool.{or_parts, cond-true, cond-false}
use Rattle.std.proofs.lemmas.List.{length-replicate, take-append-le}
use Rattle.std.proofs.lemmas.Nat.{from_be_bytes-to_be_bytes_8}
use Rattle.std.specs.Int.{w64, to_be_bytes, from_be_bytes}
use Rattle.std.specs.List.{AllByRecursion}
use Rattle.page_journal.specs.JournalBytes.{IsWrite}
use Rattle.page_journal.specs.Pages.{Bytes, Pages, page_bytes, Writes, put, laid, is_written}
use Rattle.page_chains.specs.Chains.{next_of, body_of, IsInUse, IsLink, IsChain, is_in, AreDistinct, AreEnough}
use Rattle.page_chains.specs.Spelled.{first_page, link_page, chain_writes, HasWrites, AreInUse}
use Rattle.page_chains.specs.Laws.{Stay}
use Rattle.page_chains.proofs.Lists.{none_left, take-append, in_itself, in_more}
use Rattle.page_chains.proofs.Chaining.{chain_long, body_long}

front_next : (front body zeros : Bytes) → length front ≡ 8 → take 8 ((front ++ body) ++ zeros) ≡ front
front_next front body zeros eight = ap (take 8) (append_assoc front body zeros) ∙ take_at front (body ++ zeros) 8 eight

behind_next : (front body zeros : Bytes) → length front ≡ 8 → drop 8 ((front ++ body) ++ zeros) ≡ body ++ zeros
behind_next front body zeros eight = ap (drop 8) (append_assoc front body zeros) ∙ drop_at front (body ++ zeros) 8 eight

whole_page : (front body zeros : Bytes) → length front ≡ 8 → length body ≤ 4088 → length zeros ≡ 4088 - length body → length ((front ++ body) ++ zeros) ≡ 4096
whole_page front body zeros eight fits rest = omega (arith, length-append (front ++ body) zeros, length-append front body)

pub link_next : (next : ℕ) (body : Bytes) → next < 2 ^ 64 → next_of (link_page next body) ≡ next
unfolding link_page
link_next next body low =
    ap (from_be_bytes w64) (front_next (to_be_bytes w64 next) body (replicate (4088 - length body) 0) refl) ∙ from_be_bytes-to_be_bytes_8 next low

pub link_body : (next : ℕ) (body : Bytes) → body_of (link_page next body) ≡ body ++ replicate (4088 - length body) 0
unfolding link_page
link_body next body = behind_next (to_be_bytes w64 next) body (replicate (4088 - length body) 0) refl

pub link_whole : (next : ℕ) (body : Bytes) → length body ≤ 4088 → length (link_page next body) ≡ 4096
unfolding link_page
link_whole next body fits = whole_page (to_be_bytes w64 next) body (replicate (4088 - length body) 0) refl fits (length-replicate (4088 - length body) 0)

first_low : (numbers : List ℕ) → AreInUse numbers → first_page numbers < 2 ^ 64
first_low [] are = omega arith
first_low (n ∷ ns) are = omega (arith, are.0.low)

short_taken : (bytes : Bytes) → length (take 4088 bytes) ≤ 4088
short_taken bytes = omega (arith, length-take 4088 bytes)

-- a page has the front of a stream, or all of it
page_parts : (bytes zeros : Bytes) (left : ℕ) → length zeros ≡ 4088 - length (take 4088 bytes) → length bytes ≡ left → bytes ≡ take left (take 4088 bytes ++ zeros) ++ drop 4088 bytes
page_parts bytes zeros left rest long =
    let took : length (take 4088 bytes) ≡ min 4088 (length bytes) = length-take 4088 bytes in
    let front : take left (take 4088 bytes) ≡ take 4088 bytes = take_all left (take 4088 bytes) (omega (arith, took, long)) in
    let none : length (take (left - length (take 4088 bytes)) zeros) ≤ 0 = omega (arith, length-take (left - length (take 4088 bytes)) zeros, took, long, rest) in
    let shown : take left (take 4088 bytes ++ zeros) ≡ take 4088 bytes = take-append left (take 4088 bytes) zeros ∙ ap₂ (λ (a b : Bytes). a ++ b) front (none_left (take (left - length (take 4088 bytes)) zeros) none) ∙ append-nil (take 4088 bytes) in
    sym (ap (λ (l : Bytes). l ++ drop 4088 bytes) shown ∙ take-append-drop 4088 bytes)

-- one page of a chain, in front of what is a chain already
chain_link : (pages : Pages) (n next left : ℕ) (ns : List ℕ) (bytes : Bytes) → pages n ≡ Some (link_page next (take 4088 bytes)) → IsInUse n → next < 2 ^ 64 → length bytes ≡ left → 0 < left → IsChain pages next ns (left - 4088) (drop 4088 bytes) → IsChain pages n (n ∷ ns) left bytes
chain_link pages n next left ns bytes there in_use low long some rest =
    let page : Bytes = link_page next (take 4088 bytes) in (
      page,
      drop 4088 bytes,
      record {
        is_named = refl;
        in_use = in_use;
        is_there = record { there = there; whole = link_whole next (take 4088 bytes) (short_taken bytes) };
        some = some;
        parts = page_parts bytes (replicate (4088 - length (take 4088 bytes)) 0) left (length-replicate (4088 - length (take 4088 bytes)) 0) long
            ∙ ap (λ (b : Bytes). take left b ++ drop 4088 bytes) (sym (link_body next (take 4088 bytes)));
      },
      subst (λ (k : ℕ). IsChain pages k ns (left - 4088) (drop 4088 bytes)) (sym (link_next next (take 4088 bytes) low)) rest,
    )

pub chain_written : (pages : Pages) (numbers : List ℕ) (bytes : Bytes) → HasWrites (chain_writes numbers bytes) pages → AreInUse numbers → AreEnough (length numbers) (length bytes) → IsChain pages (first_page numbers) numbers (length bytes) bytes
chain_written pages [] bytes has are enough =
    let none : length bytes ≤ 0 = omega (arith, enough.hold) in
    (omega (arith, none), none_left bytes none)
chain_written pages (n ∷ ns) bytes has are enough =
    let long : length (drop 4088 bytes) ≡ length bytes - 4088 = length-drop 4088 bytes in
    let rest = chain_written pages ns (drop 4088 bytes) has.1 are.1 (record { hold = omega (arith, long, enough.hold); no_more = omega (arith, long, enough.no_more) }) in
    chain_link pages n (first_page ns) (length bytes) ns bytes has.0 are.0 (first_low ns are.1) refl (omega (arith, enough.no_more))
    (subst (λ (k : ℕ). IsChain pages (first_page ns) ns k (drop 4088 bytes)) long rest)

pub writes_whole : (numbers : List ℕ) (bytes : Bytes) → AreInUse numbers → AllByRecursion IsWrite (chain_writes numbers bytes)
writes_whole [] bytes are = tt
writes_whole (n ∷ ns) bytes are = (
  record { low = are.0.low; whole = link_whole (first_page ns) (take 4088 bytes) (short_taken bytes) },
  writes_whole ns (drop 4088 bytes) are.1,
)

written_in : (k : ℕ) (numbers : List ℕ) (bytes : Bytes) → is_written (chain_writes numbers bytes) k ≡ is_in k numbers
written_in k [] bytes = refl
written_in k (n ∷ ns) bytes = ap (λ (t : Bool). nat_eq k n || t) (written_in k ns (drop 4088 bytes))

laid_beside : (writes : Writes) (pages : Pages) (k : ℕ) → is_written writes k ≡ false → laid writes pages k ≡ pages k
laid_beside [] pages k apart = refl
laid_beside (write ∷ writes) pages k apart =
    let parts = or_parts (nat_eq k write.number) (is_written writes k) apart in
    laid_beside writes (put write pages) k parts.1 ∙ cond-false (nat_eq k write.number) (Some write.bytes) (pages k) parts.0

pub writes_there : (pages : Pages) (numbers : List ℕ) (bytes : Bytes) → AreDistinct numbers → HasWrites (chain_writes numbers bytes) (laid (chain_writes numbers bytes) pages)
writes_there pages [] bytes are = tt
writes_there pages (n ∷ ns) bytes are =
    let page : Bytes = link_page (first_page ns) (take 4088 bytes) in (
      laid_beside (chain_writes ns (drop 4088 bytes)) (put (page_bytes n page) pages) n (written_in n ns (drop 4088 bytes) ∙ are.0)
          ∙ cond-true (nat_eq n n) (Some page) (pages n) (eq-eqb n n refl),
      writes_there (put (page_bytes n page) pages) ns (drop 4088 bytes) are.1,
    )

-- A page in front of others stands for 4,088 bytes of the stream.
record IsAhead (bytes page more : Bytes) (left k : ℕ) : Type 0 where
  pub parts : bytes ≡ body_of page ++ more
  pub behind : drop (4088 + k) bytes ≡ drop k more
  pub long : length more ≡ left - 4088
  pub left_is : left ≡ 4088 + length more

ahead : (bytes page more : Bytes) (left k : ℕ) → length page ≡ 4096 → bytes ≡ take left (body_of page) ++ more → length bytes ≡ left → length more ≡ left - 4088 → 0 < left - 4088 → IsAhead bytes page more left k
ahead bytes page more left k whole parts long rest some =
    let full : take left (body_of page) ≡ body_of page = take_all left (body_of page) (omega (arith, body_long page whole, some)) in
    let is : bytes ≡ body_of page ++ more = parts ∙ ap (λ (l : Bytes). l ++ more) full in
    record {
      parts = is;
      behind = sym (drop-drop k 4088 bytes) ∙ ap (drop k) (ap (drop 4088) is ∙ drop_at (body_of page) more 4088 (body_long page whole));
      long = rest;
      left_is = omega (arith, rest, some);
    }

-- more pages behind one leave bytes for them
some_behind : (pages : Pages) (named last left : ℕ) (ns : List ℕ) (more : Bytes) → IsChain pages named (ns ++ last ∷ []) left more → 0 < left
some_behind pages named last left [] more is = is.2.some
some_behind pages named last left (n ∷ ns) more is = is.2.some

behind_front : (k : ℕ) (bytes more : Bytes) (ns : List ℕ) → drop (4088 + k) bytes ≡ drop k more → 4088 * length ns ≡ k → drop (4088 * suc (length ns)) bytes ≡ drop (4088 * length ns) more
behind_front k bytes more ns behind is =
    let next : 4088 * suc (length ns) ≡ 4088 + k = omega (arith, is) in
    ap (λ (m : ℕ). drop m bytes) next ∙ behind ∙ ap (λ (m : ℕ). drop m more) (sym is)

-- the front of a chain stays, and its last page is written so that the chain goes on
pub chain_on : (old new : Pages) (named last left : ℕ) (front fresh : List ℕ) (bytes more : Bytes) → IsChain old named (front ++ last ∷ []) left bytes → length bytes ≡ left → Stay front old new → AreInUse fresh → HasWrites (chain_writes (last ∷ fresh) (drop (4088 * length front) bytes ++ more)) new → AreEnough (length (last ∷ fresh)) (length (drop (4088 * length front) bytes ++ more)) → IsChain new named (front ++ last ∷ fresh) (length (bytes ++ more)) (bytes ++ more)
chain_on old new named last left [] fresh bytes more is long stay are has enough =
    subst (λ (k : ℕ). IsChain new k (last ∷ fresh) (length (bytes ++ more)) (bytes ++ more)) is.2.is_named
    (chain_written new (last ∷ fresh) (bytes ++ more) has (is.2.in_use, are) enough)
chain_on old new named last left (n ∷ ns) fresh bytes more is long stay are has enough =
    let rest : length is.1 ≡ left - 4088 = (chain_long old (next_of is.0) (left - 4088) (ns ++ last ∷ []) is.1 is.3).0 in
    let some : 0 < left - 4088 = some_behind old (next_of is.0) last (left - 4088) ns is.1 is.3 in
    let at = ahead bytes is.0 is.1 left (4088 * length ns) is.2.is_there.whole is.2.parts long rest some in
    let moved : drop (4088 * suc (length ns)) bytes ≡ drop (4088 * length ns) is.1 = behind_front (4088 * length ns) bytes is.1 ns at.behind refl in
    let tail = chain_on old new (next_of is.0) last (left - 4088) ns fresh is.1 more is.3 rest (λ k page e there. stay k page (in_more k n ns e) there) are
    (subst (λ (l : Bytes). HasWrites (chain_writes (last ∷ fresh) (l ++ more)) new) moved has)
    (subst (λ (l : Bytes). AreEnough (length (last ∷ fresh)) (length (l ++ more))) moved enough) in
    let joined : bytes ++ more ≡ body_of is.0 ++ (is.1 ++ more) = ap (λ (l : Bytes). l ++ more) at.parts ∙ append_assoc (body_of is.0) is.1 more in
    let all : length (bytes ++ more) ≡ 4088 + length (is.1 ++ more) = omega (arith, ap length joined, length-append (body_of is.0) (is.1 ++ more), body_long is.0 is.2.is_there.whole) in
    let full : take (length (bytes ++ more)) (body_of is.0) ≡ body_of is.0 = take_all (length (bytes ++ more)) (body_of is.0) (omega (arith, body_long is.0 is.2.is_there.whole, all)) in (
      is.0,
      is.1 ++ more,
      record {
        is_named = is.2.is_named;
        in_use = is.2.in_use;
        is_there = record { there = stay n is.0 (in_itself n ns) is.2.is_there.there; whole = is.2.is_there.whole };
        some = omega (arith, all);
        parts = joined ∙ ap (λ (l : Bytes). l ++ (is.1 ++ more)) (sym full);
      },
      subst (λ (k : ℕ). IsChain new (next_of is.0) (ns ++ last ∷ fresh) k (is.1 ++ more)) (omega (arith, all)) tail,
    )

-- the last page alone, with the bytes that it had in front
last_link : (old new : Pages) (named last next left : ℕ) (bytes more page end : Bytes) → IsLink old named last left bytes page end → end ≡ [] → left - 4088 ≡ 0 → new last ≡ Some (link_page next (take 4088 (bytes ++ more))) → length bytes ≡ left → IsLink new named last left bytes (link_page next (take 4088 (bytes ++ more))) []
last_link old new named last next left bytes more page end is none fits there long =
    let zeros : Bytes = replicate (4088 - length (take 4088 (bytes ++ more))) 0 in
    let taken : take left (take 4088 (bytes ++ more)) ≡ bytes = take-take left 4088 (bytes ++ more) (omega (arith, fits)) ∙ take_at bytes more left long in
    let size : length (take 4088 (bytes ++ more)) ≡ min 4088 (length (bytes ++ more)) = length-take 4088 (bytes ++ more) in
    let cut : take left (take 4088 (bytes ++ more) ++ zeros) ≡ bytes = take-append-le left (take 4088 (bytes ++ more)) zeros (omega (arith, size, length-append bytes more, long, fits)) ∙ taken in
    record {
      is_named = is.is_named;
      in_use = is.in_use;
      is_there = record { there = there; whole = link_whole next (take 4088 (bytes ++ more)) (short_taken (bytes ++ more)) };
      some = is.some;
      parts = sym (append-nil (take left (body_of (link_page next (take 4088 (bytes ++ more))))) ∙ ap (take left) (link_body next (take 4088 (bytes ++ more))) ∙ cut);
    }

pub last_grows : (old new : Pages) (named last next left : ℕ) (front : List ℕ) (bytes more : Bytes) → IsChain old named (front ++ last ∷ []) left bytes → length bytes ≡ left → Stay front old new → new last ≡ Some (link_page next (take 4088 (drop (4088 * length front) bytes ++ more))) → IsChain new named (front ++ last ∷ []) left bytes
last_grows old new named last next left [] bytes more is long stay there =
    (link_page next (take 4088 (bytes ++ more)), [], last_link old new named last next left bytes more is.0 is.1 is.2 is.3.1 is.3.0 there long, (is.3.0, refl))
last_grows old new named last next left (n ∷ ns) bytes more is long stay there =
    let rest : length is.1 ≡ left - 4088 = (chain_long old (next_of is.0) (left - 4088) (ns ++ last ∷ []) is.1 is.3).0 in
    let some : 0 < left - 4088 = some_behind old (next_of is.0) last (left - 4088) ns is.1 is.3 in
    let at = ahead bytes is.0 is.1 left (4088 * length ns) is.2.is_there.whole is.2.parts long rest some in
    let moved : drop (4088 * suc (length ns)) bytes ≡ drop (4088 * length ns) is.1 = behind_front (4088 * length ns) bytes is.1 ns at.behind refl in (
      is.0,
      is.1,
      record {
        is_named = is.2.is_named;
        in_use = is.2.in_use;
        is_there = record { there = stay n is.0 (in_itself n ns) is.2.is_there.there; whole = is.2.is_there.whole };
        some = is.2.some;
        parts = is.2.parts;
      },
      last_grows old new (next_of is.0) last next (left - 4088) ns is.1 more is.3 rest (λ k page e kept. stay k page (in_more k n ns e) kept)
          (subst (λ (l : Bytes). new last ≡ Some (link_page next (take 4088 (l ++ more)))) moved there),
    )
