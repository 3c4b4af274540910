-- How one stream is planned.
use Rattle.std.proofs.Common.{◌≡◌, ◌⊎◌, inl, inr, ⊎_elim, ℕ, ◌+◌, ◌-◌, ◌*◌, ◌^◌, ◌<◌, ◌≤◌, Bool, true, false, List, [], ◌∷◌, ◌++◌, length, map, drop, refl, ap, ap₂, ◌∙◌, sym, subst, arith}
use Rattle.std.specs.List.{AllByRecursion}
use Rattle.std.specs.Int.{div_ceil}
use Rattle.std.proofs.Math.Seq.{drop-append_seam}
use Rattle.std.proofs.lemmas.Bool.{false≢true}
use Rattle.std.proofs.lemmas.List.{append_assoc, length-append, length-drop, drop-append-le, drop-drop, drop_all}
use Rattle.page_journal.specs.Pages.{Bytes, PageBytes, Writes}
use Rattle.page_chains.specs.declared.start.Start.{Start}
use Rattle.page_chains.specs.Chains.{is_in, AreDistinct, AreEnough, PlainChain}
use Rattle.page_chains.specs.Spelled.{first_page, chain_writes, AreInUse}
use Rattle.page_saves.specs.Plans.{numbers_of, Grows, Plan, Anew as WrittenAnew, GoesOn, plan_chain, plan_writes, plan_start, IsPlanned, GoesOnFrom}
use Rattle.page_flush.specs.declared.stream_bytes.StreamBytes.{StreamBytes}
use Rattle.page_flush.specs.declared.stream_bytes.StreamBytes.TheVariants.{Anew, More}
use Rattle.page_flush.specs.FlushView.{StreamView, IsKept, start_of}
use Rattle.page_flush.specs.Saving.{stream_after}
use Rattle.page_flush.specs.inside.Fresh.{AreFresh}
use Rattle.page_flush.specs.inside.Spells.{written_of, IsSpelled}

pub numbers_written : (numbers : List ℕ) (bytes : Bytes) → numbers_of (chain_writes numbers bytes) ≡ numbers
numbers_written [] bytes = refl
numbers_written (n ∷ ns) bytes = ap (λ (x : List ℕ). n ∷ x) (numbers_written ns (drop 4088 bytes))

first_small : (numbers : List ℕ) → AreInUse numbers → first_page numbers < 2 ^ 64
first_small [] are = omega arith
first_small (n ∷ ns) are = omega (arith, are.0.low)

enough_pages : (count bytes : ℕ) → count ≡ div_ceil bytes 4088 → AreEnough count bytes
enough_pages count bytes is = record { hold = omega (arith, is); no_more = omega (arith, is) }

-- a page of this stream alone that may be written beside what a header names
pub record IsBesideOne (spared : List ℕ) (chain : PlainChain) (write : PageBytes) : Type 0 where
  pub some : 0 < write.number
  pub apart : (is_in write.number spared ≡ false) ⊎ Grows chain write

fresh_beside : (spared : List ℕ) (chain : PlainChain) (from to : ℕ) (fresh : List ℕ) (bytes : Bytes) → 1 ≤ from → AreFresh spared from to fresh → AllByRecursion (IsBesideOne spared chain) (chain_writes fresh bytes)
fresh_beside spared chain from to [] bytes low are = tt
fresh_beside spared chain from to (n ∷ ns) bytes low are =
    let some : 0 < n = omega (arith, low, are.0.behind) in
    let next : 1 ≤ n + 1 = omega arith in
    (record { some = some; apart = inl are.0.apart }, fresh_beside spared chain (n + 1) to ns (drop 4088 bytes) next are.1)

-- One stream is planned so: its plan is one, has the bytes and the start, and what is kept of it; the pages of its chain are
-- some that it had, and fresh ones; and those that are written stand at its end.
pub record Head (spared : List ℕ) (from to : ℕ) (chain : PlainChain) (given : StreamBytes) (stream : StreamView) (before after : Writes) (plan : Plan) : Type 0 where
  pub planned : IsPlanned plan
  pub goes_on : GoesOnFrom chain plan
  pub pages : after ≡ before ++ plan_writes plan
  pub bytes : (plan_chain plan).bytes ≡ stream_after chain.bytes given
  pub start : plan_start plan ≡ start_of stream
  pub kept : IsKept stream (plan_chain plan)
  pub had : List ℕ
  pub fresh : List ℕ
  pub fresh_are : AreFresh spared from to fresh
  pub had_are : (k : ℕ) → is_in k had ≡ true → is_in k chain.numbers ≡ true
  pub had_distinct : AreDistinct chain.numbers → AreDistinct had
  pub numbers : (plan_chain plan).numbers ≡ had ++ fresh
  pub front : List ℕ
  pub written : (plan_chain plan).numbers ≡ front ++ numbers_of (plan_writes plan)
  pub beside : AllByRecursion (IsBesideOne spared chain) (plan_writes plan)

abbrev started : List ℕ → ℕ → Start
started numbers count = record { first = first_page numbers; count = count }

same_start : (numbers others : List ℕ) (count other : ℕ) → numbers ≡ others → count ≡ other → started numbers count ≡ started others other
same_start numbers others count other same long = ap₂ started same long

-- a stream that is written anew
pub anew_head : (spared : List ℕ) (from to : ℕ) (chain : PlainChain) (given : StreamBytes) (stream : StreamView) (before after : Writes) (bytes : Bytes) → 1 ≤ from → stream_after chain.bytes given ≡ bytes
    → (s : IsSpelled spared from to [] bytes (length bytes) stream before after) → Head spared from to chain given stream before after (WrittenAnew s.fresh bytes)
anew_head spared from to chain given stream before after bytes low is s =
    let many : length s.fresh ≡ div_ceil (length bytes) 4088 = omega (arith, s.many) in
    record {
      planned = record {
        first = first_small s.fresh s.in_use;
        count = s.short;
        fresh = subst AreInUse (sym (numbers_written s.fresh bytes)) s.in_use;
        enough = enough_pages (length s.fresh) (length bytes) many;
      };
      goes_on = tt;
      pages = s.pages;
      bytes = sym is;
      start = same_start s.fresh stream.numbers (length bytes) stream.count (sym s.numbers) (sym s.count_is);
      kept = record { numbers = s.numbers; count = s.count_is; last = s.last };
      had = [];
      fresh = s.fresh;
      fresh_are = s.are_fresh;
      had_are = λ k among. absurd (false≢true among);
      had_distinct = λ distinct. tt;
      numbers = refl;
      front = [];
      written = sym (numbers_written s.fresh bytes);
      beside = fresh_beside spared chain from to s.fresh bytes low s.are_fresh;
    }

-- a chain as it stands: as many pages as its stream needs, which are in use
pub record IsWholeChain (chain : PlainChain) : Type 0 where
  pub enough : AreEnough (length chain.numbers) (length chain.bytes)
  pub in_use : AreInUse chain.numbers

record Split (numbers : List ℕ) : Type 0 where
  pub front : List ℕ
  pub last : ℕ
  pub parts : numbers ≡ front ++ last ∷ []

split : (n : ℕ) (ns : List ℕ) → Split (n ∷ ns)
split n [] = record { front = []; last = n; parts = refl }
split n (m ∷ ms) = let rest = split m ms in record { front = n ∷ rest.front; last = rest.last; parts = ap (λ (l : List ℕ). n ∷ l) rest.parts }

one_less : (front : List ℕ) (last : ℕ) → length (front ++ last ∷ []) - 1 ≡ length front
one_less front last = omega (arith, length-append front (last ∷ []))

written_split : (front : List ℕ) (last : ℕ) (fresh : List ℕ) → written_of (front ++ last ∷ []) fresh ≡ last ∷ fresh
written_split front last fresh =
    ap₂ (λ (n : ℕ) (l : List ℕ). drop n l) (one_less front last) (append_assoc front (last ∷ []) fresh) ∙ drop-append_seam front (last ∷ fresh)

first_stays : (front : List ℕ) (last : ℕ) (fresh : List ℕ) → AreInUse (front ++ last ∷ []) → first_page (front ++ last ∷ fresh) < 2 ^ 64
first_stays [] last fresh are = omega (arith, are.0.low)
first_stays (n ∷ front) last fresh are = omega (arith, are.0.low)

last_some : (front : List ℕ) (last : ℕ) → AreInUse (front ++ last ∷ []) → 0 < last
last_some [] last are = are.0.some
last_some (n ∷ front) last are = last_some front last are.1

-- the sizes of a stream that goes on
record Sizes (front fresh had more tail : ℕ) : Type 0 where
  pub enough : AreEnough (front + (fresh + 1)) (had + more)
  pub full : 4088 * front ≤ had

sizes : (front fresh had more tail : ℕ) → AreEnough (front + 1) had → tail ≡ (had - 4088 * front) + more → fresh ≡ div_ceil tail 4088 - 1 → Sizes front fresh had more tail
sizes front fresh had more tail enough is many =
    let full : 4088 * front < had = omega (arith, enough.no_more) in
    let some : 0 < tail = omega (arith, is, full) in
    let pages : AreEnough (div_ceil tail 4088) tail = enough_pages (div_ceil tail 4088) tail refl in
    let wanted : fresh + 1 ≡ div_ceil tail 4088 = omega (arith, pages.hold, some, many) in
    let hold : tail ≤ 4088 * (fresh + 1) = omega (arith, pages.hold, wanted) in
    let no_more : 4088 * (fresh + 1) < tail + 4088 = omega (arith, pages.no_more, wanted) in
    record {
      enough = record { hold = omega (arith, hold, is, full); no_more = omega (arith, no_more, is, full) };
      full = omega (arith, full);
    }

last_behind : (front fresh : List ℕ) (last : ℕ) (had more : Bytes) → 4088 * length front ≤ length had
    → drop (4088 * (length (last ∷ fresh) - 1)) (drop (4088 * length front) had ++ more) ≡ drop (4088 * (length (front ++ last ∷ fresh) - 1)) (had ++ more)
last_behind front fresh last had more full =
    let count : 4088 * length front + 4088 * (length (last ∷ fresh) - 1) ≡ 4088 * (length (front ++ last ∷ fresh) - 1) = omega (arith, length-append front (last ∷ fresh)) in
    ap (λ (l : Bytes). drop (4088 * (length (last ∷ fresh) - 1)) l) (sym (drop-append-le (4088 * length front) had more full))
    ∙ drop-drop (4088 * (length (last ∷ fresh) - 1)) (4088 * length front) (had ++ more)
    ∙ ap (λ (n : ℕ). drop n (had ++ more)) count

-- a stream that goes on from its last page, over plain lists
on_head : (spared : List ℕ) (from to : ℕ) (chain : PlainChain) (given : Bytes) (bytes : StreamBytes) (stream : StreamView) (before after : Writes) (front : List ℕ) (last : ℕ) → 1 ≤ from → stream_after chain.bytes bytes ≡ chain.bytes ++ given → chain.numbers ≡ front ++ last ∷ []
    → AreEnough (length (front ++ last ∷ [])) (length chain.bytes) → AreInUse (front ++ last ∷ [])
    → (s : IsSpelled spared from to (front ++ last ∷ []) (drop (4088 * length front) chain.bytes ++ given) (length chain.bytes + length given) stream before after)
    → Head spared from to chain bytes stream before after (GoesOn front last s.fresh chain.bytes given)
on_head spared from to chain given bytes stream before after front last low is parts enough in_use s =
    let had : Bytes = chain.bytes in
    let tail : Bytes = drop (4088 * length front) had ++ given in
    let old : length (front ++ last ∷ []) ≡ length front + 1 = length-append front (last ∷ []) in
    let own : length (front ++ last ∷ []) - (length (front ++ last ∷ []) - 1) ≡ 1 = omega (arith, old) in
    let many : length s.fresh ≡ div_ceil (length tail) 4088 - 1 = s.many ∙ ap (λ (n : ℕ). div_ceil (length tail) 4088 - n) own in
    let long : length tail ≡ (length had - 4088 * length front) + length given = length-append (drop (4088 * length front) had) given ∙ ap (λ (n : ℕ). n + length given) (length-drop (4088 * length front) had) in
    let size = sizes (length front) (length s.fresh) (length had) (length given) (length tail) (subst (λ (n : ℕ). AreEnough n (length had)) old enough) long many in
    let written = written_split front last s.fresh in
    let numbers : stream.numbers ≡ front ++ last ∷ s.fresh = s.numbers ∙ append_assoc front (last ∷ []) s.fresh in
    let whole : length (had ++ given) ≡ length had + length given = length-append had given in
    let all : length (front ++ last ∷ s.fresh) ≡ length front + (length s.fresh + 1) = omega (arith, length-append front (last ∷ s.fresh)) in
    let count : stream.count ≡ length (had ++ given) = s.count_is ∙ sym whole in
    record {
      planned = record {
        first = first_stays front last s.fresh in_use;
        count = omega (arith, s.short, whole);
        fresh = subst AreInUse (written ∙ sym (numbers_written (last ∷ s.fresh) tail)) s.in_use;
        enough = subst (λ (n : ℕ). AreEnough (length (front ++ last ∷ s.fresh)) n) (sym whole) (subst (λ (n : ℕ). AreEnough n (length had + length given)) (sym all) size.enough);
      };
      goes_on = (parts, refl);
      pages = s.pages ∙ ap (λ (ns : List ℕ). before ++ chain_writes ns tail) written;
      bytes = sym is;
      start = same_start (front ++ last ∷ s.fresh) stream.numbers (length (had ++ given)) stream.count (sym numbers) (sym count);
      kept = record {
        numbers = numbers;
        count = count;
        last = s.last ∙ ap (λ (ns : List ℕ). drop (4088 * (length ns - 1)) tail) written ∙ last_behind front s.fresh last had given size.full;
      };
      had = front ++ last ∷ [];
      fresh = s.fresh;
      fresh_are = s.are_fresh;
      had_are = λ k among. ap (is_in k) parts ∙ among;
      had_distinct = λ distinct. subst AreDistinct parts distinct;
      numbers = sym (append_assoc front (last ∷ []) s.fresh);
      front = front;
      written = ap (λ (l : List ℕ). front ++ l) (sym (numbers_written (last ∷ s.fresh) tail));
      beside = (
        record {
          some = last_some front last in_use;
          apart = inr record { front = front; next = first_page s.fresh; more = given; numbers = parts; bytes = refl };
        },
        fresh_beside spared chain from to s.fresh (drop 4088 tail) low s.are_fresh,
      );
    }

-- a plan, with what it is
pub record Planned (spared : List ℕ) (from to : ℕ) (chain : PlainChain) (given : StreamBytes) (stream : StreamView) (before after : Writes) : Type 0 where
  pub plan : Plan
  pub head : Head spared from to chain given stream before after plan

spelled_as : (spared : List ℕ) (from to : ℕ) (had others : List ℕ) (bytes same : Bytes) (count long : ℕ) (stream : StreamView) (before after : Writes) → had ≡ others → bytes ≡ same → count ≡ long → IsSpelled spared from to had bytes count stream before after → IsSpelled spared from to others same long stream before after
spelled_as spared from to had others bytes same count long stream before after one two three s =
    subst (λ (n : ℕ). IsSpelled spared from to others same n stream before after) three
    (subst (λ (b : Bytes). IsSpelled spared from to others b count stream before after) two
    (subst (λ (l : List ℕ). IsSpelled spared from to l bytes count stream before after) one s))

none_left : (bytes : Bytes) → length bytes ≤ 0 → bytes ≡ []
none_left [] none = refl
none_left (b ∷ bs) none = absurd (omega (arith, none))

drop_none : (n : ℕ) (l : Bytes) → l ≡ [] → drop n l ≡ []
drop_none n l none = drop_all n l (omega (arith, ap length none))

more_by : (spared : List ℕ) (from to : ℕ) (kept : StreamView) (chain : PlainChain) (bytes : StreamBytes) (given : Bytes) (stream : StreamView) (before after : Writes) → 1 ≤ from → stream_after chain.bytes bytes ≡ chain.bytes ++ given → IsKept kept chain → IsWholeChain chain
    → IsSpelled spared from to kept.numbers (kept.last ++ given) (kept.count + length given) stream before after
    → (numbers : List ℕ) → chain.numbers ≡ numbers → Planned spared from to chain bytes stream before after
more_by spared from to kept chain bytes given stream before after low is are whole s [] none =
    let empty : length chain.bytes ≤ 0 = omega (arith, whole.enough.hold, ap length none) in
    let nothing : chain.bytes ≡ [] = none_left chain.bytes empty in
    let last : kept.last ≡ [] = are.last ∙ drop_none (4088 * (length chain.numbers - 1)) chain.bytes nothing in
    let count : kept.count + length given ≡ length given = omega (arith, are.count, empty) in
    let anew = spelled_as spared from to kept.numbers [] (kept.last ++ given) given (kept.count + length given) (length given) stream before after (are.numbers ∙ none) (ap (λ (l : Bytes). l ++ given) last) count s in
    record { plan = WrittenAnew anew.fresh given; head = anew_head spared from to chain bytes stream before after given low (is ∙ ap (λ (l : Bytes). l ++ given) nothing) anew }
more_by spared from to kept chain bytes given stream before after low is are whole s (n ∷ ns) some =
    let parts = split n ns in
    let numbers : chain.numbers ≡ parts.front ++ parts.last ∷ [] = some ∙ parts.parts in
    let last : kept.last ≡ drop (4088 * length parts.front) chain.bytes =
    are.last ∙ ap (λ (l : List ℕ). drop (4088 * (length l - 1)) chain.bytes) numbers ∙ ap (λ (k : ℕ). drop (4088 * k) chain.bytes) (one_less parts.front parts.last) in
    let on = spelled_as spared from to kept.numbers (parts.front ++ parts.last ∷ []) (kept.last ++ given) (drop (4088 * length parts.front) chain.bytes ++ given) (kept.count + length given) (length chain.bytes + length given) stream before after (are.numbers ∙ numbers) (ap (λ (l : Bytes). l ++ given) last) (ap (λ (k : ℕ). k + length given) are.count) s in
    record {
      plan = GoesOn parts.front parts.last on.fresh chain.bytes given;
      head = on_head spared from to chain given bytes stream before after parts.front parts.last low is numbers
          (subst (λ (l : List ℕ). AreEnough (length l) (length chain.bytes)) numbers whole.enough) (subst AreInUse numbers whole.in_use) on;
    }

-- a stream that goes on from what is kept of it
pub more_head : (spared : List ℕ) (from to : ℕ) (kept : StreamView) (chain : PlainChain) (bytes : StreamBytes) (given : Bytes) (stream : StreamView) (before after : Writes) → 1 ≤ from → stream_after chain.bytes bytes ≡ chain.bytes ++ given → IsKept kept chain → IsWholeChain chain
    → IsSpelled spared from to kept.numbers (kept.last ++ given) (kept.count + length given) stream before after → Planned spared from to chain bytes stream before after
more_head spared from to kept chain bytes given stream before after low is are whole s = more_by spared from to kept chain bytes given stream before after low is are whole s chain.numbers refl

-- a stream that is given whole
pub whole_head : (spared : List ℕ) (from to : ℕ) (chain : PlainChain) (given : StreamBytes) (stream : StreamView) (before after : Writes) (bytes : Bytes) → 1 ≤ from → stream_after chain.bytes given ≡ bytes
    → IsSpelled spared from to [] bytes (length bytes) stream before after → Planned spared from to chain given stream before after
whole_head spared from to chain given stream before after bytes low is s = record { plan = WrittenAnew s.fresh bytes; head = anew_head spared from to chain given stream before after bytes low is s }
