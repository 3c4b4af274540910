-- What the loops have spelled.
use Rattle.std.proofs.Common.{◌≡◌, ℕ, suc, ◌+◌, ◌-◌, ◌*◌, ◌^◌, ◌<◌, ◌≤◌, min, List, [], ◌∷◌, ◌++◌, length, map, get_or, take, drop, Option, Some, None, refl, ap, ap₂, ◌∙◌, sym, subst, arith}
use Rattle.std.specs.List.{slice_get}
use Rattle.std.specs.Int.{div_ceil}
use Rattle.std.proofs.lemmas.List.{append_assoc, length-append, length-take, map-append, take_more, drop_min}
use Rattle.page_journal.specs.Pages.{Bytes, Writes}
use Rattle.page_chains.specs.declared.chain.Chain.{Chain}
use Rattle.page_chains.specs.declared.start.Start.{Start}
use Rattle.page_chains.specs.Chains.{IsInUse, PlainChain}
use Rattle.page_chains.specs.Reading.{plain_chain, plain_chains}
use Rattle.page_chains.specs.Spelled.{chain_writes, AreInUse}
use Rattle.page_flush.specs.declared.kept_stream.KeptStream.{KeptStream}
use Rattle.page_flush.specs.declared.stream_bytes.StreamBytes.{StreamBytes}
use Rattle.page_flush.specs.FlushView.{StreamView, plain_stream, plain_streams, kept_pages, start_of, IsKept, AreKept}
use Rattle.page_flush.specs.inside.Fresh.{AreChosen}
use Rattle.page_flush.specs.inside.Spells.{written_of, IsSpelled, IsOneSpelled, Between, AreSpelled}
use Rattle.page_flush.proofs.SparedPages.{pages_take}

one_in_use : (numbers : List ℕ) (n : ℕ) → AreInUse numbers → IsInUse n → AreInUse (numbers ++ n ∷ [])
one_in_use [] n are is = (is, tt)
one_in_use (m ∷ ms) n are is = (are.0, one_in_use ms n are.1 is)

pub in_use_more : (numbers : List ℕ) (i n : ℕ) → i < length numbers → n ≡ get_or numbers i 0 → 0 < n → n < 1099511627776 → AreInUse (take i numbers) → AreInUse (take (i + 1) numbers)
in_use_more numbers i n lt at some low are =
    subst AreInUse (ap (λ (m : ℕ). take i numbers ++ m ∷ []) at ∙ sym (take_more numbers i 0 lt)) (one_in_use (take i numbers) n are (record { some = some; low = low }))

-- one stream is spelled, from what it was made of
pub spelled_by : (spared : List ℕ) (from to : ℕ) (had copy numbers written : List ℕ) (bytes last : Bytes) (front count wanted : ℕ) (stream : StreamView) (before after : Writes) → copy ≡ had → front ≡ length had - 1 → wanted ≡ div_ceil (length bytes) 4088 - (length had - front) → AreChosen spared from to wanted copy numbers
    → written ≡ drop (min front (length numbers)) numbers → AreInUse written → after ≡ before ++ chain_writes written bytes → last ≡ drop (4088 * (length written - 1)) bytes → count < 2 ^ 64 → stream.numbers ≡ numbers → stream.count ≡ count → stream.last ≡ last → IsSpelled spared from to had bytes count stream before after
spelled_by spared from to had copy numbers written bytes last front count wanted stream before after same front_is wanted_is chosen cut in_use pages last_is short numbers_is count_is is =
    let whole : numbers ≡ had ++ chosen.fresh = chosen.numbers ∙ ap (λ (l : List ℕ). l ++ chosen.fresh) same in
    let written_is : written ≡ written_of had chosen.fresh = cut ∙ drop_min front numbers ∙ ap₂ (λ (n : ℕ) (l : List ℕ). drop n l) front_is whole in
    record {
      fresh = chosen.fresh;
      are_fresh = chosen.are;
      many = chosen.many ∙ wanted_is ∙ ap (λ (n : ℕ). div_ceil (length bytes) 4088 - (length had - n)) front_is;
      numbers = numbers_is ∙ whole;
      count_is = count_is;
      short = short;
      last = is ∙ last_is ∙ ap (λ (l : List ℕ). drop (4088 * (length l - 1)) bytes) written_is;
      in_use = subst AreInUse written_is in_use;
      pages = pages ∙ ap (λ (l : List ℕ). before ++ chain_writes l bytes) written_is;
    }

one_same : (spared : List ℕ) (from mid to : ℕ) (kept : Option StreamView) (given : StreamBytes) (stream : StreamView) (before middle after : Writes) → mid ≡ from → middle ≡ before → IsOneSpelled spared mid to kept given stream middle after → IsOneSpelled spared from to kept given stream before after
one_same spared from mid to kept given stream before middle after same pages is =
    subst (λ (n : ℕ). IsOneSpelled spared n to kept given stream before after) same (subst (λ (w : Writes). IsOneSpelled spared mid to kept given stream w after) pages is)

spelled_push : (spared : List ℕ) (from mid to : ℕ) (kept : List StreamView) (more : List StreamBytes) (streams : List StreamView) (given : StreamBytes) (stream : StreamView) (before middle after : Writes) → AreSpelled spared from mid kept more streams before middle
    → IsOneSpelled spared mid to (slice_get kept (length more)) given stream middle after → AreSpelled spared from to kept (more ++ given ∷ []) (streams ++ stream ∷ []) before after
spelled_push spared from mid to [] [] [] given stream before middle after are is =
    record { number = to; pages = after; first = one_same spared from mid to None given stream before middle after are.0 are.1 is; rest = (refl, refl) }
spelled_push spared from mid to (k ∷ ks) [] [] given stream before middle after are is =
    record { number = to; pages = after; first = one_same spared from mid to (Some k) given stream before middle after are.0 are.1 is; rest = (refl, refl) }
spelled_push spared from mid to [] [] (s ∷ ss) given stream before middle after are is = absurd are
spelled_push spared from mid to (k ∷ ks) [] (s ∷ ss) given stream before middle after are is = absurd are
spelled_push spared from mid to [] (g ∷ gs) [] given stream before middle after are is = absurd are
spelled_push spared from mid to (k ∷ ks) (g ∷ gs) [] given stream before middle after are is = absurd are
spelled_push spared from mid to [] (g ∷ gs) (s ∷ ss) given stream before middle after are is =
    record { number = are.number; pages = are.pages; first = are.first; rest = spelled_push spared are.number mid to [] gs ss given stream are.pages middle after are.rest is }
spelled_push spared from mid to (k ∷ ks) (g ∷ gs) (s ∷ ss) given stream before middle after are is =
    record { number = are.number; pages = are.pages; first = are.first; rest = spelled_push spared are.number mid to ks gs ss given stream are.pages middle after are.rest is }

pub spelled_more : (spared : List ℕ) (from mid to : ℕ) (kept : List StreamView) (all : List StreamBytes) (i : ℕ) (given : StreamBytes) (streams now : List KeptStream) (stream : KeptStream) (before middle after : Writes) → i < length all → given ≡ get_or all i given → now ≡ streams ++ stream ∷ []
    → AreSpelled spared from mid kept (take i all) (plain_streams streams) before middle → IsOneSpelled spared mid to (slice_get kept i) given (plain_stream stream) middle after → AreSpelled spared from to kept (take (i + 1) all) (plain_streams now) before after
spelled_more spared from mid to kept all i given streams now stream before middle after lt at more are is =
    let place : i ≡ length (take i all) = omega (arith, length-take i all, lt) in
    let last : take i all ++ given ∷ [] ≡ take (i + 1) all = ap (λ (g : StreamBytes). take i all ++ g ∷ []) at ∙ sym (take_more all i given lt) in
    let made : plain_streams streams ++ plain_stream stream ∷ [] ≡ plain_streams now = sym (map-append plain_stream streams (stream ∷ [])) ∙ ap plain_streams (sym more) in
    subst (λ (l : List StreamBytes). AreSpelled spared from to kept l (plain_streams now) before after) last
    (subst (λ (l : List StreamView). AreSpelled spared from to kept (take i all ++ given ∷ []) l before after) made
    (spelled_push spared from mid to kept (take i all) (plain_streams streams) given (plain_stream stream) before middle after are
    (subst (λ (n : ℕ). IsOneSpelled spared mid to (slice_get kept n) given (plain_stream stream) middle after) place is)))

pub spelled_none : (spared : List ℕ) (from : ℕ) (kept : List StreamView) (streams : List KeptStream) (pages : Writes) → streams ≡ [] → AreSpelled spared from from kept [] (plain_streams streams) pages pages
spelled_none spared from kept streams pages none = subst (λ (l : List StreamView). AreSpelled spared from from kept [] l pages pages) (ap plain_streams (sym none)) (refl, refl)

-- one start more
pub starts_more : (streams : List KeptStream) (i : ℕ) (stream : KeptStream) (starts : List Start) (start : Start) → i < length streams → stream ≡ get_or streams i stream → starts ≡ map start_of (plain_streams (take i streams)) → start ≡ start_of (plain_stream stream) → starts ++ start ∷ [] ≡ map start_of (plain_streams (take (i + 1) streams))
starts_more streams i stream starts start lt at are is =
    let last : take i streams ++ stream ∷ [] ≡ take (i + 1) streams = ap (λ (s : KeptStream). take i streams ++ s ∷ []) at ∙ sym (take_more streams i stream lt) in
    ap₂ (λ (l : List Start) (s : Start). l ++ s ∷ []) are is
    ∙ sym (map-append start_of (plain_streams (take i streams)) (plain_stream stream ∷ []))
    ∙ ap (map start_of) (sym (map-append plain_stream (take i streams) (stream ∷ [])))
    ∙ ap (λ (l : List KeptStream). map start_of (plain_streams l)) last

-- the pages of one stream more are in use
pub used_more : (streams : List KeptStream) (i : ℕ) (stream : KeptStream) (used now count : ℕ) → i < length streams → stream ≡ get_or streams i stream → used ≡ min (length (kept_pages (plain_streams (take i streams))) + 1) (2 ^ 64 - 1) → count ≡ length stream.numbers.items → now ≡ min (used + count) (2 ^ 64 - 1)
    → now ≡ min (length (kept_pages (plain_streams (take (i + 1) streams))) + 1) (2 ^ 64 - 1)
used_more streams i stream used now count lt at was many is =
    omega (arith, is, was, many, ap length (pages_take streams i stream lt at), length-append (kept_pages (plain_streams (take i streams))) stream.numbers.items)

one_kept : (streams : List StreamView) (chains : List PlainChain) (stream : StreamView) (chain : PlainChain) → AreKept streams chains → IsKept stream chain → AreKept (streams ++ stream ∷ []) (chains ++ chain ∷ [])
one_kept [] [] stream chain are is = (is, tt)
one_kept [] (c ∷ cs) stream chain are is = absurd are
one_kept (s ∷ ss) [] stream chain are is = absurd are
one_kept (s ∷ ss) (c ∷ cs) stream chain are is = (are.0, one_kept ss cs stream chain are.1 is)

pub kept_none : (streams : List KeptStream) → streams ≡ [] → AreKept (plain_streams streams) []
kept_none streams none = subst (λ (l : List KeptStream). AreKept (plain_streams l) []) (sym none) tt

-- one chain more is kept
pub kept_more : (chains : List Chain) (i : ℕ) (chain : Chain) (streams now : List KeptStream) (stream : KeptStream) → i < length chains → chain ≡ get_or chains i chain → now ≡ streams ++ stream ∷ [] → AreKept (plain_streams streams) (plain_chains (take i chains)) → IsKept (plain_stream stream) (plain_chain chain)
    → AreKept (plain_streams now) (plain_chains (take (i + 1) chains))
kept_more chains i chain streams now stream lt at more are is =
    let last : take i chains ++ chain ∷ [] ≡ take (i + 1) chains = ap (λ (c : Chain). take i chains ++ c ∷ []) at ∙ sym (take_more chains i chain lt) in
    subst (λ (l : List StreamView). AreKept l (plain_chains (take (i + 1) chains))) (sym (map-append plain_stream streams (stream ∷ [])) ∙ ap plain_streams (sym more))
    (subst (λ (l : List PlainChain). AreKept (plain_streams streams ++ plain_stream stream ∷ []) l) (sym (map-append plain_chain (take i chains) (chain ∷ [])) ∙ ap plain_chains last)
    (one_kept (plain_streams streams) (plain_chains (take i chains)) (plain_stream stream) (plain_chain chain) are is))
