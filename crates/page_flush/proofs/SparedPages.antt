-- Numbers that are spared, and those that come to them.
use Rattle.std.proofs.Common.{◌≡◌, ℕ, ◌+◌, ◌<◌, Bool, true, false, not, ◌||◌, List, [], ◌∷◌, ◌++◌, length, get_or, take, nat_eq, refl, ap, ◌∙◌, sym, subst}
use Rattle.std.proofs.lemmas.Bool.{or_left, or_right}
use Rattle.std.proofs.lemmas.List.{append_assoc, map-append, take_more}
use Rattle.std.specs.List.{list_any}
use Rattle.std.specs.Ordering.{nat_cmp}
use Rattle.std.specs.BTreeMap.{is_at}
use Rattle.page_chains.specs.Chains.{is_in, PlainChain, pages_in}
use Rattle.page_chains.specs.inside.Walks.{HasOneMore}
use Rattle.page_chains.proofs.Lists.{in_append}
use Rattle.page_chains.proofs.Meeting.{fresh_is}
use Rattle.page_flush.specs.declared.kept_stream.KeptStream.{KeptStream}
use Rattle.page_flush.specs.FlushView.{StreamView, plain_stream, plain_streams, kept_pages, AreKept, AreSpared}
use Rattle.page_flush.specs.inside.Fresh.{HasAlso}

twice : (t : Bool) → not (not t) ≡ t
twice true = refl
twice false = refl

pub has_is : (number : ℕ) (keys : List ℕ) (has : Bool) → has ≡ list_any (is_at (nat_cmp number)) keys → has ≡ is_in number keys
has_is number keys has is = sym (fresh_is number keys (not has) (ap not is) ∙ twice has)

pub also_none : (old : List ℕ) → HasAlso [] old old
also_none old k = refl

regroup_one : (t x y : Bool) → (t || (x || y)) ≡ ((x || (t || false)) || y)
regroup_one true true y = refl
regroup_one true false y = refl
regroup_one false true y = refl
regroup_one false false y = refl

regroup_all : (m x y : Bool) → (m || (x || y)) ≡ ((x || m) || y)
regroup_all true true y = refl
regroup_all true false y = refl
regroup_all false true y = refl
regroup_all false false y = refl

pub also_more : (numbers old mid new : List ℕ) (n : ℕ) → HasAlso numbers old mid → HasOneMore n mid new → HasAlso (numbers ++ n ∷ []) old new
also_more numbers old mid new n first more k =
    more k ∙ ap (λ (t : Bool). nat_eq k n || t) (first k) ∙ regroup_one (nat_eq k n) (is_in k numbers) (is_in k old)
    ∙ ap (λ (t : Bool). t || is_in k old) (sym (in_append k numbers (n ∷ [])))

pub also_all : (numbers more old mid new : List ℕ) → HasAlso numbers old mid → HasAlso more mid new → HasAlso (numbers ++ more) old new
also_all numbers more old mid new first rest k =
    rest k ∙ ap (λ (t : Bool). is_in k more || t) (first k) ∙ regroup_all (is_in k more) (is_in k numbers) (is_in k old)
    ∙ ap (λ (t : Bool). t || is_in k old) (sym (in_append k numbers more))

pub also_keeps : (numbers old new : List ℕ) → HasAlso numbers old new → AreSpared old new
also_keeps numbers old new also k among = also k ∙ or_right (is_in k numbers) (is_in k old) among

pub also_spares : (numbers old new : List ℕ) → HasAlso numbers old new → AreSpared numbers new
also_spares numbers old new also k among = also k ∙ or_left (is_in k numbers) (is_in k old) among

pub spared_then : (a b c : List ℕ) → AreSpared a b → AreSpared b c → AreSpared a c
spared_then a b c first rest k among = rest k (first k among)

pub pages_append : (a b : List StreamView) → kept_pages (a ++ b) ≡ kept_pages a ++ kept_pages b
pages_append [] b = refl
pages_append (s ∷ a) b = ap (λ (l : List ℕ). s.numbers ++ l) (pages_append a b) ∙ sym (append_assoc s.numbers (kept_pages a) (kept_pages b))

-- one number more is spared
pub spares_more : (numbers old mid new : List ℕ) (i n : ℕ) → i < length numbers → n ≡ get_or numbers i 0 → HasAlso (take i numbers) old mid → HasOneMore n mid new → HasAlso (take (i + 1) numbers) old new
spares_more numbers old mid new i n lt at first more =
    subst (λ (l : List ℕ). HasAlso l old new)
    (ap (λ (m : ℕ). take i numbers ++ m ∷ []) at ∙ sym (take_more numbers i 0 lt))
    (also_more (take i numbers) old mid new n first more)

no_more : (l : List ℕ) → l ++ [] ≡ l
no_more [] = refl
no_more (n ∷ l) = ap (λ (m : List ℕ). n ∷ m) (no_more l)

-- the pages of one stream more
pub pages_take : (streams : List KeptStream) (i : ℕ) (stream : KeptStream) → i < length streams → stream ≡ get_or streams i stream → kept_pages (plain_streams (take (i + 1) streams)) ≡ kept_pages (plain_streams (take i streams)) ++ stream.numbers.items
pages_take streams i stream lt at =
    let last : take i streams ++ stream ∷ [] ≡ take (i + 1) streams = ap (λ (s : KeptStream). take i streams ++ s ∷ []) at ∙ sym (take_more streams i stream lt) in
    ap (λ (l : List KeptStream). kept_pages (plain_streams l)) (sym last)
    ∙ ap kept_pages (map-append plain_stream (take i streams) (stream ∷ []))
    ∙ pages_append (plain_streams (take i streams)) (plain_stream stream ∷ [])
    ∙ ap (λ (l : List ℕ). kept_pages (plain_streams (take i streams)) ++ l) (no_more stream.numbers.items)

-- they are spared too
pub streams_more : (streams : List KeptStream) (old mid new numbers : List ℕ) (i : ℕ) (stream : KeptStream) → i < length streams → stream ≡ get_or streams i stream → numbers ≡ stream.numbers.items → HasAlso (kept_pages (plain_streams (take i streams))) old mid → HasAlso numbers mid new
    → HasAlso (kept_pages (plain_streams (take (i + 1) streams))) old new
streams_more streams old mid new numbers i stream lt at are first more =
    let pages : kept_pages (plain_streams (take (i + 1) streams)) ≡ kept_pages (plain_streams (take i streams)) ++ numbers =
    pages_take streams i stream lt at ∙ ap (λ (l : List ℕ). kept_pages (plain_streams (take i streams)) ++ l) (sym are) in
    subst (λ (l : List ℕ). HasAlso l old new) (sym pages) (also_all (kept_pages (plain_streams (take i streams))) numbers old mid new first more)

-- streams that are kept of chains have their pages
pub kept_are : (streams : List StreamView) (chains : List PlainChain) → AreKept streams chains → kept_pages streams ≡ pages_in chains
kept_are [] [] are = refl
kept_are [] (c ∷ cs) are = absurd are
kept_are (s ∷ ss) [] are = absurd are
kept_are (s ∷ ss) (c ∷ cs) are =
    ap (λ (l : List ℕ). l ++ kept_pages ss) are.0.numbers ∙ ap (λ (l : List ℕ). c.numbers ++ l) (kept_are ss cs are.1)
