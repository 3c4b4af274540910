-- How the numbers that are kept by address change.
use Rattle.std.proofs.Common.{◌≡◌, ◌∙◌, ℕ, ◌+◌, ◌-◌, Bool, true, false, cond, List, Option, Some, None, Ordering, Less, Equal, Greater, refl, sym, ap, nat_cmp, is_eq, true≢false, arith}
use Rattle.std.proofs.lemmas.Map.Lookups.{exact_bytes}
use Rattle.std.specs.Option.{unwrap_or}
use Rattle.std.specs.Cmp.Lexicographic.{slice_cmp, texts_ties}
use Rattle.std.specs.BTreeMap as tree
use Rattle.std.specs.BTreeMap.{BTreeMap, is_at}
use Rattle.world_rules.specs.World.{is_same}
use Rattle.world_rules.specs.Counting.{CountsAs, count_in}

-- ---- addresses that are the same

equal_is : (r : Ordering) → is_eq r ≡ true → r ≡ Equal
equal_is Less e = absurd (true≢false (sym e))
equal_is Equal e = refl
equal_is Greater e = absurd (true≢false (sym e))

pub same_is : (a b : List ℕ) → is_same a b ≡ true → a ≡ b
same_is a b e = exact_bytes a b (equal_is _ (sym (texts_ties a b) ∙ e))

-- ---- one count

counted_step : (b : Bool) (v : ℕ) (old : Option ℕ) → unwrap_or (cond b (Some v) old) 0 ≡ cond b v (unwrap_or old 0)
counted_step true v old = refl
counted_step false v old = refl

none_step : (b : Bool) (v : ℕ) (old : Option ℕ) → 0 ≡ v → unwrap_or (cond b None old) 0 ≡ cond b v (unwrap_or old 0)
none_step true v old e = e
none_step false v old e = refl

pub counts_as : (first : List ℕ) (count value : ℕ) (old new : BTreeMap (List ℕ) ℕ) → ((q : List ℕ) → tree.get (slice_cmp nat_cmp) new q ≡ cond (is_at (slice_cmp nat_cmp first) q) (Some value) (tree.get (slice_cmp nat_cmp) old q))
    → value ≡ count → CountsAs first count old new
counts_as first count value old new updates is key =
    rw (updates key, ← texts_ties first key, is) (counted_step (is_same first key) count (tree.get (slice_cmp nat_cmp) old key))

pub counts_none : (first : List ℕ) (count : ℕ) (old new : BTreeMap (List ℕ) ℕ) → ((q : List ℕ) → tree.get (slice_cmp nat_cmp) new q ≡ cond (is_at (slice_cmp nat_cmp first) q) None (tree.get (slice_cmp nat_cmp) old q))
    → 0 ≡ count → CountsAs first count old new
counts_none first count old new updates is key =
    rw (updates key, ← texts_ties first key) (none_step (is_same first key) count (tree.get (slice_cmp nat_cmp) old key) is)

-- one more, or one less, of what has the address
pub up_step : (first key : List ℕ) (counts : BTreeMap (List ℕ) ℕ) (before : ℕ) (b : Bool) → is_same first key ≡ b → count_in counts key ≡ before → cond b (count_in counts first + 1) (count_in counts key) ≡ before + cond b 1 0
up_step first key counts before true e is = ap (λ k. count_in counts k + 1) (same_is first key e) ∙ ap (λ n. n + 1) is
up_step first key counts before false e is = grind (arith, is)

pub down_step : (first key : List ℕ) (counts : BTreeMap (List ℕ) ℕ) (before after : ℕ) (b : Bool) → is_same first key ≡ b → count_in counts key ≡ before → after + cond b 1 0 ≡ before → cond b (count_in counts first - 1) (count_in counts key) ≡ after
down_step first key counts before after true e is less =
    let there = ap (count_in counts) (same_is first key e) in omega (arith, there, is, less)
down_step first key counts before after false e is less = omega (arith, is, less)
