-- Intervals of positions.
use Rattle.std.proofs.Common.{◌≡◌, ℕ, ◌+◌, ◌<◌, ◌≤◌, ◌∙◌, ◌&&◌, ◌||◌, ◌++◌, ◌∷◌, [], Bool, List, length, take, not, true, false, ap, sym, refl, subst, arith, All, get_or, inl, inr}
use Rattle.std.specs.Prelude.{nat_le, nat_lt, ◌⊎◌}
use Rattle.std.specs.List.{list_any}
use Rattle.std.specs.List.Sorted.{IsPermutation, IsNonDecreasingBy}
use Rattle.std.specs.declared.cmp.Ordering.{Ordering}
use Rattle.std.specs.declared.cmp.Ordering.TheVariants.{Less, Equal, Greater}
use Rattle.std.specs.Ordering.{nat_cmp, is_le, is_lt, ordering_reverse}
use Rattle.std.specs.Cmp.Lexicographic.{slice_cmp, nat_list_cmp_total}
use Rattle.std.proofs.lemmas.Bool.Decides.{nat_tests}
use Rattle.std.proofs.lemmas.List.{take_all}
use Rattle.std.proofs.lemmas.List.Elements.{All-push, All-nil, Contains-get_or}
use Rattle.std.proofs.lemmas.List.Folds.{list_any-append, list_any_more}
use Rattle.std.proofs.lemmas.List.Quantifiers.{all_pairs_push}
use Rattle.std.proofs.lemmas.List.Sorted.{list_any-IsPermutation}
use Rattle.tumbler.specs.declared.span.Span.{Span}
use Rattle.tumbler.specs.Span.{end_of}
use Rattle.tumbler.specs.Places.{comes_before}
use Rattle.tumbler.proofs.OrLaws.{or_none}
use Rattle.world_rules.proofs.Later.{none_later}
use Rattle.poom.specs.Bounds.{IsBound}
use Rattle.poom_compare.specs.declared.positions.Interval.{Interval}
use Rattle.poom_compare.specs.Placed.{is_in, is_in_some, is_picked_at, is_picked_at_by, IsIntervalOf, IsInterval, AreApart}
use Rattle.poom_compare.proofs.Lists.{here, pairs_front, pairs_across, all_front, all_last, same_at}

-- ---- what one span picks

le_or_before : (a b : List ℕ) → is_le (slice_cmp nat_cmp a b) ≡ not (comes_before b a)
le_or_before a b = ap is_le (nat_list_cmp_total.antisymm a b) ∙ reversed (slice_cmp nat_cmp b a)
  where
    reversed : (o : Ordering) → is_le (ordering_reverse o) ≡ not (is_lt o)
    reversed Less = refl
    reversed Equal = refl
    reversed Greater = refl

le_yes : (a b : ℕ) → a ≤ b → nat_le a b ≡ true
le_yes a b l = grind (arith, nat_tests)

le_no : (a b : ℕ) → b < a → nat_le a b ≡ false
le_no a b l = grind (arith, nat_tests)

lt_yes : (a b : ℕ) → a < b → nat_lt a b ≡ true
lt_yes a b l = grind (arith, nat_tests)

lt_no : (a b : ℕ) → b ≤ a → nat_lt a b ≡ false
lt_no a b l = grind (arith, nat_tests)

below_or_not : (a b : ℕ) → (a < b) ⊎ (b ≤ a)
below_or_not a b = grind arith

past_bound : (place : List ℕ) (long bound n : ℕ) → IsBound 1 place long bound → 1 ≤ n → n ≤ long → nat_le bound n ≡ not (comes_before (1 ∷ n ∷ []) place)
past_bound place long bound n is one le = go (below_or_not n bound)
  where
    go : (n < bound) ⊎ (bound ≤ n) → nat_le bound n ≡ not (comes_before (1 ∷ n ∷ []) place)
    go (inl lt) = le_no bound n lt ∙ sym (ap not (is.before n one lt))
    go (inr ge) = le_yes bound n ge ∙ sym (ap not (is.past n ge le))

before_bound : (place : List ℕ) (long bound n : ℕ) → IsBound 1 place long bound → 1 ≤ n → n ≤ long → nat_lt n bound ≡ comes_before (1 ∷ n ∷ []) place
before_bound place long bound n is one le = go (below_or_not n bound)
  where
    go : (n < bound) ⊎ (bound ≤ n) → nat_lt n bound ≡ comes_before (1 ∷ n ∷ []) place
    go (inl lt) = lt_yes n bound lt ∙ sym (is.before n one lt)
    go (inr ge) = lt_no n bound ge ∙ sym (is.past n ge le)

pub interval_is : (span : Span) (end : List ℕ) (long from to : ℕ) → end ≡ end_of span → IsBound 1 span.start long from → IsBound 1 end long to → IsIntervalOf long span (record { from = from; to = to })
interval_is span end long from to is start_bound end_bound = record {
  from_one = start_bound.from_one;
  to_end = end_bound.to_end;
  same = λ n one le.
      (λ i. past_bound span.start long from n start_bound one le i && before_bound end long to n end_bound one le i)
      ∙ (λ i. sym (le_or_before span.start (1 ∷ n ∷ [])) i && comes_before (1 ∷ n ∷ []) (is i));
}

-- ---- what each picks

abbrev pub PicksSame : ℕ → List Interval → List Span → Type 0
PicksSame long intervals spans = (n : ℕ) → 1 ≤ n → n ≤ long → is_in_some intervals n ≡ is_picked_at_by spans n

pub picks_none : (long : ℕ) → PicksSame long [] []
picks_none long n one le = refl

pub picks_more : (long : ℕ) (spans : List Span) (k m : ℕ) (span : Span) (interval : Interval) (now new : List Interval) → PicksSame long now (take k spans) → k < length spans → span ≡ get_or spans k span → IsIntervalOf long span interval → new ≡ now ++ interval ∷ [] → m ≡ k + 1
    → PicksSame long new (take m spans)
picks_more long spans k m span interval now new picks lt is of pushed next n one le =
    ap (λ (l : List Interval). is_in_some l n) pushed
    ∙ (list_any-append (is_in n) now (interval ∷ [])
    ∙ ((λ i. picks n one le i || sym (or_none (is_in n interval)) i)
    ∙ ((λ i. is_picked_at_by (take k spans) n || (of.same n one le ∙ ap (is_picked_at n) is) i)
    ∙ (sym (list_any_more (is_picked_at n) spans k span lt) ∙ ap (λ (j : ℕ). is_picked_at_by (take j spans) n) (sym next)))))

nothing_in : (interval : Interval) → interval.to ≤ interval.from → (n : ℕ) → is_in n interval ≡ false
nothing_in interval le n = none interval.from interval.to n le
  where
    none : (a b m : ℕ) → b ≤ a → (nat_le a m && nat_lt m b) ≡ false
    none a b m l = grind (arith, nat_tests)

pub picks_no_more : (long : ℕ) (spans : List Span) (k m : ℕ) (span : Span) (interval : Interval) (now : List Interval) → PicksSame long now (take k spans) → k < length spans → span ≡ get_or spans k span → IsIntervalOf long span interval → interval.to ≤ interval.from → m ≡ k + 1
    → PicksSame long now (take m spans)
picks_no_more long spans k m span interval now picks lt is of none next n one le =
    let not_picked : is_picked_at n (get_or spans k span) ≡ false = sym (of.same n one le ∙ ap (is_picked_at n) is) ∙ nothing_in interval none n in
    picks n one le
    ∙ (or_none (is_picked_at_by (take k spans) n)
    ∙ ((λ i. is_picked_at_by (take k spans) n || sym not_picked i)
    ∙ (sym (list_any_more (is_picked_at n) spans k span lt) ∙ ap (λ (j : ℕ). is_picked_at_by (take j spans) n) (sym next))))

pub some_interval : (long : ℕ) (span : Span) (interval : Interval) → IsIntervalOf long span interval → interval.from < interval.to → IsInterval long interval
some_interval long span interval of some = record { from_one = of.from_one; some = some; to_end = of.to_end }

pub picks_all : (long : ℕ) (spans : List Span) (k : ℕ) (now : List Interval) → length spans ≤ k → PicksSame long now (take k spans) → PicksSame long now spans
picks_all long spans k now le picks = subst (PicksSame long now) (take_all k spans le) picks

-- ---- one more interval

abbrev Gap : Interval → Interval → Type 0
Gap a b = a.to < b.from

abbrev pub NotBehind : ℕ → Interval → Type 0
NotBehind from before = before.from ≤ from

-- the last one made longer
pub longer_apart : (xs : List Interval) (last longer : Interval) → AreApart (xs ++ last ∷ []) → longer.from ≡ last.from → AreApart (xs ++ longer ∷ [])
longer_apart xs last longer apart same =
    all_pairs_push Gap xs longer (pairs_front Gap xs (last ∷ []) apart)
    (λ k d lt. let gap = pairs_across Gap xs (last ∷ []) apart (get_or xs k d) last (Contains-get_or xs k d lt) (here last []) in omega arith)

pub longer_behind : (xs : List Interval) (last longer : Interval) (from : ℕ) → All (NotBehind from) (xs ++ last ∷ []) → longer.from ≡ last.from → All (NotBehind from) (xs ++ longer ∷ [])
longer_behind xs last longer from each same =
    let le : last.from ≤ from = all_last (NotBehind from) xs last each in
    All-push (NotBehind from) xs longer (all_front (NotBehind from) xs (last ∷ []) each) (omega arith)

pub longer_each : (long : ℕ) (xs : List Interval) (last interval : Interval) (to : ℕ) → All (IsInterval long) (xs ++ last ∷ []) → IsInterval long interval → last.to ≤ to → (to ≡ last.to) ⊎ (to ≡ interval.to)
    → All (IsInterval long) (xs ++ record { from = last.from; to = to } ∷ [])
longer_each long xs last interval to each right le which =
    let is : IsInterval long last = all_last (IsInterval long) xs last each in
    let some = is.some in
    All-push (IsInterval long) xs (record { from = last.from; to = to }) (all_front (IsInterval long) xs (last ∷ []) each)
    (record { from_one = is.from_one; some = omega arith; to_end = go which })
  where
    go : (to ≡ last.to) ⊎ (to ≡ interval.to) → to ≤ long + 1
    go (inl e) = let end = (all_last (IsInterval long) xs last each).to_end in omega arith
    go (inr e) = let end = right.to_end in omega arith

joined_in : (a b p q m n : ℕ) → a < b → p < q → a ≤ p → p ≤ b → b ≤ m → q ≤ m → (m ≡ b) ⊎ (m ≡ q) → (nat_le a n && nat_lt n m) ≡ ((nat_le a n && nat_lt n b) || (nat_le p n && nat_lt n q))
joined_in a b p q m n ab pq ap' pb bm qm which = grind (arith, nat_tests)

pub longer_same : (xs : List Interval) (last interval : Interval) (to : ℕ) → last.from < last.to → interval.from < interval.to → last.from ≤ interval.from → interval.from ≤ last.to → last.to ≤ to → interval.to ≤ to → (to ≡ last.to) ⊎ (to ≡ interval.to) → (n : ℕ)
    → is_in_some (xs ++ record { from = last.from; to = to } ∷ []) n ≡ list_any (is_in n) ((xs ++ last ∷ []) ++ interval ∷ [])
longer_same xs last interval to some some' before touch le le' which n =
    list_any-append (is_in n) xs (record { from = last.from; to = to } ∷ [])
    ∙ ((λ i. is_in_some xs n || (joined_in last.from last.to interval.from interval.to to n some some' before touch le le' which i || false))
    ∙ (shift (is_in_some xs n) (is_in n last) (is_in n interval)
    ∙ sym (list_any-append (is_in n) (xs ++ last ∷ []) (interval ∷ []) ∙ (λ i. list_any-append (is_in n) xs (last ∷ []) i || (is_in n interval || false)))))
  where
    shift : (a b d : Bool) → (a || ((b || d) || false)) ≡ ((a || (b || false)) || (d || false))
    shift true b d = refl
    shift false true d = refl
    shift false false d = refl

-- one more behind it
pub more_apart : (long : ℕ) (xs : List Interval) (last interval : Interval) → AreApart (xs ++ last ∷ []) → All (IsInterval long) (xs ++ last ∷ []) → last.to < interval.from → AreApart ((xs ++ last ∷ []) ++ interval ∷ [])
more_apart long xs last interval apart each gap =
    all_pairs_push Gap (xs ++ last ∷ []) interval apart
    (All-push (λ (before : Interval). before.to < interval.from) xs last
    (λ k d lt.
    let less = pairs_across Gap xs (last ∷ []) apart (get_or xs k d) last (Contains-get_or xs k d lt) (here last []) in
    let some = (all_last (IsInterval long) xs last each).some in
    omega arith) gap)

pub one_apart : (interval : Interval) (none : List Interval) → none ≡ [] → AreApart (none ++ interval ∷ [])
one_apart interval none is = subst (λ (l : List Interval). AreApart (l ++ interval ∷ [])) (sym is) (all_pairs_push Gap [] interval (none_later Gap) (λ k d lt. absurd (omega arith)))

-- ---- all of them, sorted

pub record IsJoined (long : ℕ) (sorted : List Interval) (k : ℕ) (now : List Interval) : Type 0 where
  pub each : All (IsInterval long) now
  pub apart : AreApart now
  pub behind : (d : Interval) → k < length sorted → All (NotBehind (get_or sorted k d).from) now
  pub same : (n : ℕ) → is_in_some now n ≡ is_in_some (take k sorted) n

pub joined_none : (long : ℕ) (sorted : List Interval) (none : List Interval) → none ≡ [] → IsJoined long sorted 0 none
joined_none long sorted none is = record {
  each = subst (All (IsInterval long)) (sym is) (All-nil (IsInterval long));
  apart = subst AreApart (sym is) (none_later Gap);
  behind = λ d lt. subst (All (NotBehind (get_or sorted 0 d).from)) (sym is) (All-nil (NotBehind (get_or sorted 0 d).from));
  same = λ n. ap (λ (l : List Interval). is_in_some l n) is;
}

pub joined_more : (long : ℕ) (sorted : List Interval) (k m : ℕ) (d : Interval) (now new : List Interval) → IsNonDecreasingBy (λ (i : Interval). i.from) sorted → IsJoined long sorted k now → k < length sorted → All (IsInterval long) new → AreApart new
    → All (NotBehind (get_or sorted k d).from) new → ((n : ℕ) → is_in_some new n ≡ list_any (is_in n) (now ++ get_or sorted k d ∷ [])) → m ≡ k + 1 → IsJoined long sorted m new
joined_more long sorted k m d now new up joined lt each apart behind same next = record {
  each = each;
  apart = apart;
  behind = λ e less j f within.
      let le : (get_or new j f).from ≤ (get_or sorted k d).from = behind j f within in
      let up' : (get_or sorted k e).from ≤ (get_or sorted m e).from = up k m e (omega arith) less in
      let at : (get_or sorted k d).from ≡ (get_or sorted k e).from = ap (λ (i : Interval). i.from) (same_at sorted k d e lt) in
      omega arith;
  same = λ n.
      same n
      ∙ (list_any-append (is_in n) now (get_or sorted k d ∷ [])
      ∙ ((λ i. joined.same n i || sym (or_none (is_in n (get_or sorted k d))) i) ∙ (sym (list_any_more (is_in n) sorted k d lt) ∙ ap (λ (j : ℕ). is_in_some (take j sorted) n) (sym next))));
}

pub joined_same : (long : ℕ) (intervals sorted : List Interval) (k : ℕ) (now : List Interval) → IsPermutation intervals sorted → length sorted ≤ k → IsJoined long sorted k now → (n : ℕ) → is_in_some now n ≡ is_in_some intervals n
joined_same long intervals sorted k now moved le joined n = joined.same n ∙ (ap (λ (l : List Interval). is_in_some l n) (take_all k sorted le) ∙ sym (list_any-IsPermutation (is_in n) intervals sorted moved))
