-- Numbers of bytes by their contents.
use Rattle.std.proofs.Common.{◌≡◌, ◌∙◌, ◌⊎◌, inl, inr, ℕ, zero, suc, ◌+◌, ◌-◌, ◌<◌, ◌≤◌, ◌&&◌, ◌||◌, Bool, true, false, List, [], ◌∷◌, ◌++◌, length, take, drop, get_or, Option, Some, None, cond, refl, sym, ap, subst, arith, All}
use Rattle.std.specs.Prelude.{nat_le, nat_lt}
use Rattle.std.specs.Global.{Vec}
use Rattle.std.specs.List.{list_any}
use Rattle.std.specs.List.Sorted.{IsNonDecreasingBy}
use Rattle.std.specs.declared.cmp.Ordering.{Ordering}
use Rattle.std.specs.declared.cmp.Ordering.TheVariants.{Less, Equal, Greater}
use Rattle.std.specs.Ordering.{nat_cmp, is_eq}
use Rattle.std.specs.Cmp.Lexicographic.{slice_cmp}
use Rattle.std.specs.BTreeMap.{BTreeMap, get, is_at, Updates}
use Rattle.std.specs.Map.{lookup}
use Rattle.std.proofs.lemmas.Bool.Decides.{nat_tests}
use Rattle.std.proofs.lemmas.List.{take_all}
use Rattle.std.proofs.lemmas.List.Folds.{list_any-append, list_any_more}
use Rattle.std.proofs.lemmas.List.Elements.{All-nil, All-cons, All-head, All-tail, All-weaker}
use Rattle.tumbler.specs.declared.span.Span.{Span}
use Rattle.tumbler.proofs.Order.{same_if_tied}
use Rattle.tumbler.proofs.OrLaws.{or_none}
use Rattle.febe_data.specs.declared.run.Run.{Run}
use Rattle.links.specs.LinkLists.{IsRun, IsLink, run_span, runs_at}
use Rattle.links.specs.Readable.{links_read}
use Rattle.links.specs.Finding.{spans_met}
use Rattle.poom_compare.specs.declared.positions.Interval.{Interval}
use Rattle.poom_compare.specs.declared.placing.Placed.{Placed}
use Rattle.poom_compare.specs.Placed.{is_in, is_in_some, IsInterval, AreApart}
use Rattle.world_rules.specs.declared.ends.End.{End}
use Rattle.world_rules.specs.World.{LinkRow, content_address}
use Rattle.world_rules.specs.Picking.{is_in_runs}
use Rattle.world_rules.specs.Ends.{runs_of_end}
use Rattle.tree_world.specs.inside.InEnds.{names_number, IsWithin, IsNumbersOf, AreNumbers}
use Rattle.tree_world.proofs.Options.{one_value, none_there}
use Rattle.tree_world.proofs.Lists.{more_of_all}
use Rattle.tree_world.proofs.InEnds.{named_in_end}

-- ---- one key of a map

tied : (r : Ordering) → is_eq r ≡ true → r ≡ Equal
tied Less e = let never : ⊥ = cc in absurd never
tied Equal e = refl
tied Greater e = let never : ⊥ = cc in absurd never

module _ {X : Type 0} (old new : BTreeMap (List ℕ) X) (key : List ℕ) (x : X) (updates : Updates (slice_cmp nat_cmp) old new key (Some x)) where
  -- the key that came in, or another one as it was
  pub updated : (other : List ℕ) → ((key ≡ other) × (get (slice_cmp nat_cmp) new other ≡ Some x)) ⊎ (get (slice_cmp nat_cmp) new other ≡ get (slice_cmp nat_cmp) old other)
  updated other = by_test (is_eq (slice_cmp nat_cmp key other)) refl
    where
      by_test : (b : Bool) → is_eq (slice_cmp nat_cmp key other) ≡ b → ((key ≡ other) × (get (slice_cmp nat_cmp) new other ≡ Some x)) ⊎ (get (slice_cmp nat_cmp) new other ≡ get (slice_cmp nat_cmp) old other)
      by_test true e = inl (same_if_tied key other (tied (slice_cmp nat_cmp key other) e), updates.0 other ∙ ap (λ (b : Bool). cond b (Some x) (get (slice_cmp nat_cmp) old other)) e)
      by_test false e = inr (updates.0 other ∙ ap (λ (b : Bool). cond b (Some x) (get (slice_cmp nat_cmp) old other)) e)

-- ---- extents

up_to : (a b c : ℕ) → a ≤ b → b ≤ c → a ≤ c
up_to a b c h k = omega (arith, h, k)

abbrev pub IsWider : BTreeMap (List ℕ) Interval → List ℕ → Interval → Type 0
IsWider extents document wide = (extent : Interval) → get (slice_cmp nat_cmp) extents document ≡ Some extent → (wide.from ≤ extent.from) × (extent.to ≤ wide.to)

within_kept : (old new : BTreeMap (List ℕ) Interval) (key : List ℕ) (wide : Interval) → Updates (slice_cmp nat_cmp) old new key (Some wide) → IsWider old key wide → (run : Placed) → IsWithin old run → IsWithin new run
within_kept old new key wide updates wider run is = elim (updated old new key wide updates run.document) [
  | inl here ↦
      let more = wider is.extent (subst (λ (k : List ℕ). get (slice_cmp nat_cmp) old k ≡ Some is.extent) (sym here.0) is.there) in
      record { extent = wide; there = here.1; from = up_to wide.from is.extent.from run.first more.0 is.from; to = up_to (run.first + run.length) is.extent.to wide.to is.to more.1 }
  | inr other ↦ record { extent = is.extent; there = other ∙ is.there; from = is.from; to = is.to }
]

within_new : (old new : BTreeMap (List ℕ) Interval) (key : List ℕ) (wide : Interval) → Updates (slice_cmp nat_cmp) old new key (Some wide) → (run : Placed) → key ≡ run.document → wide.from ≤ run.first → run.first + run.length ≤ wide.to → IsWithin new run
within_new old new key wide updates run same from to = record { extent = wide; there = ap (get (slice_cmp nat_cmp) new) (sym same) ∙ updates.1; from = from; to = to }

pub within_more : (runs : List Placed) (k : ℕ) (run : Placed) (old new : BTreeMap (List ℕ) Interval) (key : List ℕ) (wide : Interval) → k < length runs → run ≡ get_or runs k run → All (IsWithin old) (take k runs)
    → Updates (slice_cmp nat_cmp) old new key (Some wide) → key ≡ run.document → IsWider old run.document wide → wide.from ≤ run.first → run.first + run.length ≤ wide.to → All (IsWithin new) (take (k + 1) runs)
within_more runs k run old new key wide lt here before updates same wider from to =
    let wider' = subst (λ (d : List ℕ). IsWider old d wide) (sym same) wider in
    more_of_all (IsWithin new) runs k run lt here (All-weaker (IsWithin old) (IsWithin new) (within_kept old new key wide updates wider') (take k runs) before) (within_new old new key wide updates run same from to)

pub wider_some : (found wide : Interval) (looked : Option Interval) → Some found ≡ looked → wide.from ≤ found.from → found.to ≤ wide.to → (extent : Interval) → looked ≡ Some extent → (wide.from ≤ extent.from) × (extent.to ≤ wide.to)
wider_some found wide looked is from to extent at = let same = one_value found extent (is ∙ at) in subst (λ (e : Interval). (wide.from ≤ e.from) × (e.to ≤ wide.to)) same (from, to)

pub wider_none : (wide : Interval) (looked : Option Interval) → None ≡ looked → (extent : Interval) → looked ≡ Some extent → (wide.from ≤ extent.from) × (extent.to ≤ wide.to)
wider_none wide looked is extent at = absurd (none_there extent (sym (is ∙ at)))

-- ---- numbers that are known

pub none_known : (end : End) (links : List LinkRow) (extents : BTreeMap (List ℕ) Interval) (known : BTreeMap (List ℕ) (Vec Interval)) → known.entries ≡ [] → AreNumbers end links extents known
none_known end links extents known empty document extent numbers at there =
    absurd (none_there numbers (sym there ∙ ap (λ (entries : List (List ℕ × Vec Interval)). lookup (is_at (slice_cmp nat_cmp document)) entries) empty))

pub numbers_more : (end : End) (links : List LinkRow) (extents : BTreeMap (List ℕ) Interval) (old new : BTreeMap (List ℕ) (Vec Interval)) (document key : List ℕ) (extent : Interval) (made : Vec Interval) → Some extent ≡ get (slice_cmp nat_cmp) extents document
    → Updates (slice_cmp nat_cmp) old new key (Some made) → key ≡ document → IsNumbersOf end links document extent made.items → AreNumbers end links extents old → AreNumbers end links extents new
numbers_more end links extents old new document key extent made at updates same are before other wide numbers at' there = elim (updated old new key made updates other) [
  | inl here ↦
      let d : document ≡ other = sym same ∙ here.0 in
      let e : extent ≡ wide = one_value extent wide (at ∙ ap (get (slice_cmp nat_cmp) extents) d ∙ at') in
      let v : made ≡ numbers = one_value made numbers (sym here.1 ∙ there) in
      subst (λ (w : Vec Interval). IsNumbersOf end links other wide w.items) v (subst (λ (x : Interval). IsNumbersOf end links other x made.items) e (subst (λ (x : List ℕ). IsNumbersOf end links x extent made.items) d are))
  | inr kept ↦ before other wide numbers at' (sym kept ∙ there)
]

-- ---- the numbers that spans name

pub named_more : (spans : List Span) (k : ℕ) (span : Span) (numbers : Interval) (old new : List Interval) (m : ℕ) → k < length spans → span ≡ get_or spans k span → is_in_some old m ≡ list_any (λ s. names_number s m) (take k spans) → new ≡ old ++ numbers ∷ []
    → is_in m numbers ≡ names_number span m → is_in_some new m ≡ list_any (λ s. names_number s m) (take (k + 1) spans)
named_more spans k span numbers old new m lt here before pushed is =
    ap (λ (l : List Interval). is_in_some l m) pushed
    ∙ list_any-append (is_in m) old (numbers ∷ [])
    ∙ (λ i. before i || (sym (or_none (is_in m numbers)) ∙ is ∙ ap (λ (s : Span). names_number s m) here) i)
    ∙ sym (list_any_more (λ s. names_number s m) spans k span lt)

pub named_all : (spans : List Span) (k : ℕ) (made : List Interval) (m : ℕ) → length spans ≤ k → is_in_some made m ≡ list_any (λ s. names_number s m) (take k spans) → is_in_some made m ≡ list_any (λ s. names_number s m) spans
named_all spans k made m past is = is ∙ ap (list_any (λ s. names_number s m)) (take_all k spans past)

abbrev pub run_of_extent : List ℕ → Interval → Run
run_of_extent document extent = record { origin = document; content = document; first = extent.from; length = extent.to - extent.from }

ends_there : (from to m : ℕ) → 0 < to - from → m < to → m < from + (to - from)
ends_there from to m some lt = omega (arith, some, lt)

-- those of the links that may be read are links
pub read_right : (may : List ℕ → Bool) (links : List LinkRow) → All IsLink links → All IsLink (links_read may links)
read_right may [] all = All-nil IsLink
read_right may (link ∷ links) all = step (may link.home) (read_right may links (All-tail IsLink link links all))
  where
    step : (b : Bool) → All IsLink (links_read may links) → All IsLink (cond b (link ∷ links_read may links) (links_read may links))
    step true rest = All-cons IsLink link (links_read may links) (All-head IsLink link links all) rest
    step false rest = rest

pub numbers_are : (links : List LinkRow) (end : End) (number : ℕ) (document : List ℕ) (extent : Interval) (run : Run) (bytes : Span) (spans slice : List Span) (all made : List Interval) → ((link : LinkRow) → runs_at number link ≡ runs_of_end end link)
    → All IsLink links → run ≡ run_of_extent document extent → IsRun run → bytes ≡ run_span run → spans ≡ spans_met number bytes links → slice ≡ spans → ((m : ℕ) → is_in_some all m ≡ list_any (λ s. names_number s m) slice)
    → All (IsInterval 4294967295) made → AreApart made → ((m : ℕ) → is_in_some made m ≡ is_in_some all m) → IsNumbersOf end links document extent made
numbers_are links end number document extent run bytes spans slice all made ends right run_is is bytes_is spans_is slice_is named each apart joined = record {
  each = each;
  apart = apart;
  same = λ m from to.
      let is' = subst IsRun run_is is in
      joined m
      ∙ named m
      ∙ ap (list_any (λ s. names_number s m)) (slice_is ∙ spans_is ∙ ap (λ (s : Span). spans_met number s links) (bytes_is ∙ ap run_span run_is))
      ∙ named_in_end (run_of_extent document extent) is' m from (ends_there extent.from extent.to m is'.some to) number links right
      ∙ (λ i. list_any (λ (link : LinkRow). is_in_runs (ends link i) (content_address document m)) links);
}

-- ---- numbers one after another

module _ (numbers : List Interval) (each : All (IsInterval 4294967295) numbers) (apart : AreApart numbers) where
  below_or_same : (i j : ℕ) → i ≤ j → (i < j) ⊎ (i ≡ j)
  below_or_same i j le = grind (arith, le)

  pub ends_rise : IsNonDecreasingBy (λ (i : Interval). i.to) numbers
  ends_rise i j d le within = elim (below_or_same i j le) [
    | inl less ↦ let gap = apart i j d less within in let some = (each j d within).some in omega (arith, gap, some)
    | inr same ↦ let here : (get_or numbers i d).to ≡ (get_or numbers j d).to = ap (λ (k : ℕ). (get_or numbers k d).to) same in omega (arith, here)
  ]

  pub starts_rise : IsNonDecreasingBy (λ (i : Interval). i.from) numbers
  starts_rise i j d le within = elim (below_or_same i j le) [
    | inl less ↦ let gap = apart i j d less within in let some = (each i d (omega (arith, less, within))).some in omega (arith, gap, some)
    | inr same ↦ let here : (get_or numbers i d).from ≡ (get_or numbers j d).from = ap (λ (k : ℕ). (get_or numbers k d).from) same in omega (arith, here)
  ]

ended : (a b from m : ℕ) → b ≤ from → from ≤ m → (nat_le a m && nat_lt m b) ≡ false
ended a b from m h k = grind (arith, nat_tests)

later : (a b to m : ℕ) → to ≤ a → m < to → (nat_le a m && nat_lt m b) ≡ false
later a b to m h k = grind (arith, nat_tests)

pub without_front : (numbers : List Interval) (k from m : ℕ) → from ≤ m → ((j : ℕ) (d : Interval) → j < k → j < length numbers → (get_or numbers j d).to ≤ from) → is_in_some (drop k numbers) m ≡ is_in_some numbers m
without_front numbers zero from m le front = refl
without_front [] (suc k) from m le front = refl
without_front (i ∷ numbers) (suc k) from m le front =
    without_front numbers k from m le (λ j d lt within. front (suc j) d (omega (arith, lt)) (omega (arith, within)))
    ∙ (λ t. sym (ended i.from i.to from m (front 0 i (omega arith) (omega arith)) le) t || is_in_some numbers m)

none_later : (numbers : List Interval) (to m : ℕ) → m < to → ((j : ℕ) (d : Interval) → j < length numbers → to ≤ (get_or numbers j d).from) → false ≡ is_in_some numbers m
none_later [] to m lt back = refl
none_later (i ∷ numbers) to m lt back = none_later numbers to m lt (λ j d within. back (suc j) d (omega (arith, within))) ∙ (λ t. sym (later i.from i.to to m (back 0 i (omega arith)) lt) t || is_in_some numbers m)

pub without_back : (numbers : List Interval) (k to m : ℕ) → m < to → ((j : ℕ) (d : Interval) → k ≤ j → j < length numbers → to ≤ (get_or numbers j d).from) → is_in_some (take k numbers) m ≡ is_in_some numbers m
without_back numbers zero to m lt back = none_later numbers to m lt (λ j d within. back j d (omega arith) within)
without_back [] (suc k) to m lt back = refl
without_back (i ∷ numbers) (suc k) to m lt back = ap (λ (b : Bool). is_in m i || b) (without_back numbers k to m lt (λ j d le within. back (suc j) d (omega (arith, le)) (omega (arith, within))))

le_true : (a b : ℕ) → nat_le a b ≡ true → a ≤ b
le_true a b e = grind (arith, nat_tests, e)

lt_false : (a b : ℕ) → nat_lt a b ≡ false → b ≤ a
lt_false a b e = grind (arith, nat_tests, e)

pub le_tested : (a b : ℕ) → nat_le a b ≡ true → a ≤ b
le_tested = le_true

pub lt_tested : (a b : ℕ) → nat_lt a b ≡ false → b ≤ a
lt_tested = lt_false
