-- What a search finds is what the definition asks for.
use Rattle.std.proofs.Common.{◌≡◌, ℕ, zero, suc, ◌≤◌, ◌<◌, get_or, Bool, true, false, not, ◌&&◌, ◌||◌, cond, Option, Some, None, List, [], ◌∷◌, length, map, take, drop, refl, sym, ap, ◌∙◌, subst, arith, Ordering, Less, Equal, Greater, nat_cmp, is_eq, is_lt, true≢false}
use Rattle.std.proofs.Math.Numerals.{one-add}
use Rattle.std.specs.Prelude.{IfSome}
use Rattle.std.specs.List.{filter, flat_map, list_any, prefix_len, AllByRecursion}
use Rattle.std.specs.List.Sorted.{IsStrictlySortedBy}
use Rattle.std.specs.Cmp.Lexicographic.{slice_cmp, texts_ties, nat_list_cmp_total}
use Rattle.std.specs.Ordering.{ordering_reverse}
use Rattle.std.proofs.lemmas.List.Folds.{list_any-append}
use Rattle.std.proofs.lemmas.List.Sorted.{list_any-IsPermutation}
use Rattle.std.proofs.lemmas.Map.Lookups.{btree_set_from_contains}
use Rattle.tumbler.specs.ListView.{ListView}
use Rattle.tumbler.specs.Places.{comes_before}
use Rattle.tumbler.specs.declared.span.Span.{Span}
use Rattle.tumbler.proofs.Order.{same_if_tied}
use Rattle.febe_data.specs.declared.run.Run.{Run}
use Rattle.enfilade_core.specs.declared.tree.Row.{Row}
use Rattle.spanfilade.specs.Index.{IndexTree, rows_in_index, rows_for, row_of}
use Rattle.spanfilade.specs.Keys.{is_met_by, keys_of, keys_met, with_keys}
use Rattle.spanfilade.proofs.Ascending.{among, with_keys-among, with_keys-ascends, none_ascends}
use Rattle.world_rules.specs.World.{LinkRow, is_same}
use Rattle.links.specs.declared.row.WantedEnds.{WantedEnds}
use Rattle.std.specs.declared.boxed.Box.{Box}
use Rattle.std.proofs.lemmas.List.Elements.{All-head, All-tail, recursion_from_All}
use Rattle.std.specs.List.{All}
use Rattle.links.specs.declared.row.LinkRow as kept
use Rattle.links.specs.LinkLists.{IsLink, run_span, runs_at, rows_at, HoldsRuns, is_of, ids_in, link_in}
use Rattle.world_rules.specs.Finding.{is_home_wanted}
use Rattle.links.specs.Finding.{is_end_met, given, is_wanted, found_in}
use Rattle.links.specs.inside.Kept.{shown, unboxed, is_before, IsAscending, taken, taken_if, taken_at, Hold}
use Rattle.links.proofs.EndsKept.{same_as}
use Rattle.links.proofs.ListSteps.{flat_mapped}

-- ---- one place comes before another, or not

less_if : (r : Ordering) → is_lt r ≡ true → r ≡ Less
less_if Less e = refl
less_if Equal e = absurd (true≢false (sym e))
less_if Greater e = absurd (true≢false (sym e))

one_way : (a b : List ℕ) → comes_before a b ≡ true → comes_before b a ≡ false
one_way a b e = ap is_lt (nat_list_cmp_total.antisymm b a ∙ ap ordering_reverse (less_if (slice_cmp nat_cmp a b) e))

-- ---- one link gives one id or none

cond_short : (b : Bool) (id : List ℕ) → length (cond b (id ∷ []) []) ≤ 1
cond_short true id = omega arith
cond_short false id = omega arith

pub taken-short : (homes : List Span) (ends : WantedEnds) (after : List ℕ) (link : LinkRow) → length (taken homes ends after link) ≤ 1
taken-short homes ends after link = cond_short (comes_before after link.id && is_wanted homes ends link) link.id

pub taken_at-short : (links : List LinkRow) (homes : List Span) (ends : WantedEnds) (after id : List ℕ) → length (taken_at links homes ends after id) ≤ 1
taken_at-short links homes ends after id = by_found (link_in links id)
  where
    by_found : (found : Option LinkRow) → length (taken_if homes ends after found) ≤ 1
    by_found None = omega arith
    by_found (Some link) = taken-short homes ends after link

module _ (homes : List Span) (ends : WantedEnds) (after : List ℕ) where
  -- ---- all links from the bound on, in order

  pub in_order_is : (links : List LinkRow) → flat_map (taken homes ends after) (filter (λ (l : LinkRow). not (comes_before l.id after)) links) ≡ filter (λ id. comes_before after id) (ids_in (filter (is_wanted homes ends) links))
  in_order_is [] = refl
  in_order_is (l ∷ links) = by_tests (comes_before l.id after) (comes_before after l.id) (is_wanted homes ends l) refl refl refl (in_order_is links)
    where
      by_tests : (c b w : Bool) → comes_before l.id after ≡ c → comes_before after l.id ≡ b → is_wanted homes ends l ≡ w
          → flat_map (taken homes ends after) (filter (λ (m : LinkRow). not (comes_before m.id after)) links) ≡ filter (λ id. comes_before after id) (ids_in (filter (is_wanted homes ends) links))
          → flat_map (taken homes ends after) (cond (not (comes_before l.id after)) (l ∷ filter (λ (m : LinkRow). not (comes_before m.id after)) links) (filter (λ (m : LinkRow). not (comes_before m.id after)) links))
          ≡ filter (λ id. comes_before after id) (ids_in (cond (is_wanted homes ends l) (l ∷ filter (is_wanted homes ends) links) (filter (is_wanted homes ends) links)))
      by_tests true true w d e f rest = absurd (true≢false (sym e ∙ one_way l.id after d))
      by_tests true false true d e f rest = rw (d, f, e) rest
      by_tests true false false d e f rest = rw (d, f) rest
      by_tests false true true d e f rest = rw (d, f, e) (ap (λ (ids : List (List ℕ)). l.id ∷ ids) rest)
      by_tests false true false d e f rest = rw (d, f, e) rest
      by_tests false false true d e f rest = rw (d, f, e) rest
      by_tests false false false d e f rest = rw (d, f, e) rest

  -- ---- those of ids that hold all that are wanted

  among_is : (all : List LinkRow) (can_be : LinkRow → Bool) → ((l : LinkRow) → is_wanted homes ends l ≡ true → can_be l ≡ true) → (links : List LinkRow) → AllByRecursion (λ (l : LinkRow). link_in all l.id ≡ Some l) links
      → flat_map (taken_at all homes ends after) (ids_in (filter can_be links)) ≡ filter (λ id. comes_before after id) (ids_in (filter (is_wanted homes ends) links))
  among_is all can_be wide [] own = refl
  among_is all can_be wide (l ∷ links) own = by_tests (can_be l) (comes_before after l.id) (is_wanted homes ends l) refl refl refl (among_is all can_be wide links own.1)
    where
      by_tests : (c b w : Bool) → can_be l ≡ c → comes_before after l.id ≡ b → is_wanted homes ends l ≡ w
          → flat_map (taken_at all homes ends after) (ids_in (filter can_be links)) ≡ filter (λ id. comes_before after id) (ids_in (filter (is_wanted homes ends) links))
          → flat_map (taken_at all homes ends after) (ids_in (cond (can_be l) (l ∷ filter can_be links) (filter can_be links)))
          ≡ filter (λ id. comes_before after id) (ids_in (cond (is_wanted homes ends l) (l ∷ filter (is_wanted homes ends) links) (filter (is_wanted homes ends) links)))
      by_tests true true true d e f rest = rw (d, own.0, f, e) (ap (λ (ids : List (List ℕ)). l.id ∷ ids) rest)
      by_tests true true false d e f rest = rw (d, own.0, f, e) rest
      by_tests true false true d e f rest = rw (d, own.0, f, e) rest
      by_tests true false false d e f rest = rw (d, own.0, f, e) rest
      by_tests false b true d e f rest = absurd (true≢false (sym (wide l f) ∙ d))
      by_tests false b false d e f rest = rw (d, f) rest

-- ---- a link is found by its own id

other_id : (a b : List ℕ) → slice_cmp nat_cmp a b ≡ Less → is_same a b ≡ false
other_id a b less = texts_ties a b ∙ ap is_eq less

found_behind : (l : LinkRow) (rest links : List LinkRow) → AllByRecursion (λ y. slice_cmp nat_cmp l.id y ≡ Less) (ids_in links) → AllByRecursion (λ (m : LinkRow). link_in rest m.id ≡ Some m) links → AllByRecursion (λ (m : LinkRow). link_in (l ∷ rest) m.id ≡ Some m) links
found_behind l rest [] less own = tt
found_behind l rest (m ∷ links) less own = (rw (other_id l.id m.id less.0) own.0, found_behind l rest links less.1 own.1)

pub found_itself : (links : List LinkRow) → IsAscending (ids_in links) → AllByRecursion (λ (l : LinkRow). link_in links l.id ≡ Some l) links
unfolding IsStrictlySortedBy
found_itself [] ascends = tt
found_itself (l ∷ links) ascends = (rw (same_as l.id) refl, found_behind l links links ascends.0 (found_itself links ascends.1))

pub found_holds : (P : LinkRow → Type 0) (id : List ℕ) (links : List LinkRow) (link : LinkRow) → link_in links id ≡ Some link → AllByRecursion P links → P link
found_holds P id [] link e all = let never : ⊥ = cc in absurd never
found_holds P id (l ∷ links) link e all = by_test (is_of id l) e (λ is. found_holds P id links link is all.1)
  where
    by_test : (b : Bool) → cond b (Some l) (link_in links id) ≡ Some link → (link_in links id ≡ Some link → P link) → P link
    by_test true is rec = let same : l ≡ link = cc in subst P same all.0
    by_test false is rec = rec is

pub among_found : (homes : List Span) (ends : WantedEnds) (after : List ℕ) (links : List LinkRow) (ids : List (List ℕ)) → IsAscending (ids_in links) → Hold links ends ids
    → flat_map (taken_at links homes ends after) ids ≡ filter (λ id. comes_before after id) (ids_in (filter (is_wanted homes ends) links))
among_found homes ends after links ids ascends hold =
    ap (flat_map (taken_at links homes ends after)) hold.are ∙ among_is homes ends after links hold.can_be (λ l wanted. hold.all homes l wanted) links (found_itself links ascends)

-- ---- the ids that an index gives

both_or : (m more at : Bool) → ((m && at) || (more && at)) ≡ ((m || more) && at)
both_or true true true = refl
both_or true true false = refl
both_or true false true = refl
both_or true false false = refl
both_or false more at = refl

-- a key is among those that are chosen
pub among_chosen : {X : Type 0} (q : List ℕ) (key : X → List ℕ) (p : X → Bool) (xs : List X) → among q (map key (filter p xs)) ≡ list_any (λ x. p x && is_eq (slice_cmp nat_cmp q (key x))) xs
among_chosen q key p [] = refl
among_chosen {X} q key p (x ∷ xs) = by_test (p x) (among_chosen q key p xs)
  where
    by_test : (b : Bool) → among q (map key (filter p xs)) ≡ list_any (λ y. p y && is_eq (slice_cmp nat_cmp q (key y))) xs
        → among q (map key (cond b (x ∷ filter p xs) (filter p xs))) ≡ ((b && is_eq (slice_cmp nat_cmp q (key x))) || list_any (λ y. p y && is_eq (slice_cmp nat_cmp q (key y))) xs)
    by_test true rest = ap (λ (c : Bool). is_eq (slice_cmp nat_cmp q (key x)) || c) rest
    by_test false rest = rest

module _ (q : List ℕ) (spans : List Span) where
  runs_hit : (runs : List Run) (id : List ℕ) → list_any (λ (row : Row (List ℕ)). is_met_by spans row && is_eq (slice_cmp nat_cmp q row.second)) (rows_for (map run_span runs) id) ≡ (is_end_met (Some spans) runs && is_eq (slice_cmp nat_cmp q id))
  runs_hit [] id = refl
  runs_hit (run ∷ runs) id =
      ap (λ (b : Bool). (is_met_by spans (row_of (run_span run) id) && is_eq (slice_cmp nat_cmp q id)) || b) (runs_hit runs id)
      ∙ both_or (is_met_by spans (row_of (run_span run) id)) (is_end_met (Some spans) runs) (is_eq (slice_cmp nat_cmp q id))

  links_hit : (end : ℕ) (links : List LinkRow) → list_any (λ (row : Row (List ℕ)). is_met_by spans row && is_eq (slice_cmp nat_cmp q row.second)) (flat_map (rows_at end) links) ≡ list_any (λ (l : LinkRow). is_end_met (Some spans) (runs_at end l) && is_eq (slice_cmp nat_cmp q l.id)) links
  links_hit end [] = refl
  links_hit end (l ∷ links) =
      list_any-append (λ (row : Row (List ℕ)). is_met_by spans row && is_eq (slice_cmp nat_cmp q row.second)) (rows_at end l) (flat_map (rows_at end) links)
      ∙ ap (λ (b : Bool). b || list_any (λ (row : Row (List ℕ)). is_met_by spans row && is_eq (slice_cmp nat_cmp q row.second)) (flat_map (rows_at end) links)) (runs_hit (runs_at end l) l.id)
      ∙ ap (λ (b : Bool). (is_end_met (Some spans) (runs_at end l) && is_eq (slice_cmp nat_cmp q l.id)) || b) (links_hit end links)

met_among : (end : ℕ) (links : List LinkRow) (tree : IndexTree) (spans : List Span) (q : List ℕ) → HoldsRuns end links tree → among q (keys_of (filter (is_met_by spans) (rows_in_index tree))) ≡ among q (ids_in (filter (λ (l : LinkRow). is_end_met (Some spans) (runs_at end l)) links))
met_among end links tree spans q holds =
    among_chosen q (λ (row : Row (List ℕ)). row.second) (is_met_by spans) (rows_in_index tree)
    ∙ sym (list_any-IsPermutation (λ (row : Row (List ℕ)). is_met_by spans row && is_eq (slice_cmp nat_cmp q row.second)) (flat_map (rows_at end) links) (rows_in_index tree) holds)
    ∙ links_hit q spans end links
    ∙ sym (among_chosen q (λ (l : LinkRow). l.id) (λ (l : LinkRow). is_end_met (Some spans) (runs_at end l)) links)

less_kept : (p : LinkRow → Bool) (l : LinkRow) (links : List LinkRow) → AllByRecursion (λ y. slice_cmp nat_cmp l.id y ≡ Less) (ids_in links) → AllByRecursion (λ y. slice_cmp nat_cmp l.id y ≡ Less) (ids_in (filter p links))
less_kept p l [] less = tt
less_kept p l (m ∷ links) less = by_test (p m) (less_kept p l links less.1)
  where
    by_test : (b : Bool) → AllByRecursion (λ y. slice_cmp nat_cmp l.id y ≡ Less) (ids_in (filter p links)) → AllByRecursion (λ y. slice_cmp nat_cmp l.id y ≡ Less) (ids_in (cond b (m ∷ filter p links) (filter p links)))
    by_test true rest = (less.0, rest)
    by_test false rest = rest

pub ids_kept : (p : LinkRow → Bool) (links : List LinkRow) → IsAscending (ids_in links) → IsAscending (ids_in (filter p links))
unfolding IsStrictlySortedBy
ids_kept p [] ascends = tt
ids_kept p (l ∷ links) ascends = by_test (p l) (less_kept p l links ascends.0) (ids_kept p links ascends.1)
  where
    by_test : (b : Bool) → AllByRecursion (λ y. slice_cmp nat_cmp l.id y ≡ Less) (ids_in (filter p links)) → IsAscending (ids_in (filter p links)) → IsAscending (ids_in (cond b (l ∷ filter p links) (filter p links)))
    by_test true less rest = (less, rest)
    by_test false less rest = rest

pub keys_are : (end : ℕ) (links : List LinkRow) (tree : IndexTree) (spans : List Span) → IsAscending (ids_in links) → HoldsRuns end links tree → keys_met spans (rows_in_index tree) ≡ ids_in (filter (λ (l : LinkRow). is_end_met (Some spans) (runs_at end l)) links)
keys_are end links tree spans ascends holds =
    let some = keys_of (filter (is_met_by spans) (rows_in_index tree)) in
    let ids = ids_in (filter (λ (l : LinkRow). is_end_met (Some spans) (runs_at end l)) links) in
    btree_set_from_contains nat_list_cmp_total (record { keys = with_keys [] some }) (record { keys = ids })
    (with_keys-ascends some [] none_ascends) (ids_kept (λ (l : LinkRow). is_end_met (Some spans) (runs_at end l)) links ascends)
    (λ q. with_keys-among some [] q ∙ met_among end links tree spans q holds)
    same_if_tied

-- ---- that all wanted ones are among them

and_first : (a b : Bool) → (a && b) ≡ true → a ≡ true
and_first true b e = refl
and_first false b e = absurd (true≢false (sym e))

and_second : (a b : Bool) → (a && b) ≡ true → b ≡ true
and_second true b e = e
and_second false b e = absurd (true≢false (sym e))

module _ (links : List LinkRow) (ends : WantedEnds) (spans : ListView Span) (ids : List (List ℕ)) (tree : IndexTree) (ascends : IsAscending (ids_in links)) (found : ids ≡ keys_met spans.items (rows_in_index tree)) where
  pub hold_from : ends.from ≡ Some spans → HoldsRuns 1 links tree → Hold links ends ids
  hold_from is holds = record {
    can_be = λ l. is_end_met (Some spans.items) l.from;
    are = found ∙ keys_are 1 links tree spans.items ascends holds;
    all = λ homes l wanted.
        ap (λ (s : Option (ListView Span)). is_end_met (given s) l.from) (sym is)
        ∙ and_second (is_home_wanted homes l.home) (is_end_met (given ends.from) l.from) (and_first (is_home_wanted homes l.home && is_end_met (given ends.from) l.from) (is_end_met (given ends.to) l.to)
        (and_first (is_home_wanted homes l.home && is_end_met (given ends.from) l.from && is_end_met (given ends.to) l.to) (is_end_met (given ends.three) l.three) wanted));
  }

  pub hold_to : ends.to ≡ Some spans → HoldsRuns 2 links tree → Hold links ends ids
  hold_to is holds = record {
    can_be = λ l. is_end_met (Some spans.items) l.to;
    are = found ∙ keys_are 2 links tree spans.items ascends holds;
    all = λ homes l wanted.
        ap (λ (s : Option (ListView Span)). is_end_met (given s) l.to) (sym is)
        ∙ and_second (is_home_wanted homes l.home && is_end_met (given ends.from) l.from) (is_end_met (given ends.to) l.to)
        (and_first (is_home_wanted homes l.home && is_end_met (given ends.from) l.from && is_end_met (given ends.to) l.to) (is_end_met (given ends.three) l.three) wanted);
  }

  pub hold_three : ends.three ≡ Some spans → HoldsRuns 3 links tree → Hold links ends ids
  hold_three is holds = record {
    can_be = λ l. is_end_met (Some spans.items) l.three;
    are = found ∙ keys_are 3 links tree spans.items ascends holds;
    all = λ homes l wanted.
        ap (λ (s : Option (ListView Span)). is_end_met (given s) l.three) (sym is)
        ∙ and_second (is_home_wanted homes l.home && is_end_met (given ends.from) l.from && is_end_met (given ends.to) l.to) (is_end_met (given ends.three) l.three) wanted;
  }

-- ---- what the search gives

pub link_there : {A : Type 0} (boxes : List (Box kept.LinkRow A)) (k : ℕ) (x : Box kept.LinkRow A) → All IsLink (unboxed boxes) → k < length boxes → x ≡ get_or boxes k x → IsLink (shown x)
link_there [] k x all lt is = absurd (omega (arith, lt))
link_there (b ∷ boxes) zero x all lt is = subst (λ (y : Box kept.LinkRow _). IsLink (shown y)) (sym is) (All-head IsLink (shown b) (unboxed boxes) all)
link_there (b ∷ boxes) (suc k) x all lt is = link_there boxes k x (All-tail IsLink (shown b) (unboxed boxes) all) (omega (arith, lt)) is

pub link_got : (id : List ℕ) (links : List LinkRow) (link : LinkRow) → link_in links id ≡ Some link → All IsLink links → IsLink link
link_got id links link e all = found_holds IsLink id links link e (recursion_from_All IsLink links all)

pub found_above : {A : Type 0} (homes : List Span) (ends : WantedEnds) (after : List ℕ) (limit : ℕ) (links : List LinkRow) (boxes : List (Box kept.LinkRow A)) (found : List (List ℕ)) → unboxed boxes ≡ filter (λ (l : LinkRow). not (comes_before l.id after)) links
    → found ≡ take limit (flat_map (λ (b : Box kept.LinkRow A). taken homes ends after (shown b)) boxes) → found ≡ found_in links homes ends after limit
found_above homes ends after limit links boxes found shows is =
    is ∙ ap (take limit) (sym (flat_mapped shown (taken homes ends after) boxes) ∙ ap (flat_map (taken homes ends after)) shows ∙ in_order_is homes ends after links)

pub found_by_ids : (homes : List Span) (ends : WantedEnds) (after : List ℕ) (limit : ℕ) (links : List LinkRow) (ids found : List (List ℕ)) → IsAscending (ids_in links) → Hold links ends ids → found ≡ take limit (flat_map (taken_at links homes ends after) ids) → found ≡ found_in links homes ends after limit
found_by_ids homes ends after limit links ids found ascends hold is = is ∙ ap (take limit) (among_found homes ends after links ids ascends hold)

pub some_holds : {X : Type 0} (P : X → Type 0) (o : Option X) (x : X) → o ≡ Some x → IfSome o P → P x
some_holds {X} P o x is h = subst (λ (found : Option X). IfSome found P) is h

-- ---- the links from a place on

kept_all : (id other : List ℕ) (links : List LinkRow) → comes_before other id ≡ false → AllByRecursion (λ y. slice_cmp nat_cmp other y ≡ Less) (ids_in links) → filter (λ (l : LinkRow). not (comes_before l.id id)) links ≡ links
kept_all id other [] past less = refl
kept_all id other (l ∷ links) past less = by_test (comes_before l.id id) refl (kept_all id other links past less.1)
  where
    by_test : (b : Bool) → comes_before l.id id ≡ b → filter (λ (m : LinkRow). not (comes_before m.id id)) links ≡ links → filter (λ (m : LinkRow). not (comes_before m.id id)) (l ∷ links) ≡ l ∷ links
    by_test true e rest = absurd (true≢false (sym (ap is_lt (nat_list_cmp_total.trans other l.id id less.0 (less_if (slice_cmp nat_cmp l.id id) e))) ∙ past))
    by_test false e rest = rw e (ap (λ (ls : List LinkRow). l ∷ ls) rest)

pub dropped_is : {A : Type 0} (id : List ℕ) (boxes : List (Box kept.LinkRow A)) → IsAscending (ids_in (unboxed boxes)) → unboxed (drop (prefix_len (is_before id) boxes) boxes) ≡ filter (λ (l : LinkRow). not (comes_before l.id id)) (unboxed boxes)
unfolding IsStrictlySortedBy
dropped_is id [] ascends = refl
dropped_is {A} id (b ∷ boxes) ascends = by_test (comes_before b.value.id id) refl (dropped_is id boxes ascends.1)
  where
    by_test : (c : Bool) → comes_before b.value.id id ≡ c → unboxed (drop (prefix_len (is_before id) boxes) boxes) ≡ filter (λ (l : LinkRow). not (comes_before l.id id)) (unboxed boxes)
        → unboxed (drop (prefix_len (is_before id) (b ∷ boxes)) (b ∷ boxes)) ≡ filter (λ (l : LinkRow). not (comes_before l.id id)) (unboxed (b ∷ boxes))
    by_test true e rest = rw (e, one-add (prefix_len (is_before id) boxes)) rest
    by_test false e rest = rw e (ap (λ (ls : List LinkRow). shown b ∷ ls) (sym (kept_all id b.value.id (unboxed boxes) e ascends.0)))

pub dropped_shows : {A : Type 0} (id : List ℕ) (boxes slice back : List (Box kept.LinkRow A)) (at : ℕ) (links : List LinkRow) → IsAscending (ids_in (unboxed boxes)) → slice ≡ boxes → at ≡ prefix_len (is_before id) slice → back ≡ drop at slice → unboxed boxes ≡ links
    → unboxed back ≡ filter (λ (l : LinkRow). not (comes_before l.id id)) links
dropped_shows {A} id boxes slice back at links ascends same is cut shows =
    ap unboxed (cut ∙ ap (λ (n : ℕ). drop n slice) is ∙ ap (λ (xs : List (Box kept.LinkRow A)). drop (prefix_len (is_before id) xs) xs) same) ∙ dropped_is id boxes ascends ∙ ap (filter (λ (l : LinkRow). not (comes_before l.id id))) shows
