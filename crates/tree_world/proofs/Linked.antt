-- Links that runs meet are the links that are wanted.
use Rattle.std.proofs.Common.{◌≡◌, ◌∙◌, ℕ, ◌<◌, ◌&&◌, Bool, true, false, not, List, [], ◌∷◌, length, take, map, Option, Some, None, cond, refl, sym, ap, subst, All, IsPermutation}
use Rattle.std.specs.Prelude.{filter, is_none, count_by}
use Rattle.std.specs.List.{list_any}
use Rattle.std.specs.Option.{is_some, option_map}
use Rattle.std.specs.List.Sorted.{IsStrictlySortedBy}
use Rattle.std.specs.Ordering.{nat_cmp, is_eq}
use Rattle.std.specs.Cmp.Lexicographic.{slice_cmp, nat_list_cmp_total}
use Rattle.std.proofs.lemmas.List.{length-map}
use Rattle.std.proofs.lemmas.List.Sorted.{list_any-IsPermutation, sum_by-IsPermutation}
use Rattle.std.proofs.lemmas.List.Sums.{length-filter}
use Rattle.std.proofs.lemmas.Map.Lookups.{btree_set_from_contains}
use Rattle.tumbler.specs.ListView.{ListView}
use Rattle.tumbler.specs.Places.{comes_before}
use Rattle.tumbler.specs.declared.span.Span.{Span}
use Rattle.tumbler.proofs.Order.{same_if_tied}
use Rattle.febe_data.specs.declared.run.Run.{Run}
use Rattle.febe_data.specs.Plain.{PlainSpec, PlainWant}
use Rattle.spanfilade.proofs.Ascending.{among, with_keys-among, with_keys-ascends, none_ascends}
use Rattle.links.specs.declared.row.WantedEnds.{WantedEnds}
use Rattle.links.specs.LinkLists.{LinkLists, IsRun, IsLink, run_span, ids_in, is_of, link_in, has_in}
use Rattle.links.specs.Readable.{is_read, ids_read}
use Rattle.links.proofs.ReadLinks.{ids_by_homes}
use Rattle.links.specs.Finding.{spans_meet, is_end_met, given, found_in}
use Rattle.links.specs.Finding as met
use Rattle.links.proofs.Searched.{ids_kept, among_chosen}
use Rattle.world_rules.specs.declared.lookups.WantedRuns.{WantedRuns}
use Rattle.world_rules.specs.World.{World, LinkRow, is_same, ascending, account_of_session}
use Rattle.world_rules.specs.Readable.{is_readable}
use Rattle.world_rules.specs.Picking.{runs_of}
use Rattle.world_rules.specs.Finding.{is_home_wanted, is_end_wanted, is_wanted, links_found, ids_found, ids_after}
use Rattle.world_rules.specs.FlatView.{FlatView}
use Rattle.world_rules.specs.Wanted.{AreWantedRuns}
use Rattle.world_rules.specs.Meeting.{shares_byte, share_bytes}
use Rattle.world_rules.proofs.ListTests.{filter_both}
use Rattle.world_rules.proofs.SharedBytes.{specs_share}
use Rattle.tree_world.specs.Trees.{Trees}
use Rattle.tree_world.specs.Standing.{Stands}
use Rattle.tree_world.specs.inside.Met.{IsWantedEnd, AreWantedEnds}
use Rattle.tree_world.specs.inside.Reads.{reads_in, ids_above}
use Rattle.tree_world.proofs.Lists.{filter_alike, any_alike, any_across, none_any, any_map, found_or_not, none_passes, whole_front, all_pass}
use Rattle.tree_world.proofs.Places.{runs_met}
use Rattle.tree_world.proofs.MayRead.{reads_are}

-- ---- one end

spans_share : (picked runs : List Run) → All IsRun picked → All IsRun runs → list_any (λ run. list_any (λ span. spans_meet span (run_span run)) (map run_span picked)) runs ≡ share_bytes picked runs
spans_share picked runs right right' =
    (λ i. list_any (λ run. any_map (λ span. spans_meet span (run_span run)) run_span picked i) runs)
    ∙ any_alike (λ run. list_any (λ other. spans_meet (run_span other) (run_span run)) picked) (λ run. list_any (λ other. shares_byte other run) picked) runs
    (λ k d lt. any_alike _ _ picked (λ j e lt'. runs_met _ _ (right j e lt') (right' k d lt)))
    ∙ any_across (λ run other. shares_byte other run) runs picked

end_met : (world : World) (specs : List PlainSpec) (picked runs : List Run) (made : Option (ListView Span)) → IsWantedEnd specs picked made → picked ≡ runs_of world specs → All IsRun runs → is_end_met (given made) runs ≡ is_end_wanted world specs runs
end_met world [] picked runs made is same right = ap (λ (spans : Option (List Span)). is_end_met spans runs) is.spans
end_met world (spec ∷ specs) picked runs made is same right =
    ap (λ (spans : Option (List Span)). is_end_met spans runs) is.spans ∙ spans_share picked runs is.right right ∙ ap (λ (all : List Run). share_bytes all runs) same ∙ specs_share world runs (spec ∷ specs)

-- ---- links

module _ (world : World) (want : PlainWant) (runs : WantedRuns) (ends : WantedEnds) (are : AreWantedEnds want runs ends) (picked : AreWantedRuns world want runs) where
  link_met : (link : LinkRow) → IsLink link → met.is_wanted want.homes ends link ≡ is_wanted world want link
  link_met link is = λ i.
      is_home_wanted want.homes link.home && end_met world want.from runs.from.items link.from ends.from are.from picked.from_is is.from i && end_met world want.to runs.to.items link.to ends.to are.to picked.to_is is.to i
      && end_met world want.three runs.three.items link.three ends.three are.three picked.three_is is.three i

  links_met : (links : List LinkRow) → All IsLink links → filter (met.is_wanted want.homes ends) links ≡ filter (is_wanted world want) links
  links_met links all = filter_alike (met.is_wanted want.homes ends) (is_wanted world want) links (λ k d lt. link_met _ (all k d lt))

-- ---- their ids

abbrev id_of : LinkRow → List ℕ
id_of link = link.id

-- whatever order they stand in, the ids of those that pass a test ascend
ids_are : (p : LinkRow → Bool) (links others : List LinkRow) → IsStrictlySortedBy (slice_cmp nat_cmp) (ids_in links) → IsPermutation links others → ascending (ids_in (filter p others)) ≡ ids_in (filter p links)
ids_are p links others sorted moved =
    let some = ids_in (filter p others) in
    btree_set_from_contains nat_list_cmp_total (record { keys = ascending some }) (record { keys = ids_in (filter p links) }) (with_keys-ascends some [] none_ascends) (ids_kept p links sorted)
    (λ q.
    with_keys-among some [] q
    ∙ among_chosen q id_of p others
    ∙ sym (list_any-IsPermutation (λ link. p link && is_eq (slice_cmp nat_cmp q (id_of link))) links others moved)
    ∙ sym (among_chosen q id_of p links)) same_if_tied

-- those that are met, where all fit into a list
pub met_above : (held : LinkLists) (shown : Trees) (view : FlatView) (want : PlainWant) (runs : WantedRuns) (ends : WantedEnds) (after : List ℕ) (limit : ℕ) (found : List (List ℕ)) → held ≡ shown.links → All IsLink held.links → AreWantedRuns view.world want runs → AreWantedEnds want runs ends
    → found ≡ found_in held.links want.homes ends after limit → length found < limit → found ≡ ids_above view.world want shown.links.links after
met_above held shown view want runs ends after limit found same all picked are is short =
    let front : found ≡ take limit (ids_above view.world want held.links after) = is ∙ ap (λ (links : List LinkRow). take limit (filter (λ id. comes_before after id) (ids_in links))) (links_met view.world want runs ends are picked held.links all) in
    front ∙ whole_front limit (ids_above view.world want held.links after) (subst (λ (ids : List (List ℕ)). length ids < limit) front short) ∙ ap (λ (lists : LinkLists). ids_above view.world want lists.links after) same

-- ---- those that may be read

and_turned : (a b : Bool) → (a && b) ≡ (b && a)
and_turned true true = refl
and_turned true false = refl
and_turned false true = refl
and_turned false false = refl

filter_turned : {X : Type 0} (p q : X → Bool) (xs : List X) → filter p (filter q xs) ≡ filter q (filter p xs)
filter_turned p q xs = sym (filter_both q p xs) ∙ (λ i. filter (λ x. and_turned (q x) (p x) i) xs) ∙ filter_both p q xs

module _ (shown : Trees) (view : FlatView) (stands : Stands shown view) (session : ℕ) (account : Option (List ℕ)) (drawn : account ≡ account_of_session view.world session) (want : PlainWant) (sorted : IsStrictlySortedBy (slice_cmp nat_cmp) (ids_in shown.links.links)) where
  abbrev links : List LinkRow
  links = shown.links.links

  -- of all that are wanted, those whose homes the session may read are the ones that it finds
  ids_are_found : ids_read (reads_in shown account) links (ids_in (filter (is_wanted view.world want) links)) ≡ ids_found view.world session want
  ids_are_found =
      ids_by_homes (reads_in shown account) links (is_wanted view.world want) sorted
      ∙ (λ i. ids_in (filter (λ (link : LinkRow). reads_are shown view stands session account drawn link.home i && is_wanted view.world want link) links))
      ∙ sym (ids_are (λ (link : LinkRow). is_readable view.world session link.home && is_wanted view.world want link) links view.world.links sorted stands.link_table)

  pub read_above : (after : List ℕ) → ids_read (reads_in shown account) links (ids_above view.world want links after) ≡ filter (λ id. comes_before after id) (ids_found view.world session want)
  read_above after =
      filter_turned (λ id. is_read (reads_in shown account) (link_in links id)) (λ id. comes_before after id) (ids_in (filter (is_wanted view.world want) links))
      ∙ ap (filter (λ id. comes_before after id)) ids_are_found

  -- the first of them
  pub found_after : (after : List ℕ) (limit : ℕ) (met slice found : List (List ℕ)) → met ≡ ids_above view.world want links after → slice ≡ met → found ≡ take limit (ids_read (reads_in shown account) links slice) → found ≡ ids_after view.world session want after limit
  found_after after limit met slice found are same is = is ∙ ap (λ (ids : List (List ℕ)). take limit (ids_read (reads_in shown account) links ids)) (same ∙ are) ∙ ap (take limit) (read_above after)

-- ---- all of them

least_or_not : (id : List ℕ) → is_eq (slice_cmp nat_cmp [] id) ≡ is_same id []
least_or_not [] = refl
least_or_not (place ∷ id) = refl

above_least : (id : List ℕ) → is_eq (slice_cmp nat_cmp [] id) ≡ false → comes_before [] id ≡ true
above_least [] e = sym e
above_least (place ∷ id) e = refl

and_no : (a b : Bool) → b ≡ false → (a && b) ≡ false
and_no true b e = e
and_no false b e = refl

-- where no link has the least id, all ids are above it
all_above : (world : World) (session : ℕ) (want : PlainWant) → has_in world.links [] ≡ false → All (λ id. comes_before [] id ≡ true) (ids_found world session want)
all_above world session want none =
    let p = λ (link : LinkRow). is_readable world session link.home && is_wanted world want link in
    let some = ids_in (links_found world session want) in
    let not_least : All (λ (link : LinkRow). is_same link.id [] ≡ false) world.links = none_passes (λ (link : LinkRow). is_same link.id []) world.links none in
    let not_there : among [] (ascending some) ≡ false =
    with_keys-among some [] []
    ∙ among_chosen [] id_of p world.links
    ∙ any_alike (λ link. p link && is_eq (slice_cmp nat_cmp [] (id_of link))) (λ link. false) world.links (λ k d lt. and_no _ _ (least_or_not _ ∙ not_least k d lt))
    ∙ none_any world.links
    in
    let each = none_passes (λ id. is_eq (slice_cmp nat_cmp [] id)) (ascending some) not_there in
    λ k d lt. above_least _ (each k d lt)

-- where the table has none with it, the world has none
pub none_least : (shown : Trees) (view : FlatView) → Stands shown view → has_in shown.links.links [] ≡ false → has_in view.world.links [] ≡ false
none_least shown view stands none = sym (list_any-IsPermutation (is_of []) shown.links.links view.world.links stands.link_table) ∙ none

all_pass_above : (world : World) (session : ℕ) (want : PlainWant) → has_in world.links [] ≡ false → filter (λ id. comes_before [] id) (ids_found world session want) ≡ ids_found world session want
all_pass_above world session want none = all_pass (λ id. comes_before [] id) (ids_found world session want) (all_above world session want none)

pub found_all : (world : World) (session : ℕ) (want : PlainWant) (limit : ℕ) (found : List (List ℕ)) → has_in world.links [] ≡ false → found ≡ ids_after world session want [] limit → length found < limit → found ≡ ids_found world session want
found_all world session want limit found none is short =
    let front : found ≡ take limit (ids_found world session want) = is ∙ ap (take limit) (all_pass_above world session want none) in
    front ∙ whole_front limit (ids_found world session want) (subst (λ (ids : List (List ℕ)). length ids < limit) front short)

-- ---- how many they are

many_alike : {X : Type 0} (p : X → Bool) (xs ys : List X) → IsPermutation xs ys → count_by p xs ≡ count_by p ys
many_alike p xs ys moved = sym (sum_by-IsPermutation (λ x. cond (p x) 1 0) xs ys moved)

pub counted : (shown : Trees) (view : FlatView) → Stands shown view → (session : ℕ) (account : Option (List ℕ)) → account ≡ account_of_session view.world session → (want : PlainWant) → IsStrictlySortedBy (slice_cmp nat_cmp) (ids_in shown.links.links) → has_in shown.links.links [] ≡ false
    → (met slice : List (List ℕ)) (count : ℕ) → met ≡ ids_above view.world want shown.links.links [] → slice ≡ met → count ≡ length (ids_read (reads_in shown account) shown.links.links slice) → count ≡ length (links_found view.world session want)
counted shown view stands session account drawn want sorted none met slice count are same is =
    let p = λ (link : LinkRow). is_readable view.world session link.home && is_wanted view.world want link in
    is
    ∙ ap (λ (ids : List (List ℕ)). length (ids_read (reads_in shown account) shown.links.links ids)) (same ∙ are)
    ∙ ap length (read_above shown view stands session account drawn want sorted [] ∙ all_pass_above view.world session want (none_least shown view stands none))
    ∙ ap length (ids_are p shown.links.links view.world.links sorted stands.link_table)
    ∙ length-map (filter p shown.links.links) id_of
    ∙ length-filter p shown.links.links
    ∙ many_alike p shown.links.links view.world.links stands.link_table
    ∙ sym (length-filter p view.world.links)

-- ---- whether there is a link

pub is_some_of : {X Y Z : Type 0} (f : X → Y) (g : Y → Z) (found : Option X) → is_some found ≡ not (is_none (option_map g (option_map f found)))
is_some_of f g None = refl
is_some_of f g (Some x) = refl

-- whoever may read it
pub is_held : (found : Option LinkRow) (links : List LinkRow) (id : List ℕ) → found ≡ link_in links id → not (is_none found) ≡ has_in links id
is_held found links id is = ap (λ (f : Option LinkRow). not (is_none f)) is ∙ found_or_not (is_of id) links
