-- What the table's calls leave, over plain variables.
use Rattle.std.proofs.Common.{◌≡◌, ◌∙◌, ℕ, ◌+◌, ◌-◌, ◌<◌, ◌≤◌, Bool, true, false, not, List, length, get_or, Some, None, refl, sym, ap, subst, nat_cmp, arith}
use Rattle.std.proofs.lemmas.Option.{slice_get-map, slice_get_read, slice_get_past}
use Rattle.std.proofs.lemmas.List.Edits.{length-insert, length-remove}
use Rattle.std.proofs.lemmas.List.Sums.{prefix_len-le-length}
use Rattle.std.specs.BTreeSet.{insert_key}
use Rattle.std.specs.List.{find, prefix_len, slice_get, insert, remove}
use Rattle.std.specs.Option.{option_map}
use Rattle.std.specs.Cmp.Lexicographic.{slice_cmp, nat_list_cmp_total}
use Rattle.std.specs.BTreeMap.{BTreeMap}
use Rattle.std.specs.declared.boxed.Box.{Box}
use Rattle.tumbler.proofs.InOrder.{inserted_ascend, left_ascend}
use Rattle.tumbler.proofs.RowsInOrder.{same_item}
use Rattle.world_rules.specs.World.{LinkRow, is_same}
use Rattle.world_rules.specs.Counting.{count_in, CountsAs}
use Rattle.links.specs.declared.row.LinkRow as kept
use Rattle.links.specs.LinkLists.{plain_link, is_of, ids_in, has_in, link_in, added, removed, id_cmp, most_links}
use Rattle.links.specs.inside.Kept.{shown, unboxed, IsAscending, is_before, IsAt, HoldsCounts}
use Rattle.links.proofs.Placed.{absent, found, lacks_found, inserted, taken_out, lacking_stay}
use Rattle.links.proofs.Ordered.{ids_added, ids_removed}
use Rattle.links.proofs.Counted.{counts_added, counts_removed, unboxed_long}

-- ---- what is not there

not_is : (b : Bool) → true ≡ not b → b ≡ false
not_is true e = e
not_is false e = refl

module _ {A : Type 0} (id : List ℕ) (boxes : List (Box kept.LinkRow A)) (at : ℕ) where
  pub absent_past : IsAscending (ids_in (unboxed boxes)) → at ≡ prefix_len (is_before id) boxes → length boxes ≤ at → has_in (unboxed boxes) id ≡ false
  absent_past ascends is past = absent id boxes ascends (λ d within. absurd (omega (arith, is, past, within)))

  pub absent_at : (x : Box kept.LinkRow A) → IsAscending (ids_in (unboxed boxes)) → at ≡ prefix_len (is_before id) boxes → at < length boxes → x ≡ get_or boxes at x → (row : kept.LinkRow) → row ≡ x.value
      → true ≡ not (is_same row.id id) → has_in (unboxed boxes) id ≡ false
  absent_at x ascends is within item row own other =
      absent id boxes ascends (λ d there.
      let it : x ≡ get_or boxes (prefix_len (is_before id) boxes) d = item ∙ same_item boxes at x d within ∙ ap (λ k. get_or boxes k d) is in
      ap (λ (b : Box kept.LinkRow A). is_of id (shown b)) (sym it) ∙ ap (λ (r : kept.LinkRow). is_same r.id id) (sym own) ∙ not_is (is_same row.id id) other)

-- ---- the k-th link

pub nth_some : {A : Type 0} (boxes : List (Box kept.LinkRow A)) (k : ℕ) (x : Box kept.LinkRow A) → k < length boxes → x ≡ get_or boxes k x → Some (shown x) ≡ slice_get (unboxed boxes) k
nth_some boxes k x within is =
    sym (slice_get-map shown boxes k ∙ ap (option_map shown) (slice_get_read boxes (length boxes) k x refl within is))

pub nth_none : {A : Type 0} (boxes : List (Box kept.LinkRow A)) (k : ℕ) → length boxes ≤ k → None ≡ slice_get (unboxed boxes) k
nth_none boxes k past = sym (slice_get-map shown boxes k ∙ ap (option_map shown) (slice_get_past boxes k past))

-- ---- look-ups

module _ {A : Type 0} (id : List ℕ) (boxes : List (Box kept.LinkRow A)) (links : List LinkRow) (shows : unboxed boxes ≡ links) where
  pub get_there : (at : ℕ) (x : Box kept.LinkRow A) (row : kept.LinkRow) → IsAt id boxes at → x ≡ get_or boxes at x → row ≡ x.value → Some (plain_link row) ≡ link_in links id
  get_there at x row it item own =
      ap (λ (r : kept.LinkRow). Some (plain_link r)) own
      ∙ sym (ap (find (is_of id)) (sym shows)
      ∙ found id boxes x (subst (λ k. k < length boxes) it.place it.within) (subst (λ k. is_of id (shown (get_or boxes k x)) ≡ true) it.place (it.own x))
      ∙ ap (λ k. Some (shown (get_or boxes k x))) (sym it.place) ∙ ap (λ (b : Box kept.LinkRow A). Some (shown b)) (sym item))

  pub get_none : has_in (unboxed boxes) id ≡ false → None ≡ link_in links id
  get_none lacks = sym (ap (find (is_of id)) (sym shows) ∙ lacks_found id (unboxed boxes) lacks)

-- ---- changes

-- what holds of the links and counts that are kept
abbrev pub Holds : {A : Type 0} → List (Box kept.LinkRow A) → BTreeMap (List ℕ) ℕ → Type 0
Holds boxes counts = (length boxes ≤ most_links) × IsAscending (ids_in (unboxed boxes)) × HoldsCounts (unboxed boxes) counts

module _ {A : Type 0} (id : List ℕ) (boxes : List (Box kept.LinkRow A)) (at : ℕ) where
  pub place_fits : at ≡ prefix_len (is_before id) boxes → at ≤ length boxes
  place_fits is = rw is (prefix_len-le-length (is_before id) boxes)

  module _ (new : Box kept.LinkRow A) (is : at ≡ prefix_len (is_before id) boxes) (own : new.value.id ≡ id) (lacks : has_in (unboxed boxes) id ≡ false) where
    added_rows : unboxed (insert boxes at new) ≡ insert_key id_cmp (unboxed boxes) (shown new)
    added_rows = ap (λ k. unboxed (insert boxes k new)) is ∙ inserted id new boxes own lacks

    pub add_holds : (after : List (Box kept.LinkRow A)) (home : List ℕ) (old now : BTreeMap (List ℕ) ℕ) → after ≡ insert boxes at new → length boxes < most_links → home ≡ new.value.home → Holds boxes old
        → CountsAs home (count_in old home + 1) old now → Holds after now
    add_holds after home old now made room key holds counted =
        let longer = length-insert boxes at new (place_fits is) in
        let ids = ids_added (shown new) (unboxed boxes) in
        rw made (
          omega (arith, longer, room),
          subst IsAscending (sym (ap ids_in added_rows ∙ ids)) (inserted_ascend (slice_cmp nat_cmp) nat_list_cmp_total (ids_in (unboxed boxes)) new.value.id holds.1),
          counts_added home boxes at new old now key holds.2 counted,
        )

    pub add_shows : (after : List (Box kept.LinkRow A)) (links : List LinkRow) (link : LinkRow) → shown new ≡ link → after ≡ insert boxes at new → unboxed boxes ≡ links → unboxed after ≡ added links link
    add_shows after links link value made shows =
        ap unboxed made ∙ added_rows ∙ ap (insert_key id_cmp (unboxed boxes)) value ∙ ap (λ rows. insert_key id_cmp rows link) shows

  module _ (ascends : IsAscending (ids_in (unboxed boxes))) (it : IsAt id boxes at) where
    removed_rows : (d : Box kept.LinkRow A) → unboxed (remove boxes at) ≡ removed (unboxed boxes) id
    removed_rows d =
        ap (λ k. unboxed (remove boxes k)) it.place
        ∙ taken_out id boxes d ascends (subst (λ k. k < length boxes) it.place it.within) (subst (λ k. is_of id (shown (get_or boxes k d)) ≡ true) it.place (it.own d))

    pub remove_shows : (d : Box kept.LinkRow A) (after : List (Box kept.LinkRow A)) (links : List LinkRow) → after ≡ remove boxes at → unboxed boxes ≡ links → unboxed after ≡ removed links id
    remove_shows d after links made shows = ap unboxed made ∙ removed_rows d ∙ ap (λ rows. removed rows id) shows

    pub remove_holds : (d : Box kept.LinkRow A) (after : List (Box kept.LinkRow A)) (home : List ℕ) (old now : BTreeMap (List ℕ) ℕ) → after ≡ remove boxes at → home ≡ (get_or boxes at d).value.home → Holds boxes old
        → CountsAs home (count_in old home - 1) old now → Holds after now
    remove_holds d after home old now made key holds counted =
        let shorter = length-remove boxes at it.within in
        rw made (
          omega (arith, shorter, holds.0),
          subst IsAscending (sym (ap ids_in (removed_rows d) ∙ ids_removed id (unboxed boxes))) (left_ascend (slice_cmp nat_cmp) (λ e. not (is_same e id)) (ids_in (unboxed boxes)) ascends),
          counts_removed home boxes at d old now it.within key holds.2 counted,
        )

pub room_below : {A : Type 0} (boxes : List (Box kept.LinkRow A)) (links : List LinkRow) → unboxed boxes ≡ links → length links < most_links → length boxes < most_links
room_below boxes links shows room = subst (λ n. n < most_links) (sym (ap length shows) ∙ unboxed_long boxes) room

pub none_removed : (links : List LinkRow) (boxed : List LinkRow) (id : List ℕ) → boxed ≡ links → has_in boxed id ≡ false → links ≡ removed links id
none_removed links boxed id is lacks = sym (lacking_stay id links (ap (λ rows. has_in rows id) (sym is) ∙ lacks))
