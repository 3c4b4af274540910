-- How many links of a home there are, where homes stand in order.
use Rattle.std.proofs.Common.{◌≡◌, ◌∙◌, ℕ, suc, ◌+◌, ◌-◌, ◌<◌, ◌≤◌, ◌||◌, Bool, true, false, true≢false, not, cond, List, [], ◌∷◌, length, map, get_or, All, refl, sym, ap, subst, arith, nat_cmp, is_lt, is_eq, Ordering, Less, Equal, Greater, inl, inr, ◌⊎◌}
use Rattle.std.proofs.Math.ListN.{get_or-map}
use Rattle.std.specs.Prelude.{IsTrue}
use Rattle.std.specs.List.{prefix_len}
use Rattle.std.specs.List.Sorted.{IsPartitionedBy}
use Rattle.std.specs.Ordering.{ordering_reverse}
use Rattle.std.specs.Cmp.Lexicographic.{slice_cmp, nat_list_cmp_total, texts_ties, bytes_decides}
use Rattle.std.proofs.lemmas.Bool.{cases_lt}
use Rattle.std.proofs.lemmas.List.{length-map}
use Rattle.std.proofs.lemmas.List.Elements.{All-head, All-tail, All-map}
use Rattle.std.proofs.lemmas.List.Sums.{sum_by-cons}
use Rattle.std.proofs.lemmas.Map.Keys.{Less-from_sorted}
use Rattle.tumbler.specs.Places.{IsBefore, IsUpTo, comes_before}
use Rattle.tumbler.specs.Address.{IsDocument}
use Rattle.tumbler.proofs.Alls.{All-unmapped}
use Rattle.tumbler.proofs.Order.{upto_itself, upto_before, upto_upto, before_upto, never_before_itself, same_if_tied}
use Rattle.tumbler.proofs.Before.{before_if_true, true_if_before, up_to_if_false, false_if_up_to}
use Rattle.world_rules.specs.World.{link_address}
use Rattle.page_tables.specs.declared.tables.TableDocument.{TableDocument}
use Rattle.page_tables.specs.declared.tables.TableLink.{TableLink}
use Rattle.page_tables.specs.declared.tables.Tables.{Tables}
use Rattle.page_tables.specs.Plain.{PlainLink, PlainTables, plain_link, plain_tables}
use Rattle.table_checks.specs.TableRows.{ids_of, is_of, is_listed, is_of_home, links_in_home}
use Rattle.table_checks.specs.Sound.{Ascend, AreNumbered, AreSound}
use Rattle.table_checks.proofs.Ordered.{ids_seen}
use Rattle.table_checks.proofs.HomeOrder.{homes_ascend}
use Rattle.table_checks.proofs.Numbered.{HasLinkId, all_made, none_of, false_unless}

-- ---- homes are documents

listed_step : (address : List ℕ) (row : TableDocument) (b rest : Bool) → is_of address row ≡ b → (b || rest) ≡ true → IsDocument row.document → (rest ≡ true → IsDocument address) → IsDocument address
listed_step address row true rest e there own later = subst IsDocument ((bytes_decides row.document address).0 e) own
listed_step address row false rest e there own later = later there

listed_document : (rows : List TableDocument) (address : List ℕ) → All (λ (row : TableDocument). IsDocument row.document) rows → is_listed rows address ≡ true → IsDocument address
listed_document [] address all there = absurd (true≢false (sym there))
listed_document (row ∷ rows) address all there =
    listed_step address row (is_of address row) (is_listed rows address) refl there (All-head (λ (r : TableDocument). IsDocument r.document) row rows all)
    (listed_document rows address (All-tail (λ (r : TableDocument). IsDocument r.document) row rows all))

pub home_documents : (rows : List TableDocument) (links : List PlainLink) → All (λ (row : TableDocument). IsDocument row.document) rows → All (λ (link : PlainLink). IsTrue (is_listed rows link.home)) links → All (λ (link : PlainLink). IsDocument link.home) links
home_documents rows links all homes k d lt = listed_document rows (get_or links k d).home all (homes k d lt)

-- ---- homes in order

abbrev pub HomesAscend : List TableLink → Type 0
HomesAscend links = (i j : ℕ) (d : TableLink) → i ≤ j → j < length links → IsUpTo (get_or links i d).home (get_or links j d).home

-- two ids in order have homes in order
two_homes : (one other : TableLink) → HasLinkId (plain_link one) → HasLinkId (plain_link other) → IsDocument one.home → IsDocument other.home → IsBefore one.id other.id → IsUpTo one.home other.home
two_homes one other has has_too is is_too less =
    let same : slice_cmp nat_cmp (link_address one.home has.number) (link_address other.home has_too.number) ≡ slice_cmp nat_cmp one.id other.id = λ k. slice_cmp nat_cmp (sym has.id k) (sym has_too.id k) in
    homes_ascend one.home other.home has.number has_too.number is is_too (same ∙ less)

module _ (links : List TableLink) (ascends : Ascend (ids_of (map plain_link links))) (documents : All (λ (link : PlainLink). IsDocument link.home) (map plain_link links)) (numbered : AreNumbered (map plain_link links)) where
  ids_apart : (i j : ℕ) (d : TableLink) → i < j → j < length links → IsBefore (get_or links i d).id (get_or links j d).id
  ids_apart i j d below lt =
      let left : (get_or links i d).id ≡ get_or (map (λ (link : TableLink). link.id) links) i d.id = sym (get_or-map (λ (link : TableLink). link.id) links i d) in
      let right : (get_or links j d).id ≡ get_or (map (λ (link : TableLink). link.id) links) j d.id = sym (get_or-map (λ (link : TableLink). link.id) links j d) in
      (λ k. slice_cmp nat_cmp (left k) (right k))
      ∙ Less-from_sorted (slice_cmp nat_cmp) (map (λ (link : TableLink). link.id) links) i j d.id (subst Ascend (ids_seen links) ascends) below (omega (arith, lt, length-map links (λ (link : TableLink). link.id)))

  made : All (λ (link : TableLink). HasLinkId (plain_link link)) links
  made = All-unmapped HasLinkId plain_link links (all_made [] (map plain_link links) numbered)

  are_documents : All (λ (link : TableLink). IsDocument link.home) links
  are_documents = All-unmapped (λ (link : PlainLink). IsDocument link.home) plain_link links documents

  order_step : (i j : ℕ) (d : TableLink) → i ≤ j → j < length links → (i < j) ⊎ (j ≤ i) → IsUpTo (get_or links i d).home (get_or links j d).home
  order_step i j d upto lt (inl below) =
      let inside : i < length links = omega (arith, upto, lt) in
      two_homes (get_or links i d) (get_or links j d) (made i d inside) (made j d lt) (are_documents i d inside) (are_documents j d lt) (ids_apart i j d below lt)
  order_step i j d upto lt (inr above) =
      let same : i ≡ j = omega (arith, upto, above) in
      subst (λ (k : ℕ). IsUpTo (get_or links i d).home (get_or links k d).home) same (upto_itself (get_or links i d).home)

  pub homes_in_order : HomesAscend links
  homes_in_order i j d upto lt = order_step i j d upto lt (cases_lt i j)

module _ (home : List ℕ) where
  -- the link's home comes before this one, and does not come after it
  abbrev pub is_under : TableLink → Bool
  is_under link = comes_before link.home home

  abbrev pub is_within : TableLink → Bool
  is_within link = not (comes_before home link.home)

  -- ---- where the searches end

  pub under_parted : (links : List TableLink) → HomesAscend links → IsPartitionedBy is_under links
  under_parted links ascend i j d upto lt passes =
      true_if_before (get_or links i d).home home (upto_before (get_or links i d).home (get_or links j d).home home (ascend i j d upto lt) (before_if_true (get_or links j d).home home passes))

  not_true : (b : Bool) → not b ≡ true → b ≡ false
  not_true true e = sym e
  not_true false e = refl

  pub within_parted : (links : List TableLink) → HomesAscend links → IsPartitionedBy is_within links
  within_parted links ascend i j d upto lt passes =
      ap not (false_if_up_to home (get_or links i d).home (upto_upto (get_or links i d).home (get_or links j d).home home (ascend i j d upto lt) (up_to_if_false home (get_or links j d).home (not_true (comes_before home (get_or links j d).home) passes))))

  -- ---- the count

  none_under : (links : List TableLink) → All (λ (l : TableLink). is_under l ≡ false) links → prefix_len is_under links ≡ 0
  none_under [] all = refl
  none_under (link ∷ links) all =
      let first : is_under link ≡ false = All-head (λ (l : TableLink). is_under l ≡ false) link links all in
      ap (λ (b : Bool). cond b (1 + prefix_len is_under links) 0) first

  none_same : (x : TableLink) (links : List TableLink) → IsBefore home x.home → All (λ (l : TableLink). IsUpTo x.home l.home) links → links_in_home (map plain_link links) home ≡ 0
  none_same x links above behind =
      none_of home (map plain_link links)
      (All-map (λ (l : PlainLink). is_of_home home l ≡ false) plain_link links
      (λ k d lt. false_unless (is_of_home home (plain_link (get_or links k d)))
      (λ same. never_before_itself home (subst (IsBefore home) ((bytes_decides (get_or links k d).home home).0 same) (before_upto home x.home (get_or links k d).home above (behind k d lt))))))

  count_step : (x : TableLink) (links : List TableLink) (o : Ordering) → slice_cmp nat_cmp x.home home ≡ o → All (λ (l : TableLink). IsUpTo x.home l.home) links
      → prefix_len is_within links ≡ prefix_len is_under links + links_in_home (map plain_link links) home
      → prefix_len is_within (x ∷ links) ≡ prefix_len is_under (x ∷ links) + links_in_home (map plain_link (x ∷ links)) home
  count_step x links Less is behind rest =
      let inner : prefix_len is_within (x ∷ links) ≡ 1 + prefix_len is_within links = ap (λ (o : Ordering). cond (not (is_lt o)) (1 + prefix_len is_within links) 0) (nat_list_cmp_total.antisymm home x.home ∙ ap ordering_reverse is) in
      let under : prefix_len is_under (x ∷ links) ≡ 1 + prefix_len is_under links = ap (λ (o : Ordering). cond (is_lt o) (1 + prefix_len is_under links) 0) is in
      let count : links_in_home (map plain_link (x ∷ links)) home ≡ 0 + links_in_home (map plain_link links) home = sum_by-cons (λ (l : PlainLink). cond (is_of_home home l) 1 0) (plain_link x) (map plain_link links) ∙ ap (λ (b : Bool). cond b 1 0 + links_in_home (map plain_link links) home) (texts_ties x.home home ∙ ap is_eq is) in
      omega (arith, inner, under, count, rest)
  count_step x links Equal is behind rest =
      let inner : prefix_len is_within (x ∷ links) ≡ 1 + prefix_len is_within links = ap (λ (o : Ordering). cond (not (is_lt o)) (1 + prefix_len is_within links) 0) (nat_list_cmp_total.antisymm home x.home ∙ ap ordering_reverse is) in
      let under : prefix_len is_under (x ∷ links) ≡ 0 = ap (λ (o : Ordering). cond (is_lt o) (1 + prefix_len is_under links) 0) is in
      let count : links_in_home (map plain_link (x ∷ links)) home ≡ 1 + links_in_home (map plain_link links) home = sum_by-cons (λ (l : PlainLink). cond (is_of_home home l) 1 0) (plain_link x) (map plain_link links) ∙ ap (λ (b : Bool). cond b 1 0 + links_in_home (map plain_link links) home) (texts_ties x.home home ∙ ap is_eq is) in
      let none : prefix_len is_under links ≡ 0 = none_under links (λ k d lt. false_if_up_to (get_or links k d).home home (subst (λ (h : List ℕ). IsUpTo h (get_or links k d).home) (same_if_tied x.home home is) (behind k d lt))) in
      omega (arith, inner, under, count, none, rest)
  count_step x links Greater is behind rest =
      let above : slice_cmp nat_cmp home x.home ≡ Less = nat_list_cmp_total.antisymm home x.home ∙ ap ordering_reverse is in
      let inner : prefix_len is_within (x ∷ links) ≡ 0 = ap (λ (o : Ordering). cond (not (is_lt o)) (1 + prefix_len is_within links) 0) above in
      let under : prefix_len is_under (x ∷ links) ≡ 0 = ap (λ (o : Ordering). cond (is_lt o) (1 + prefix_len is_under links) 0) is in
      let count : links_in_home (map plain_link (x ∷ links)) home ≡ 0 + links_in_home (map plain_link links) home = sum_by-cons (λ (l : PlainLink). cond (is_of_home home l) 1 0) (plain_link x) (map plain_link links) ∙ ap (λ (b : Bool). cond b 1 0 + links_in_home (map plain_link links) home) (texts_ties x.home home ∙ ap is_eq is) in
      let none : links_in_home (map plain_link links) home ≡ 0 = none_same x links above behind in
      omega (arith, inner, under, count, none)

  pub home_count : (links : List TableLink) → HomesAscend links → prefix_len is_within links ≡ prefix_len is_under links + links_in_home (map plain_link links) home
  home_count [] ascend = refl
  home_count (x ∷ links) ascend =
      count_step x links (slice_cmp nat_cmp x.home home) refl (λ k d lt. ascend 0 (suc k) d (omega arith) (omega (arith, lt)))
      (home_count links (λ i j d upto lt. ascend (suc i) (suc j) d (omega (arith, upto)) (omega (arith, lt))))

pub sound_homes : (tables : PlainTables) (links : List TableLink) → tables.links ≡ map plain_link links → AreSound tables → HomesAscend links
sound_homes tables links is sound =
    let documents : All (λ (link : PlainLink). IsDocument link.home) tables.links = home_documents tables.documents tables.links sound.documents sound.homes in
    homes_in_order links (subst (λ (ls : List PlainLink). Ascend (ids_of ls)) is sound.links_ascend) (subst (All (λ (link : PlainLink). IsDocument link.home)) is documents) (subst AreNumbered is sound.numbered)

-- ---- tables as they lie in memory

pub sound_links : (tables : Tables) (links : List TableLink) → links ≡ tables.links.items → AreSound (plain_tables tables) → HomesAscend links
sound_links tables links is sound = sound_homes (plain_tables tables) links (ap (map plain_link) (sym is)) sound

pub counted : (home : List ℕ) (tables : Tables) (links : List TableLink) → links ≡ tables.links.items → HomesAscend links → (start end : ℕ) → start ≡ prefix_len (is_under home) links → end ≡ prefix_len (is_within home) links
    → end - start ≡ links_in_home (map plain_link tables.links.items) home
counted home tables links is ascend start end is_start is_end =
    let all : prefix_len (is_within home) links ≡ prefix_len (is_under home) links + links_in_home (map plain_link links) home = home_count home links ascend in
    let rest : end - start ≡ links_in_home (map plain_link links) home = omega (arith, all, is_start, is_end) in
    rest ∙ ap (λ (ls : List TableLink). links_in_home (map plain_link ls) home) is
