-- Links, which are numbered in each home as they come.
use Rattle.std.proofs.Common.{◌≡◌, ◌≢◌, ℕ, zero, suc, ◌+◌, ◌≤◌, ◌∙◌, ◌&&◌, Bool, true, false, cond, List, [], ◌∷◌, ◌++◌, length, map, ap, sym, refl, subst, arith, append_assoc, append-nil, All, get_or}
use Rattle.std.specs.Prelude.{count_by, filter, Some}
use Rattle.std.specs.List.{fold, AllPairs}
use Rattle.std.specs.declared.cmp.Ordering.{Ordering}
use Rattle.std.specs.declared.cmp.Ordering.TheVariants.{Less, Equal, Greater}
use Rattle.std.specs.Ordering.{nat_cmp, match_ordering, is_eq}
use Rattle.std.specs.Cmp.Lexicographic.{slice_cmp, bytes_decides, texts_ties}
use Rattle.std.specs.BTreeSet.{insert_key}
use Rattle.std.proofs.lemmas.List.{map-append, length-map}
use Rattle.std.proofs.lemmas.List.Elements.{filter-append, All-nil, All-cons, All-append, All-weaker}
use Rattle.std.proofs.lemmas.List.Kept.{AllPairs-filter}
use Rattle.std.proofs.lemmas.List.Quantifiers.{all_pairs_push}
use Rattle.std.proofs.lemmas.List.Sums.{sum_by_push}
use Rattle.std.proofs.lemmas.Map.Views.{All-insert_key}
use Rattle.febe_data.specs.Plain.{PlainEntry, PlainChange, restarted, began, ended, account_changed, document_opened, document_closed, document_created, version_made, copy_opened, text_inserted, span_deleted, blocks_swapped, specs_copied, link_made, document_published}
use Rattle.world_rules.specs.World.{World, LinkRow, empty_world, is_same, link_address}
use Rattle.world_rules.specs.Edits.{Cuts, cuts_of}
use Rattle.world_rules.specs.Readable.{is_readable}
use Rattle.world_rules.specs.Finding.{is_wanted, links_found, ids_found}
use Rattle.world_rules.specs.Apply.{apply, change_world, link_between, world_of}
use Rattle.world_rules.specs.Placed.{IsPlaced, AllPlaced}
use Rattle.world_rules.specs.Laws.{numbers_from, LinksNumbered, LinksOnce, IdsForLinks}
use Rattle.world_rules.proofs.Documents.{same_end}
use Rattle.world_rules.proofs.Later.{none_later, after_first, without_first, pairs_map}

-- ---- ids

-- the links that were made in a home, and how many they are
abbrev is_from : List ℕ → LinkRow → Bool
is_from home link = is_same link.home home

abbrev made_in : List LinkRow → List ℕ → ℕ
made_in links home = count_by (is_from home) links

abbrev ids : List LinkRow → List (List ℕ)
ids links = map (λ (link : LinkRow). link.id) links

-- an id has one home and one number
same_link : (one other : List ℕ) (j i : ℕ) → link_address one j ≡ link_address other i → (one ≡ other) × (j ≡ i)
same_link one other j i e =
    let last = same_end (one ++ 0 ∷ 2 ∷ []) (other ++ 0 ∷ 2 ∷ []) j i (append_assoc one (0 ∷ 2 ∷ []) (j ∷ []) ∙ e ∙ sym (append_assoc other (0 ∷ 2 ∷ []) (i ∷ []))) in
    let middle = same_end (one ++ 0 ∷ []) (other ++ 0 ∷ []) 2 2 (append_assoc one (0 ∷ []) (2 ∷ []) ∙ last.0 ∙ sym (append_assoc other (0 ∷ []) (2 ∷ []))) in
    let first = same_end one other 0 0 middle.0 in
    (first.0, last.1)

-- ---- links that are numbered

-- the link's number is at most as high as the links of its home are many
abbrev HasCome : List LinkRow → LinkRow → Type 0
HasCome links link = (home : List ℕ) (n : ℕ) → link.id ≡ link_address home n → n ≤ made_in links home

abbrev Differs : LinkRow → LinkRow → Type 0
Differs link later = link.id ≢ later.id

pub record AreMade (links : List LinkRow) : Type 0 where
  pub come : All (HasCome links) links
  pub once : AllPairs Differs links
  pub in_order : (home : List ℕ) → ids (filter (is_from home) links) ≡ map (link_address home) (numbers_from 1 (made_in links home))

made_push : (links : List LinkRow) (link : LinkRow) (home : List ℕ) → made_in (links ++ link ∷ []) home ≡ made_in links home + cond (is_from home link) 1 0
made_push links link home = sum_by_push (λ (l : LinkRow). cond (is_from home l) 1 0) links link

grows : (n k : ℕ) (more : Bool) → n ≤ k → n ≤ k + cond more 1 0
grows n k true le = omega arith
grows n k false le = omega arith

still_come : (links : List LinkRow) (link : LinkRow) → All (HasCome links) links → All (HasCome (links ++ link ∷ [])) links
still_come links link come =
    All-weaker (HasCome links) (HasCome (links ++ link ∷ []))
    (λ l is home n e. subst (λ (k : ℕ). n ≤ k) (sym (made_push links link home)) (grows n (made_in links home) (is_from home link) (is home n e)))
    links come

numbers_push : (n k : ℕ) → numbers_from n (suc k) ≡ numbers_from n k ++ (n + k) ∷ []
numbers_push n zero = ap (λ (m : ℕ). m ∷ []) (omega arith)
numbers_push n (suc k) = ap (λ (ns : List ℕ). n ∷ ns) (numbers_push (n + 1) k ∙ ap (λ (m : ℕ). numbers_from (n + 1) k ++ m ∷ []) (omega arith))

-- the next link of a home
module _ (links : List LinkRow) (link : LinkRow) (number : ℕ) (id : link.id ≡ link_address link.home number) (next : number ≡ made_in links link.home + 1) (made : AreMade links) where
  comes : HasCome (links ++ link ∷ []) link
  comes home n e =
      let same = same_link link.home home number n (sym id ∙ e) in
      let own : is_from home link ≡ true = (bytes_decides link.home home).1 same.0 in
      let all : made_in (links ++ link ∷ []) home ≡ made_in links home + 1 = made_push links link home ∙ ap (λ (b : Bool). made_in links home + cond b 1 0) own in
      let counted : number ≡ made_in links home + 1 = next ∙ ap (λ (h : List ℕ). made_in links h + 1) same.0 in
      let is_number : number ≡ n = same.1 in
      omega arith

  is_new : All (λ (l : LinkRow). l.id ≢ link.id) links
  is_new = All-weaker (HasCome links) (λ (l : LinkRow). l.id ≢ link.id)
      (λ l is e. let few : number ≤ made_in links link.home = is link.home number (e ∙ id) in absurd (omega arith))
      links made.come

  order_step : (home : List ℕ) (own : Bool) → is_from home link ≡ own → ids (filter (is_from home) (links ++ link ∷ [])) ≡ map (link_address home) (numbers_from 1 (made_in (links ++ link ∷ []) home))
  order_step home true e =
      let is_home : link.home ≡ home = (bytes_decides link.home home).0 e in
      let k : ℕ = made_in links home in
      let last : filter (is_from home) (link ∷ []) ≡ link ∷ [] = rw e refl in
      let all : suc (made_in links home) ≡ made_in (links ++ link ∷ []) home = omega (arith, made_push links link home ∙ ap (λ (b : Bool). made_in links home + cond b 1 0) e) in
      let counted : number ≡ made_in links home + 1 = next ∙ ap (λ (h : List ℕ). made_in links h + 1) is_home in
      let up : number ≡ 1 + made_in links home = omega arith in
      ap ids (filter-append (is_from home) links (link ∷ []) ∙ ap (λ (ls : List LinkRow). filter (is_from home) links ++ ls) last)
      ∙ map-append (λ (l : LinkRow). l.id) (filter (is_from home) links) (link ∷ [])
      ∙ (λ i. made.in_order home i ++ (id ∙ (λ j. link_address (is_home j) (up j))) i ∷ [])
      ∙ sym (map-append (link_address home) (numbers_from 1 k) ((1 + k) ∷ []))
      ∙ ap (map (link_address home)) (sym (numbers_push 1 k))
      ∙ ap (λ (n : ℕ). map (link_address home) (numbers_from 1 n)) all
  order_step home false e =
      let last : filter (is_from home) (link ∷ []) ≡ [] = rw e refl in
      let all : made_in (links ++ link ∷ []) home ≡ made_in links home = made_push links link home ∙ ap (λ (b : Bool). made_in links home + cond b 1 0) e ∙ omega arith in
      ap ids (filter-append (is_from home) links (link ∷ []) ∙ ap (λ (ls : List LinkRow). filter (is_from home) links ++ ls) last ∙ append-nil (filter (is_from home) links))
      ∙ made.in_order home
      ∙ ap (λ (n : ℕ). map (link_address home) (numbers_from 1 n)) (sym all)

  made_next : AreMade (links ++ link ∷ [])
  made_next = record {
    come = All-append (HasCome (links ++ link ∷ [])) links (link ∷ []) (still_come links link made.come) (All-cons (HasCome (links ++ link ∷ [])) link [] comes (All-nil (HasCome (links ++ link ∷ []))));
    once = all_pairs_push Differs links link made.once is_new;
    in_order = λ home. order_step home (is_from home link) refl;
  }

-- ---- a history

swapped_links : (world : World) (session : ℕ) (document cuts : List ℕ) (bounds : Cuts) → cuts_of cuts ≡ Some bounds → (change_world world session (blocks_swapped document cuts)).links ≡ world.links
swapped_links world session document cuts bounds e = rw e refl

change_made : (world : World) (session : ℕ) (change : PlainChange) → IsPlaced world change → AreMade world.links → AreMade (change_world world session change).links
change_made world session restarted placed made = made
change_made world session began placed made = made
change_made world session ended placed made = made
change_made world session (account_changed account) placed made = made
change_made world session (document_opened document mode) placed made = made
change_made world session (document_closed document) placed made = made
change_made world session (document_created document) placed made = made
change_made world session (version_made source document) placed made = made
change_made world session (copy_opened source document) placed made = made
change_made world session (text_inserted document at first text) placed made = made
change_made world session (span_deleted document span) placed made = made
change_made world session (blocks_swapped document cuts) placed made = subst AreMade (sym (swapped_links world session document cuts placed.bounds placed.are_cuts)) made
change_made world session (specs_copied document at specs) placed made = made
change_made world session (link_made home number place from to three) placed made = made_next world.links (link_between world home number from to three) number refl placed.is_next made
change_made world session (document_published document) placed made = made

made_along : (history : List PlainEntry) (world : World) → AllPlaced world history → AreMade world.links → AreMade (fold apply world history).links
made_along [] world placed made = made
made_along (entry ∷ history) world placed made = made_along history (apply world entry) placed.1 (change_made world entry.session entry.change placed.0 made)

are_made : (history : List PlainEntry) → AllPlaced empty_world history → AreMade (world_of history).links
are_made history placed = made_along history empty_world placed (record { come = All-nil (HasCome []); once = none_later Differs; in_order = λ home. refl })

pub links_numbered : LinksNumbered
links_numbered history placed home = (are_made history placed).in_order home

pub links_once : LinksOnce
links_once history placed = (are_made history placed).once

-- ---- ids in ascending order

-- an id that is not there comes in
length_inserted : (all : List (List ℕ)) (id : List ℕ) → All (λ (other : List ℕ). other ≢ id) all → length (insert_key (slice_cmp nat_cmp) all id) ≡ suc (length all)
length_inserted [] id new = refl
length_inserted (x ∷ xs) id new = by_order x xs id (slice_cmp nat_cmp id x) refl (new 0 x (omega arith)) (length_inserted xs id (λ k d within. new (suc k) d (omega arith)))
  where
    by_order : (x : List ℕ) (xs : List (List ℕ)) (id : List ℕ) (order : Ordering) → slice_cmp nat_cmp id x ≡ order → x ≢ id → length (insert_key (slice_cmp nat_cmp) xs id) ≡ suc (length xs)
        → length (match_ordering order (id ∷ x ∷ xs) (x ∷ xs) (x ∷ insert_key (slice_cmp nat_cmp) xs id)) ≡ suc (suc (length xs))
    by_order x xs id Less e differs rest = refl
    by_order x xs id Equal e differs rest = absurd (differs (sym ((bytes_decides id x).0 (texts_ties id x ∙ ap is_eq e))))
    by_order x xs id Greater e differs rest = ap suc rest

length_fold : (new all : List (List ℕ)) → AllPairs (λ (id : List ℕ) (later : List ℕ). id ≢ later) new → All (λ (id : List ℕ). All (λ (other : List ℕ). other ≢ id) all) new
    → length (fold (insert_key (slice_cmp nat_cmp)) all new) ≡ length all + length new
length_fold [] all each apart = omega arith
length_fold (id ∷ new) all each apart =
    let differ : List ℕ → List ℕ → Type 0 = λ id later. id ≢ later in
    let more : length (insert_key (slice_cmp nat_cmp) all id) ≡ suc (length all) = length_inserted all id (apart 0 id (omega arith)) in
    length_fold new (insert_key (slice_cmp nat_cmp) all id) (without_first differ id new each)
    (λ k d within. All-insert_key (slice_cmp nat_cmp) id (λ other. other ≢ get_or new k d) all (apart (suc k) d (omega arith)) (after_first differ id new each k d within))
    ∙ omega arith

pub ids_for_links : IdsForLinks
ids_for_links history placed session want =
    let world : World = world_of history in
    let found : List LinkRow = links_found world session want in
    let differ : AllPairs Differs found = AllPairs-filter Differs (λ (link : LinkRow). is_readable world session link.home && is_wanted world want link) world.links (links_once history placed) in
    let counted : length (ids_found world session want) ≡ 0 + length (ids found) =
    length_fold (ids found) [] (pairs_map Differs (λ (id : List ℕ) (later : List ℕ). id ≢ later) (λ (link : LinkRow). link.id) (λ a b differs. differs) found differ) (λ k d within. All-nil (λ other. other ≢ get_or (ids found) k d)) in
    counted ∙ omega (arith, length-map found (λ (link : LinkRow). link.id))
