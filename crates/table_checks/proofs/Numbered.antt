-- Links that are numbered in their homes, one after the other.
use Rattle.std.proofs.Common.{◌≡◌, ◌∙◌, ℕ, zero, suc, ◌+◌, ◌<◌, Bool, true, false, true≢false, cond, List, [], ◌∷◌, ◌++◌, length, map, take, drop, get_or, All, refl, sym, ap, subst, arith, append-nil, append_assoc, nat_cmp, Less, inl, inr, ◌⊎◌}
use Rattle.std.specs.Prelude.{filter}
use Rattle.std.specs.Cmp.Lexicographic.{slice_cmp, bytes_decides}
use Rattle.std.proofs.lemmas.List.{map-append, length-map, take-append-drop, drop_more, map_more}
use Rattle.std.proofs.lemmas.List.Elements.{filter-append, All-nil, All-cons, All-head, All-tail, All-push, All-from_recursion}
use Rattle.std.proofs.lemmas.List.Sums.{sum_by_push, sum_by-cons, length-filter}
use Rattle.std.proofs.lemmas.Map.Keys.{sorted_head, sorted_tail}
use Rattle.tumbler.specs.Places.{IsBefore, IsUpTo}
use Rattle.tumbler.specs.Address.{IsDocument}
use Rattle.tumbler.proofs.Alls.{All-front, All-back}
use Rattle.tumbler.proofs.Order.{upto_by_cases, same_if_tied, upto_before, never_before_itself, upto_itself}
use Rattle.world_rules.specs.World.{is_same, link_address}
use Rattle.world_rules.specs.Laws.{numbers_from}
use Rattle.page_tables.specs.declared.tables.TableLink.{TableLink}
use Rattle.page_tables.specs.Plain.{PlainLink, plain_link}
use Rattle.table_checks.specs.TableRows.{ids_of, is_of_home, links_in_home}
use Rattle.table_checks.specs.Sound.{Ascend, AreNumbered}
use Rattle.table_checks.proofs.HomeOrder.{homes_ascend}

-- ---- one link more

numbers_push : (n k : ℕ) → numbers_from n (suc k) ≡ numbers_from n k ++ (n + k) ∷ []
numbers_push n zero = ap (λ (m : ℕ). m ∷ []) (omega arith)
numbers_push n (suc k) = ap (λ (ns : List ℕ). n ∷ ns) (numbers_push (n + 1) k ∙ ap (λ (m : ℕ). numbers_from (n + 1) k ++ m ∷ []) (omega arith))

made_push : (links : List PlainLink) (link : PlainLink) (home : List ℕ) → links_in_home (links ++ link ∷ []) home ≡ links_in_home links home + cond (is_of_home home link) 1 0
made_push links link home = sum_by_push (λ (l : PlainLink). cond (is_of_home home l) 1 0) links link

module _ (links : List PlainLink) (link : PlainLink) (numbered : AreNumbered links) (id : link.id ≡ link_address link.home (links_in_home links link.home + 1)) where
  more_step : (home : List ℕ) (own : Bool) → is_of_home home link ≡ own → ids_of (filter (is_of_home home) (links ++ link ∷ [])) ≡ map (link_address home) (numbers_from 1 (links_in_home (links ++ link ∷ []) home))
  more_step home true e =
      let is_home : link.home ≡ home = (bytes_decides link.home home).0 e in
      let k : ℕ = links_in_home links home in
      let last : filter (is_of_home home) (link ∷ []) ≡ link ∷ [] = rw e refl in
      let all : suc (links_in_home links home) ≡ links_in_home (links ++ link ∷ []) home = omega (arith, made_push links link home ∙ ap (λ (b : Bool). links_in_home links home + cond b 1 0) e) in
      let up : links_in_home links home + 1 ≡ 1 + links_in_home links home = omega arith in
      let its : link.id ≡ link_address home (1 + k) = id ∙ ap (λ (h : List ℕ). link_address h (links_in_home links h + 1)) is_home ∙ ap (link_address home) up in
      ap ids_of (filter-append (is_of_home home) links (link ∷ []) ∙ ap (λ (ls : List PlainLink). filter (is_of_home home) links ++ ls) last)
      ∙ map-append (λ (l : PlainLink). l.id) (filter (is_of_home home) links) (link ∷ [])
      ∙ (λ i. numbered home i ++ its i ∷ [])
      ∙ sym (map-append (link_address home) (numbers_from 1 k) ((1 + k) ∷ []))
      ∙ ap (map (link_address home)) (sym (numbers_push 1 k))
      ∙ ap (λ (n : ℕ). map (link_address home) (numbers_from 1 n)) all
  more_step home false e =
      let last : filter (is_of_home home) (link ∷ []) ≡ [] = rw e refl in
      let all : links_in_home (links ++ link ∷ []) home ≡ links_in_home links home = omega (arith, made_push links link home ∙ ap (λ (b : Bool). links_in_home links home + cond b 1 0) e) in
      ap ids_of (filter-append (is_of_home home) links (link ∷ []) ∙ ap (λ (ls : List PlainLink). filter (is_of_home home) links ++ ls) last ∙ append-nil (filter (is_of_home home) links))
      ∙ numbered home
      ∙ ap (λ (n : ℕ). map (link_address home) (numbers_from 1 n)) (sym all)

  numbered_more : AreNumbered (links ++ link ∷ [])
  numbered_more home = more_step home (is_of_home home link) refl

-- ---- what the number of a link must be

nth : (f : ℕ → List ℕ) (xs ys : List (List ℕ)) (y : List ℕ) (a c : ℕ) → xs ++ y ∷ ys ≡ map f (numbers_from a c) → y ≡ f (a + length xs)
nth f [] ys y a zero e = let clash : y ∷ ys ≡ [] = e in cc
nth f [] ys y a (suc c) e =
    let all : y ∷ ys ≡ f a ∷ map f (numbers_from (a + 1) c) = e in
    let first : y ≡ f a = cc in
    let same : a ≡ a + 0 = omega arith in
    first ∙ ap f same
nth f (x ∷ xs) ys y a zero e = let clash : x ∷ (xs ++ y ∷ ys) ≡ [] = e in cc
nth f (x ∷ xs) ys y a (suc c) e =
    let all : x ∷ (xs ++ y ∷ ys) ≡ f a ∷ map f (numbers_from (a + 1) c) = e in
    let rest : xs ++ y ∷ ys ≡ map f (numbers_from (a + 1) c) = cc in
    let same : a + 1 + length xs ≡ a + length (x ∷ xs) = omega arith in
    nth f xs ys y (a + 1) c rest ∙ ap f same

own_first : (home : List ℕ) (link : PlainLink) (rest : List PlainLink) → is_of_home home link ≡ true → filter (is_of_home home) (link ∷ rest) ≡ link ∷ filter (is_of_home home) rest
own_first home link rest e = rw e refl

-- where all are numbered, each link has the number behind those of its home in front of it
its_number : (done : List PlainLink) (link : PlainLink) (rest : List PlainLink) → AreNumbered (done ++ link ∷ rest) → link.id ≡ link_address link.home (links_in_home done link.home + 1)
its_number done link rest numbered =
    let home : List ℕ = link.home in
    let own : is_of_home home link ≡ true = (bytes_decides home home).1 refl in
    let parts : ids_of (filter (is_of_home home) (done ++ link ∷ rest)) ≡ ids_of (filter (is_of_home home) done) ++ link.id ∷ ids_of (filter (is_of_home home) rest) =
    ap ids_of (filter-append (is_of_home home) done (link ∷ rest) ∙ ap (λ (ls : List PlainLink). filter (is_of_home home) done ++ ls) (own_first home link rest own))
    ∙ map-append (λ (l : PlainLink). l.id) (filter (is_of_home home) done) (link ∷ filter (is_of_home home) rest) in
    let long : length (ids_of (filter (is_of_home home) done)) ≡ links_in_home done home = length-map (filter (is_of_home home) done) (λ (l : PlainLink). l.id) ∙ length-filter (is_of_home home) done in
    let count : 1 + length (ids_of (filter (is_of_home home) done)) ≡ links_in_home done home + 1 = omega (arith, long) in
    nth (link_address home) (ids_of (filter (is_of_home home) done)) (ids_of (filter (is_of_home home) rest)) link.id 1 (links_in_home (done ++ link ∷ rest) home) (sym parts ∙ numbered home)
    ∙ ap (link_address home) count

-- ---- links that were seen one after the other

-- the link's id is one of its home's link addresses
pub record HasLinkId (link : PlainLink) : Type 0 where
  pub number : ℕ
  pub id : link.id ≡ link_address link.home number

-- These links are numbered. The home is that of the last one, which no other's home comes after, and so many have it.
pub record AreSeen (done : List PlainLink) (home : List ℕ) (number : ℕ) : Type 0 where
  pub numbered : AreNumbered done
  pub made : All HasLinkId done
  pub highest : All (λ (l : PlainLink). IsUpTo l.home home) done
  pub least : (x : List ℕ) → All (λ (l : PlainLink). IsUpTo l.home x) done → IsUpTo home x ⊎ (done ≡ [])
  pub counted : number ≡ links_in_home done home

pub none_seen : (home : List ℕ) → AreSeen [] home 0
none_seen home = record {
  numbered = λ h. refl;
  made = All-nil HasLinkId;
  highest = All-nil (λ (l : PlainLink). IsUpTo l.home home);
  least = λ x all. inr refl;
  counted = refl;
}

pub none_of : (home : List ℕ) (links : List PlainLink) → All (λ (l : PlainLink). is_of_home home l ≡ false) links → links_in_home links home ≡ 0
none_of home [] all = refl
none_of home (link ∷ links) all =
    let first : is_of_home home link ≡ false = All-head (λ (l : PlainLink). is_of_home home l ≡ false) link links all in
    let rest : links_in_home links home ≡ 0 = none_of home links (All-tail (λ (l : PlainLink). is_of_home home l ≡ false) link links all) in
    sum_by-cons (λ (l : PlainLink). cond (is_of_home home l) 1 0) link links ∙ (λ i. cond (first i) 1 0 + rest i)

pub false_unless : (b : Bool) → (b ≡ true → ⊥) → b ≡ false
false_unless true not = absurd (not refl)
false_unless false not = refl

-- each of some links comes before one behind them
all_before : (done : List PlainLink) (link : PlainLink) (rest : List PlainLink) → Ascend (ids_of (done ++ link ∷ rest)) → All (λ (l : PlainLink). IsBefore l.id link.id) done
all_before [] link rest ascends = All-nil (λ (l : PlainLink). IsBefore l.id link.id)
all_before (l ∷ done) link rest ascends =
    let behind : All (λ (id : List ℕ). slice_cmp nat_cmp l.id id ≡ Less) (ids_of (done ++ link ∷ rest)) =
    All-from_recursion (λ (id : List ℕ). slice_cmp nat_cmp l.id id ≡ Less) (ids_of (done ++ link ∷ rest)) (sorted_head (slice_cmp nat_cmp) l.id (ids_of (done ++ link ∷ rest)) ascends) in
    let parts : ids_of (done ++ link ∷ rest) ≡ ids_of done ++ link.id ∷ ids_of rest = map-append (λ (k : PlainLink). k.id) done (link ∷ rest) in
    All-cons (λ (k : PlainLink). IsBefore k.id link.id) l done
    (All-head (λ (id : List ℕ). slice_cmp nat_cmp l.id id ≡ Less) link.id (ids_of rest) (All-back (λ (id : List ℕ). slice_cmp nat_cmp l.id id ≡ Less) (ids_of done) (link.id ∷ ids_of rest) (subst (All (λ (id : List ℕ). slice_cmp nat_cmp l.id id ≡ Less)) parts behind)))
    (all_before done link rest (sorted_tail (slice_cmp nat_cmp) l.id (ids_of (done ++ link ∷ rest)) ascends))

-- the next link
module _ (done : List PlainLink) (home : List ℕ) (number : ℕ) (link : PlainLink) (seen : AreSeen done home number) (before : All (λ (l : PlainLink). IsBefore l.id link.id) done)
    (documents : All (λ (l : PlainLink). IsDocument l.home) done) (document : IsDocument link.home)
  where
    up_to_it : HasLinkId link → All (λ (l : PlainLink). IsUpTo l.home link.home) done
    up_to_it has k d lt =
        let l : PlainLink = get_or done k d in
        let made : HasLinkId l = seen.made k d lt in
        let same : slice_cmp nat_cmp (link_address l.home made.number) (link_address link.home has.number) ≡ slice_cmp nat_cmp l.id link.id = λ i. slice_cmp nat_cmp (sym made.id i) (sym has.id i) in
        homes_ascend l.home link.home made.number has.number (documents k d lt) document (same ∙ before k d lt)

    apart : (home ≡ link.home → ⊥) → IsUpTo home link.home → IsBefore home link.home
    apart other upto = elim (upto_by_cases home link.home upto) [
      | inl less ↦ less
      | inr tied ↦ absurd (other (same_if_tied home link.home tied))
    ]

    none_step : (home ≡ link.home → ⊥) → IsUpTo home link.home ⊎ (done ≡ []) → links_in_home done link.home ≡ 0
    none_step other (inl upto) =
        none_of link.home done
        (λ k d lt. false_unless (is_of_home link.home (get_or done k d))
        (λ same. never_before_itself link.home (subst (λ (h : List ℕ). IsBefore h link.home) ((bytes_decides (get_or done k d).home link.home).0 same) (upto_before (get_or done k d).home home link.home (seen.highest k d lt) (apart other upto)))))
    none_step other (inr none) = ap (λ (ls : List PlainLink). links_in_home ls link.home) none

    none_here : HasLinkId link → (home ≡ link.home → ⊥) → links_in_home done link.home ≡ 0
    none_here has other = none_step other (seen.least link.home (up_to_it has))

    next_step : (same : Bool) → is_same home link.home ≡ same → HasLinkId link → cond same (number + 1) 1 ≡ links_in_home done link.home + 1
    next_step true e has =
        let is_home : home ≡ link.home = (bytes_decides home link.home).0 e in
        ap (λ (n : ℕ). n + 1) (seen.counted ∙ ap (links_in_home done) is_home)
    next_step false e has =
        let none : links_in_home done link.home ≡ 0 = none_here has (λ same. true≢false (sym ((bytes_decides home link.home).1 same) ∙ e)) in
        omega (arith, none)

    next_is : (next : ℕ) → next ≡ cond (is_same home link.home) (number + 1) 1 → HasLinkId link → next ≡ links_in_home done link.home + 1
    next_is next is has = is ∙ next_step (is_same home link.home) refl has

    pub one_more_seen : (next : ℕ) → next ≡ cond (is_same home link.home) (number + 1) 1 → link.id ≡ link_address link.home next → AreSeen (done ++ link ∷ []) link.home next
    one_more_seen next is id =
        let has : HasLinkId link = record { number = next; id = id } in
        let count : next ≡ links_in_home done link.home + 1 = next_is next is has in
        let own : is_of_home link.home link ≡ true = (bytes_decides link.home link.home).1 refl in
        record {
          numbered = numbered_more done link seen.numbered (id ∙ ap (link_address link.home) count);
          made = All-push HasLinkId done link seen.made has;
          highest = All-push (λ (l : PlainLink). IsUpTo l.home link.home) done link (up_to_it has) (upto_itself link.home);
          least = λ x all. inl (All-head (λ (l : PlainLink). IsUpTo l.home x) link [] (All-back (λ (l : PlainLink). IsUpTo l.home x) done (link ∷ []) all));
          counted = count ∙ sym (made_push done link link.home ∙ ap (λ (b : Bool). links_in_home done link.home + cond b 1 0) own);
        }

    pub not_numbered : (rest : List PlainLink) (next : ℕ) → next ≡ cond (is_same home link.home) (number + 1) 1 → (link.id ≡ link_address link.home next → ⊥) → AreNumbered (done ++ link ∷ rest) → ⊥
    not_numbered rest next is not numbered =
        let id = its_number done link rest numbered in
        let count : next ≡ links_in_home done link.home + 1 = next_is next is (record { number = links_in_home done link.home + 1; id = id }) in
        not (id ∙ ap (link_address link.home) (sym count))

-- ---- links as they lie in memory

split : (links : List TableLink) (i : ℕ) (x : TableLink) → i < length links → x ≡ get_or links i x → map plain_link links ≡ map plain_link (take i links) ++ plain_link x ∷ map plain_link (drop (i + 1) links)
split links i x lt is =
    ap (map plain_link) (sym (take-append-drop i links))
    ∙ map-append plain_link (take i links) (drop i links)
    ∙ ap (λ (ls : List TableLink). map plain_link (take i links) ++ map plain_link ls) (drop_more links i x lt)
    ∙ ap (λ (l : TableLink). map plain_link (take i links) ++ plain_link l ∷ map plain_link (drop (i + 1) links)) (sym is)

module _ (links : List TableLink) (i : ℕ) (x : TableLink) (home : List ℕ) (number next : ℕ) (lt : i < length links) (is : x ≡ get_or links i x)
    (ascends : Ascend (ids_of (map plain_link links))) (documents : All (λ (l : PlainLink). IsDocument l.home) (map plain_link links))
    (seen : AreSeen (map plain_link (take i links)) home number) (behind : next ≡ cond (is_same home x.home) (number + 1) 1)
  where
    split_documents : All (λ (l : PlainLink). IsDocument l.home) (map plain_link (take i links) ++ plain_link x ∷ map plain_link (drop (i + 1) links))
    split_documents = subst (All (λ (l : PlainLink). IsDocument l.home)) (split links i x lt is) documents

    split_before : All (λ (l : PlainLink). IsBefore l.id x.id) (map plain_link (take i links))
    split_before = all_before (map plain_link (take i links)) (plain_link x) (map plain_link (drop (i + 1) links)) (subst (λ (ls : List PlainLink). Ascend (ids_of ls)) (split links i x lt is) ascends)

    front_documents : All (λ (l : PlainLink). IsDocument l.home) (map plain_link (take i links))
    front_documents = All-front (λ (l : PlainLink). IsDocument l.home) (map plain_link (take i links)) (plain_link x ∷ map plain_link (drop (i + 1) links)) split_documents

    its_document : IsDocument x.home
    its_document =
        All-head (λ (l : PlainLink). IsDocument l.home) (plain_link x) (map plain_link (drop (i + 1) links))
        (All-back (λ (l : PlainLink). IsDocument l.home) (map plain_link (take i links)) (plain_link x ∷ map plain_link (drop (i + 1) links)) split_documents)

    pub seen_more : x.id ≡ link_address x.home next → AreSeen (map plain_link (take (i + 1) links)) x.home next
    seen_more id =
        let grown : map plain_link (take (i + 1) links) ≡ map plain_link (take i links) ++ plain_link x ∷ [] = map_more plain_link links i x lt ∙ ap (λ (l : TableLink). map plain_link (take i links) ++ plain_link l ∷ []) (sym is) in
        subst (λ (ls : List PlainLink). AreSeen ls x.home next) (sym grown) (one_more_seen (map plain_link (take i links)) home number (plain_link x) seen split_before front_documents its_document next behind id)

    pub seen_refuted : (x.id ≡ link_address x.home next → ⊥) → AreNumbered (map plain_link links) → ⊥
    seen_refuted not numbered =
        not_numbered (map plain_link (take i links)) home number (plain_link x) seen split_before front_documents its_document (map plain_link (drop (i + 1) links)) next behind not
        (subst AreNumbered (split links i x lt is) numbered)

-- each link of numbered ones has a link address of its home
pub all_made : (done rest : List PlainLink) → AreNumbered (done ++ rest) → All HasLinkId rest
all_made done [] numbered = All-nil HasLinkId
all_made done (link ∷ rest) numbered =
    All-cons HasLinkId link rest (record { number = links_in_home done link.home + 1; id = its_number done link rest numbered })
    (all_made (done ++ link ∷ []) rest (subst AreNumbered (sym (append_assoc done (link ∷ []) rest)) numbered))

-- where there is no link, all are numbered
pub none_numbered : (links : List TableLink) → length links ≡ 0 → AreNumbered (map plain_link links)
none_numbered [] none = λ home. refl
none_numbered (link ∷ links) none = absurd (omega (arith, none))
