-- What the three indexes hold when links come in and go.
use Rattle.std.proofs.Common.{◌≡◌, ℕ, ◌+◌, ◌≤◌, true, false, List, [], ◌∷◌, ◌++◌, length, refl, sym, ap, ◌∙◌, subst, arith, append-nil, append_assoc, length-append, Ordering, Less, Equal, Greater, nat_cmp, is_eq, true≢false}
use Rattle.std.specs.List.{All, flat_map}
use Rattle.std.specs.List.Sorted.{IsPermutation}
use Rattle.std.specs.Cmp.Lexicographic.{slice_cmp, texts_ties, nat_list_cmp_total}
use Rattle.std.specs.Ordering.{match_ordering, ordering_reverse}
use Rattle.std.proofs.lemmas.List.Elements.{All-head, All-tail, All-nil, All-cons}
use Rattle.std.proofs.lemmas.List.Sorted.{IsPermutation-refl, IsPermutation-sym, IsPermutation-trans, IsPermutation-append_left, IsPermutation-append_right, IsPermutation-append_comm}
use Rattle.tumbler.specs.declared.span.Span.{Span}
use Rattle.enfilade_core.specs.declared.tree.Row.{Row}
use Rattle.enfilade_core.specs.declared.tree.TreeMark.{TreeMark}
use Rattle.enfilade_core.specs.Exchange.{Grows}
use Rattle.spanfilade.specs.Index.{IndexTree, rows_in_index, rows_for, mark_of, at_mark}
use Rattle.world_rules.specs.World.{LinkRow, is_same}
use Rattle.links.specs.LinkLists.{HoldsRuns, rows_at, spans_at, is_of, has_in, added, removed}
use Rattle.links.specs.inside.Kept.{AddsRows, KeepsTree}
use Rattle.links.proofs.Placed.{lacking_stay, or_first, or_second}

-- ---- marks

pub marked_within : (old new : IndexTree) (mark : TreeMark) → Grows old.nodes new.nodes → mark ≡ mark_of old → mark.count ≤ length new.nodes
marked_within old new mark grows is =
    let count : mark.count ≡ length old.nodes = ap (λ (m : TreeMark). m.count) is in
    let long : length new.nodes ≡ length old.nodes + length grows.more = ap length grows.is ∙ length-append old.nodes grows.more in
    omega (arith, count, long)

pub keeps_same : (old new : IndexTree) → new ≡ old → KeepsTree old new
keeps_same old new is = (ap (λ (tree : IndexTree). tree.root) is, ap rows_in_index is)

pub grows_same : (old new : IndexTree) → new ≡ old → Grows old.nodes new.nodes
grows_same old new is = record { more = []; is = ap (λ (tree : IndexTree). tree.nodes) is ∙ sym (append-nil old.nodes) }

-- ---- no links

pub none_held : (end : ℕ) (tree : IndexTree) → rows_in_index tree ≡ [] → HoldsRuns end [] tree
none_held end tree is = subst (λ (rows : List (Row (List ℕ))). IsPermutation [] rows) (sym is) (IsPermutation-refl [])

-- ---- a link comes in

tied : (r : Ordering) → r ≡ ordering_reverse r → is_eq r ≡ true
tied Less e = let never : ⊥ = cc in absurd never
tied Equal e = refl
tied Greater e = let never : ⊥ = cc in absurd never

pub same_as : (a : List ℕ) → is_same a a ≡ true
same_as a = texts_ties a a ∙ tied (slice_cmp nat_cmp a a) (nat_list_cmp_total.antisymm a a)

other_way : (a b : List ℕ) → slice_cmp nat_cmp a b ≡ Equal → is_same b a ≡ true
other_way a b is = texts_ties b a ∙ ap is_eq (nat_list_cmp_total.antisymm b a ∙ ap ordering_reverse is)

pub all_added : (P : LinkRow → Type 0) (links : List LinkRow) (link : LinkRow) → P link → All P links → All P (added links link)
all_added P [] link own all = All-cons P link [] own (All-nil P)
all_added P (l ∷ links) link own all = by_order (slice_cmp nat_cmp link.id l.id) (all_added P links link own (All-tail P l links all))
  where
    by_order : (r : Ordering) → All P (added links link) → All P (match_ordering r (link ∷ l ∷ links) (l ∷ links) (l ∷ added links link))
    by_order Less rest = All-cons P link (l ∷ links) own all
    by_order Equal rest = all
    by_order Greater rest = All-cons P l (added links link) (All-head P l links all) rest

swap_fronts : {X : Type 0} (a b c : List X) → IsPermutation (a ++ (b ++ c)) (b ++ (a ++ c))
swap_fronts a b c =
    subst (λ xs. IsPermutation xs (b ++ (a ++ c))) (append_assoc a b c) (subst (IsPermutation ((a ++ b) ++ c)) (append_assoc b a c) (IsPermutation-append_left c (a ++ b) (b ++ a) (IsPermutation-append_comm a b)))

module _ {Y : Type 0} (f : LinkRow → List Y) where
  moved_in : (links : List LinkRow) (link : LinkRow) → has_in links link.id ≡ false → IsPermutation (f link ++ flat_map f links) (flat_map f (added links link))
  moved_in [] link lacks = IsPermutation-refl (f link ++ [])
  moved_in (l ∷ links) link lacks = by_order (slice_cmp nat_cmp link.id l.id) refl (moved_in links link (or_second (is_of link.id l) (has_in links link.id) lacks))
    where
      by_order : (r : Ordering) → slice_cmp nat_cmp link.id l.id ≡ r → IsPermutation (f link ++ flat_map f links) (flat_map f (added links link))
          → IsPermutation (f link ++ (f l ++ flat_map f links)) (flat_map f (match_ordering r (link ∷ l ∷ links) (l ∷ links) (l ∷ added links link)))
      by_order Less is rest = IsPermutation-refl (f link ++ (f l ++ flat_map f links))
      by_order Equal is rest = absurd (true≢false (sym (other_way link.id l.id is) ∙ or_first (is_of link.id l) (has_in links link.id) lacks))
      by_order Greater is rest =
          IsPermutation-trans (f link ++ (f l ++ flat_map f links)) (f l ++ (f link ++ flat_map f links)) (f l ++ flat_map f (added links link)) (swap_fronts (f link) (f l) (flat_map f links)) (IsPermutation-append_right (f l) (f link ++ flat_map f links) (flat_map f (added links link)) rest)

pub holds_added : (end : ℕ) (links : List LinkRow) (link : LinkRow) (spans : List Span) (old new : IndexTree) → has_in links link.id ≡ false → spans ≡ spans_at end link → HoldsRuns end links old → AddsRows (rows_for spans link.id) old new → HoldsRuns end (added links link) new
holds_added end links link spans old new lacks are holds adds =
    let f = rows_at end in
    let own : IsPermutation (f link ++ rows_in_index old) (rows_in_index new) = subst (λ (ss : List Span). AddsRows (rows_for ss link.id) old new) are adds in
    IsPermutation-trans (flat_map f (added links link)) (f link ++ flat_map f links) (rows_in_index new) (IsPermutation-sym (f link ++ flat_map f links) (flat_map f (added links link)) (moved_in f links link lacks))
    (IsPermutation-trans (f link ++ flat_map f links) (f link ++ rows_in_index old) (rows_in_index new) (IsPermutation-append_right (f link) (flat_map f links) (rows_in_index old) holds) own)

pub holds_kept : (end : ℕ) (links : List LinkRow) (old new : IndexTree) → HoldsRuns end links old → KeepsTree old new → HoldsRuns end links new
holds_kept end links old new holds kept = subst (IsPermutation (flat_map (rows_at end) links)) (sym kept.1) holds

-- ---- and is taken back

pub added_removed : (links : List LinkRow) (link : LinkRow) → has_in links link.id ≡ false → removed (added links link) link.id ≡ links
added_removed [] link lacks = rw (same_as link.id) refl
added_removed (l ∷ links) link lacks = by_order (slice_cmp nat_cmp link.id l.id) refl (added_removed links link (or_second (is_of link.id l) (has_in links link.id) lacks))
  where
    by_order : (r : Ordering) → slice_cmp nat_cmp link.id l.id ≡ r → removed (added links link) link.id ≡ links → removed (match_ordering r (link ∷ l ∷ links) (l ∷ links) (l ∷ added links link)) link.id ≡ l ∷ links
    by_order Less is rest = rw (same_as link.id) (lacking_stay link.id (l ∷ links) lacks)
    by_order Equal is rest = absurd (true≢false (sym (other_way link.id l.id is) ∙ or_first (is_of link.id l) (has_in links link.id) lacks))
    by_order Greater is rest = rw (or_first (is_of link.id l) (has_in links link.id) lacks) (ap (λ (ls : List LinkRow). l ∷ ls) rest)

pub taken_back : (end : ℕ) (id : List ℕ) (mark : TreeMark) (links shown now : List LinkRow) (tree tree_shown tree_now : IndexTree) → links ≡ shown → tree ≡ tree_shown → now ≡ removed links id → tree_now ≡ at_mark mark tree → HoldsRuns end (removed shown id) (at_mark mark tree_shown)
    → HoldsRuns end now tree_now
taken_back end id mark links shown now tree tree_shown tree_now same same_tree is tree_is holds =
    subst (HoldsRuns end now) (sym (tree_is ∙ ap (at_mark mark) same_tree))
    (subst (λ (ls : List LinkRow). HoldsRuns end ls (at_mark mark tree_shown)) (sym (is ∙ ap (λ (ls : List LinkRow). removed ls id) same)) holds)
