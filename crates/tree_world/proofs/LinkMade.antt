-- A link that comes in.
use Rattle.std.proofs.Common.{◌≡◌, ◌∙◌, ℕ, ◌+◌, ◌||◌, Bool, true, false, List, [], ◌∷◌, ◌++◌, length, take, Option, Some, refl, sym, ap, subst, true≢false, not, append-nil, Ordering, Less, Equal, Greater, nat_cmp, is_eq}
use Rattle.std.specs.Prelude.{All, is_none, IsPermutation}
use Rattle.std.specs.Option.{is_some, option_map}
use Rattle.std.specs.Cmp.Lexicographic.{slice_cmp, texts_ties, nat_list_cmp_total, nat_list_eq_equiv}
use Rattle.std.specs.Ordering.{match_ordering, ordering_reverse}
use Rattle.std.proofs.lemmas.List.Sorted.{IsPermutation-refl, IsPermutation-trans, IsPermutation-cons, IsPermutation-middle, IsPermutation-append_comm, list_any-IsPermutation}
use Rattle.febe_data.specs.Plain.{PlainSpec, link_made}
use Rattle.enfilade_core.specs.declared.tree.Node.{Node}
use Rattle.enfilade_core.specs.Rows.{Shape, rows_of}
use Rattle.enfilade_core.specs.Edits.{KeepsRows}
use Rattle.enfilade_core.specs.Exchange.{Grows}
use Rattle.poom.specs.Laid as laid
use Rattle.poom.specs.Laid.{IsRoot}
use Rattle.doc_table.specs.declared.rows.DocumentRow.{DocumentRow}
use Rattle.doc_table.specs.DocumentRows.{root_in, with_root}
use Rattle.links.specs.LinkLists.{LinkLists, added, has_in, link_in, is_of}
use Rattle.links.proofs.Placed.{or_first, or_second}
use Rattle.world_rules.specs.World.{LinkRow, is_same, link_address}
use Rattle.world_rules.specs.Edits.{new_rows}
use Rattle.world_rules.specs.Apply.{link_between, link_row}
use Rattle.world_rules.specs.FlatView.{FlatView}
use Rattle.tree_world.specs.Trees.{Trees}
use Rattle.tree_world.specs.Standing.{Stands, EachIdOnce, EndsStand, IsCovered, link_rows}
use Rattle.tree_world.specs.Changed.{after_change}
use Rattle.tree_world.proofs.Roots.{RootsStand}
use Rattle.tree_world.proofs.Lists.{found_or_not}
use Rattle.tree_world.proofs.Linked.{is_some_of}
use Rattle.tree_world.proofs.Made.{restand}
use Rattle.tree_world.proofs.Edited.{edited, text_rows_were, link_rows_were, covered_was}
use Rattle.tree_world.proofs.FlatRows.{links_and_one, text_and_link, other_links_and}

-- ---- a link among others

same_if_equal : (a b : List ℕ) → slice_cmp nat_cmp a b ≡ Equal → is_same b a ≡ true
same_if_equal a b e = texts_ties b a ∙ ap is_eq (nat_list_cmp_total.antisymm b a ∙ ap ordering_reverse e)

added_moved : (links : List LinkRow) (link : LinkRow) → has_in links link.id ≡ false → IsPermutation (added links link) (link ∷ links)
added_moved [] link lacks = IsPermutation-refl (link ∷ [])
added_moved (l ∷ links) link lacks = by_order (slice_cmp nat_cmp link.id l.id) refl (added_moved links link (or_second (is_of link.id l) (has_in links link.id) lacks))
  where
    by_order : (r : Ordering) → slice_cmp nat_cmp link.id l.id ≡ r → IsPermutation (added links link) (link ∷ links) → IsPermutation (match_ordering r (link ∷ l ∷ links) (l ∷ links) (l ∷ added links link)) (link ∷ l ∷ links)
    by_order Less e rest = IsPermutation-refl (link ∷ l ∷ links)
    by_order Equal e rest = absurd (true≢false (sym (same_if_equal link.id l.id e) ∙ or_first (is_of link.id l) (has_in links link.id) lacks))
    by_order Greater e rest = IsPermutation-trans (l ∷ added links link) (l ∷ link ∷ links) (link ∷ l ∷ links) (IsPermutation-cons l (added links link) (link ∷ links) rest) (IsPermutation-middle (l ∷ []) link links)

added_once : (links : List LinkRow) (link : LinkRow) → has_in links link.id ≡ false → EachIdOnce links → EachIdOnce (added links link)
added_once [] link lacks once = (refl, tt)
added_once (l ∷ links) link lacks once = by_order (slice_cmp nat_cmp link.id l.id) refl (added_once links link rest_lacks once.1) (list_any-IsPermutation (is_of l.id) (added links link) (link ∷ links) (added_moved links link rest_lacks))
  where
    rest_lacks : has_in links link.id ≡ false
    rest_lacks = or_second (is_of link.id l) (has_in links link.id) lacks

    not_own : is_same link.id l.id ≡ false
    not_own = nat_list_eq_equiv.symm link.id l.id ∙ or_first (is_of link.id l) (has_in links link.id) lacks

    by_order : (r : Ordering) → slice_cmp nat_cmp link.id l.id ≡ r → EachIdOnce (added links link) → has_in (added links link) l.id ≡ (is_same link.id l.id || has_in links l.id) → EachIdOnce (match_ordering r (link ∷ l ∷ links) (l ∷ links) (l ∷ added links link))
    by_order Less e rest has = (lacks, once)
    by_order Equal e rest has = once
    by_order Greater e rest has = (has ∙ (λ i. not_own i || once.0 i), rest)

-- ---- what is not there, and what goes back

pub lacks_it : {X Y : Type 0} (links : List LinkRow) (id : List ℕ) (f : X → Y) (g : Y → LinkRow) (found : Option X) (there : Bool) → option_map g (option_map f found) ≡ link_in links id → there ≡ is_some found → there ≡ false → has_in links id ≡ false
lacks_it links id f g found there is some none = sym (found_or_not (is_of id) links) ∙ sym (ap (λ (o : Option LinkRow). not (is_none o)) is) ∙ sym (is_some_of f g found) ∙ sym some ∙ none

front_is : {X : Type 0} (xs ys : List X) → take (length xs) (xs ++ ys) ≡ xs
front_is [] ys = refl
front_is {X} (x ∷ xs) ys = ap (λ (l : List X). x ∷ l) (front_is xs ys)

pub grown_back : (old grown back : List (Shape ℕ)) (mark : ℕ) → Grows old grown → mark ≡ length old → back ≡ take mark grown → Grows old back
grown_back old grown back mark grows at is = record { more = []; is = is ∙ (λ i. take (at i) (grows.is i)) ∙ front_is old grows.more ∙ sym (append-nil old) }

-- ---- another table

relinked : (trees : Trees) (view : FlatView) → Stands trees view → (lists : LinkLists) (link : LinkRow) → has_in trees.links.links link.id ≡ false → lists.links ≡ added trees.links.links link → EndsStand lists
    → Stands (record trees { links = lists }) (record view { world = record view.world { links = view.world.links ++ link ∷ [] } })
relinked trees view stand lists link lacks is ends = record {
  documents = stand.documents;
  documents_once = stand.documents_once;
  roots = stand.roots;
  texts = stand.texts;
  links = stand.links;
  covered = stand.covered;
  bytes = stand.bytes;
  bytes_once = stand.bytes_once;
  total = stand.total;
  counts = stand.counts;
  marks = stand.marks;
  link_table = subst (λ (ls : List LinkRow). IsPermutation ls (view.world.links ++ link ∷ [])) (sym is)
      (IsPermutation-trans (added trees.links.links link) (link ∷ trees.links.links) (view.world.links ++ link ∷ []) (added_moved trees.links.links link lacks)
      (IsPermutation-trans (link ∷ trees.links.links) (link ∷ view.world.links) (view.world.links ++ link ∷ []) (IsPermutation-cons link trees.links.links view.world.links stand.link_table) (IsPermutation-append_comm (link ∷ []) view.world.links)));
  ids = subst EachIdOnce (sym is) (added_once trees.links.links link lacks stand.ids);
  ends = ends;
  access = restand trees view.world _ _ stand.access;
  counted = stand.counted;
  entries = stand.entries;
  known = stand.known;
}

-- ---- the whole change

module _ (trees : Trees) (view : FlatView) (stand : Stands trees view) (roots : RootsStand trees.nodes trees.documents) (home : List ℕ) (root : Node) (own : Some root ≡ root_in trees.documents home) (nodes : List (Shape ℕ)) (kept : KeepsRows trees.nodes nodes) (grows : Grows trees.nodes nodes) (made : Node) (is_root : IsRoot nodes made.0)
    (documents : List (DocumentRow Node)) (counted : ℕ) (now : documents ≡ with_root trees.documents home made) (one_more : counted ≡ trees.counted + 1) (session number place : ℕ) (from to three : List PlainSpec) (lists : LinkLists) (link : LinkRow) where
  pub made_in : link ≡ link_between view.world home number from to three → has_in trees.links.links link.id ≡ false → lists.links ≡ added trees.links.links link → EndsStand lists → laid.texts (rows_of nodes made.0) ≡ laid.texts (rows_of trees.nodes root.0)
      → laid.links (rows_of nodes made.0) ≡ laid.links (rows_of trees.nodes root.0) ++ link.id ∷ [] → place ≡ length (laid.links (rows_of trees.nodes root.0)) + 1
      → Stands (record trees { nodes = nodes; documents = documents; links = lists; counted = counted }) (after_change view session (link_made home number place from to three))
  made_in link_is lacks is ends text listed at =
      let old_links = laid.links (rows_of trees.nodes root.0) in
      let id_is : link.id ≡ link_address home number = ap (λ (l : LinkRow). l.id) link_is in
      let rows = view.world.rows ++ link_row home number place ∷ [] in
      let after = edited trees view stand roots home root (sym own) nodes kept grows made is_root trees.index rows
      (text_and_link view.world.rows home number place home ∙ text_rows_were trees view stand roots home root (sym own) nodes kept grows made is_root ∙ (λ i. new_rows home 1 (sym text i)))
      (links_and_one view.world.rows home number place old_links (link_rows_were trees view stand roots home root (sym own) nodes kept grows made is_root) at ∙ ap (link_rows home 1) (ap (λ (i : List ℕ). old_links ++ i ∷ []) (sym id_is) ∙ sym listed))
      (λ d e. text_and_link view.world.rows home number place d) (λ d e. other_links_and view.world.rows home number place d e) (λ d a h. h)
      (subst (λ xs. All (IsCovered trees.index home) xs) (sym text) (covered_was trees view stand roots home root (sym own) nodes kept grows made is_root))
      in
      let linked = relinked _ _ after lists link lacks is ends in
      subst (λ (l : LinkRow). Stands (record trees { nodes = nodes; documents = documents; links = lists; counted = counted }) (record view { world = record view.world { rows = rows; links = view.world.links ++ l ∷ [] }; counted = view.counted + 1 })) link_is
      (subst (λ (n : ℕ). Stands (record trees { nodes = nodes; documents = documents; links = lists; counted = n }) (record view { world = record view.world { rows = rows; links = view.world.links ++ link ∷ [] }; counted = view.counted + 1 })) (sym one_more)
      (subst (λ (ds : List (DocumentRow Node)). Stands (record trees { nodes = nodes; documents = ds; links = lists; counted = trees.counted + 1 }) (record view { world = record view.world { rows = rows; links = view.world.links ++ link ∷ [] }; counted = view.counted + 1 })) (sym now) linked))
