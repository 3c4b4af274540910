-- Trees stand for a view after a document got another root.
use Rattle.std.proofs.Common.{◌≡◌, ◌∙◌, ℕ, ◌+◌, ◌-◌, ◌≤◌, Bool, true, false, cond, List, [], ◌∷◌, ◌++◌, length, take, drop, Option, Some, refl, sym, ap, subst, arith}
use Rattle.std.specs.Prelude.{All, filter, IsPermutation}
use Rattle.std.proofs.lemmas.Bool.{le-leb}
use Rattle.std.proofs.lemmas.List.Elements.{All-nil, All-cons, All-head, All-tail, All-append, All-take, All-drop, All-weaker}
use Rattle.tumbler.specs.declared.span.Span.{Span}
use Rattle.enfilade_core.specs.declared.tree.Node.{Node}
use Rattle.enfilade_core.specs.Rows.{Shape, rows_of}
use Rattle.enfilade_core.specs.Edits.{KeepsRows}
use Rattle.enfilade_core.specs.Exchange.{Grows}
use Rattle.poom.specs.Laid as laid
use Rattle.poom.specs.Laid.{IsRoot, exchanged_at, swapped_at, rearranged, AreCuts}
use Rattle.poom.specs.Picked.{is_picked, left_from}
use Rattle.spanfilade.specs.Index.{IndexTree}
use Rattle.febe_data.specs.Plain.{PlainSpec, span_deleted, blocks_swapped, specs_copied}
use Rattle.doc_table.specs.declared.rows.DocumentRow.{DocumentRow}
use Rattle.doc_table.specs.DocumentRows.{root_in, with_root}
use Rattle.world_rules.specs.declared.cuts.Cuts.{Cuts}
use Rattle.world_rules.specs.declared.rows.Row.{Row}
use Rattle.world_rules.specs.World.{is_same, is_text_of, is_link_of}
use Rattle.world_rules.specs.Edits.{cuts_of, new_rows, rows_with, rows_without, rows_swapped}
use Rattle.world_rules.specs.Picking.{picked_addresses}
use Rattle.world_rules.specs.Apply.{with_swapped}
use Rattle.world_rules.specs.FlatView.{FlatView}
use Rattle.world_rules.proofs.Rearranged.{InOrder}
use Rattle.tree_world.specs.Trees.{Trees, text_at, links_at, text_in, links_in}
use Rattle.tree_world.specs.Standing.{Stands, link_rows, IsCovered}
use Rattle.tree_world.specs.Changed.{after_change}
use Rattle.tree_world.proofs.Tables.{root_set, root_documents, root_contents, root_marks}
use Rattle.tree_world.proofs.Roots.{RootsStand, roots_set, texts_after, links_after, covered_after}
use Rattle.tree_world.proofs.Made.{restand}
use Rattle.tree_world.proofs.FlatRows.{text_with_is, other_text_with, links_with, text_without_is, links_without_are, other_text_without, other_links_without, text_swapped_is, other_text_swapped, links_swapped, rearranged_by}

-- ---- what is covered stays so

pub All-left : (P : List ℕ → Type 0) (part : ℕ) (span : Span) (n : ℕ) (addresses : List (List ℕ)) → All P addresses → All P (left_from part span n addresses)
All-left P part span n [] all = All-nil P
All-left P part span n (address ∷ addresses) all = step (is_picked span (part ∷ n ∷ [])) (All-left P part span (n + 1) addresses (All-tail P address addresses all))
  where
    step : (b : Bool) → All P (left_from part span (n + 1) addresses) → All P (cond b (left_from part span (n + 1) addresses) (address ∷ left_from part span (n + 1) addresses))
    step true rest = rest
    step false rest = All-cons P address (left_from part span (n + 1) addresses) (All-head P address addresses all) rest

pub All-exchanged : (P : List ℕ → Type 0) (from to : ℕ) (new addresses : List (List ℕ)) → All P new → All P addresses → All P (exchanged_at from to new addresses)
All-exchanged P from to new addresses fresh all =
    All-append P (take (from - 1) addresses) (new ++ drop (to - 1) addresses) (All-take P (from - 1) addresses all) (All-append P new (drop (to - 1) addresses) fresh (All-drop P (to - 1) addresses all))

pub All-swapped : (P : List ℕ → Type 0) (a b c d : ℕ) (addresses : List (List ℕ)) → All P addresses → All P (swapped_at a b c d addresses)
All-swapped P a b c d addresses all =
    All-exchanged P a d (laid.between c d addresses ++ laid.between b c addresses ++ laid.between a b addresses) addresses
    (All-append P (laid.between c d addresses ++ laid.between b c addresses) (laid.between a b addresses)
    (All-append P (laid.between c d addresses) (laid.between b c addresses) (part c d) (part b c)) (part a b))
    all
  where
    part : (low high : ℕ) → All P (laid.between low high addresses)
    part low high = All-take P (high - low) (drop (low - 1) addresses) (All-drop P (low - 1) addresses all)

-- ---- another root

module _ (trees : Trees) (view : FlatView) (stand : Stands trees view) (roots : RootsStand trees.nodes trees.documents) (document : List ℕ) (root : Node) (own : root_in trees.documents document ≡ Some root) (nodes : List (Shape ℕ)) (kept : KeepsRows trees.nodes nodes) (grows : Grows trees.nodes nodes) (made : Node) (is_root : IsRoot nodes made.0) where
  -- what stood there
  pub stood_text : text_in trees document ≡ laid.texts (rows_of trees.nodes root.0)
  stood_text = ap (text_at trees.nodes) own

  pub stood_links : links_in trees document ≡ laid.links (rows_of trees.nodes root.0)
  stood_links = ap (links_at trees.nodes) own

  pub text_rows_were : filter (is_text_of document) view.world.rows ≡ new_rows document 1 (laid.texts (rows_of trees.nodes root.0))
  text_rows_were = stand.texts document ∙ ap (new_rows document 1) stood_text

  pub link_rows_were : filter (is_link_of document) view.world.rows ≡ link_rows document 1 (laid.links (rows_of trees.nodes root.0))
  link_rows_were = stand.links document ∙ ap (link_rows document 1) stood_links

  pub covered_was : All (IsCovered trees.index document) (laid.texts (rows_of trees.nodes root.0))
  covered_was = subst (λ xs. All (IsCovered trees.index document) xs) stood_text (stand.covered document)

  module _ (index : IndexTree) (rows : List Row) where
    pub edited : filter (is_text_of document) rows ≡ new_rows document 1 (laid.texts (rows_of nodes made.0)) → filter (is_link_of document) rows ≡ link_rows document 1 (laid.links (rows_of nodes made.0))
        → ((d : List ℕ) → is_same d document ≡ false → filter (is_text_of d) rows ≡ filter (is_text_of d) view.world.rows) → ((d : List ℕ) → is_same d document ≡ false → filter (is_link_of d) rows ≡ filter (is_link_of d) view.world.rows)
        → ((d a : List ℕ) → IsCovered trees.index d a → IsCovered index d a) → All (IsCovered index document) (laid.texts (rows_of nodes made.0))
        → Stands (record trees { nodes = nodes; documents = with_root trees.documents document made; index = index; counted = trees.counted + 1 }) (record view { world = record view.world { rows = rows }; counted = view.counted + 1 })
    edited own_text own_links other_text other_links keeps own_covered =
        let now = with_root trees.documents document made in
        let gives = root_set trees.documents document made root own in
        record {
          documents = subst (λ ds. IsPermutation ds view.world.documents) (sym (root_documents trees.documents document made)) stand.documents;
          documents_once = stand.documents_once;
          roots = roots_set trees.nodes nodes kept grows trees.documents roots document made is_root;
          texts = texts_after trees.nodes nodes kept trees.documents roots document made now gives view.world.rows rows stand.texts own_text other_text;
          links = links_after trees.nodes nodes kept trees.documents roots document made now gives view.world.rows rows stand.links own_links other_links;
          covered = covered_after trees.nodes nodes kept trees.documents roots document made now gives trees.index index keeps stand.covered own_covered;
          bytes = stand.bytes;
          bytes_once = stand.bytes_once;
          total = stand.total;
          counts = λ d. root_contents trees.documents document made d ∙ stand.counts d;
          marks = λ d. root_marks trees.documents document made d ∙ stand.marks d;
          link_table = stand.link_table;
          ids = stand.ids;
          ends = stand.ends;
          access = restand trees view.world _ _ (restand trees view.world _ _ stand.access);
          counted = ap (λ n. n + 1) stand.counted;
          entries = stand.entries;
          known = stand.known;
        }

  -- ---- a delete

  module _ (session : ℕ) (span : Span) where
    pub deleted_in : laid.texts (rows_of nodes made.0) ≡ left_from 1 span 1 (laid.texts (rows_of trees.nodes root.0)) → laid.links (rows_of nodes made.0) ≡ left_from 2 span 1 (laid.links (rows_of trees.nodes root.0))
        → Stands (record trees { nodes = nodes; documents = with_root trees.documents document made; counted = trees.counted + 1 }) (after_change view session (span_deleted document span))
    deleted_in text links =
        edited trees.index (rows_without view.world.rows document span)
        (text_without_is view.world.rows document span (laid.texts (rows_of trees.nodes root.0)) text_rows_were ∙ ap (new_rows document 1) (sym text))
        (links_without_are view.world.rows document span (laid.links (rows_of trees.nodes root.0)) link_rows_were ∙ ap (link_rows document 1) (sym links))
        (λ d e. other_text_without view.world.rows document span d e) (λ d e. other_links_without view.world.rows document span d e) (λ d a h. h)
        (subst (λ xs. All (IsCovered trees.index document) xs) (sym text) (All-left (IsCovered trees.index document) 1 span 1 (laid.texts (rows_of trees.nodes root.0)) covered_was))

  -- ---- a rearrange

  module _ (session : ℕ) (cuts : List ℕ) where
    pub swapped_in : (bounds : Cuts) → cuts_of cuts ≡ Some bounds → InOrder bounds (length (laid.texts (rows_of trees.nodes root.0)))
        → laid.texts (rows_of nodes made.0) ≡ rearranged cuts (laid.texts (rows_of trees.nodes root.0)) → laid.links (rows_of nodes made.0) ≡ laid.links (rows_of trees.nodes root.0)
        → Stands (record trees { nodes = nodes; documents = with_root trees.documents document made; counted = trees.counted + 1 }) (after_change view session (blocks_swapped document cuts))
    swapped_in bounds is order text links =
        let old = laid.texts (rows_of trees.nodes root.0) in
        let new : laid.texts (rows_of nodes made.0) ≡ swapped_at bounds.first bounds.second bounds.third bounds.fourth (laid.texts (rows_of trees.nodes root.0)) = text ∙ rearranged_by cuts bounds (laid.texts (rows_of trees.nodes root.0)) is in
        subst (λ (found : Option Cuts). Stands (record trees { nodes = nodes; documents = with_root trees.documents document made; counted = trees.counted + 1 }) (record view { world = with_swapped view.world document found; counted = view.counted + 1 })) (sym is)
        (edited trees.index (rows_swapped view.world.rows document bounds)
        (text_swapped_is view.world.rows document bounds (laid.texts (rows_of trees.nodes root.0)) text_rows_were order ∙ ap (new_rows document 1) (sym new))
        (links_swapped view.world.rows document bounds document ∙ link_rows_were ∙ ap (link_rows document 1) (sym links))
        (λ d e. other_text_swapped view.world.rows document bounds d e) (λ d e. links_swapped view.world.rows document bounds d) (λ d a h. h)
        (subst (λ xs. All (IsCovered trees.index document) xs) (sym new) (All-swapped (IsCovered trees.index document) bounds.first bounds.second bounds.third bounds.fourth (laid.texts (rows_of trees.nodes root.0)) covered_was)))

-- what are cuts has bounds
pub record HasBounds (cuts : List ℕ) (count : ℕ) : Type 0 where
  pub bounds : Cuts
  pub is : cuts_of cuts ≡ Some bounds
  pub order : InOrder bounds count

pub cuts_bound : (cuts : List ℕ) (count : ℕ) → AreCuts cuts (1 + count) → HasBounds cuts count
cuts_bound [] count h = absurd h
cuts_bound (a ∷ []) count h = absurd h
cuts_bound (a ∷ b ∷ []) count h = absurd h
cuts_bound (a ∷ b ∷ c ∷ []) count h = record {
  bounds = record { first = a; second = b; third = b; fourth = c };
  is = rw (le-leb a b h.1, le-leb b c h.2) refl;
  order = record { from_one = h.0; to_second = h.1; to_third = omega arith; to_fourth = h.2; to_end = let e = h.3 in omega (arith, e) };
}
cuts_bound (a ∷ b ∷ c ∷ d ∷ []) count h = record {
  bounds = record { first = a; second = b; third = c; fourth = d };
  is = rw (le-leb a b h.1, le-leb b c h.2, le-leb c d h.3) refl;
  order = record { from_one = h.0; to_second = h.1; to_third = h.2; to_fourth = h.3; to_end = let e = h.4 in omega (arith, e) };
}
cuts_bound (a ∷ b ∷ c ∷ d ∷ e ∷ cuts) count h = absurd h

-- ---- the same, of values that are equal to these

module _ (trees : Trees) (view : FlatView) (stand : Stands trees view) (roots : RootsStand trees.nodes trees.documents) (document : List ℕ) (root : Node) (own : Some root ≡ root_in trees.documents document) (nodes : List (Shape ℕ)) (kept : KeepsRows trees.nodes nodes) (grows : Grows trees.nodes nodes) (made : Node) (is_root : IsRoot nodes made.0)
    (documents : List (DocumentRow Node)) (counted : ℕ) (now : documents ≡ with_root trees.documents document made) (one_more : counted ≡ trees.counted + 1) (session : ℕ) where
  as_said : (after : FlatView) → Stands (record trees { nodes = nodes; documents = with_root trees.documents document made; counted = trees.counted + 1 }) after → Stands (record trees { nodes = nodes; documents = documents; counted = counted }) after
  as_said after stands =
      subst (λ n. Stands (record trees { nodes = nodes; documents = documents; counted = n }) after) (sym one_more)
      (subst (λ ds. Stands (record trees { nodes = nodes; documents = ds; counted = trees.counted + 1 }) after) (sym now) stands)

  pub deleted_as : (span : Span) → laid.texts (rows_of nodes made.0) ≡ left_from 1 span 1 (laid.texts (rows_of trees.nodes root.0)) → laid.links (rows_of nodes made.0) ≡ left_from 2 span 1 (laid.links (rows_of trees.nodes root.0))
      → Stands (record trees { nodes = nodes; documents = documents; counted = counted }) (after_change view session (span_deleted document span))
  deleted_as span text links = as_said _ (deleted_in trees view stand roots document root (sym own) nodes kept grows made is_root session span text links)

  pub swapped_as : (cuts : List ℕ) → AreCuts cuts (1 + length (laid.texts (rows_of trees.nodes root.0))) → laid.texts (rows_of nodes made.0) ≡ rearranged cuts (laid.texts (rows_of trees.nodes root.0)) → laid.links (rows_of nodes made.0) ≡ laid.links (rows_of trees.nodes root.0)
      → Stands (record trees { nodes = nodes; documents = documents; counted = counted }) (after_change view session (blocks_swapped document cuts))
  swapped_as cuts are text links =
      let known = cuts_bound cuts (length (laid.texts (rows_of trees.nodes root.0))) are in
      as_said _ (swapped_in trees view stand roots document root (sym own) nodes kept grows made is_root session cuts known.bounds known.is known.order text links)

pub cuts_seen : (slice cuts : List ℕ) (n k : ℕ) → AreCuts slice (n + 1) → slice ≡ cuts → n ≡ k → AreCuts cuts (1 + k)
cuts_seen slice cuts n k are is long = subst (λ xs. AreCuts xs (1 + k)) is (subst (AreCuts slice) (omega (arith, long)) are)

-- ---- text comes in

module _ (trees : Trees) (view : FlatView) (stand : Stands trees view) (roots : RootsStand trees.nodes trees.documents) (document : List ℕ) (root : Node) (own : Some root ≡ root_in trees.documents document) (nodes : List (Shape ℕ)) (kept : KeepsRows trees.nodes nodes) (grows : Grows trees.nodes nodes) (made : Node) (is_root : IsRoot nodes made.0)
    (index : IndexTree) (at : ℕ) (new : List (List ℕ)) where
  pub came_between : 1 ≤ at → at ≤ 1 + length (laid.texts (rows_of trees.nodes root.0)) → laid.texts (rows_of nodes made.0) ≡ exchanged_at at at new (laid.texts (rows_of trees.nodes root.0)) → laid.links (rows_of nodes made.0) ≡ laid.links (rows_of trees.nodes root.0)
      → ((d a : List ℕ) → IsCovered trees.index d a → IsCovered index d a) → All (IsCovered index document) new
      → Stands (record trees { nodes = nodes; documents = with_root trees.documents document made; index = index; counted = trees.counted + 1 }) (record view { world = record view.world { rows = rows_with view.world.rows document at new }; counted = view.counted + 1 })
  came_between from_one to_end text links keeps covers =
      let there = sym own in
      let old = laid.texts (rows_of trees.nodes root.0) in
      edited trees view stand roots document root there nodes kept grows made is_root index (rows_with view.world.rows document at new)
      (text_with_is view.world.rows document at new old from_one (text_rows_were trees view stand roots document root there nodes kept grows made is_root) (omega (arith, to_end)) ∙ ap (new_rows document 1) (sym text))
      (links_with view.world.rows document document at new ∙ link_rows_were trees view stand roots document root there nodes kept grows made is_root ∙ ap (link_rows document 1) (sym links))
      (λ d e. other_text_with view.world.rows document d at new e) (λ d e. links_with view.world.rows document d at new) keeps
      (subst (λ xs. All (IsCovered index document) xs) (sym text)
      (All-exchanged (IsCovered index document) at at new old covers (All-weaker (IsCovered trees.index document) (IsCovered index document) (keeps document) old (covered_was trees view stand roots document root there nodes kept grows made is_root))))

  pub copied_as : (documents : List (DocumentRow Node)) (counted : ℕ) → documents ≡ with_root trees.documents document made → counted ≡ trees.counted + 1 → (session : ℕ) (specs : List PlainSpec) → new ≡ picked_addresses view.world specs
      → 1 ≤ at → at ≤ 1 + length (laid.texts (rows_of trees.nodes root.0)) → laid.texts (rows_of nodes made.0) ≡ exchanged_at at at new (laid.texts (rows_of trees.nodes root.0)) → laid.links (rows_of nodes made.0) ≡ laid.links (rows_of trees.nodes root.0)
      → ((d a : List ℕ) → IsCovered trees.index d a → IsCovered index d a) → All (IsCovered index document) new
      → Stands (record trees { nodes = nodes; documents = documents; index = index; counted = counted }) (after_change view session (specs_copied document at specs))
  copied_as documents counted now one_more session specs picked from_one to_end text links keeps covers =
      subst (λ n. Stands (record trees { nodes = nodes; documents = documents; index = index; counted = n }) (after_change view session (specs_copied document at specs))) (sym one_more)
      (subst (λ ds. Stands (record trees { nodes = nodes; documents = ds; index = index; counted = trees.counted + 1 }) (after_change view session (specs_copied document at specs))) (sym now)
      (subst (λ xs. Stands (record trees { nodes = nodes; documents = with_root trees.documents document made; index = index; counted = trees.counted + 1 }) (record view { world = record view.world { rows = rows_with view.world.rows document at xs }; counted = view.counted + 1 })) picked
      (came_between from_one to_end text links keeps covers)))
