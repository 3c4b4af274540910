-- What a world's condition says of each of its trees.
use Rattle.std.proofs.Common.{◌≡◌, ℕ, ◌+◌, ◌<◌, ◌||◌, Bool, true, false, List, [], ◌∷◌, length, refl, true≢false, arith}
use Rattle.std.specs.Prelude.{All}
use Rattle.std.proofs.lemmas.Bool.{or_parts}
use Rattle.std.proofs.lemmas.List.Elements.{All-nil, All-cons, All-head, All-tail}
use Rattle.enfilade_core.specs.declared.tree.Node.{Node}
use Rattle.enfilade_core.specs.Rows.{Shape}
use Rattle.enfilade_core.specs.Planes.{content_widths, text_widths, key_widths}
use Rattle.enfilade_core.specs.BalanceState.{tree_allows}
use Rattle.enfilade_sweep.specs.Sweep.{unreached_count}
use Rattle.enfilade_sweep.proofs.Counted.{none_left}
use Rattle.enfilade_balance.specs.Laws.{SettledTreesAreFull}
use Rattle.poom.specs.Laid.{IsRoot}
use Rattle.doc_table.specs.declared.rows.DocumentRow.{DocumentRow}
use Rattle.tree_world.specs.Trees.{Trees}
use Rattle.tree_world.specs.Condition.{roots_in, documents_allow}
use Rattle.tree_world.specs.Laws.{NodesAreReached, TreesAreFull, IsFull}
use Rattle.tree_world.proofs.Roots.{RootsStand}

-- ---- six tests at once, and six counts

record AllFalse (a b c d e f : Bool) : Type 0 where
  first : a ≡ false
  second : b ≡ false
  third : c ≡ false
  fourth : d ≡ false
  fifth : e ≡ false
  sixth : f ≡ false

no_one : (a b c d e f : Bool) → (a || b || c || d || e || f) ≡ false → AllFalse a b c d e f
no_one false false false false false false h = record { first = refl; second = refl; third = refl; fourth = refl; fifth = refl; sixth = refl }
no_one true b c d e f h = absurd (true≢false h)
no_one false true c d e f h = absurd (true≢false h)
no_one false false true d e f h = absurd (true≢false h)
no_one false false false true e f h = absurd (true≢false h)
no_one false false false false true f h = absurd (true≢false h)
no_one false false false false false true h = absurd (true≢false h)

record AllZero (a b c d e f : ℕ) : Type 0 where
  first : a ≡ 0
  second : b ≡ 0
  third : c ≡ 0
  fourth : d ≡ 0
  fifth : e ≡ 0
  sixth : f ≡ 0

none_over : (a b c d e f : ℕ) → a + b + c + d + e + f ≡ 0 → AllZero a b c d e f
none_over a b c d e f h = record { first = omega (arith, h); second = omega (arith, h); third = omega (arith, h); fourth = omega (arith, h); fifth = omega (arith, h); sixth = omega (arith, h) }

-- ---- nodes that are reached

pub nodes_are_reached : (trees : Trees) → NodesAreReached trees
nodes_are_reached trees said =
    let none =
    none_over (unreached_count trees.contents.nodes (trees.contents.root ∷ [])) (unreached_count trees.index.nodes (trees.index.root.0 ∷ [])) (unreached_count trees.links.from.nodes (trees.links.from.root.0 ∷ []))
    (unreached_count trees.links.to.nodes (trees.links.to.root.0 ∷ [])) (unreached_count trees.links.three.nodes (trees.links.three.root.0 ∷ [])) (unreached_count trees.nodes (roots_in trees.documents)) said in
    record {
      contents = none_left trees.contents.nodes (trees.contents.root ∷ []) none.first;
      index = none_left trees.index.nodes (trees.index.root.0 ∷ []) none.second;
      from = none_left trees.links.from.nodes (trees.links.from.root.0 ∷ []) none.third;
      to = none_left trees.links.to.nodes (trees.links.to.root.0 ∷ []) none.fourth;
      three = none_left trees.links.three.nodes (trees.links.three.root.0 ∷ []) none.fifth;
      documents = none_left trees.nodes (roots_in trees.documents) none.sixth;
    }

-- ---- trees in which no step is allowed

documents-full : (nodes : List (Shape ℕ)) (rows : List (DocumentRow Node)) → SettledTreesAreFull text_widths nodes → RootsStand nodes rows → documents_allow nodes rows ≡ false → All (λ (row : DocumentRow Node). IsFull text_widths nodes row.root.0) rows
documents-full nodes [] full stand calm = All-nil (λ (row : DocumentRow Node). IsFull text_widths nodes row.root.0)
documents-full nodes (row ∷ rows) full stand calm =
    let parts = or_parts (tree_allows nodes row.root.0) (documents_allow nodes rows) calm in
    All-cons (λ (row : DocumentRow Node). IsFull text_widths nodes row.root.0) row rows
    (full row.root.0 (All-head (λ (r : DocumentRow Node). IsRoot nodes r.root.0) row rows stand).there parts.0)
    (documents-full nodes rows full (All-tail (λ (r : DocumentRow Node). IsRoot nodes r.root.0) row rows stand) parts.1)

module _ (trees : Trees) (contents : SettledTreesAreFull content_widths trees.contents.nodes) (index : SettledTreesAreFull key_widths trees.index.nodes) (from : SettledTreesAreFull key_widths trees.links.from.nodes)
    (to : SettledTreesAreFull key_widths trees.links.to.nodes) (three : SettledTreesAreFull key_widths trees.links.three.nodes) (documents : SettledTreesAreFull text_widths trees.nodes) (stand : RootsStand trees.nodes trees.documents)
    (contents_there : trees.contents.root < length trees.contents.nodes) (index_there : trees.index.root.0 < length trees.index.nodes) (from_there : trees.links.from.root.0 < length trees.links.from.nodes)
    (to_there : trees.links.to.root.0 < length trees.links.to.nodes) (three_there : trees.links.three.root.0 < length trees.links.three.nodes) where
  pub trees_are_full : TreesAreFull trees
  trees_are_full said =
      let calm =
      no_one (tree_allows trees.contents.nodes trees.contents.root) (tree_allows trees.index.nodes trees.index.root.0) (tree_allows trees.links.from.nodes trees.links.from.root.0)
      (tree_allows trees.links.to.nodes trees.links.to.root.0) (tree_allows trees.links.three.nodes trees.links.three.root.0) (documents_allow trees.nodes trees.documents) said in
      record {
        contents = contents trees.contents.root contents_there calm.first;
        index = index trees.index.root.0 index_there calm.second;
        from = from trees.links.from.root.0 from_there calm.third;
        to = to trees.links.to.root.0 to_there calm.fourth;
        three = three trees.links.three.root.0 three_there calm.fifth;
        documents = documents-full trees.nodes trees.documents documents stand calm.sixth;
      }
