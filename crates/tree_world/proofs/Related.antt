-- What is shared by trees is the relation in a world that they stand for.
use Rattle.std.proofs.Common.{◌≡◌, ◌∙◌, List, [], ◌∷◌, Option, Some, None, refl, sym, ap}
use Rattle.febe_data.specs.Plain.{PlainSpec}
use Rattle.enfilade_core.specs.declared.tree.Node.{Node}
use Rattle.enfilade_core.specs.Rows.{rows_of}
use Rattle.doc_table.specs.DocumentRows.{root_in}
use Rattle.poom.specs.Laid.{texts}
use Rattle.poom_compare.specs.Shared.{pairs_between, rows_picked, shared}
use Rattle.poom_compare.proofs.Worlds.{of_world}
use Rattle.world_rules.specs.declared.rows.Row.{Row}
use Rattle.world_rules.specs.FlatView.{FlatView}
use Rattle.world_rules.specs.Relation.{diagonals, diagonals_of}
use Rattle.tree_world.specs.Trees.{Trees, text_at, text_in}
use Rattle.tree_world.specs.Standing.{Stands}

no_pairs : (lefts : List Row) → pairs_between lefts [] ≡ []
no_pairs [] = refl
no_pairs (row ∷ lefts) = no_pairs lefts

module _ (trees shown : Trees) (same : trees ≡ shown) (view : FlatView) (stands : Stands shown view) (left right : PlainSpec) where
  as_shared : diagonals view.world left right ≡ shared (text_in trees left.document) left.spans (text_in trees right.document) right.spans
  as_shared =
      of_world view.world left right (text_in shown left.document) (text_in shown right.document) (stands.texts left.document) (stands.texts right.document)
      ∙ ap (λ (t : Trees). shared (text_in t left.document) left.spans (text_in t right.document) right.spans) (sym same)

  pub left_none : None ≡ root_in trees.documents left.document → [] ≡ diagonals view.world left right
  left_none none = sym (as_shared ∙ ap (λ (root : Option Node). shared (text_at trees.nodes root) left.spans (text_in trees right.document) right.spans) (sym none))

  pub right_none : None ≡ root_in trees.documents right.document → [] ≡ diagonals view.world left right
  right_none none =
      sym (as_shared ∙ ap (λ (root : Option Node). shared (text_in trees left.document) left.spans (text_at trees.nodes root) right.spans) (sym none)
      ∙ ap diagonals_of (no_pairs (rows_picked left.spans (text_in trees left.document))))

  pub both_there : (one other : Node) → Some one ≡ root_in trees.documents left.document → Some other ≡ root_in trees.documents right.document
      → shared (texts (rows_of trees.nodes one.0)) left.spans (texts (rows_of trees.nodes other.0)) right.spans ≡ diagonals view.world left right
  both_there one other is_one is_other =
      (λ i. shared (text_at trees.nodes (is_one i)) left.spans (text_at trees.nodes (is_other i)) right.spans) ∙ sym as_shared
