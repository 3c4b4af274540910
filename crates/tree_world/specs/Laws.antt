-- Laws of the condition of a world's trees, and of what it says that runs meet.
use Rattle.std.specs.Prelude.{◌≡◌, ◌↔◌, ℕ, ◌^◌, ◌≤◌, true, false, List, [], ◌∷◌, length, All}
use Rattle.enfilade_core.specs.declared.tree.Node.{Node}
use Rattle.enfilade_core.specs.Rows.{Shape, rows_of}
use Rattle.enfilade_core.specs.Axes.{Widths}
use Rattle.enfilade_core.specs.Planes.{content_widths, text_widths, key_widths}
use Rattle.enfilade_core.specs.Summary.{depth_of}
use Rattle.enfilade_sweep.specs.Sweep.{AllReached}
use Rattle.febe_data.specs.declared.run.Run.{Run}
use Rattle.world_rules.specs.World.{content_address}
use Rattle.world_rules.specs.Picking.{is_in_run}
use Rattle.links.specs.LinkLists.{IsRun, run_span}
use Rattle.links.specs.Finding.{spans_meet}
use Rattle.doc_table.specs.declared.rows.DocumentRow.{DocumentRow}
use Rattle.tree_world.specs.Trees.{Trees}
use Rattle.tree_world.specs.Condition.{condition_of, roots_in}

-- each node of each arena is reached from the roots of the trees that stand there
pub record EachReached (trees : Trees) : Type 0 where
  pub contents : AllReached trees.contents.nodes (trees.contents.root ∷ [])
  pub index : AllReached trees.index.nodes (trees.index.root.0 ∷ [])
  pub from : AllReached trees.links.from.nodes (trees.links.from.root.0 ∷ [])
  pub to : AllReached trees.links.to.nodes (trees.links.to.root.0 ∷ [])
  pub three : AllReached trees.links.three.nodes (trees.links.three.root.0 ∷ [])
  pub documents : AllReached trees.nodes (roots_in trees.documents)

-- each node is reached where the condition counts none that is not
abbrev pub NodesAreReached : Trees → Type 0
NodesAreReached trees = (condition_of trees).unreached ≡ 0 → EachReached trees

-- a tree of two levels or more has many leaves: twice as many for each level
abbrev pub IsFull : {L : Type 0} → Widths L → List (Shape L) → ℕ → Type 0
IsFull w nodes root = 2 ≤ depth_of w nodes root → 2 ^ depth_of w nodes root ≤ length (rows_of nodes root)

-- all trees are full
pub record EachFull (trees : Trees) : Type 0 where
  pub contents : IsFull content_widths trees.contents.nodes trees.contents.root
  pub index : IsFull key_widths trees.index.nodes trees.index.root.0
  pub from : IsFull key_widths trees.links.from.nodes trees.links.from.root.0
  pub to : IsFull key_widths trees.links.to.nodes trees.links.to.root.0
  pub three : IsFull key_widths trees.links.three.nodes trees.links.three.root.0
  pub documents : All (λ (row : DocumentRow Node). IsFull text_widths trees.nodes row.root.0) trees.documents

-- all trees are full where none of them allows a step
abbrev pub TreesAreFull : Trees → Type 0
TreesAreFull trees = (condition_of trees).allows ≡ false → EachFull trees

-- ---- runs

-- some byte is in both runs
pub record HaveByte (a b : Run) : Type 0 where
  pub number : ℕ
  pub in_first : is_in_run (content_address a.content number) a ≡ true
  pub in_second : is_in_run (content_address a.content number) b ≡ true

-- the spans of two runs meet exactly where some byte is in both
abbrev pub RunsMeetExactly : Type 0
RunsMeetExactly = (a b : Run) → IsRun a → IsRun b → ((spans_meet (run_span a) (run_span b) ≡ true) ↔ HaveByte a b)
