-- Trees that were asked whether they show content.
use Rattle.std.specs.Prelude.{◌≡◌, Bool, false, List, Option, Some, None}
use Rattle.tumbler.specs.declared.span.Span.{Span}
use Rattle.enfilade_core.specs.Rows.{rows_of}
use Rattle.tree_world.specs.declared.documents.Asked.{Asked}
use Rattle.tree_world.specs.Trees.{Trees}
use Rattle.tree_world.specs.inside.Seen.{rows_show}

-- the tree shows content of the spans as it is said
abbrev pub IsAsked : Trees → List Span → Option Asked → Type 0
IsAsked trees spans None = Unit {0}
IsAsked trees spans (Some asked) = asked.shows ≡ rows_show spans (rows_of trees.nodes asked.root.0)

abbrev pub is_shown : Option Asked → Bool
is_shown None = false
is_shown (Some asked) = asked.shows
