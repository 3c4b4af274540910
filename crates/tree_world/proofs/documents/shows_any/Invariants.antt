use Rattle.std.proofs.Common.{◌≡◌, false, take}
use Rattle.enfilade_core.specs.Rows.{rows_of}
use Rattle.tree_world.specs.inside.Seen.{rows_show}
use Rattle.tree_world.proofs.documents.shows_any.Given as goal

abbrev pub invariant-loop-span : goal.invariant-loop-span
invariant-loop-span l = rows_show (take l.span-index l.spans) (rows_of l.poom l.root.0) ≡ false
