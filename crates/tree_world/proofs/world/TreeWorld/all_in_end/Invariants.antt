use Rattle.std.proofs.Common.{◌≡◌, ℕ, All, take}
use Rattle.poom_compare.specs.Placed.{is_in_some, IsInterval, rows_laid}
use Rattle.tree_world.specs.inside.InEnds.{has_row_in_end, AreNumbers}
use Rattle.tree_world.specs.inside.Reads.{links_for}
use Rattle.tree_world.proofs.world.TreeWorld.all_in_end.Given as goal

abbrev pub invariant-loop-run : goal.invariant-loop-run
invariant-loop-run l =
    All (IsInterval 1073741824) l.made.items × ((n : ℕ) → is_in_some l.made.items n ≡ has_row_in_end l.end (links_for l.self l.account) (rows_laid (take l.run-index l.placed)) n) × AreNumbers l.end (links_for l.self l.account) l.extents l.known
