use Rattle.std.proofs.Common.{◌≡◌, ◌++◌, take, map}
use Rattle.enfilade_core.specs.Rows.{moved}
use Rattle.granfilade.specs.Content.{content}
use Rattle.tree_world.specs.inside.Wanted.{bytes_between}
use Rattle.tree_world.proofs.text_reading.append_rows.Given as goal

abbrev pub invariant-loop-row : goal.invariant-loop-row
invariant-loop-row l = l.into.items ≡ l.initial.into.items ++ bytes_between (content l.contents) l.wanted.from l.wanted.to (map (moved l.first l.second) (take l.row-index l.rows))
