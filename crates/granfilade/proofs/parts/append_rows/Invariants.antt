use Rattle.std.proofs.Common.{◌≡◌, ◌++◌, take, map}
use Rattle.enfilade_core.specs.Rows.{moved}
use Rattle.enfilade_core.specs.Plain.{plain_row}
use Rattle.enfilade_core.specs.Planes.{plain_text}
use Rattle.granfilade.specs.Content.{laid_out, bytes_in}
use Rattle.granfilade.proofs.parts.append_rows.Given as goal

abbrev pub invariant-loop-row : goal.invariant-loop-row
invariant-loop-row l = l.into.items ≡ l.initial.into.items ++ bytes_in l.span (laid_out (map (moved l.first l.second) (map (plain_row plain_text) (take l.row-index l.rows))))
