use Rattle.std.proofs.Common.{take, map}
use Rattle.std.specs.List.{All}
use Rattle.tumbler.specs.Places.{IsBefore}
use Rattle.enfilade_core.specs.Plain.{plain_row}
use Rattle.enfilade_core.specs.Planes.{plain_text}
use Rattle.granfilade.specs.Content.{ByteAt, laid_out}
use Rattle.store_tests.proofs.contents.ask_rows.Given as goal

abbrev pub invariant-loop-row : goal.invariant-loop-row
invariant-loop-row g l = All (λ (at : ByteAt). IsBefore at.address l.start) (laid_out (map (plain_row plain_text) (take l.row-index l.rows)))
