use Rattle.std.proofs.Common.{◌∙◌}
use Rattle.enfilade_core.specs.Plain.{plain_row}
use Rattle.enfilade_core.specs.Rows.{rows_of}
use Rattle.enfilade_core.proofs.OpenedAt.{at-of_root}
use Rattle.enfilade_core.proofs.WalkedRows.{rows-whole}
use Rattle.enfilade_core.proofs.arena.Arena.rows.Goals as goal

pub append_rows-requires : goal.append_rows-requires
append_rows-requires g c = rw c.zero-zero.ensures (at-of_root g.P.Plane.widths c.args.self.now c.args.root.0 c.allocator.ensures.well_formed c.requires)

pub returns : goal.returns
returns g c =
    rows-whole (plain_row g.P.Plane.plain) c.reserve.new.self.items c.zero-zero.result (rows_of c.args.self.now c.args.root.0) _ (c.in_ok-reserve.ensures.items ∙ c.new-rows.ensures.items) c.zero-zero.ensures c.in_ok-append_rows.ensures
