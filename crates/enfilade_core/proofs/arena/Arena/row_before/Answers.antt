use Rattle.std.proofs.Common.{map, ap, ◌∙◌, sym}
use Rattle.enfilade_core.specs.Rows.{moved, rows_of}
use Rattle.enfilade_core.specs.Plain.{found_row}
use Rattle.enfilade_core.specs.Edits.{last_before}
use Rattle.enfilade_core.proofs.OpenedAt.{at-of_root}
use Rattle.enfilade_core.proofs.Seen.{rows-not_moved}
use Rattle.enfilade_core.proofs.WalkedDown.{some-in, none-in}
use Rattle.enfilade_core.proofs.arena.Arena.row_before.Goals as goal

pub row_below-requires : goal.row_below-requires
row_below-requires g c = rw c.zero-zero.ensures (at-of_root g.P.Plane.widths c.args.self.now c.args.root.0 c.allocator.ensures.well_formed c.requires)

pub returns-clause-found : goal.returns-clause-found
returns-clause-found g c =
    let rows = rows_of c.args.self.now c.args.root.0 in
    let zero = c.zero-zero.result in
    some-in (found_row g.P.Plane.plain) c.row_below.result (last_before c.args.at.now (map (moved zero zero) rows)) (last_before c.args.at.now rows)
    (ap (last_before c.args.at.now) (sym (ap (λ z. map (moved z z) rows) c.zero-zero.ensures ∙ rows-not_moved rows))) c.row_below.ensures.found

pub returns-clause-none : goal.returns-clause-none
returns-clause-none g c =
    let rows = rows_of c.args.self.now c.args.root.0 in
    let zero = c.zero-zero.result in
    none-in c.row_below.result (last_before c.args.at.now (map (moved zero zero) rows)) (last_before c.args.at.now rows)
    (ap (last_before c.args.at.now) (sym (ap (λ z. map (moved z z) rows) c.zero-zero.ensures ∙ rows-not_moved rows))) c.row_below.ensures.none
