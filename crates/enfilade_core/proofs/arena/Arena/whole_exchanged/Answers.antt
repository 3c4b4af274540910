use Rattle.std.proofs.Common.{refl, [], ◌++◌, ◌∙◌, ap, sym, map, List}
use Rattle.enfilade_core.specs.Rows.{branch_rows, rows_table}
use Rattle.enfilade_core.specs.Summary.{height_of}
use Rattle.enfilade_core.specs.Plain.{plain_row}
use Rattle.enfilade_core.proofs.OpenedAt.{at-of_part}
use Rattle.enfilade_core.proofs.ExchangeLists.{taken-before, taken-past, taken-within}
use Rattle.enfilade_core.proofs.ExchangeNodes.{whole-before, whole-within, whole-past, past-well_formed, none-taken}
use Rattle.enfilade_core.proofs.arena.Arena.whole_exchanged.Goals as goal

pub append_rows-requires : goal.append_rows-requires
append_rows-requires g c = at-of_part g.P.Plane.widths c.args.self.now c.args.branch.now c.requires.part

pub moved_whole-requires-clause-rows : goal.moved_whole-requires-clause-rows
moved_whole-requires-clause-rows g c = past-well_formed g.P.Plane.widths c.args.gap.now [] (branch_rows (rows_table c.args.self.now) c.args.branch.now) refl c.requires.up_to c.in-Past.ensures c.requires.well_formed

pub returns-in-Before : goal.returns-in-Before
returns-in-Before g c =
    let rows = branch_rows (rows_table c.args.self.now) c.args.branch.now in (
      whole-before g.P.Plane.widths c.args.self.now c.args.gap.now [] c.args.branch.now c.copy.result refl c.requires.up_to c.requires.part c.in-Before.ensures c.copy.ensures,
      none-taken c.args.gap.now rows (map (plain_row g.P.Plane.plain) c.args.out.now.items) (taken-before c.args.gap.now.from c.args.gap.now.to rows c.in-Before.ensures),
    )

pub returns-in_ok-append_rows-in-Within : goal.returns-in_ok-append_rows-in-Within
returns-in_ok-append_rows-in-Within g c =
    let rows = branch_rows (rows_table c.args.self.now) c.args.branch.now in (
      whole-within c.args.gap.now [] rows refl c.in-Within.ensures,
      c.in_ok-append_rows-in-Within.ensures ∙ ap (λ (r : List _). map (plain_row g.P.Plane.plain) c.args.out.now.items ++ r) (sym (taken-within c.args.gap.now rows c.in-Within.ensures)),
    )

pub returns-in-Some : goal.returns-in-Some
returns-in-Some g c =
    let rows = branch_rows (rows_table c.args.self.now) c.args.branch.now in (
      whole-past g.P.Plane.widths c.args.self.now (height_of g.P.Plane.widths c.args.self.now c.args.branch.now.node.0) c.args.gap.now [] rows c.in-Some.moved refl c.requires.up_to c.in-Past.ensures c.in-Some.ensures,
      none-taken c.args.gap.now rows (map (plain_row g.P.Plane.plain) c.args.out.now.items) (taken-past c.args.gap.now.from c.args.gap.now.to rows c.in-Past.ensures),
    )
