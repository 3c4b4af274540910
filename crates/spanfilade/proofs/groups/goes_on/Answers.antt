use Rattle.std.proofs.Common.{◌∙◌, ◌-◌, ◌<◌, length, sym, arith, rules}
use Rattle.tumbler.proofs.Before.{up_to_if_false}
use Rattle.enfilade_core.specs.Rows.{rows_of}
use Rattle.enfilade_core.specs.Plain.{found_row}
use Rattle.enfilade_core.specs.Planes.{key_widths}
use Rattle.enfilade_core.proofs.Parts.{rows-ordered}
use Rattle.spanfilade.proofs.GroupRows.{all_up_to, leaves_room, row_front, no_row_front}
use Rattle.spanfilade.proofs.groups.goes_on.Goals as goal

pub returns-in-Some-clause-up_to : goal.returns-in-Some-clause-up_to
returns-in-Some-clause-up_to c h =
    let some : 0 < length c.args.group.now = search rules in
    all_up_to c.args.span.now.start c.args.group.now c.index-group-count.result (length c.args.group.now - 1) c.requires.ordered (omega (arith, some)) c.index-group-count.is
    (up_to_if_false c.args.span.now.start c.index-group-count.result.first (sym c.is_before.ensures.value ∙ c.if-is_before.false))

pub returns-in-Some-clause-room : goal.returns-in-Some-clause-room
returns-in-Some-clause-room c h =
    let some : 0 < length c.args.group.now = search rules in
    let rows = rows_of c.args.arena.now c.args.root.0 in
    leaves_room c.args.span.now.start c.args.group.now rows c.index-group-0.result c.index-group-0.is some (rows-ordered key_widths c.args.arena.now c.args.root.0 c.nodes_are_well_formed.ensures c.requires.below)
    (row_front c.index-group-0.result.first c.args.span.now.start rows (found_row (λ width. width) c.in-Some.row) c.in-Some.ensures.found (sym c.is_before-in-Some.ensures.value ∙ h))

pub returns-in-None-clause-up_to : goal.returns-in-None-clause-up_to
returns-in-None-clause-up_to c h =
    let some : 0 < length c.args.group.now = search rules in
    all_up_to c.args.span.now.start c.args.group.now c.index-group-count.result (length c.args.group.now - 1) c.requires.ordered (omega (arith, some)) c.index-group-count.is
    (up_to_if_false c.args.span.now.start c.index-group-count.result.first (sym c.is_before.ensures.value ∙ c.if-is_before.false))

pub returns-in-None-clause-room : goal.returns-in-None-clause-room
returns-in-None-clause-room c h =
    let some : 0 < length c.args.group.now = search rules in
    let rows = rows_of c.args.arena.now c.args.root.0 in
    leaves_room c.args.span.now.start c.args.group.now rows c.index-group-0.result c.index-group-0.is some (rows-ordered key_widths c.args.arena.now c.args.root.0 c.nodes_are_well_formed.ensures c.requires.below)
    (no_row_front c.index-group-0.result.first c.args.span.now.start rows c.in-None.ensures.none)
