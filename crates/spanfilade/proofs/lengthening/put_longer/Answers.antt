use Rattle.std.proofs.Common.{◌≡◌, ◌∙◌, map, refl, rules}
use Rattle.enfilade_core.specs.Rows.{rows_of}
use Rattle.enfilade_core.specs.Plain.{plain_row}
use Rattle.enfilade_core.specs.Planes.{key_widths}
use Rattle.enfilade_core.proofs.Parts.{rows-well_formed, rows-ordered}
use Rattle.spanfilade.proofs.Longer.{longer_front, exchange_well_formed, one_held, plain_long, lengthened_is, lengthened_some}
use Rattle.spanfilade.proofs.lengthening.put_longer.Goals as goal

pub exchange-requires-clause-up_to : goal.exchange-requires-clause-up_to
exchange-requires-clause-up_to c = rw (c.copy.ensures, c.copy-2.ensures) (longer_front c.args.span.now c.args.key.now (rows_of c.args.arena.now c.args.root.0) c.args.row c.requires.longer)

pub exchange-requires-clause-well_formed : goal.exchange-requires-clause-well_formed
exchange-requires-clause-well_formed c =
    let rows = rows_of c.args.arena.now c.args.root.0 in
    rw (c.copy.ensures, c.copy-2.ensures, c.copy-3.ensures)
    (exchange_well_formed c.args.span.now.start c.args.row (map (plain_row (λ width. width)) c.push.new.self.items) rows (one_held c.push.new.self.items c.new-rows.result.items c.args.row c.in_ok-push.ensures.ok c.new-rows.ensures.items)
    (longer_front c.args.span.now c.args.key.now rows c.args.row c.requires.longer) c.requires.longer.well_formed (rows-well_formed key_widths c.args.arena.now c.args.root.0 c.allocator-alloc.ensures.well_formed c.requires.below)
    (rows-ordered key_widths c.args.arena.now c.args.root.0 c.allocator-alloc.ensures.well_formed c.requires.below))

pub returns-clause-rows : goal.returns-clause-rows
returns-clause-rows c =
    let rows = rows_of c.args.arena.now c.args.root.0 in
    let one : c.len.result ≡ 1 = search rules in
    lengthened_is c.args.span.now c.args.key.now c.args.row (map (plain_row (λ width. width)) c.push.new.self.items) rows (map (plain_row (λ width. width)) c.in_ok-made.made.out.items) (rows_of c.exchange.new.self c.in_ok-made.made.root.0) c.requires.longer
    (one_held c.push.new.self.items c.new-rows.result.items c.args.row c.in_ok-push.ensures.ok c.new-rows.ensures.items) (longer_front c.args.span.now c.args.key.now rows c.args.row c.requires.longer)
    (rows-ordered key_widths c.args.arena.now c.args.root.0 c.allocator-alloc.ensures.well_formed c.requires.below) (plain_long c.in_ok-made.made.out.items c.len.result c.len.ensures one)
    (c.in_ok-made.ensures.out ∙ rw (c.copy.ensures, c.copy-2.ensures) refl) (c.in_ok-made.ensures.rows ∙ rw (c.copy.ensures, c.copy-2.ensures, c.copy-3.ensures) refl)

pub returns-clause-level : goal.returns-clause-level
returns-clause-level c = c.in_ok-made.ensures.level (lengthened_some c.args.span.now c.args.key.now (rows_of c.args.arena.now c.args.root.0) (rows_of c.exchange.new.self c.in_ok-made.made.root.0) (returns-clause-rows c))
