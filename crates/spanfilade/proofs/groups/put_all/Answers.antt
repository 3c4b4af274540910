use Rattle.enfilade_core.specs.Rows.{rows_of}
use Rattle.std.proofs.Common.{◌++◌, ◌∙◌}
use Rattle.enfilade_core.specs.Planes.{key_widths}
use Rattle.enfilade_core.proofs.Parts.{rows-ordered}
use Rattle.spanfilade.proofs.Rows.{grows_again, keeps_again}
use Rattle.spanfilade.proofs.GroupRows.{rows_more, rows_all}
use Rattle.spanfilade.proofs.groups.put_all.Goals as goal

pub loop-span-preserved : goal.loop-span-preserved
loop-span-preserved c = (
  c.in_ok-root.ensures.below,
  grows_again c.args.arena.now c.loop-span.arena c.take_span.new.arena c.loop-span.invariant.1 c.take_span.ensures.grows,
  keeps_again c.args.arena.now c.loop-span.arena c.take_span.new.arena c.loop-span.invariant.1 c.loop-span.invariant.2 c.take_span.ensures.kept,
  c.in_ok-root.ensures.well_formed,
  c.in_ok-root.ensures.fits,
  rows_more c.args.spans.now c.args.key.now c.loop-span.span-index c.span-item.result (rows_of c.args.arena.now c.args.root.0) (c.loop-span.group.items ++ rows_of c.loop-span.arena c.loop-span.root.0) (c.take_span.new.group.items ++ rows_of c.take_span.new.arena c.in_ok-root.root.0)
      c.loop-span-test.true c.span-item.is c.loop-span.invariant.5 c.in_ok-root.ensures.rows,
  c.in_ok-root.ensures.level ∙ c.loop-span.invariant.6,
)

pub returns-clause-rows : goal.returns-clause-rows
returns-clause-rows c =
    rows_all c.args.spans.now c.args.key.now c.loop-span.span-index (rows_of c.args.arena.now c.args.root.0) c.loop-span.group.items (rows_of c.loop-span.arena c.loop-span.root.0) (rows_of c.put_group.new.arena c.in_ok-made.made.0) c.loop-span-test.false c.loop-span.invariant.5
    c.in_ok-made.ensures.rows

pub returns-clause-ordered : goal.returns-clause-ordered
returns-clause-ordered c = rows-ordered key_widths c.put_group.new.arena c.in_ok-made.made.0 c.nodes_are_well_formed.ensures c.in_ok-made.ensures.below

pub returns-clause-level : goal.returns-clause-level
returns-clause-level c = c.in_ok-made.ensures.level ∙ c.loop-span.invariant.6
