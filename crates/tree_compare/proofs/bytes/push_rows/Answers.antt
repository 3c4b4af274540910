use Rattle.tree_compare.specs.declared.stretch.Stretch.{Stretch}
use Rattle.tree_compare.specs.Stretches.{laid_stretches}
use Rattle.tree_compare.proofs.Lent.{row-lies, rows-more, stretch-is, stretches-more}
use Rattle.tree_compare.proofs.bytes.push_rows.Goals as goal

pub add-requires : goal.add-requires
add-requires c = (row-lies c.args.first.now c.args.rows.now c.loop-row.row-index c.row-item.result c.requires c.loop-row-test.true c.row-item.is).fits

pub loop-row-preserved : goal.loop-row-preserved
loop-row-preserved c =
    let stretch : Stretch = record { start = c.add.result; bytes = c.as_slice.result } in
    let lies = row-lies c.args.first.now c.args.rows.now c.loop-row.row-index c.row-item.result c.requires c.loop-row-test.true c.row-item.is in (
      rows-more c.args.first.now c.args.rows.now c.loop-row.row-index c.row-item.result stretch (laid_stretches c.args.into.now.items) c.loop-row.into.items c.push.new.self.items c.loop-row-test.true c.row-item.is c.add.ensures c.as_slice.ensures
          c.loop-row.invariant.0 c.in_ok-push.ensures.ok,
      λ held. stretches-more c.loop-row.into.items c.push.new.self.items stretch (c.loop-row.invariant.1 held) (stretch-is c.args.first.now c.row-item.result stretch lies c.add.ensures c.as_slice.ensures) c.in_ok-push.ensures.ok,
    )
