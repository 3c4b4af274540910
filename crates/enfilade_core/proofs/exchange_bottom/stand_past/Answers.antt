use Rattle.std.proofs.lemmas.List.Elements.{All-more}
use Rattle.std.proofs.Common.{subst}
use Rattle.tumbler.specs.Laws.{StandsBefore}
use Rattle.enfilade_core.proofs.PackedOrigins.{least-all}
use Rattle.enfilade_core.proofs.exchange_bottom.stand_past.Goals as goal

pub loop-row-preserved : goal.loop-row-preserved
loop-row-preserved g c =
    let item = c.row-item.result in
    let first = c.args.first.now in
    let second = c.args.second.now in
    record {
      first = All-more (λ row. StandsBefore first row.first) c.args.rows.now c.loop-row.row-index item c.loop-row-test.true c.loop-row.invariant.first
          (subst (λ row. StandsBefore first row.first) c.row-item.is (c.stands_before.ensures c.if-not-stands_before.false));
      second = All-more (λ row. StandsBefore second row.second) c.args.rows.now c.loop-row.row-index item c.loop-row-test.true c.loop-row.invariant.second
          (subst (λ row. StandsBefore second row.second) c.row-item.is (c.stands_before-in-loop-row.ensures c.if-not-stands_before-2.false));
    }

pub returns-clause-first : goal.returns-clause-first
returns-clause-first g c = λ all. least-all (λ row. StandsBefore c.args.first.now row.first) c.args.rows.now c.loop-row.row-index c.loop-row-test.false c.loop-row.invariant.first

pub returns-clause-second : goal.returns-clause-second
returns-clause-second g c = λ all. least-all (λ row. StandsBefore c.args.second.now row.second) c.args.rows.now c.loop-row.row-index c.loop-row-test.false c.loop-row.invariant.second
