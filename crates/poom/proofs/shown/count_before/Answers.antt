use Rattle.std.proofs.Common.{arith}
use Rattle.poom.proofs.Counting.{read_other, read_reaches, read_there, read_behind}
use Rattle.poom.proofs.shown.count_before.Goals as goal

pub returns-then-ne-clause-each : goal.returns-then-ne-clause-each
returns-then-ne-clause-each c = λ k less. read_other c.args.first.now c.args.at.now c.places-own.result.now c.places-places.result.now c.split_at.result.0.now c.split_at-2.result.0.now c.args.count k c.places-own.ensures.value c.places-places.ensures.value c.requires.filled c.if-not-is_before.ensures.value c.split_at.ensures.front c.split_at-2.ensures.front c.if-ne.ensures less

pub overflow_sub-less : goal.overflow_sub-less
overflow_sub-less c = read_reaches c.args.first.now c.args.at.now c.places-own.result.now c.places-places.result.now c.split_at.result.0.now c.split_at-2.result.0.now c.places-own.ensures.value c.places-places.ensures.value c.requires.filled c.if-not-is_before.ensures.value (omega (arith, c.if-places-n.false)) c.split_at.ensures.front c.split_at-2.ensures.front c.if-ne.ensures

pub returns-then-places-n-2-clause-each : goal.returns-then-places-n-2-clause-each
returns-then-places-n-2-clause-each c = λ k less. read_there c.args.first.now c.args.at.now c.places-own.result.now c.places-places.result.now c.split_at.result.0.now c.split_at-2.result.0.now c.args.count k c.places-own.ensures.value c.places-places.ensures.value c.requires.filled c.if-not-is_before.ensures.value (omega (arith, c.if-places-n.false)) c.split_at.ensures.front c.split_at-2.ensures.front c.if-ne.ensures c.if-places-n-2.true less

pub returns-clause-each : goal.returns-clause-each
returns-clause-each c = λ k less. read_behind c.args.first.now c.args.at.now c.places-own.result.now c.places-places.result.now c.split_at.result.0.now c.split_at-2.result.0.now c.args.count k c.places-own.ensures.value c.places-places.ensures.value c.requires.filled c.if-not-is_before.ensures.value (omega (arith, c.if-places-n.false)) c.split_at.ensures.front c.split_at-2.ensures.front c.if-ne.ensures c.if-places-n-2.false less
