use Rattle.spanfilade.proofs.AsOne.{touch, joined_met, joined_fits, joined_reaches}
use Rattle.spanfilade.proofs.joining.as_one.Goals as goal

pub minus-requires : goal.minus-requires
minus-requires c =
    (touch c.args.first.now c.args.second.now c.add-end.result c.add.result c.later-end.result c.is_before.result c.add-end.ensures c.add.ensures c.later-end.ensures
    c.requires.order c.is_before.ensures.value c.if-is_before.false).up_to

pub returns-clause-fits : goal.returns-clause-fits
returns-clause-fits c =
    joined_fits c.args.first.now c.args.second.now (record { start = c.copy.result; width = c.minus.result }) c.later-end.result
    (touch c.args.first.now c.args.second.now c.add-end.result c.add.result c.later-end.result c.is_before.result c.add-end.ensures c.add.ensures c.later-end.ensures
    c.requires.order c.is_before.ensures.value c.if-is_before.false)
    c.copy.ensures c.minus.ensures c.is_tumbler.ensures

pub returns-clause-met : goal.returns-clause-met
returns-clause-met c =
    joined_met c.args.first.now c.args.second.now (record { start = c.copy.result; width = c.minus.result }) c.later-end.result
    (touch c.args.first.now c.args.second.now c.add-end.result c.add.result c.later-end.result c.is_before.result c.add-end.ensures c.add.ensures c.later-end.ensures
    c.requires.order c.is_before.ensures.value c.if-is_before.false)
    c.copy.ensures c.minus.ensures

pub returns-clause-reaches : goal.returns-clause-reaches
returns-clause-reaches c =
    joined_reaches c.args.first.now c.args.second.now (record { start = c.copy.result; width = c.minus.result }) c.later-end.result
    (touch c.args.first.now c.args.second.now c.add-end.result c.add.result c.later-end.result c.is_before.result c.add-end.ensures c.add.ensures c.later-end.ensures
    c.requires.order c.is_before.ensures.value c.if-is_before.false)
    c.copy.ensures c.minus.ensures
