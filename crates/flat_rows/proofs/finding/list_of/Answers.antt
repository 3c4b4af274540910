use Rattle.std.proofs.lemmas.Map.Iter.{rest_more}
use Rattle.std.specs.Map.Iter.{deref}
use Rattle.flat_rows.proofs.Found.{pushed_more}
use Rattle.flat_rows.proofs.finding.list_of.Goals as goal

pub loop-tumbler-preserved : goal.loop-tumbler-preserved
loop-tumbler-preserved c =
    pushed_more c.args.set.now.keys c.loop-tumbler.made.items c.push_tumbler.new.made.items c.loop-tumbler.tumbler-iterator c.next.new.self c.in-Some.tumbler.now
    (rest_more deref c.loop-tumbler.tumbler-iterator c.next.new.self c.next.result c.in-Some.tumbler c.in-Some.is c.next.ensures.steps)
    c.in_ok-push_tumbler.ensures.items c.push_tumbler.ensures.valid c.loop-tumbler.invariant.0 c.loop-tumbler.invariant.1
