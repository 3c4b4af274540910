use Rattle.std.proofs.Common.{◌∙◌, ◌+◌, arith}
use Rattle.tree_world.specs.inside.Seen.{runs_picked}
use Rattle.tree_world.proofs.Steps.{more_at, front_of}
use Rattle.tree_world.proofs.world.TreeWorld.push_spec_runs_up_to.Goals as goal

pub returns-then-len-most : goal.returns-then-len-most
returns-then-len-most c =
    let past = c.if-len-most.true in
    let long = c.len.ensures in (
      omega (arith, past, long),
      front_of (runs_picked c.args.self.now c.args.spec.now.document) c.args.spec.now.spans.items (c.loop-span.span-index + 1) c.args.made.now.items c.push_runs.new.made.items
          (more_at (runs_picked c.args.self.now c.args.spec.now.document) c.args.spec.now.spans.items c.as_slice-span-items.result.now c.loop-span.span-index c.span-item.result c.args.made.now.items c.loop-span.made.items c.push_runs.new.made.items
          c.as_slice.result.now c.as_slice-span-items.ensures c.loop-span-test.true c.span-item.is (c.as_slice.ensures ∙ c.in_ok-runs.ensures.runs) c.in_ok-push_runs.ensures c.loop-span.invariant),
    )
