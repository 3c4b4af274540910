use Rattle.std.proofs.Common.{◌≡◌, ◌++◌, ◌∙◌, All, ap, sym, subst}
use Rattle.poom.specs.Edited.{IsContentRun, run_addresses}
use Rattle.tree_world.specs.inside.Seen.{text_picked, runs_picked}
use Rattle.tree_world.proofs.Steps.{more_at, addresses_join, contents_join}
use Rattle.tree_world.proofs.world.TreeWorld.push_spec_runs.Goals as goal

pub loop-span-preserved : goal.loop-span-preserved
loop-span-preserved c =
    let start = c.args.made.now.items in
    let old = c.loop-span.made.items in
    let new = c.push_runs.new.made.items in
    let slice = c.as_slice.result.now in
    let pushed : new ≡ old ++ slice = c.in_ok-push_runs.ensures in (
      more_at (runs_picked c.args.self.now c.args.spec.now.document) c.args.spec.now.spans.items c.as_slice-span-items.result.now c.loop-span.span-index c.span-item.result start old new slice
          c.as_slice-span-items.ensures c.loop-span-test.true c.span-item.is (c.as_slice.ensures ∙ c.in_ok-runs.ensures.runs) pushed c.loop-span.invariant.0,
      more_at (text_picked c.args.self.now c.args.spec.now.document) c.args.spec.now.spans.items c.as_slice-span-items.result.now c.loop-span.span-index c.span-item.result (run_addresses start) (run_addresses old) (run_addresses new) (run_addresses slice)
          c.as_slice-span-items.ensures c.loop-span-test.true c.span-item.is (ap run_addresses c.as_slice.ensures ∙ c.in_ok-runs.ensures.bytes) (addresses_join old slice new pushed) c.loop-span.invariant.1,
      λ all. contents_join old slice new pushed (c.loop-span.invariant.2 all) (subst (All IsContentRun) (sym c.as_slice.ensures) c.in_ok-runs.ensures.content),
    )
