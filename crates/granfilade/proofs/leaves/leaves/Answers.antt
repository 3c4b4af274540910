use Rattle.std.proofs.Common.{◌≡◌, ℕ, List, length, take, drop, min, arith, ap, ◌∙◌}
use Rattle.std.proofs.lemmas.List.{length-drop}
use Rattle.granfilade.proofs.NewLeaves.{leaves-more}
use Rattle.granfilade.proofs.leaves.leaves.Goals as goal

pub loop-done-preserved : goal.loop-done-preserved
loop-done-preserved c =
    let bytes = c.args.bytes.now in
    let done = c.loop-done.done in
    let count : c.min-count.result ≡ min (length (drop done bytes)) 1024 = c.min-count.ensures ∙ ap (λ (rest : List ℕ). min (length rest) 1024) c.split_at.ensures.back in (
      omega (arith, count, length-drop done bytes, c.loop-done-test.true),
      leaves-more c.args.start.now bytes done c.min-count.result c.loop-done.rows.items c.push.new.self.items c.in_ok-leaf.field-0 c.requires.address c.is_tumbler.ensures c.requires.room c.loop-done-test.true
          c.loop-done.invariant.1 count c.in_ok-leaf.ensures.first c.in_ok-leaf.ensures.second
          (c.in_ok-leaf.ensures.bytes ∙ c.split_at-in-loop-done.ensures.front ∙ ap (take c.min-count.result) c.split_at.ensures.back) c.in_ok-push.ensures.ok,
    )
