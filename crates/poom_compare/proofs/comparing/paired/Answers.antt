use Rattle.std.proofs.Common.{arith, ◌≤◌, length, refl, ap, ◌∙◌, ◌++◌, ◌∷◌, []}
use Rattle.std.specs.Prelude.{◌⊎◌}
use Rattle.febe_data.specs.declared.run.Diagonal.{Diagonal}
use Rattle.world_rules.specs.declared.pairs.Pair.{Pair}
use Rattle.poom_compare.proofs.Belonging.{paired_more, paired_all}
use Rattle.poom_compare.proofs.comparing.paired.Goals as goal

-- what an index past the end would give
abbrev none : Pair
none = record { left = 0; right = 0 }

pub loop-k-preserved : goal.loop-k-preserved
loop-k-preserved c =
    paired_more c.args.starts.now c.args.ends.now c.loop-k.k _ none none c.loop-k.made.items c.push.new.self.items (omega (arith, c.loop-k-test.true, c.min-k-end.ensures)) (omega (arith, c.loop-k-test.true, c.min-k-end.ensures)) c.loop-k.invariant
    (c.in_ok-push.ensures.items ∙ ap (λ (d : Diagonal). c.loop-k.made.items ++ d ∷ []) c.diagonal_to.ensures) refl

pub returns : goal.returns
returns c =
    let done : (length c.args.starts.now ≤ c.loop-k.k) ⊎ (length c.args.ends.now ≤ c.loop-k.k) = grind (arith, c.loop-k-test.false, c.min-k-end.ensures) in
    paired_all c.args.starts.now c.args.ends.now c.loop-k.k c.loop-k.made.items done c.loop-k.invariant
