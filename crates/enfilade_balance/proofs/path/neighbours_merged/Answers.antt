use Rattle.std.proofs.Common.{◌-◌, ◌∙◌, arith}
use Rattle.enfilade_balance.proofs.Places.{part-at, neighbours-at, neighbours-step, neighbours-stepped}
use Rattle.enfilade_balance.proofs.Over.{longer}
use Rattle.enfilade_balance.proofs.path.neighbours_merged.Goals as goal

pub merged-requires : goal.merged-requires
merged-requires g c =
    let found = c.in-Some.ensures.some in
    neighbours-at g.P.Plane.widths c.args.arena.now c.args.branches.now c.in-Some.k c.index-branches-k.result c.index-branches-k-2.result c.requires.well_formed
    record { some = found.0; first = record { there = omega (arith, found.0, found.1); is = c.index-branches-k.is }; second = record { there = found.1; is = c.index-branches-k-2.is } } found.2

pub returns-clause-stepped : goal.returns-clause-stepped
returns-clause-stepped g c =
    let found = c.in-Some.ensures.some in
    neighbours-stepped g.P.Plane.widths c.args.arena.now c.merged.new.arena c.args.branches.now c.in_ok-branches.branches.items c.in-Some.k c.index-branches-k.result c.index-branches-k-2.result c.in_ok-branch.branch c.as_slice.result.now c.requires.well_formed
    record { some = found.0; first = record { there = omega (arith, found.0, found.1); is = c.index-branches-k.is }; second = record { there = found.1; is = c.index-branches-k-2.is } }
    c.in_ok-branch.ensures.grows c.in_ok-branch.ensures.merged (c.as_slice.ensures ∙ c.in_ok-one.ensures) c.in_ok-branches.ensures

pub returns-clause-steps : goal.returns-clause-steps
returns-clause-steps g c =
    let found = c.in-Some.ensures.some in
    let w = g.P.Plane.widths in
    let old = c.args.arena.now in
    let new = c.merged.new.arena in
    let a = c.index-branches-k.result in
    let b = c.index-branches-k-2.result in
    let grows = c.in_ok-branch.ensures.grows in
    neighbours-step w new c.args.branches.now c.in_ok-branches.branches.items c.in-Some.k a b c.in_ok-branch.branch c.as_slice.result.now
    record { some = found.0; first = record { there = omega (arith, found.0, found.1); is = c.index-branches-k.is }; second = record { there = found.1; is = c.index-branches-k-2.is } }
    (longer old new a.node.0 grows (part-at w old c.args.branches.now (c.in-Some.k - 1) a c.requires.well_formed record { there = omega (arith, found.0, found.1); is = c.index-branches-k.is }).branch.below)
    (longer old new b.node.0 grows (part-at w old c.args.branches.now c.in-Some.k b c.requires.well_formed record { there = found.1; is = c.index-branches-k-2.is }).branch.below)
    c.in_ok-branch.ensures.merged.merge (c.as_slice.ensures ∙ c.in_ok-one.ensures) c.in_ok-branches.ensures
