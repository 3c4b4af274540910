use Rattle.std.proofs.Common.{◌≤◌, arith}
use Rattle.tree_world.proofs.ByContent.{wider_some, wider_none}
use Rattle.tree_world.proofs.numbers.extent_with.Goals as goal

pub returns-in-Some : goal.returns-in-Some
returns-in-Some c =
    let found = c.in-Some.extent.now in
    let from : c.min.result ≤ found.from = omega (arith, c.min.ensures) in
    let to : found.to ≤ c.max.result = omega (arith, c.max.ensures) in
    record { from = omega (arith, c.min.ensures); to = omega (arith, c.max.ensures); wider = wider_some found (record { from = c.min.result; to = c.max.result }) _ c.in-Some.ensures.value from to }

pub returns-in-None : goal.returns-in-None
returns-in-None c = record { from = omega arith; to = omega arith; wider = wider_none (record { from = c.args.run.now.first; to = _ }) _ c.in-None.ensures.value }
