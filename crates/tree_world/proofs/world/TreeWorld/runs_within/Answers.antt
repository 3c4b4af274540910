use Rattle.std.proofs.Common.{◌≡◌, ◌∙◌, ◌<◌, length, map, ap, sym, subst, arith}
use Rattle.std.specs.Prelude.{IfNone, IfSome}
use Rattle.febe_data.specs.Plain.{plain_spec}
use Rattle.tree_world.specs.inside.Seen.{runs_by_specs}
use Rattle.tree_world.proofs.Seen.{runs_seen}
use Rattle.tree_world.proofs.Steps.{many_seen}
use Rattle.tree_world.proofs.world.TreeWorld.runs_within.Goals as goal

pub returns-in_default-clause-many : goal.returns-in_default-clause-many
returns-in_default-clause-many c view stands =
    many_seen c.args.most _ _ (runs_seen c.args.self.now view stands (map plain_spec c.args.specs.now))
    (subst (λ found. IfNone found (c.args.most < length (runs_by_specs c.args.self.now (map plain_spec c.args.specs.now)))) c.in_default.is c.in_ok-runs.ensures.many)

pub returns-then-len-most-clause-many : goal.returns-then-len-most-clause-many
returns-then-len-most-clause-many c view stands =
    let is = subst (λ found. IfSome found (λ runs. runs.items ≡ runs_by_specs c.args.self.now (map plain_spec c.args.specs.now))) c.in-Some.is c.in_ok-runs.ensures.runs in
    let past = c.if-len-most.true in
    let long = c.len.ensures in
    let as_long = ap length is in
    many_seen c.args.most _ _ (runs_seen c.args.self.now view stands (map plain_spec c.args.specs.now)) (omega (arith, past, long, as_long))

pub returns-clause-runs : goal.returns-clause-runs
returns-clause-runs c view stands =
    subst (λ found. IfSome found (λ runs. runs.items ≡ runs_by_specs c.args.self.now (map plain_spec c.args.specs.now))) c.in-Some.is c.in_ok-runs.ensures.runs
    ∙ sym (runs_seen c.args.self.now view stands (map plain_spec c.args.specs.now))
