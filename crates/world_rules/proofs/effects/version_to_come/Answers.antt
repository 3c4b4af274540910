use Rattle.std.proofs.Common.{◌≡◌, ◌∙◌, ℕ, List, ap}
use Rattle.std.proofs.lemmas.Result.{IfOk-weaker}
use Rattle.world_rules.specs.World.{version_for}
use Rattle.world_rules.specs.Effects.{version_to_come}
use Rattle.world_rules.proofs.Makers.{maker_is}
use Rattle.world_rules.proofs.effects.version_to_come.Goals as goal

pub returns-clause-value : goal.returns-clause-value
returns-clause-value g c view stands =
    let source = c.args.source.now in
    let maker = maker_is view.world c.args.session c.in-Some.account (c.in-Some.ensures view stands) in
    IfOk-weaker c.version_for.result (λ (document : List ℕ). document ≡ version_for view.world source c.in-Some.account) (λ (document : List ℕ). document ≡ version_to_come view.world c.args.session source)
    (λ document is. is ∙ ap (version_for view.world source) maker) (c.version_for.ensures.value view stands)
