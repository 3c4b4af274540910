use Rattle.std.proofs.Common.{◌≡◌, ◌∙◌, ℕ, List, ap}
use Rattle.std.proofs.lemmas.Result.{IfOk-weaker}
use Rattle.world_rules.specs.World.{next_document}
use Rattle.world_rules.specs.Effects.{document_to_come}
use Rattle.world_rules.proofs.Makers.{maker_is}
use Rattle.world_rules.proofs.effects.document_to_come.Goals as goal

pub returns-clause-value : goal.returns-clause-value
returns-clause-value g c view stands =
    let maker = maker_is view.world c.args.session c.in-Some.account (c.in-Some.ensures view stands) in
    IfOk-weaker c.next_document.result (λ (document : List ℕ). document ≡ next_document view.world c.in-Some.account) (λ (document : List ℕ). document ≡ document_to_come view.world c.args.session)
    (λ document is. is ∙ ap (next_document view.world) maker) (c.next_document.ensures.value view stands)
