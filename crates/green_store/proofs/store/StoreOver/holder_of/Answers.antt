use Rattle.std.proofs.Common.{◌≡◌, ◌∙◌, ap}
use Rattle.febe_data.specs.Plain.{plain_history}
use Rattle.world_rules.specs.Apply.{world_of}
use Rattle.world_rules.specs.FlatView.{view_of}
use Rattle.world_rules.specs.Holding.{holder}
use Rattle.world_rules.specs.World.{World}
use Rattle.world_rules.proofs.Folded.{folds_to_world}
use Rattle.green_store.specs.StoreView.{StoreView}
use Rattle.green_store.proofs.store.StoreOver.holder_of.Goals as goal

pub returns : goal.returns
returns g c =
    let history = plain_history c.self.inside.history.items in
    let world : (view_of history).world ≡ world_of c.args.self.now.history = folds_to_world history ∙ ap (λ (v : StoreView). world_of v.history) c.self.view_is in
    c.holder_of.ensures (view_of history) c.self.invariant.world_stands ∙ ap (λ (w : World). holder w c.args.document.now) world
