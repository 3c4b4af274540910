use Rattle.std.proofs.Common.{◌==◌, ◌∙◌, ap}
use Rattle.std.specs.List.{list_any}
use Rattle.world_rules.specs.History.{is_live}
use Rattle.green_store.specs.StoreView.{StoreView}
use Rattle.green_store.proofs.store.StoreOver.is_live.Goals as goal

pub returns : goal.returns
returns g c =
    c.is_in.ensures ∙ ap (list_any (λ s. s == c.args.session)) c.as_slice.ensures ∙ c.self.invariant.live_are c.args.session
    ∙ ap (λ (v : StoreView). is_live v.history c.args.session) c.self.view_is
