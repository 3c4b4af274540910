use Rattle.std.proofs.Common.{◌∙◌, not, ap}
use Rattle.std.specs.Prelude.{is_none}
use Rattle.links.specs.LinkLists.{plain_link}
use Rattle.tree_world.proofs.Linked.{is_some_of}
use Rattle.tree_world.proofs.NowShown.{link_is}
use Rattle.tree_world.proofs.world.TreeWorld.is_link.Goals as goal

pub returns : goal.returns
returns c view stands =
    c.is_some.ensures
    ∙ is_some_of (λ link. link.now) plain_link c.link_for.result
    ∙ ap (λ found. not (is_none found)) (c.link_for.ensures ∙ link_is c.args.self.now view stands c.args.session c.account_of_session-account.result (c.account_of_session-account.ensures view stands) c.args.id.now)
