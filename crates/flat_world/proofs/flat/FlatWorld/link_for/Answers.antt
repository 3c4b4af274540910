use Rattle.std.proofs.Common.{rules}
use Rattle.std.specs.Option.{option_copied}
use Rattle.flat_world.proofs.Endings.{link_by}
use Rattle.flat_world.proofs.flat.FlatWorld.link_for.Goals as goal

pub returns : goal.returns
returns c =
    link_by c.args.self.now.world c.args.account.now c.args.id.now c.as_slice-links.result.now c.as_slice-published.result.now (option_copied c.first_link.result) (search rules) (search rules) c.first_link.ensures
