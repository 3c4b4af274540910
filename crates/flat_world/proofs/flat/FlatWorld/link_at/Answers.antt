use Rattle.std.specs.Option.{option_map, option_copied}
use Rattle.flat_rows.specs.PlainLink.{plain_link}
use Rattle.flat_world.proofs.Endings.{link_of}
use Rattle.flat_world.proofs.flat.FlatWorld.link_at.Goals as goal

pub returns : goal.returns
returns c =
    link_of c.args.self.now.world c.args.session c.args.id.now c.account_of-account.result (option_map plain_link (option_copied c.link_for.result)) c.account_of-account.ensures c.link_for.ensures
