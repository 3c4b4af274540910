use Rattle.std.proofs.Common.{◌∙◌, ap}
use Rattle.links.specs.LinkLists.{count_of_home_in}
use Rattle.links.proofs.table.Table.count_of_home.Goals as goal

pub returns : goal.returns
returns c = c.count_of.ensures ∙ c.self.invariant.2 c.args.home.now ∙ ap (λ links. count_of_home_in links c.args.home.now) c.self.view_is
