-- The set has the number where the list has.
use Rattle.std.proofs.Common.{◌∙◌, ap}
use Rattle.page_chains.specs.Chains.{is_in}
use Rattle.page_flush.proofs.SparedPages.{has_is}
use Rattle.page_flush.proofs.spared.Spared.has.Goals as goal

pub returns : goal.returns
returns c = has_is c.args.number c.self.inside.numbers.keys c.contains.result c.contains.ensures ∙ ap (is_in c.args.number) c.self.view_is
