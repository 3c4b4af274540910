use Rattle.std.proofs.Common.{◌∙◌, ap}
use Rattle.links.specs.inside.Kept.{unboxed}
use Rattle.links.proofs.Changed.{get_there, get_none}
use Rattle.links.proofs.table.Table.get.Goals as goal

pub returns-in_default : goal.returns-in_default
returns-in_default c = get_none c.args.id.now c.as_slice-links.result.now c.args.self.now (ap unboxed c.as_slice-links.ensures.value ∙ c.self.view_is) c.in_default.ensures.none

pub returns : goal.returns
returns c =
    get_there c.args.id.now c.as_slice-links.result.now c.args.self.now (ap unboxed c.as_slice-links.ensures.value ∙ c.self.view_is) c.in-Some.at c.index-links-at.result c.deref.result.now c.in-Some.ensures.found c.index-links-at.is c.deref.ensures
