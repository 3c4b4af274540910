use Rattle.std.proofs.Common.{◌∙◌, ap}
use Rattle.doc_table.proofs.Changed.{published_there, published_none}
use Rattle.doc_table.specs.inside.Kept.{unboxed}
use Rattle.doc_table.proofs.table.DocTable.published.Goals as goal

pub returns-in_default : goal.returns-in_default
returns-in_default g c = published_none c.args.document.now c.as_slice-rows.result.now c.args.self.now (ap unboxed c.as_slice-rows.ensures.value ∙ c.self.view_is) c.in_default.ensures.none

pub returns : goal.returns
returns g c =
    published_there c.args.document.now c.as_slice-rows.result.now c.args.self.now (ap unboxed c.as_slice-rows.ensures.value ∙ c.self.view_is) c.in-Some.at c.index-rows-at.result c.deref.result.now c.in-Some.ensures.found c.index-rows-at.is c.deref.ensures
