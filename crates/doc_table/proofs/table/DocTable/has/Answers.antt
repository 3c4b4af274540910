use Rattle.std.proofs.Common.{◌∙◌, ap}
use Rattle.doc_table.proofs.Changed.{has_is}
use Rattle.doc_table.specs.inside.Kept.{unboxed}
use Rattle.doc_table.proofs.table.DocTable.has.Goals as goal

pub returns : goal.returns
returns g c = c.is_some.ensures ∙ has_is c.args.document.now c.as_slice.result.now c.args.self.now (ap unboxed c.as_slice.ensures.value ∙ c.self.view_is) c.find.result c.find.ensures.found c.find.ensures.none
