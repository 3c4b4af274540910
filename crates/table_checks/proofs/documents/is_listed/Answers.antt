use Rattle.std.proofs.Common.{◌∙◌, ap}
use Rattle.std.specs.Option.{is_some}
use Rattle.table_checks.proofs.Listed.{listed_is}
use Rattle.table_checks.proofs.documents.is_listed.Goals as goal

pub returns : goal.returns
returns c = c.is_some.ensures ∙ ap is_some c.content_of.ensures ∙ listed_is c.args.address.now c.args.rows.now
