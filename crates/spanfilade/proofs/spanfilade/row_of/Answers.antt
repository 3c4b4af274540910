use Rattle.spanfilade.proofs.Adding.{well_formed_row}
use Rattle.spanfilade.proofs.spanfilade.row_of.Goals as goal

pub returns-clause-well_formed : goal.returns-clause-well_formed
returns-clause-well_formed c = well_formed_row c.args.span.now c.args.key.now c.is_tumbler.ensures c.is_tumbler-2.ensures c.is_tumbler-3.ensures c.requires
