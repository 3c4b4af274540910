use Rattle.enfilade_core.specs.Rows.{rows_of}
use Rattle.tree_world.proofs.Showing.{shown_is}
use Rattle.tree_world.proofs.documents.shows_span.Goals as goal

pub returns : goal.returns
returns c = shown_is c.args.span.now (rows_of c.args.poom.now c.args.root.0) c.in_ok-found.found.items c.is_empty.result c.is_empty.ensures c.in_ok-found.ensures
