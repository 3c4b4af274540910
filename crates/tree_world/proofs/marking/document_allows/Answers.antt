use Rattle.std.proofs.Common.{◌<◌, List, length, sym, subst}
use Rattle.enfilade_core.specs.Rows.{Shape}
use Rattle.tree_world.proofs.Roots.{root_stands}
use Rattle.tree_world.proofs.marking.document_allows.Goals as goal

pub allows-requires : goal.allows-requires
allows-requires c = subst (λ (nodes : List (Shape _)). c.in-Some.root.0 < length nodes) (sym c.arena.ensures) (root_stands c.args.pooms.now c.args.documents.now c.args.document.now c.in-Some.root c.requires.roots (sym c.in-Some.ensures)).there
