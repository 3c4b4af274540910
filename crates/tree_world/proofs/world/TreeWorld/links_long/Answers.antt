use Rattle.std.proofs.Common.{subst, sym, ◌≤◌, ℕ}
use Rattle.enfilade_core.specs.Rows.{rows_of}
use Rattle.poom.specs.declared.part.Part.TheVariants.{Links}
use Rattle.poom.proofs.Looks.{fits_in}
use Rattle.tree_world.proofs.Looked.{root_stands}
use Rattle.tree_world.proofs.world.TreeWorld.links_long.Goals as goal

pub links-requires : goal.links-requires
links-requires c = record { document = root_stands c.self.inside.pooms c.self.inside.documents c.args.document.now c.in-Some.root c.self.invariant.0 c.in-Some.ensures }

pub returns-clause-few : goal.returns-clause-few
returns-clause-few c =
    subst (λ (n : ℕ). n ≤ 4294967294) (sym c.links.ensures)
    (fits_in Links (rows_of c.self.inside.pooms c.in-Some.root.0) (root_stands c.self.inside.pooms c.self.inside.documents c.args.document.now c.in-Some.root c.self.invariant.0 c.in-Some.ensures).document)
