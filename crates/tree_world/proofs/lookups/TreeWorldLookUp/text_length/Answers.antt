use Rattle.std.proofs.Common.{◌∙◌}
use Rattle.tree_world.proofs.Looked.{root_stands, as_long_text, no_text}
use Rattle.tree_world.proofs.lookups.TreeWorldLookUp.text_length.Goals as goal

pub length-requires : goal.length-requires
length-requires c = record { document = root_stands c.self.inside.pooms c.self.inside.documents c.args.document.now c.in-Some.root c.self.invariant.0 c.in-Some.ensures }

pub returns-in-Some : goal.returns-in-Some
returns-in-Some c view stands = c.length.ensures ∙ as_long_text _ c.args.self.now view c.args.document.now c.in-Some.root c.self.view_is c.in-Some.ensures stands

pub returns-in-None : goal.returns-in-None
returns-in-None c view stands = no_text _ c.args.self.now view c.args.document.now c.self.view_is c.in-None.ensures stands
