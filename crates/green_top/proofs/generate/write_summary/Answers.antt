use Rattle.std.proofs.Common.{◌∙◌}
use Rattle.green_top.proofs.Generateds.{spells_behind, tells_whole, tells_part, tells_nothing}
use Rattle.green_top.proofs.generate.write_summary.Goals as goal

pub summary_of-requires : goal.summary_of-requires
summary_of-requires g c = (c.requires.0, spells_behind _ _ c.requires.0 c.split_at.ensures.back c.requires.1)

pub returns-in_default : goal.returns-in_default
returns-in_default g c = λ replies o. tells_nothing _ _ _

pub returns-in-Done : goal.returns-in-Done
returns-in-Done g c = λ replies o. tells_whole _ _ _ _ _ _ (c.as_slice.ensures ∙ c.in-Ok.ensures replies (spells_behind _ _ replies c.split_at.ensures.back o)) c.in-Done.ensures.put

pub returns-in-WriteFault : goal.returns-in-WriteFault
returns-in-WriteFault g c = λ replies o. tells_part _ _ _ _ _ _ (c.as_slice.ensures ∙ c.in-Ok.ensures replies (spells_behind _ _ replies c.split_at.ensures.back o)) c.in-WriteFault.ensures.put
