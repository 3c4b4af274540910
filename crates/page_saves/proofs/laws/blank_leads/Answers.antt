use Rattle.page_saves.proofs.EachBeside.{blank-leads}
use Rattle.page_saves.proofs.laws.blank_leads.Goals as goal

pub returns : goal.returns
returns c header writes distinct some = blank-leads header writes distinct some
