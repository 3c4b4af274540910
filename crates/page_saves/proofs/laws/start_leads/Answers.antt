use Rattle.page_saves.proofs.EachBeside.{start-leads}
use Rattle.page_saves.proofs.laws.start_leads.Goals as goal

pub returns : goal.returns
returns c saved header = start-leads saved header
