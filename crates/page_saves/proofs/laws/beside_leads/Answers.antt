use Rattle.page_saves.proofs.EachBeside.{beside-leads}
use Rattle.page_saves.proofs.laws.beside_leads.Goals as goal

pub returns : goal.returns
returns c chains position writes distinct beside = beside-leads chains position writes distinct beside
