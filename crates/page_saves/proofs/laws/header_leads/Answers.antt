use Rattle.page_saves.proofs.Planned.{header-leads}
use Rattle.page_saves.proofs.laws.header_leads.Goals as goal

pub returns : goal.returns
returns c saved plans position used seven are distinct low few = header-leads saved plans position used seven are distinct low few
