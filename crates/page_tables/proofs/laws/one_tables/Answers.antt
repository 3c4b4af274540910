use Rattle.page_tables.proofs.TableCodecs.{one_tables}
use Rattle.page_tables.proofs.laws.one_tables.Goals as goal

pub returns : goal.returns
returns c = one_tables
