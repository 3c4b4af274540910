use Rattle.spanfilade.proofs.Rows.{empty_rows}
use Rattle.spanfilade.proofs.spanfilade.Spanfilade.new.Goals as goal

pub returns : goal.returns
returns c = empty_rows c.new-arena.result c.empty.new.self c.in_ok-root.root.0 c.in_ok-root.ensures.ok c.in_ok-root.ensures.made
