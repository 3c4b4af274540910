-- The front, the starts and the zeros behind them are the page.
use Rattle.std.proofs.Common.{arith}
use Rattle.page_chains.proofs.SpelledPages.{header_spelled, header_whole}
use Rattle.page_chains.proofs.spelling.spell_header.Goals as goal

pub returns-clause-page : goal.returns-clause-page
returns-clause-page c = header_spelled c.in_ok-page.page.items c.loop-start.page.items c.pad.new.page.items c.args.starts.now c.loop-start.start-index c.args.position c.args.used (omega arith) c.in_ok-page.ensures c.loop-start.invariant c.in_ok-pad.ensures

pub returns-clause-whole : goal.returns-clause-whole
returns-clause-whole c = header_whole c.in_ok-page.page.items c.loop-start.page.items c.pad.new.page.items c.args.starts.now c.loop-start.start-index c.args.position c.args.used (omega arith) (omega arith) c.in_ok-page.ensures c.loop-start.invariant c.in_ok-pad.ensures
