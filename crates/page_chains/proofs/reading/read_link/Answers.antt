-- A page that was met is taken into the chain.
use Rattle.page_chains.proofs.ChainReads.{link_read}
use Rattle.page_chains.proofs.reading.read_link.Goals as goal

pub returns-clause-link : goal.returns-clause-link
returns-clause-link g c = link_read (g.D.Disk.state c.args.disk.now).reads c.in_ok-read_next.field-0 c.in_ok-next.next c.args.met.now c.read_next.new.met c.args.chain.now c.take_page.new.chain c.args.number c.args.left c.read_next.new.page.items c.as_slice.result.now c.if-not-branch.false c.as_slice.ensures c.in_ok-read_next.ensures.next c.in_ok-next.ensures
