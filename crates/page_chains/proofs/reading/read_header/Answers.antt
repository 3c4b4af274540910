-- What was read is the header, or a chain is not there.
use Rattle.page_chains.proofs.HeaderReads.{no_chains, header_read}
use Rattle.page_chains.proofs.reading.read_header.Goals as goal

pub returns-in_default-found-clause-header : goal.returns-in_default-found-clause-header
returns-in_default-found-clause-header g c = no_chains (g.D.Disk.state c.args.disk.now).reads (g.D.Disk.state c.read.new.disk).reads c.in_ok-read.field-0 c.read.new.page.items c.as_slice.result.now c.in-Some.front.starts.now c.in_ok-found.found c.read.ensures.reads c.if-not-branch.false c.as_slice.ensures c.in_default-found.is c.in_ok-read.ensures.page c.in-Some.ensures.starts c.in_ok-found.ensures.chains

pub returns-clause-header : goal.returns-clause-header
returns-clause-header g c = header_read (g.D.Disk.state c.args.disk.now).reads (g.D.Disk.state c.read.new.disk).reads c.in_ok-read.field-0 c.read.new.page.items c.as_slice.result.now c.in-Some.front.starts.now c.in-Some-found.chains c.in-Some.front.position c.in_ok-found.found c.read.ensures.reads c.if-not-branch.false c.as_slice.ensures c.in-Some-found.is c.in_ok-read.ensures.page c.in_ok-read.ensures.whole c.in-Some.ensures.marked c.in-Some.ensures.position c.in-Some.ensures.starts c.in_ok-found.ensures.chains
