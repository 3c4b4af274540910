-- Nothing was read yet; a page more was read; or no chain may have the page that comes next.
use Rattle.std.proofs.Common.{◌∙◌, refl, arith}
use Rattle.green_io.specs.Disk.{Nothing}
use Rattle.green_io.proofs.Crash.{none_called, then_nothing}
use Rattle.page_chains.proofs.ChainReads.{walks_none, walks_more, walks_stuck}
use Rattle.page_chains.proofs.reading.read_chain.Goals as goal

pub loop-left-init : goal.loop-left-init
loop-left-init g c = record {
  reads = refl;
  crash = none_called _ Nothing;
  faults = omega arith;
  walks = walks_none _ _ c.args.start _ _ c.new-chain.ensures.numbers c.new-chain.ensures.bytes;
}

pub loop-left-preserved : goal.loop-left-preserved
loop-left-preserved g c = record {
  reads = c.read_link.ensures.reads ∙ c.loop-left.invariant.reads;
  crash = then_nothing _ _ _ Nothing c.loop-left.invariant.crash c.read_link.ensures.crash;
  faults = omega (arith, c.loop-left.invariant.faults, c.read_link.ensures.never_falls);
  walks = walks_more (g.D.Disk.state c.args.disk.now).reads (g.D.Disk.state c.loop-left.disk).reads c.args.met.now c.args.start c.loop-left.chain c.read_link.new.chain c.loop-left.met c.read_link.new.met c.loop-left.named c.in-Some.next c.loop-left.left c.saturating_sub-left.result c.in_ok-link.link c.loop-left.invariant.reads c.in-Some.is c.loop-left-test.true c.saturating_sub-left.ensures c.in_ok-link.ensures.link c.loop-left.invariant.walks;
}

pub returns-in_default-clause-chain : goal.returns-in_default-clause-chain
returns-in_default-clause-chain g c = walks_stuck (g.D.Disk.state c.args.disk.now).reads (g.D.Disk.state c.loop-left.disk).reads c.args.met.now c.args.start c.loop-left.chain c.read_link.new.chain c.loop-left.met c.read_link.new.met c.loop-left.named c.loop-left.left c.in_ok-link.link c.loop-left.invariant.reads c.in_default.is c.loop-left-test.true c.in_ok-link.ensures.link c.loop-left.invariant.walks
