-- Nothing was read yet; a chain more was read; or none may come next.
use Rattle.std.proofs.Common.{◌∙◌, refl, arith}
use Rattle.green_io.specs.Disk.{Nothing}
use Rattle.green_io.proofs.Crash.{none_called, then_nothing}
use Rattle.page_chains.proofs.HeaderReads.{gathers_none, gathers_more, gathers_stuck}
use Rattle.page_chains.proofs.reading.read_chains.Goals as goal

pub loop-init : goal.loop-init
loop-init g c = record {
  reads = refl;
  crash = none_called _ Nothing;
  faults = omega arith;
  gathers = gathers_none _ _ _ _ (c.in_ok-reserve.ensures.items ∙ c.new-chains.ensures.items) c.new-met.ensures;
  room = omega (arith, c.in_ok-reserve.ensures.ok, c.new-chains.ensures.spare);
}

pub loop-preserved : goal.loop-preserved
loop-preserved g c = record {
  reads = c.read_chain.ensures.reads ∙ c.loop.invariant.reads;
  crash = then_nothing _ _ _ Nothing c.loop.invariant.crash c.read_chain.ensures.crash;
  faults = omega (arith, c.loop.invariant.faults, c.read_chain.ensures.never_falls);
  gathers = gathers_more (g.D.Disk.state c.args.disk.now).reads (g.D.Disk.state c.loop.disk).reads c.args.starts.now c.loop.chains.items c.push_reserved.new.self.items c.loop.met c.read_chain.new.met c.loop.rest.now c.in-Some.behind.now c.loop.counter c.in-Some.start c.in-Some-found.chain c.in_ok-found.found c.loop.invariant.reads c.in-Some-found.is c.in-Some.ensures.first c.in-Some.ensures.count c.in-Some.ensures.behind c.push_reserved.ensures.items c.in_ok-found.ensures.chain c.loop.invariant.gathers;
  room = omega (arith, c.loop.invariant.room, c.loop-test.true, c.push_reserved.ensures.spare);
}

pub returns-in_default-found-clause-chains : goal.returns-in_default-found-clause-chains
returns-in_default-found-clause-chains g c = gathers_stuck (g.D.Disk.state c.args.disk.now).reads (g.D.Disk.state c.loop.disk).reads c.args.starts.now c.loop.chains.items c.loop.met c.read_chain.new.met c.loop.rest.now c.loop.counter c.in-Some.start c.in_ok-found.found c.loop.invariant.reads c.in_default-found.is c.loop-test.true c.in-Some.ensures.first c.in-Some.ensures.count c.in_ok-found.ensures.chain c.loop.invariant.gathers
