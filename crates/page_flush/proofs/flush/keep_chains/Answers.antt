-- One chain more is kept.
use Rattle.std.proofs.Common.{◌∙◌, List, take_all, subst, arith}
use Rattle.page_chains.specs.declared.chain.Chain.{Chain}
use Rattle.page_chains.specs.Reading.{plain_chains}
use Rattle.page_flush.specs.FlushView.{plain_streams, AreKept}
use Rattle.page_flush.proofs.SpellSteps.{kept_more, kept_none}
use Rattle.page_flush.proofs.flush.keep_chains.Goals as goal

pub loop-chain-init : goal.loop-chain-init
loop-chain-init c = record {
  kept = kept_none c.reserve.new.self.items (c.in_ok-reserve.ensures.items ∙ c.new-streams.ensures.items);
  room = omega (arith, c.in_ok-reserve.ensures.ok);
}

pub loop-chain-preserved : goal.loop-chain-preserved
loop-chain-preserved c = record {
  kept = kept_more c.args.chains.now c.loop-chain.chain-index c.chain-item.result c.loop-chain.streams.items c.push_reserved.new.self.items c.in_ok-of_chain.field-0 (omega arith) c.chain-item.is c.push_reserved.ensures.items c.loop-chain.invariant.kept c.in_ok-of_chain.ensures;
  room = omega (arith, c.loop-chain.invariant.room, c.push_reserved.ensures.spare);
}

pub returns : goal.returns
returns c = subst (λ (l : List Chain). AreKept (plain_streams c.loop-chain.streams.items) (plain_chains l)) (take_all c.loop-chain.chain-index c.args.chains.now (omega arith)) c.loop-chain.invariant.kept
