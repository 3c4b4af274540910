-- One page more is spelled.
use Rattle.std.proofs.Common.{arith}
use Rattle.page_chains.proofs.SpelledPages.{chain_more}
use Rattle.page_chains.proofs.spelling.spell_chain.Goals as goal

pub loop-number-preserved : goal.loop-number-preserved
loop-number-preserved c = record {
  spelled = chain_more c.loop-number.pages.items c.push_reserved.new.self.items c.loop-number.left.now c.in-Some.behind.now c.in-Some.number.now c.first_page.result c.min.result c.loop-number.rest.now c.split_at.result.0.now c.split_at.result.1.now c.in_ok-page.page _ c.in-Some.ensures.cases.0 c.loop-number.invariant.spelled c.push_reserved.ensures.items c.in_ok-page.ensures c.first_page.ensures c.min.ensures c.split_at.ensures.front c.split_at.ensures.back;
  room = omega (arith, c.in-Some.ensures.cases.1);
}
