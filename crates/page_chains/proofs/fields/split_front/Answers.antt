-- The fields stand one behind another.
use Rattle.std.proofs.Common.{refl, arith}
use Rattle.page_chains.proofs.FrontFields.{front_short, front_marked, third}
use Rattle.page_chains.proofs.fields.split_front.Goals as goal

pub returns-in_err-used-clause-none : goal.returns-in_err-used-clause-none
returns-in_err-used-clause-none c none marked = front_short c.args.page.now c.in_ok-rest.rest.now c.in_ok-position.rest.now c.in_ok-rest.ensures.behind c.in_ok-position.ensures.behind (c.in_err-used.ensures.short refl)

pub returns-clause-marked : goal.returns-clause-marked
returns-clause-marked c = front_marked c.args.page.now c.in_ok-rest.rest.now c.in_ok-position.rest.now c.in_ok-used.used c.in_ok-rest.ensures.mark c.in_ok-rest.ensures.behind c.in_ok-position.ensures.behind c.in_ok-used.ensures.number (omega arith)

pub returns-clause-starts : goal.returns-clause-starts
returns-clause-starts c = third c.args.page.now c.in_ok-rest.rest.now c.in_ok-position.rest.now c.in_ok-used.starts.now c.in_ok-rest.ensures.behind c.in_ok-position.ensures.behind c.in_ok-used.ensures.behind
