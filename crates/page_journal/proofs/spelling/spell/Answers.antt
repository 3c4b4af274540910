-- The loop has spelled every page.
use Rattle.std.proofs.Common.{refl, arith}
use Rattle.page_journal.proofs.Spelled.{spelled_all}
use Rattle.page_journal.proofs.spelling.spell.Goals as goal

pub returns : goal.returns
returns c = spelled_all _ c.args.pages.now c.loop-page.page-index _ (omega (arith, c.loop-page-test.false)) refl c.loop-page.invariant
