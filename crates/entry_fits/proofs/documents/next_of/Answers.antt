use Rattle.entry_fits.proofs.Next.{no_next}
use Rattle.entry_fits.proofs.documents.next_of.Goals as goal

pub returns-then-ne : goal.returns-then-ne
returns-then-ne g c view stands =
    no_next view.world c.args.document.now c.account_of-account.result c.in_ok-next_document.field-0 c.ne.result c.account_of-account.ensures (c.in_ok-next_document.ensures.value view stands) c.ne.ensures c.if-ne.true
