use Rattle.granfilade.specs.Content.{content}
use Rattle.store_tests.proofs.TestPlaces.{next_byte}
use Rattle.store_tests.proofs.contents.put.Goals as goal

pub put-requires-clause-next : goal.put-requires-clause-next
put-requires-clause-next g c = next_byte c.byte-start.result c.args.number (content c.args.contents.now) c.byte-start.ensures c.requires c.ask.ensures
