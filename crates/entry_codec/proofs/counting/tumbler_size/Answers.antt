use Rattle.entry_codec.proofs.Lengths.{tumbler_counted}
use Rattle.entry_codec.proofs.counting.tumbler_size.Goals as goal

pub returns-clause-is : goal.returns-clause-is
returns-clause-is c = rw c.places.ensures.value (tumbler_counted c.args.tumbler.now)
