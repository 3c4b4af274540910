use Rattle.entry_codec.proofs.Lengths.{moments_are_as_long}
use Rattle.entry_codec.proofs.laws.moments_are_as_long.Goals as goal

pub returns : goal.returns
returns c = moments_are_as_long
