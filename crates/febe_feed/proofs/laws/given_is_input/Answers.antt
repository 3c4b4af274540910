use Rattle.febe_feed.proofs.Inputted.{given_is_input}
use Rattle.febe_feed.proofs.laws.given_is_input.Goals as goal

pub returns : goal.returns
returns c = given_is_input
