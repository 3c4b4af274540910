use Rattle.tumbler.proofs.Reaches.{EndsWell-lead_front}
use Rattle.tumbler.proofs.tumbler.Tumbler.lead.Goals as goal

pub front-requires-clause-ends : goal.front-requires-clause-ends
front-requires-clause-ends c = EndsWell-lead_front c.args.self.now c.places.result.now c.lead_len.result c.places.ensures.value c.lead_len.ensures.front c.places.ensures.tumbler.ends
