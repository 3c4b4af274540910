use Rattle.febe_feed.proofs.Feeds.{feed_starts}
use Rattle.febe_feed.proofs.feed.Feed.pass.Goals as goal

pub invariant_of-self : goal.invariant_of-self
invariant_of-self c = feed_starts c.pass.new.self.bytes
