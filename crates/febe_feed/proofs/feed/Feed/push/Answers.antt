use Rattle.febe_feed.proofs.Feeds.{feed_pushed_by}
use Rattle.febe_feed.proofs.feed.Feed.push.Goals as goal

pub invariant_of-self : goal.invariant_of-self
invariant_of-self c = feed_pushed_by c.self.inside.held c.push.new.self c.args.piece.now c.self.inside.scanned c.self.inside.scanner c.self.inside.bad c.push.result c.push.ensures.ok c.push.ensures.err c.self.invariant
