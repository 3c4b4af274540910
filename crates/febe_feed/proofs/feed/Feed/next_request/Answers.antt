use Rattle.std.proofs.Common.{subst}
use Rattle.febe_fields.specs.declared.scanned.Scanned.TheVariants.{Bad}
use Rattle.febe_fields.specs.Prefixes.{IsScanned}
use Rattle.febe_wire.specs.Grammar.{IsSpelled}
use Rattle.febe_feed.specs.FeedView.{FeedView}
use Rattle.febe_feed.proofs.Feeds.{known_bad, is_wrong}
use Rattle.febe_feed.proofs.feed.Feed.next_request.Goals as goal

pub returns-in-Some-clause-next : goal.returns-in-Some-clause-next
returns-in-Some-clause-next c =
    let h = known_bad c.self.inside.held.bytes c.self.inside.scanned c.self.inside.scanner c.self.inside.bad c.self.invariant c.in-Some.at c.in-Some.is in
    is_wrong c.args.self.now c.in-Some.at c.place.result c.requires (subst (λ (v : FeedView). IsScanned IsSpelled v.held (Bad c.in-Some.at)) c.self.view_is h) c.place.ensures
