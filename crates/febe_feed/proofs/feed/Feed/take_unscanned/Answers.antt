use Rattle.std.proofs.Common.{◌≤◌, length, subst}
use Rattle.febe_data.specs.Plain.{plain_request}
use Rattle.febe_wire.specs.Reads.{IsRead}
use Rattle.febe_feed.specs.FeedView.{FeedView}
use Rattle.febe_feed.proofs.Feeds.{gives}
use Rattle.febe_feed.proofs.feed.Feed.take_unscanned.Goals as goal

pub pass-requires : goal.pass-requires
pass-requires c =
    let read : IsRead c.self.inside.held.bytes (plain_request c.in-Some.request) c.in-Some.used = rw c.as_slice.ensures at (rw c.in-Some.is at c.in-Ok.ensures.read) in
    subst (λ (v : FeedView). c.in-Some.used ≤ length v.held) c.self.view_is read.within

pub returns-clause-some : goal.returns-clause-some
returns-clause-some c =
    let read : IsRead c.self.inside.held.bytes (plain_request c.in-Some.request) c.in-Some.used = rw c.as_slice.ensures at (rw c.in-Some.is at c.in-Ok.ensures.read) in
    gives c.args.self.now c.in-Some.used 0 (plain_request c.in-Some.request) _ c.requires (subst (λ (v : FeedView). IsRead v.held (plain_request c.in-Some.request) c.in-Some.used) c.self.view_is read) c.pass.ensures
