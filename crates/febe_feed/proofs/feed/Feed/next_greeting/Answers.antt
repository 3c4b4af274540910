use Rattle.std.proofs.Common.{◌≤◌, true, length, subst, ap, ◌∙◌}
use Rattle.febe_fields.specs.declared.scanned.Scanned.TheVariants.{Incomplete, Complete, Bad}
use Rattle.febe_fields.specs.Prefixes.{IsScanned, HasSpelledPrefix}
use Rattle.febe_feed.specs.FeedView.{FeedView, IsGreeting}
use Rattle.febe_feed.proofs.Feeds.{greeting_scanned, waits_greeting, is_wrong_greeting, greets}
use Rattle.febe_feed.proofs.feed.Feed.next_greeting.Goals as goal

pub pass-requires : goal.pass-requires
pass-requires c =
    let h : HasSpelledPrefix IsGreeting c.self.inside.held.bytes c.in-Complete.used = greeting_scanned c.self.inside.held.bytes (Complete c.in-Complete.used) (rw c.as_slice.ensures at c.in-Complete.ensures) in
    subst (λ (v : FeedView). c.in-Complete.used ≤ length v.held) c.self.view_is h.within

pub returns-in-Incomplete : goal.returns-in-Incomplete
returns-in-Incomplete c =
    let h : IsScanned IsGreeting c.self.inside.held.bytes Incomplete = greeting_scanned c.self.inside.held.bytes Incomplete (rw c.as_slice.ensures at c.in-Incomplete.ensures) in
    waits_greeting c.args.self.now c.requires (subst (λ (v : FeedView). IsScanned IsGreeting v.held Incomplete) c.self.view_is h)

pub returns-in-Bad : goal.returns-in-Bad
returns-in-Bad c =
    let h : IsScanned IsGreeting c.self.inside.held.bytes (Bad c.in-Bad.at) = greeting_scanned c.self.inside.held.bytes (Bad c.in-Bad.at) (rw c.as_slice.ensures at c.in-Bad.ensures) in
    is_wrong_greeting c.args.self.now c.in-Bad.at c.place.result c.requires (subst (λ (v : FeedView). IsScanned IsGreeting v.held (Bad c.in-Bad.at)) c.self.view_is h) c.place.ensures

pub returns-in-Complete : goal.returns-in-Complete
returns-in-Complete c =
    let h : HasSpelledPrefix IsGreeting c.self.inside.held.bytes c.in-Complete.used = greeting_scanned c.self.inside.held.bytes (Complete c.in-Complete.used) (rw c.as_slice.ensures at c.in-Complete.ensures) in
    greets c.args.self.now c.in-Complete.used _ c.requires (subst (λ (v : FeedView). HasSpelledPrefix IsGreeting v.held c.in-Complete.used) c.self.view_is h) (ap (λ (v : FeedView). record { greeted = true; held = v.held; offset = v.offset }) (c.self-in-Complete.view_is ∙ c.pass.ensures))
