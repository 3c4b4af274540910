use Rattle.std.proofs.Common.{◌≡◌, List, ℕ, ◌+◌, ◌++◌, length, drop, subst, sym, ap, ◌∙◌, refl, arith}
use Rattle.febe_fields.specs.declared.scanned.Scanned.TheVariants.{Incomplete, Complete, Bad}
use Rattle.febe_fields.specs.Prefixes.{IsScanned, HasSpelledPrefix}
use Rattle.febe_fields.specs.Scanning.{behind, scan}
use Rattle.febe_wire.specs.Grammar.{IsSpelled}
use Rattle.febe_wire.specs.RequestMachine.{state_of, request_step}
use Rattle.febe_feed.specs.FeedView.{FeedView, later, Waits, IsWrong}
use Rattle.febe_feed.proofs.Feeds.{feed_goes_on, feed_waits, feed_completes, feed_bad, bad_bound, used_bound, known_bad, waits, is_wrong}
use Rattle.febe_feed.proofs.feed.Feed.scan_on.Goals as goal

pub overflow_add-at : goal.overflow_add-at
overflow_add-at c =
    let said : Bad c.in-Bad.at ≡ scan request_step (state_of c.self.inside.scanner) (drop c.self.inside.scanned c.self.inside.held.bytes) = rw (c.split_at.ensures.back, c.as_slice.ensures) at c.in-Bad.ensures.said in
    let bound = bad_bound c.self.inside.held.bytes c.self.inside.scanned c.self.inside.scanner c.self.inside.bad c.self.invariant c.in-Bad.at said in
    omega (arith, bound, c.held-total.ensures, ap (λ (v : FeedView). length v.held) c.self.view_is, c.held-total.type_inv)

pub overflow_add-used : goal.overflow_add-used
overflow_add-used c =
    let said : Complete c.in-Complete.used ≡ scan request_step (state_of c.self.inside.scanner) (drop c.self.inside.scanned c.self.inside.held.bytes) = rw (c.split_at.ensures.back, c.as_slice.ensures) at c.in-Complete.ensures.said in
    let bound = used_bound c.self.inside.held.bytes c.self.inside.scanned c.self.inside.scanner c.self.inside.bad c.self.invariant c.in-Complete.used said in
    omega (arith, bound, c.held-total.ensures, ap (λ (v : FeedView). length v.held) c.self.view_is, c.held-total.type_inv)

pub take_request-requires-clause-scanned : goal.take_request-requires-clause-scanned
take_request-requires-clause-scanned c =
    let said : Complete c.in-Complete.used ≡ scan request_step (state_of c.self.inside.scanner) (drop c.self.inside.scanned c.self.inside.held.bytes) = rw (c.split_at.ensures.back, c.as_slice.ensures) at c.in-Complete.ensures.said in
    let h = feed_completes c.self.inside.held.bytes c.self.inside.scanned c.self.inside.scanner c.self.inside.bad c.self.invariant c.in-Complete.used said in
    subst (λ (v : FeedView). HasSpelledPrefix IsSpelled v.held (c.self.inside.scanned + c.in-Complete.used)) c.self.view_is h

pub returns-in-Incomplete-clause-next : goal.returns-in-Incomplete-clause-next
returns-in-Incomplete-clause-next c =
    let said : Incomplete ≡ scan request_step (state_of c.self.inside.scanner) (drop c.self.inside.scanned c.self.inside.held.bytes) = rw (c.split_at.ensures.back, c.as_slice.ensures) at c.in-Incomplete.ensures.said in
    let h = feed_waits c.self.inside.held.bytes c.self.inside.scanned c.self.inside.scanner c.self.inside.bad c.self.invariant said in
    let all : Waits c.args.self.now c.args.self.now = waits c.args.self.now c.requires (subst (λ (v : FeedView). IsScanned IsSpelled v.held Incomplete) c.self.view_is h) in
    subst (λ (v : FeedView). Waits c.args.self.now v) (sym c.self.view_is) all

pub returns-in-Bad-clause-next : goal.returns-in-Bad-clause-next
returns-in-Bad-clause-next c =
    let said : Bad c.in-Bad.at ≡ scan request_step (state_of c.self.inside.scanner) (drop c.self.inside.scanned c.self.inside.held.bytes) = rw (c.split_at.ensures.back, c.as_slice.ensures) at c.in-Bad.ensures.said in
    let h : IsScanned IsSpelled c.self.inside.held.bytes (Bad (c.self.inside.scanned + c.in-Bad.at)) = known_bad c.self.inside.held.bytes c.self.inside.scanned c.self.inside.scanner _ (feed_bad c.self.inside.held.bytes c.self.inside.scanned c.self.inside.scanner c.self.inside.bad c.self.invariant c.in-Bad.at said) (c.self.inside.scanned + c.in-Bad.at) refl in
    let all : IsWrong c.args.self.now c.args.self.now c.place.result = is_wrong c.args.self.now (c.self.inside.scanned + c.in-Bad.at) c.place.result c.requires (subst (λ (v : FeedView). IsScanned IsSpelled v.held (Bad (c.self.inside.scanned + c.in-Bad.at))) c.self.view_is h) (c.place.ensures ∙ ap (λ (v : FeedView). later v.offset (c.self.inside.scanned + c.in-Bad.at)) c.self.view_is) in
    subst (λ (v : FeedView). IsWrong c.args.self.now v c.place.result) (sym c.self.view_is) all

pub invariant_of-self : goal.invariant_of-self
invariant_of-self c =
    let said : Incomplete ≡ scan request_step (state_of c.self.inside.scanner) (drop c.self.inside.scanned c.self.inside.held.bytes) = rw (c.split_at.ensures.back, c.as_slice.ensures) at c.in-Incomplete.ensures.said in
    let on : (more : List ℕ) → scan request_step (state_of c.self.inside.scanner) (drop c.self.inside.scanned c.self.inside.held.bytes ++ more) ≡ behind (length (drop c.self.inside.scanned c.self.inside.held.bytes)) (scan request_step (state_of c.scan.new.self) more) =
    λ more. rw (c.split_at.ensures.back, c.as_slice.ensures) at (c.in-Incomplete.ensures.goes_on more) in
    let total : c.held-total.result ≡ length c.self.inside.held.bytes = c.held-total.ensures ∙ sym (ap (λ (v : FeedView). length v.held) c.self.view_is) in
    rw total (feed_goes_on c.self.inside.held.bytes c.self.inside.scanned c.self.inside.scanner c.self.inside.bad c.self.invariant c.scan.new.self said on)
