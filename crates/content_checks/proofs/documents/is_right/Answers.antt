-- A root that was seen is right.
use Rattle.std.proofs.Common.{refl}
use Rattle.page_tables.specs.Plain.{plain_tables}
use Rattle.content_checks.proofs.SeenRoots.{seen_before, seen_now}
use Rattle.content_checks.proofs.documents.is_right.Goals as goal

pub returns-then-not-fresh-clause-is : goal.returns-then-not-fresh-clause-is
returns-then-not-fresh-clause-is c =
    (λ yes. seen_before c.args.poom.now (plain_tables c.args.tables.now) c.args.root c.args.seen.now c.insert.new.self c.in_ok-fresh.fresh c.in_ok-fresh.ensures.added c.if-not-fresh.true c.requires.seen, λ is. refl)

pub returns-then-not-fresh-clause-seen : goal.returns-then-not-fresh-clause-seen
returns-then-not-fresh-clause-seen c =
    λ yes. seen_now c.args.poom.now (plain_tables c.args.tables.now) c.args.root c.args.seen.now c.insert.new.self c.in_ok-fresh.ensures.updates.0 c.requires.seen
    (seen_before c.args.poom.now (plain_tables c.args.tables.now) c.args.root c.args.seen.now c.insert.new.self c.in_ok-fresh.fresh c.in_ok-fresh.ensures.added c.if-not-fresh.true c.requires.seen)

pub returns-clause-seen : goal.returns-clause-seen
returns-clause-seen c =
    λ yes. seen_now c.args.poom.now (plain_tables c.args.tables.now) c.args.root c.args.seen.now c.insert.new.self c.in_ok-fresh.ensures.updates.0 c.requires.seen (c.in_ok-shown.ensures.0 yes)
