use Rattle.std.proofs.Common.{map}
use Rattle.std.proofs.lemmas.List.{map-append}
use Rattle.febe_fields.proofs.ManyLoop.{one_more, none_more, all_read}
use Rattle.page_tables.specs.Plain.{plain_link}
use Rattle.page_tables.specs.TableReading.{link_at}
use Rattle.page_tables.proofs.links.many_links_at.Goals as goal

pub returns-in_default : goal.returns-in_default
returns-in_default c = none_more link_at (map plain_link c.loop.links.items) c.args.count c.loop.counter c.loop.rest.now _ c.loop-test.true (rw c.in_default.is at c.in_ok-link.ensures) c.loop.invariant

pub loop-preserved : goal.loop-preserved
loop-preserved c =
    rw (c.push_reserved.ensures.items, c.in_ok-reserve.ensures.items, map-append)
    (one_more link_at (map plain_link c.loop.links.items) c.args.count c.loop.counter c.loop.rest.now (plain_link c.in-Some.link) c.in-Some.behind.now _ c.loop-test.true (rw c.in-Some.is at c.in_ok-link.ensures) c.loop.invariant)

pub returns : goal.returns
returns c = all_read link_at (map plain_link c.loop.links.items) c.args.count c.loop.counter c.loop.rest.now _ c.loop-test.false c.loop.invariant
