use Rattle.disk_fields.proofs.Written.{none_written, more_seen_written}
use Rattle.page_tables.specs.Plain.{plain_link}
use Rattle.page_tables.specs.TableBytes.{link_bytes, IsLinkRow}
use Rattle.page_tables.proofs.links.append_each_link.Goals as goal

pub loop-link-init : goal.loop-link-init
loop-link-init c = none_written IsLinkRow link_bytes c.args.out.now.items

pub loop-link-preserved : goal.loop-link-preserved
loop-link-preserved c =
    more_seen_written IsLinkRow link_bytes plain_link _ _ _ c.args.links.now c.loop-link.link-index c.link-item.result c.loop-link-test.true c.link-item.is c.loop-link.invariant c.in_ok-append_link.ensures.spelled c.in_ok-append_link.ensures.right
