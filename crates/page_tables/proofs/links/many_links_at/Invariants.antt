use Rattle.std.proofs.Common.{◌≡◌, ◌-◌, map}
use Rattle.febe_fields.specs.Reading.{many_at}
use Rattle.febe_fields.proofs.ManyLoop.{with_items}
use Rattle.page_tables.specs.Plain.{plain_link}
use Rattle.page_tables.specs.TableReading.{link_at}
use Rattle.page_tables.proofs.links.many_links_at.Given as goal

abbrev pub invariant-loop : goal.invariant-loop
invariant-loop l = with_items (map plain_link l.links.items) (many_at link_at (l.count - l.counter) l.rest) ≡ many_at link_at l.count l.bytes
