use Rattle.std.proofs.Common.{map, take}
use Rattle.disk_fields.proofs.Written.{AreWritten}
use Rattle.page_tables.specs.Plain.{plain_link}
use Rattle.page_tables.specs.TableBytes.{link_bytes, IsLinkRow}
use Rattle.page_tables.proofs.links.append_each_link.Given as goal

abbrev pub invariant-loop-link : goal.invariant-loop-link
invariant-loop-link l = AreWritten IsLinkRow link_bytes l.initial.out.items l.out.items (map plain_link (take l.link-index l.links))
