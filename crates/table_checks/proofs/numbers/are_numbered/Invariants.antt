use Rattle.std.proofs.Common.{◌<◌, ◌^◌, map, take}
use Rattle.page_tables.specs.Plain.{plain_link}
use Rattle.table_checks.proofs.Numbered.{AreSeen}
use Rattle.table_checks.proofs.numbers.are_numbered.Given as goal

abbrev pub invariant-loop-link : goal.invariant-loop-link
invariant-loop-link l = record { seen : AreSeen (map plain_link (take l.link-index l.links)) l.home l.number; small : l.number < 2 ^ 32 }
