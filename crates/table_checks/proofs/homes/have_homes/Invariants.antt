use Rattle.std.proofs.Common.{All, IsTrue, take}
use Rattle.page_tables.specs.declared.tables.TableLink.{TableLink}
use Rattle.table_checks.specs.TableRows.{is_listed}
use Rattle.table_checks.proofs.homes.have_homes.Given as goal

abbrev pub invariant-loop-link : goal.invariant-loop-link
invariant-loop-link l = All (λ (link : TableLink). IsTrue (is_listed l.rows link.home)) (take l.link-index l.links)
