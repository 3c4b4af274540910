use Rattle.std.proofs.Common.{All, take}
use Rattle.page_tables.specs.declared.tables.TableLink.{TableLink}
use Rattle.page_tables.specs.Plain.{plain_link}
use Rattle.table_checks.specs.Sound.{HasLinkRuns}
use Rattle.table_checks.proofs.runs.have_runs.Given as goal

abbrev pub invariant-loop-link : goal.invariant-loop-link
invariant-loop-link l = All (λ (link : TableLink). HasLinkRuns (plain_link link)) (take l.link-index l.links)
