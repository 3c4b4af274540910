use Rattle.std.proofs.Common.{take}
use Rattle.std.specs.List.{list_any}
use Rattle.flat_rows.specs.declared.links.LinkRow.{LinkRow}
use Rattle.flat_rows.specs.PlainLink.{plain_link}
use Rattle.flat_rows.specs.EndIndex.{is_in_end_by, Indexes}
use Rattle.flat_rows.proofs.end_index.end_index.Given as goal

abbrev pub invariant-loop-link : goal.invariant-loop-link
invariant-loop-link l = Indexes (λ address. list_any (λ (link : LinkRow). is_in_end_by l.published l.account l.end (plain_link link) address) (take l.link-index l.links)) l.index
