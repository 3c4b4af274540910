use Rattle.std.proofs.Common.{◌≡◌, ◌++◌, take, map}
use Rattle.std.specs.List.{All, flat_map}
use Rattle.links.specs.LinkLists.{plain_link, rows_at}
use Rattle.index_checks.specs.inside.Addressed.{HaveAddresses}
use Rattle.index_checks.proofs.runs.append_links.Given as goal

abbrev pub invariant-loop-link : goal.invariant-loop-link
invariant-loop-link l = record {
  addressed : All (HaveAddresses l.end) (map plain_link (take l.link-index l.links));
  rows : l.into.items ≡ l.fn.into.items ++ flat_map (rows_at l.end) (map plain_link (take l.link-index l.links));
}
