use Rattle.std.proofs.Common.{◌≡◌, map, take}
use Rattle.world_rules.specs.Readers.{reads_by}
use Rattle.links.specs.inside.Pairs.{pair_of, pairs_of}
use Rattle.links.specs.inside.Read.{rows_read}
use Rattle.links.proofs.spans.pairs_read.Given as goal

abbrev pub invariant-loop-row : goal.invariant-loop-row
invariant-loop-row g l = l.pairs.keys ≡ pairs_of (map pair_of (rows_read (reads_by (g.R.Readers.publishes l.readers) l.account) l.table (take l.row-index l.rows)))
