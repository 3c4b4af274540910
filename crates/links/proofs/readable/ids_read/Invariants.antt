use Rattle.std.proofs.Common.{◌≡◌, take}
use Rattle.std.specs.List.{flat_map}
use Rattle.world_rules.specs.Readers.{reads_by}
use Rattle.links.specs.inside.Read.{id_if_read}
use Rattle.links.proofs.readable.ids_read.Given as goal

abbrev pub invariant-loop-id : goal.invariant-loop-id
invariant-loop-id g l = l.found.items ≡ take l.limit (flat_map (id_if_read (reads_by (g.R.Readers.publishes l.readers) l.account) l.table) (take l.id-index l.ids))
