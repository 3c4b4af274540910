use Rattle.std.proofs.Common.{length}
use Rattle.enfilade_core.specs.Reach.{AreReaches}
use Rattle.node_pages.proofs.Streaming.{ReadSoFar}
use Rattle.node_pages.proofs.streams.read_nodes.Given as goal

abbrev pub invariant-loop-rest : goal.invariant-loop-rest
invariant-loop-rest g l = record {
  stream : ReadSoFar g.P.Plane.widths g.P.PagedPlane.is_row g.P.PagedPlane.row_bytes l.bytes l.arena l.rest;
  reaches : AreReaches g.P.Plane.widths l.arena l.reaches.items;
}

abbrev pub decreases-loop-rest : goal.decreases-loop-rest
decreases-loop-rest g l = length l.rest
