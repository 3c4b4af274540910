use Rattle.node_pages.proofs.Streaming.{one_arena}
use Rattle.node_pages.proofs.laws.one_arena.Goals as goal

pub returns : goal.returns
returns g c = one_arena g.P.Plane.widths g.met.P.PagedPlane.rows_read_as_written
