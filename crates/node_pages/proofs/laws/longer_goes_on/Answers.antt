use Rattle.node_pages.proofs.Streaming.{longer_goes_on}
use Rattle.node_pages.proofs.laws.longer_goes_on.Goals as goal

pub returns : goal.returns
returns g c = longer_goes_on g.P.Plane.widths g.P.PagedPlane.is_row g.P.PagedPlane.row_bytes
