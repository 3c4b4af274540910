use Rattle.std.proofs.Common.{map}
use Rattle.enfilade_core.specs.Plain.{plain_row}
use Rattle.enfilade_search.specs.Sought.{is_sought}
use Rattle.enfilade_search.proofs.Children.{root_fits, found_from_root}
use Rattle.enfilade_search.proofs.gather.found.Goals as goal

pub gather-requires : goal.gather-requires
gather-requires g c = root_fits g.P.Plane.widths c.args.arena.now c.args.root.0 c.zero-zero.result c.allocator-alloc.ensures.well_formed c.requires c.zero-zero.ensures

pub returns : goal.returns
returns g c =
    found_from_root g.P.Plane.plain (is_sought g.P.Plane.widths c.args.sought.now) c.args.arena.now c.args.root.0 c.zero-zero.result c.new-out.result.items (map (plain_row g.P.Plane.plain) c.gather.new.out.items)
    c.zero-zero.ensures c.new-out.ensures.items c.in_ok-gather.ensures
