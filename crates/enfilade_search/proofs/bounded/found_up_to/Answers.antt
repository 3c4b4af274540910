use Rattle.enfilade_search.specs.Sought.{is_sought}
use Rattle.enfilade_search.proofs.Children.{root_fits}
use Rattle.enfilade_search.proofs.UpToLimit.{tree_if_few, tree_if_many}
use Rattle.enfilade_search.proofs.bounded.found_up_to.Goals as goal

pub gather_up_to-requires : goal.gather_up_to-requires
gather_up_to-requires g c = root_fits g.P.Plane.widths c.args.arena.now c.args.root.0 c.zero-zero.result c.allocator-alloc.ensures.well_formed c.requires c.zero-zero.ensures

pub returns-then-len-limit-clause-more : goal.returns-then-len-limit-clause-more
returns-then-len-limit-clause-more g c =
    tree_if_many g.P.Plane.plain (is_sought g.P.Plane.widths c.args.sought.now) c.args.arena.now c.args.root.0 c.args.limit c.len.result c.zero-zero.result c.new-out.result.items c.gather_up_to.new.out.items c.zero-zero.ensures c.new-out.ensures.items
    c.len.ensures c.if-len-limit.true c.in_ok-gather_up_to.ensures

pub returns-clause-rows : goal.returns-clause-rows
returns-clause-rows g c =
    tree_if_few g.P.Plane.plain (is_sought g.P.Plane.widths c.args.sought.now) c.args.arena.now c.args.root.0 c.args.limit c.len.result c.zero-zero.result c.new-out.result.items c.gather_up_to.new.out.items c.zero-zero.ensures c.new-out.ensures.items
    c.len.ensures c.if-len-limit.false c.in_ok-gather_up_to.ensures
