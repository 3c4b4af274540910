use Rattle.std.proofs.Common.{ap, ◌∙◌, sym, append-nil}
use Rattle.std.proofs.lemmas.List.Elements.{All-nil}
use Rattle.enfilade_core.specs.Touched.{MayMoveSeen, MovesSeen}
use Rattle.enfilade_core.proofs.GoneThrough.{item-well_formed}
use Rattle.enfilade_core.proofs.SeenMoved.{seen-next, all-next, seen-end, all-end}
use Rattle.enfilade_core.proofs.arena.Arena.append_seen.Goals as goal

pub moved_seen-requires : goal.moved_seen-requires
moved_seen-requires g c =
    item-well_formed (MayMoveSeen g.P.Plane.widths c.args.self.now c.args.first.now c.args.second.now c.args.to.now c.args.onto.now) c.args.branches.now c.loop-branch.branch-index c.branch-item.result c.loop-branch-test.true c.branch-item.is c.requires

pub loop-branch-preserved : goal.loop-branch-preserved
loop-branch-preserved g c =
    let M = MovesSeen g.P.Plane.widths c.args.self.now c.args.first.now c.args.second.now c.args.to.now c.args.onto.now in
    record {
      are = seen-next c.args.to.now c.args.onto.now c.args.branches.now c.loop-branch.branch-index c.branch-item.result c.in-Some.moved c.args.made.now.items c.loop-branch.made.items c.push.new.self.items c.loop-branch-test.true c.branch-item.is c.loop-branch.invariant.are c.in-Some.ensures.is c.in_ok-push.ensures.ok;
      moves = all-next M c.args.branches.now c.loop-branch.branch-index c.branch-item.result c.loop-branch-test.true c.branch-item.is c.loop-branch.invariant.moves c.in-Some.ensures.moves;
    }

pub returns-clause-are : goal.returns-clause-are
returns-clause-are g c = λ all. seen-end c.args.to.now c.args.onto.now c.args.branches.now c.loop-branch.branch-index c.args.made.now.items c.loop-branch.made.items c.loop-branch-test.false c.loop-branch.invariant.are

pub returns-clause-moves : goal.returns-clause-moves
returns-clause-moves g c = λ all. all-end (MovesSeen g.P.Plane.widths c.args.self.now c.args.first.now c.args.second.now c.args.to.now c.args.onto.now) c.args.branches.now c.loop-branch.branch-index c.loop-branch-test.false c.loop-branch.invariant.moves
