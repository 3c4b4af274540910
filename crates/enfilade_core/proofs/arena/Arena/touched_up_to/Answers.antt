use Rattle.std.proofs.Common.{refl}
use Rattle.enfilade_core.proofs.TouchedRows.{well_formed-drop, past-behind}
use Rattle.enfilade_core.proofs.arena.Arena.touched_up_to.Goals as goal

pub chosen-requires : goal.chosen-requires
chosen-requires g c = record {
  well_formed = rw c.split_at.ensures.back (well_formed-drop g.P.Plane.widths c.args.self.now c.args.front c.args.branches.now c.requires.there c.requires.well_formed);
}

pub returns-clause-past : goal.returns-clause-past
returns-clause-past g c =
    past-behind g.P.Plane.widths c.args.self.now c.args.gap.now.to c.args.base.now c.seen_from-to.result c.args.branches.now c.split_at.result.1.now c.args.front c.chosen.result c.origins_in_front.result _ c.requires.well_formed
    c.seen_from-to.ensures c.split_at.ensures.back refl c.chosen.ensures.is.back
