use Rattle.std.proofs.Common.{refl, subst, IfSome}
use Rattle.enfilade_core.specs.Touched.{branches_at, IsRest}
use Rattle.enfilade_core.proofs.RestBehind.{behind-parts, behind-ends, behind-past, behind-rows, behind-found, behind-none}
use Rattle.enfilade_core.proofs.arena.Arena.behind.Goals as goal

pub rest_seen-requires-clause-parts : goal.rest_seen-requires-clause-parts
rest_seen-requires-clause-parts g c =
    behind-parts g.P.Plane.widths c.args.self.now c.args.gap.now c.args.first.now c.args.second.now c.args.branches.now c.args.front c.touched_up_to-behind.result c.split_at.result.1.now record {
      well_formed = c.requires.well_formed;
      opened = c.requires.opened;
      rows = c.requires.rows;
      some = c.touched_up_to-behind.ensures.some;
      short = c.touched_up_to-behind.ensures.short;
      stand = c.touched_up_to-behind.ensures.past;
      past_is = c.split_at.ensures.back;
    }

pub rest_seen-requires-clause-ends : goal.rest_seen-requires-clause-ends
rest_seen-requires-clause-ends g c =
    behind-ends g.P.Plane.widths c.args.self.now c.args.gap.now c.args.first.now c.args.second.now c.args.branches.now c.args.front c.touched_up_to-behind.result c.split_at.result.1.now record {
      well_formed = c.requires.well_formed;
      opened = c.requires.opened;
      rows = c.requires.rows;
      some = c.touched_up_to-behind.ensures.some;
      short = c.touched_up_to-behind.ensures.short;
      stand = c.touched_up_to-behind.ensures.past;
      past_is = c.split_at.ensures.back;
    }

pub rest_seen-requires-clause-past : goal.rest_seen-requires-clause-past
rest_seen-requires-clause-past g c =
    behind-past g.P.Plane.widths c.args.self.now c.args.gap.now c.args.first.now c.args.second.now c.args.branches.now c.args.front c.touched_up_to-behind.result c.split_at.result.1.now record {
      well_formed = c.requires.well_formed;
      opened = c.requires.opened;
      rows = c.requires.rows;
      some = c.touched_up_to-behind.ensures.some;
      short = c.touched_up_to-behind.ensures.short;
      stand = c.touched_up_to-behind.ensures.past;
      past_is = c.split_at.ensures.back;
    }

pub rest_seen-requires-clause-rows : goal.rest_seen-requires-clause-rows
rest_seen-requires-clause-rows g c =
    behind-rows g.P.Plane.widths c.args.self.now c.args.gap.now c.args.first.now c.args.second.now c.args.branches.now c.args.front c.touched_up_to-behind.result c.split_at.result.1.now record {
      well_formed = c.requires.well_formed;
      opened = c.requires.opened;
      rows = c.requires.rows;
      some = c.touched_up_to-behind.ensures.some;
      short = c.touched_up_to-behind.ensures.short;
      stand = c.touched_up_to-behind.ensures.past;
      past_is = c.split_at.ensures.back;
    }

pub returns-in-Some : goal.returns-in-Some
returns-in-Some g c =
    behind-found g.P.Plane.widths c.args.self.now c.args.gap.now c.args.first.now c.args.second.now c.args.branches.now c.args.front c.touched_up_to-behind.result c.split_at.result.1.now c.in-Some.rest.items record {
      well_formed = c.requires.well_formed;
      opened = c.requires.opened;
      rows = c.requires.rows;
      some = c.touched_up_to-behind.ensures.some;
      short = c.touched_up_to-behind.ensures.short;
      stand = c.touched_up_to-behind.ensures.past;
      past_is = c.split_at.ensures.back;
    } (subst (λ found. IfSome found (λ rest. IsRest g.P.Plane.widths c.args.self.now c.args.gap.now c.args.first.now c.args.second.now (branches_at c.args.first.now c.args.second.now c.split_at.result.1.now) rest.items)) c.in-Some.is c.in_ok-found.ensures)

pub returns-in-None : goal.returns-in-None
returns-in-None g c =
    behind-none g.P.Plane.widths c.args.self.now c.args.gap.now c.args.first.now c.args.second.now c.args.branches.now c.args.front _ c.new.result.items c.requires.there refl c.new.ensures.items
