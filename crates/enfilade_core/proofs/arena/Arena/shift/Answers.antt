use Rattle.std.proofs.Common.{◌∙◌, sym, subst}
use Rattle.tumbler.proofs.Order.{upto_itself}
use Rattle.enfilade_core.specs.Rows.{rows_of}
use Rattle.enfilade_core.specs.Axes.{IsWellFormedRows}
use Rattle.enfilade_core.proofs.Parts.{rows-ordered}
use Rattle.enfilade_core.proofs.EditsAre.{shift_is}
use Rattle.enfilade_core.proofs.arena.Arena.shift.Goals as goal

pub exchange-requires : goal.exchange-requires
exchange-requires g c =
    let w = g.P.Plane.widths in
    let old = rows_of c.args.self.now c.args.root.0 in
    let order = rows-ordered w c.args.self.now c.args.root.0 c.allocator.ensures.well_formed c.requires.below in
    rw (c.copy.ensures, c.copy-2.ensures, c.copy-3.ensures, c.new-none.ensures.items) record {
      below = c.requires.below;
      up_to = upto_itself c.args.from.now;
      well_formed = subst (IsWellFormedRows w) (shift_is c.args.from.now c.args.to.now old order) c.requires.well_formed;
    }

pub returns-clause-rows : goal.returns-clause-rows
returns-clause-rows g c =
    let w = g.P.Plane.widths in
    let old = rows_of c.args.self.now c.args.root.0 in
    let order = rows-ordered w c.args.self.now c.args.root.0 c.allocator.ensures.well_formed c.requires.below in
    c.in_ok-made.ensures.rows ∙ rw (c.copy.ensures, c.copy-2.ensures, c.copy-3.ensures, c.new-none.ensures.items) (sym (shift_is c.args.from.now c.args.to.now old order))
