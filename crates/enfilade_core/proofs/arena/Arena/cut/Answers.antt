use Rattle.std.proofs.Common.{◌∙◌, sym}
use Rattle.tumbler.proofs.Before.{up_to_if_false, before_if_true}
use Rattle.enfilade_core.specs.Rows.{rows_of}
use Rattle.enfilade_core.proofs.Parts.{rows-well_formed, rows-ordered}
use Rattle.enfilade_core.proofs.EditsAre.{cut_is, cut_well_formed, cut_none}
use Rattle.enfilade_core.proofs.arena.Arena.cut.Goals as goal

pub exchange-requires : goal.exchange-requires
exchange-requires g c =
    let w = g.P.Plane.widths in
    let old = rows_of c.args.self.now c.args.root.0 in
    let well_formed = rows-well_formed w c.args.self.now c.args.root.0 c.allocator.ensures.well_formed c.requires.below in
    let order = rows-ordered w c.args.self.now c.args.root.0 c.allocator.ensures.well_formed c.requires.below in
    let le = up_to_if_false c.args.to.now c.args.from.now (sym c.is_before.ensures.value ∙ c.if-is_before.false) in
    rw (c.copy.ensures, c.copy-2.ensures, c.copy-3.ensures, c.new-none.ensures.items) record {
      below = c.requires.below;
      up_to = le;
      well_formed = cut_well_formed w c.args.from.now c.args.to.now old le well_formed order;
    }

pub returns-clause-rows : goal.returns-clause-rows
returns-clause-rows g c =
    let w = g.P.Plane.widths in
    let old = rows_of c.args.self.now c.args.root.0 in
    let order = rows-ordered w c.args.self.now c.args.root.0 c.allocator.ensures.well_formed c.requires.below in
    let le = up_to_if_false c.args.to.now c.args.from.now (sym c.is_before.ensures.value ∙ c.if-is_before.false) in
    c.in_ok-made.ensures.rows ∙ rw (c.copy.ensures, c.copy-2.ensures, c.copy-3.ensures, c.new-none.ensures.items) (sym (cut_is c.args.from.now c.args.to.now old le order))

pub returns-then-is_before-clause-rows : goal.returns-then-is_before-clause-rows
returns-then-is_before-clause-rows g c =
    let lt = before_if_true c.args.to.now c.args.from.now (sym c.is_before.ensures.value ∙ c.if-is_before.true) in
    sym (cut_none c.args.from.now c.args.to.now (rows_of c.args.self.now c.args.root.0) lt).0

pub returns-then-is_before-clause-out : goal.returns-then-is_before-clause-out
returns-then-is_before-clause-out g c =
    let lt = before_if_true c.args.to.now c.args.from.now (sym c.is_before.ensures.value ∙ c.if-is_before.true) in
    rw c.new-none.ensures.items (sym (cut_none c.args.from.now c.args.to.now (rows_of c.args.self.now c.args.root.0) lt).1)
