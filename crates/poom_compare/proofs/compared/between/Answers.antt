use Rattle.std.proofs.Common.{sym, subst}
use Rattle.poom_compare.specs.Shared.{pairs_between}
use Rattle.poom_compare.specs.Segments.{AreSegmentsOf}
use Rattle.poom_compare.specs.Placed.{AreStretches, AreStretchesOf, rows_laid, text_of}
use Rattle.poom_compare.proofs.Numbers.{still_are}
use Rattle.poom_compare.proofs.Bridge.{are_pairs, are_stretches}
use Rattle.poom_compare.proofs.compared.between.Goals as goal

pub segments-requires : goal.segments-requires
segments-requires c =
    subst AreStretches (sym c.as_slice.ensures.value) (are_stretches c.numbered.new.numbers c.args.lefts.now c.requires.left c.requires.left_ascends c.in_ok-lefts.lefts.items c.in_ok-lefts.ensures.stretches)

pub segments-requires-2 : goal.segments-requires-2
segments-requires-2 c =
    subst AreStretches (sym c.as_slice-2.ensures.value) (are_stretches c.numbered-2.new.numbers c.args.rights.now c.requires.right c.requires.right_ascends c.in_ok-rights.rights.items c.in_ok-rights.ensures.stretches)

pub returns : goal.returns
returns c =
    let numbers = c.numbered-2.new.numbers in
    let left = subst (AreStretchesOf numbers c.args.lefts.now) (sym c.as_slice.ensures.value)
    (still_are c.numbered.new.numbers numbers c.args.lefts.now c.in_ok-lefts.lefts.items c.in_ok-rights.ensures.keeps c.in_ok-lefts.ensures.stretches) in
    let right = subst (AreStretchesOf numbers c.args.rights.now) (sym c.as_slice-2.ensures.value) c.in_ok-rights.ensures.stretches in
    c.in_ok-found.ensures (text_of c.as_slice.result.now) (text_of c.as_slice-2.result.now) (pairs_between (rows_laid c.args.lefts.now) (rows_laid c.args.rights.now))
    (subst (AreSegmentsOf (text_of c.as_slice.result.now)) (sym c.as_slice-3.ensures.value) c.in_ok-lefts-2.ensures)
    (subst (AreSegmentsOf (text_of c.as_slice-2.result.now)) (sym c.as_slice-4.ensures.value) c.in_ok-rights-2.ensures)
    (are_pairs numbers c.in_ok-rights.ensures.numbers c.args.lefts.now c.args.rights.now c.requires.left c.requires.right c.requires.left_ascends c.requires.right_ascends c.as_slice.result.now c.as_slice-2.result.now left right)
