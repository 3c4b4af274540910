use Rattle.std.proofs.Common.{◌∙◌, subst, sym, All}
use Rattle.std.proofs.lemmas.List.Sorted.{All-permutation}
use Rattle.poom_compare.specs.Segments.{IsSmall, AreFound, AreFoundEnds}
use Rattle.poom_compare.proofs.Belonging.{too_many_starts, too_many_ends, whole_compared, paired_of}
use Rattle.poom_compare.proofs.comparing.compared.Goals as goal

pub paired-requires : goal.paired-requires
paired-requires c =
    let ended = subst (AreFoundEnds c.args.lefts.now c.args.rights.now) c.in-Some-2.is c.in_ok-ends.ensures in
    subst (All IsSmall) (sym c.as_slice-2.ensures.value) (All-permutation IsSmall c.in-Some-2.ends.items c.sort_by_difference-2.new.pairs.items c.in_ok-sort_by_difference-2.ensures.moved ended.0)

pub returns-in_default : goal.returns-in_default
returns-in_default c = too_many_starts c.args.lefts.now c.args.rights.now (subst (AreFound c.args.lefts.now c.args.rights.now) c.in_default.is c.in_ok-starts.ensures)

pub returns-in_default-2 : goal.returns-in_default-2
returns-in_default-2 c =
    too_many_ends c.args.lefts.now c.args.rights.now c.in-Some.starts (subst (AreFound c.args.lefts.now c.args.rights.now) c.in-Some.is c.in_ok-starts.ensures)
    (subst (AreFoundEnds c.args.lefts.now c.args.rights.now) c.in_default-2.is c.in_ok-ends.ensures)

pub returns : goal.returns
returns c =
    whole_compared c.args.lefts.now c.args.rights.now c.in-Some.starts c.in-Some-2.ends c.sort_by_difference.new.pairs.items c.sort_by_difference-2.new.pairs.items c.in_ok-diagonals.diagonals.items c.in_ok-made.made.items
    (subst (AreFound c.args.lefts.now c.args.rights.now) c.in-Some.is c.in_ok-starts.ensures) (subst (AreFoundEnds c.args.lefts.now c.args.rights.now) c.in-Some-2.is c.in_ok-ends.ensures)
    c.in_ok-sort_by_difference.ensures.moved c.in_ok-sort_by_difference.ensures.sorted c.in_ok-sort_by_difference-2.ensures.moved c.in_ok-sort_by_difference-2.ensures.sorted
    (c.in_ok-diagonals.ensures ∙ paired_of c.as_slice.ensures.value c.as_slice-2.ensures.value) c.in_ok-made.ensures.moved c.in_ok-made.ensures.sorted
