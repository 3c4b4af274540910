use Rattle.std.proofs.Common.{◌∙◌, ap, map, subst}
use Rattle.poom_compare.specs.Segments.{AreFound, flipped_pair}
use Rattle.poom_compare.proofs.Behind.{none_behind, found_behind}
use Rattle.poom_compare.proofs.ends.ends.Goals as goal

pub returns-in_default : goal.returns-in_default
returns-in_default c =
    none_behind c.args.lefts.now c.args.rights.now c.as_slice.result.now c.as_slice-2.result.now (c.as_slice.ensures.value ∙ c.in_ok-lefts.ensures.value) (c.as_slice-2.ensures.value ∙ c.in_ok-rights.ensures.value)
    (subst (AreFound c.as_slice.result.now c.as_slice-2.result.now) c.in_default.is c.in_ok-found.ensures)

pub returns : goal.returns
returns c =
    found_behind c.args.lefts.now c.args.rights.now c.as_slice.result.now c.as_slice-2.result.now c.in-Some.found c.in_ok-found-2.found (c.as_slice.ensures.value ∙ c.in_ok-lefts.ensures.value) (c.as_slice-2.ensures.value ∙ c.in_ok-rights.ensures.value)
    (subst (AreFound c.as_slice.result.now c.as_slice-2.result.now) c.in-Some.is c.in_ok-found.ensures) (c.in_ok-found-2.ensures.value ∙ ap (map flipped_pair) c.as_slice-3.ensures.value)
