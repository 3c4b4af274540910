use Rattle.std.proofs.Common.{◌∙◌, sym}
use Rattle.tree_compare.proofs.Addresses.{met-then, met-else}
use Rattle.tree_compare.proofs.address.meet.Goals as goal

pub returns-then-ne : goal.returns-then-ne
returns-then-ne c =
    met-else c.args.one.now c.args.other.now c.in-Some.front.now c.in-Some-split_last.beside.now c.in-Some.last.now c.in-Some-split_last.wanted.now c.args.behind c.args.further c.ne.result (sym c.places.ensures.value ∙ c.in-Some.ensures.cases.0)
    (sym c.places-2.ensures.value ∙ c.in-Some-split_last.ensures.cases.0) c.ne.ensures c.if-ne.true

pub returns : goal.returns
returns c =
    met-then c.args.one.now c.args.other.now c.in-Some.front.now c.in-Some-split_last.beside.now c.in-Some.last.now c.in-Some-split_last.wanted.now c.args.behind c.args.further c.ne.result (sym c.places.ensures.value ∙ c.in-Some.ensures.cases.0)
    (sym c.places-2.ensures.value ∙ c.in-Some-split_last.ensures.cases.0) c.ne.ensures c.if-ne.false
