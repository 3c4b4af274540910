use Rattle.std.proofs.Common.{◌∙◌, sym, ap, length}
use Rattle.table_checks.proofs.Tested.{no_iff}
use Rattle.table_checks.proofs.LinkEnds.{same_start, other_start, link_starts, link_ends}
use Rattle.table_checks.proofs.numbers.is_link_address.Goals as goal

pub returns-then-ne-clause-value : goal.returns-then-ne-clause-value
returns-then-ne-clause-value c =
    no_iff (λ is. other_start c.split_at.result.0.now c.places-front.result.now c.args.home.now c.ne.result c.places-front.ensures.value c.ne.ensures c.if-ne.true
    (link_starts c.args.id.now c.args.home.now c.args.number c.split_at.result.0.now c.split_at.result.1.now (sym c.places-places.ensures.value ∙ c.split_at.ensures.by_index.0) (c.split_at.ensures.front_len ∙ ap length c.places-front.ensures.value) is))

pub returns-clause-value : goal.returns-clause-value
returns-clause-value c =
    link_ends c.args.id.now c.args.home.now c.args.number c.split_at.result.0.now c.split_at.result.1.now (sym c.places-places.ensures.value ∙ c.split_at.ensures.by_index.0) (c.split_at.ensures.front_len ∙ ap length c.places-front.ensures.value)
    c.is_link_end.result (same_start c.split_at.result.0.now c.places-front.result.now c.args.home.now c.ne.result c.places-front.ensures.value c.ne.ensures c.if-ne.false) c.is_link_end.ensures.value
