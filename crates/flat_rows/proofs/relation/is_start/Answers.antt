use Rattle.std.proofs.Common.{◌∙◌, ap, sym, not, arith, ◌-◌}
use Rattle.world_rules.proofs.Diagonals.{start_further}
use Rattle.flat_rows.proofs.relation.is_start.Goals as goal

pub returns : goal.returns
returns c =
    ap not (c.contains.ensures ∙ c.requires (c.args.pair.left - 1) (c.args.pair.right - 1)) ∙ sym (start_further c.args.pairs.now c.args.pair (c.args.pair.left - 1) (c.args.pair.right - 1) (omega arith) (omega arith))
