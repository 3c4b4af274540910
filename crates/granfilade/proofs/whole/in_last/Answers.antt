use Rattle.std.proofs.Common.{◌-◌, arith}
use Rattle.std.proofs.lemmas.Option.{IfSome_then}
use Rattle.granfilade.proofs.WholeRows.{whole-at}
use Rattle.granfilade.proofs.whole.in_last.Goals as goal

pub returns : goal.returns
returns c =
    IfSome_then c.in_row.result c.in_row.ensures (λ bytes h. whole-at c.args.rows.now (c.args.many - 1) c.index-rows-many.result c.args.start.now c.args.count bytes.now (omega (arith, c.if-many-eq0.false, c.requires)) c.index-rows-many.is h)
