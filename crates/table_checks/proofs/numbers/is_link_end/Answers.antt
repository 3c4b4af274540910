use Rattle.std.proofs.Common.{eqb-true, eq-eqb}
use Rattle.table_checks.proofs.Tested.{no_iff}
use Rattle.table_checks.proofs.LinkEnds.{end_made, first_of_end, second_of_end, last_of_end}
use Rattle.table_checks.proofs.numbers.is_link_end.Goals as goal

pub returns-then-end-ne0-clause-value : goal.returns-then-end-ne0-clause-value
returns-then-end-ne0-clause-value c = no_iff (λ e. c.if-end-ne0.true (first_of_end c.args.end.now c.args.number e))

pub returns-then-end-ne2-clause-value : goal.returns-then-end-ne2-clause-value
returns-then-end-ne2-clause-value c = no_iff (λ e. c.if-end-ne2.true (second_of_end c.args.end.now c.args.number e))

pub returns-clause-value : goal.returns-clause-value
returns-clause-value c = (
  (λ t. end_made c.args.end.now c.args.number c.requires c.if-end-ne0.false c.if-end-ne2.false (eqb-true _ _ t)),
  (λ e. eq-eqb _ _ (last_of_end c.args.end.now c.args.number e)),
)
