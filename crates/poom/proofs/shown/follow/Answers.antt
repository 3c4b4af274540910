use Rattle.std.proofs.Common.{arith, refl}
use Rattle.poom.specs.Laid.{part_number}
use Rattle.poom.proofs.Intervals.{longer_open}
use Rattle.poom.proofs.shown.follow.Goals as goal

pub returns-then-held-next-clause-stand : goal.returns-then-held-next-clause-stand
returns-then-held-next-clause-stand c = longer_open (part_number c.args.part) c.args.held c.args.next _ c.args.spans.now.items (omega (arith, c.if-held-next.true)) refl refl
