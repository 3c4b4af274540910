use Rattle.std.proofs.Common.{subst, sym, arith}
use Rattle.febe_data.specs.Validity.{IsText}
use Rattle.session_generator.proofs.Drawn.{letters_are_text}
use Rattle.session_generator.proofs.generating.letters.Goals as goal

pub returns-clause-valid : goal.returns-clause-valid
returns-clause-valid c = subst IsText (sym c.loop-m.invariant) (letters_are_text c.args.k c.loop-m.m (omega arith))
