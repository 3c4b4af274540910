use Rattle.std.proofs.Common.{◌++◌, arith}
use Rattle.febe_fields.specs.Machine.{state_of, field_step}
use Rattle.febe_fields.specs.Scanning.{scan}
use Rattle.febe_fields.proofs.Passing.{leaf_passed, none_passed}
use Rattle.febe_fields.proofs.scanner.Scanner.pass_text.Goals as goal

pub returns-in_default-clause-passed : goal.returns-in_default-clause-passed
returns-in_default-clause-passed c = λ more. none_passed (scan field_step (state_of c.args.self) (c.args.bytes.now ++ more)) c.args.bytes.now

pub returns-clause-passed : goal.returns-clause-passed
returns-clause-passed c = λ more.
    leaf_passed (state_of c.args.self) c.in-Text.more c.min-count.result c.args.bytes.now c.split_at.result.1.now more c.in-Text.is (omega (arith, c.min-count.ensures)) (omega (arith, c.min-count.ensures)) (λ i. omega (arith, c.type_inv.bytes i)) c.split_at.ensures.back
