use Rattle.std.proofs.Common.{◌++◌, ◌-◌, length, sym, ap, ◌∙◌}
use Rattle.febe_fields.specs.Machine as fields
use Rattle.febe_fields.specs.Machine.{field_step}
use Rattle.febe_fields.specs.Scanning.{behind, scan}
use Rattle.febe_fields.proofs.Passing.{none_passed}
use Rattle.febe_wire.specs.RequestMachine.{state_of, request_step}
use Rattle.febe_wire.proofs.RequestScans.{scan_in}
use Rattle.febe_wire.proofs.scan.RequestScanner.pass_text.Goals as goal

pub returns-in_default-clause-passed : goal.returns-in_default-clause-passed
returns-in_default-clause-passed c = λ more. none_passed (scan request_step (state_of c.args.self) (c.args.bytes.now ++ more)) c.args.bytes.now

pub returns-clause-passed : goal.returns-clause-passed
returns-clause-passed c = λ more.
    rw c.in-Fields.is (scan_in (fields.state_of c.in-Fields.scanner) (c.args.bytes.now ++ more))
    ∙ c.pass_text.ensures.passed more
    ∙ ap (behind (length c.args.bytes.now - length c.pass_text.result.1.now)) (sym (scan_in (fields.state_of c.pass_text.result.0) (c.pass_text.result.1.now ++ more)))
