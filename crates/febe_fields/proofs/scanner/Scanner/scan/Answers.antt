use Rattle.std.proofs.Common.{◌≡◌, ◌-◌, length, drop, [], sym, ap, ◌∙◌, arith}
use Rattle.std.proofs.lemmas.List.{take_rest, length-drop, append-nil}
use Rattle.febe_fields.specs.Machine.{state_of, outcome_of, field_step}
use Rattle.febe_fields.specs.Scanning.{behind, scan}
use Rattle.febe_fields.proofs.Passing.{rest_goes, rest_done, rest_fails, rest_ends, whole_goes, whole_done, whole_fails, whole_ends}
use Rattle.febe_fields.proofs.scanner.Scanner.scan.Goals as goal

passed_alone : (c : goal.After-behind-in-Goes-1) → scan field_step (state_of c.in-Goes.next) (drop 1 c.loop-rest.rest.now) ≡ behind (length (drop 1 c.loop-rest.rest.now) - length c.pass_text.result.1.now) (scan field_step (state_of c.pass_text.result.0) c.pass_text.result.1.now)
passed_alone c = rw (take_rest c.loop-rest.rest.now 1, append-nil (drop 1 c.loop-rest.rest.now), append-nil c.pass_text.result.1.now) at (c.pass_text.ensures.passed [])

pub loop-rest-preserved : goal.loop-rest-preserved
loop-rest-preserved c = record {
  total = whole_goes _ _ _ _ _ _ _ c.loop-rest.invariant.total (rest_goes field_step (state_of c.loop-rest.scanner) (state_of c.in-Goes.next) c.loop-rest.rest.now c.in-len1-up.len_at_least (sym c.step.ensures ∙ ap outcome_of c.in-Goes.is)) (passed_alone c)
      (omega (arith, length-drop 1 c.loop-rest.rest.now, rw (take_rest c.loop-rest.rest.now 1) at c.pass_text.ensures.within, c.loop-rest.invariant.within, c.in-len1-up.len_at_least));
  within = omega (arith, length-drop 1 c.loop-rest.rest.now, rw (take_rest c.loop-rest.rest.now 1) at c.pass_text.ensures.within, c.loop-rest.invariant.within);
}

pub returns-in-Done : goal.returns-in-Done
returns-in-Done c =
    whole_done _ _ _ _ c.loop-rest.invariant.total (rest_done field_step (state_of c.loop-rest.scanner) c.loop-rest.rest.now c.in-len1-up.len_at_least (sym c.step.ensures ∙ ap outcome_of c.in-Done.is))
    (rw (take_rest c.loop-rest.rest.now 1) (omega (arith, length-drop 1 c.loop-rest.rest.now, c.loop-rest.invariant.within, c.in-len1-up.len_at_least)))

pub returns-in-Fails : goal.returns-in-Fails
returns-in-Fails c =
    whole_fails _ _ _ c.loop-rest.invariant.total (rest_fails field_step (state_of c.loop-rest.scanner) c.loop-rest.rest.now c.in-len1-up.len_at_least (sym c.step.ensures ∙ ap outcome_of c.in-Fails.is))

pub returns : goal.returns
returns c = whole_ends _ _ _ c.loop-rest.invariant.total (rest_ends field_step (state_of c.loop-rest.scanner) c.loop-rest.rest.now c.in_default.len_below)
