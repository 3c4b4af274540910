use Rattle.std.proofs.Common.{[], length, sym, ap, ◌∙◌, arith}
use Rattle.std.proofs.lemmas.List.{take_rest, length-drop, append-nil}
use Rattle.febe_fields.proofs.Passing.{rest_goes_on, rest_done, rest_fails, rest_ends, rest_over, whole_goes, whole_done, whole_fails, whole_ends}
use Rattle.febe_wire.specs.RequestMachine.{state_of, outcome_of, request_step}
use Rattle.febe_wire.proofs.scan.RequestScanner.scan.Goals as goal

pub loop-rest-preserved : goal.loop-rest-preserved
loop-rest-preserved c = record {
  total = λ more. whole_goes _ _ _ _ _ _ _ (c.loop-rest.invariant.total more)
      (rest_goes_on request_step (state_of c.loop-rest.self) (state_of c.in-Goes.next) c.loop-rest.rest.now more c.in-len1-up.len_at_least (sym c.step.ensures ∙ ap outcome_of c.in-Goes.is))
      (rw (take_rest c.loop-rest.rest.now 1) at (c.pass_text.ensures.passed more))
      (omega (arith, length-drop 1 c.loop-rest.rest.now, rw (take_rest c.loop-rest.rest.now 1) at c.pass_text.ensures.within, c.loop-rest.invariant.within, c.in-len1-up.len_at_least));
  within = omega (arith, length-drop 1 c.loop-rest.rest.now, rw (take_rest c.loop-rest.rest.now 1) at c.pass_text.ensures.within, c.loop-rest.invariant.within);
}

pub returns-in-Done-clause-said : goal.returns-in-Done-clause-said
returns-in-Done-clause-said c =
    whole_done _ _ _ _ (rw (append-nil c.args.bytes.now, append-nil c.loop-rest.rest.now) at (c.loop-rest.invariant.total [])) (rest_done request_step (state_of c.loop-rest.self) c.loop-rest.rest.now c.in-len1-up.len_at_least (sym c.step.ensures ∙ ap outcome_of c.in-Done.is))
    (rw (take_rest c.loop-rest.rest.now 1) (omega (arith, length-drop 1 c.loop-rest.rest.now, c.loop-rest.invariant.within, c.in-len1-up.len_at_least)))

pub returns-in-Fails-clause-said : goal.returns-in-Fails-clause-said
returns-in-Fails-clause-said c =
    whole_fails _ _ _ (rw (append-nil c.args.bytes.now, append-nil c.loop-rest.rest.now) at (c.loop-rest.invariant.total [])) (rest_fails request_step (state_of c.loop-rest.self) c.loop-rest.rest.now c.in-len1-up.len_at_least (sym c.step.ensures ∙ ap outcome_of c.in-Fails.is))

pub returns-clause-said : goal.returns-clause-said
returns-clause-said c = whole_ends _ _ _ (rw (append-nil c.args.bytes.now, append-nil c.loop-rest.rest.now) at (c.loop-rest.invariant.total [])) (rest_ends request_step (state_of c.loop-rest.self) c.loop-rest.rest.now c.in_default.len_below)

pub returns-clause-goes_on : goal.returns-clause-goes_on
returns-clause-goes_on c = λ more. rest_over request_step (state_of c.loop-rest.self) _ c.loop-rest.rest.now more (length c.args.bytes.now) c.in_default.len_below (c.loop-rest.invariant.total more)
