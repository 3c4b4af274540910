use Rattle.std.proofs.Common.{length, sym, ap, ◌∙◌, arith}
use Rattle.std.proofs.lemmas.List.{take_rest, length-drop}
use Rattle.febe_fields.proofs.Passing.{rest_done, rest_fails, rest_ends, whole_done, whole_fails, whole_ends}
use Rattle.febe_reply.specs.inside.ReplyMachine.{state_of, outcome_of, reply_step}
use Rattle.febe_reply.proofs.ReplyScans.{one_on}
use Rattle.febe_reply.proofs.scan.ReplyScanner.scan.Goals as goal

pub loop-rest-preserved : goal.loop-rest-preserved
loop-rest-preserved c = record {
  total = rw (take_rest c.loop-rest.rest.now 1)
      (one_on (state_of c.loop-rest.scanner) (state_of c.in-Goes.next) _ c.loop-rest.rest.now (length c.args.bytes.now) c.in-len1-up.len_at_least c.loop-rest.invariant.within (sym c.step.ensures ∙ ap outcome_of c.in-Goes.is) c.loop-rest.invariant.total);
  within = rw (take_rest c.loop-rest.rest.now 1) (omega (arith, length-drop 1 c.loop-rest.rest.now, c.loop-rest.invariant.within, c.in-len1-up.len_at_least));
}

pub returns-in-Done : goal.returns-in-Done
returns-in-Done c =
    whole_done _ _ _ _ c.loop-rest.invariant.total (rest_done reply_step (state_of c.loop-rest.scanner) c.loop-rest.rest.now c.in-len1-up.len_at_least (sym c.step.ensures ∙ ap outcome_of c.in-Done.is))
    (rw (take_rest c.loop-rest.rest.now 1) (omega (arith, length-drop 1 c.loop-rest.rest.now, c.loop-rest.invariant.within, c.in-len1-up.len_at_least)))

pub returns-in-Fails : goal.returns-in-Fails
returns-in-Fails c =
    whole_fails _ _ _ c.loop-rest.invariant.total (rest_fails reply_step (state_of c.loop-rest.scanner) c.loop-rest.rest.now c.in-len1-up.len_at_least (sym c.step.ensures ∙ ap outcome_of c.in-Fails.is))

pub returns : goal.returns
returns c = whole_ends _ _ _ c.loop-rest.invariant.total (rest_ends reply_step (state_of c.loop-rest.scanner) c.loop-rest.rest.now c.in_default.len_below)
