use Rattle.std.proofs.Common.{◌∙◌, map, sym}
use Rattle.febe_data.specs.Plain.{plain_spec}
use Rattle.world_rules.specs.Ends.{run_now, NamesSpans}
use Rattle.tree_world.specs.inside.Reads.{reads_in}
use Rattle.tree_world.proofs.Lists.{pushed_right_mapped}
use Rattle.tree_world.proofs.MayRead.{not_pushed, was_pushed}
use Rattle.tree_world.proofs.world.TreeWorld.push_now.Goals as goal

pub returns-then-not-may_read-clause-value : goal.returns-then-not-may_read-clause-value
returns-then-not-may_read-clause-value c view stands =
    not_pushed (reads_in c.args.self.now c.args.account.now c.args.run.now.origin) (map plain_spec c.args.made.now.items) (run_now view.world c.args.run.now) (sym c.may_read.ensures ∙ c.if-not-may_read.true)

pub returns : goal.returns
returns c = record {
  value = λ view stands.
      was_pushed plain_spec (reads_in c.args.self.now c.args.account.now c.args.run.now.origin) c.args.made.now.items c.push.new.self.items c.in_ok-run_now.field-0 (run_now view.world c.args.run.now) (sym c.may_read.ensures ∙ c.if-not-may_read.false) c.in_ok-push.ensures.ok (c.in_ok-run_now.ensures.value view stands);
  valid = λ all. pushed_right_mapped NamesSpans plain_spec c.args.made.now.items c.push.new.self.items c.in_ok-run_now.field-0 c.in_ok-push.ensures.ok all c.in_ok-run_now.ensures.valid;
}
