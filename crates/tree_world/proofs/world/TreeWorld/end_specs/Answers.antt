use Rattle.std.proofs.Common.{List, All, map, sym, subst}
use Rattle.std.proofs.lemmas.List.Elements.{All-nil}
use Rattle.febe_data.specs.declared.spec.Spec.{Spec}
use Rattle.febe_data.specs.Plain.{plain_spec}
use Rattle.world_rules.specs.Ends.{NamesSpans}
use Rattle.tree_world.proofs.NowShown.{nowhere_now, there_now}
use Rattle.tree_world.proofs.world.TreeWorld.end_specs.Goals as goal

pub returns-in_default : goal.returns-in_default
returns-in_default c = record {
  value = λ view stands. nowhere_now c.args.self.now view stands c.args.session c.account_of_session-account.result (c.account_of_session-account.ensures view stands) c.args.id.now c.args.end c.new.result.items c.in_default.ensures c.new.ensures.items;
  valid = subst (λ (made : List Spec). All NamesSpans (map plain_spec made)) (sym c.new.ensures.items) (All-nil NamesSpans);
}

pub returns : goal.returns
returns c = record {
  value = λ view stands.
      there_now c.args.self.now view stands c.args.session c.account_of_session-account.result (c.account_of_session-account.ensures view stands) c.args.id.now c.args.end _ _ _ c.in-Some.ensures c.runs_of_end.ensures (c.in_ok-made.ensures.value view stands);
  valid = c.in_ok-made.ensures.valid;
}
