use Rattle.std.proofs.Common.{◌≡◌, ◌∙◌, map, rules, Some}
use Rattle.std.proofs.lemmas.Result.{IfOk-weaker}
use Rattle.std.specs.Option.{option_map, option_copied}
use Rattle.febe_data.specs.ListView.{ListView}
use Rattle.febe_data.specs.declared.spec.Spec.{Spec}
use Rattle.febe_data.specs.Plain.{plain_spec}
use Rattle.world_rules.specs.Finding.{link_at}
use Rattle.world_rules.specs.Ends.{run_now}
use Rattle.world_rules.specs.Answers.{follow_of}
use Rattle.flat_rows.specs.PlainLink.{plain_link}
use Rattle.flat_world.proofs.Endings.{link_of, end_by}
use Rattle.flat_world.proofs.flat.FlatWorld.end_specs.Goals as goal

pub returns-clause-value : goal.returns-clause-value
returns-clause-value c =
    let world = c.args.self.now.world in
    let session = c.args.session in
    let id = c.args.id.now in
    let account = c.account_of-account.result in
    let found = option_map plain_link (option_copied c.link_for.result) in
    let is : found ≡ link_at world session id = link_of world session id account found c.account_of-account.ensures c.link_for.ensures in
    IfOk-weaker c.runs_now.result (λ (made : ListView Spec). map plain_spec made.items ≡ map (run_now world) c.as_slice.result.now) (λ (made : ListView Spec). map plain_spec made.items ≡ follow_of world session (link_at world session id) (Some c.args.end))
    (λ made same. same ∙ end_by world session id c.args.end account c.as_slice-published.result.now found (plain_link c.in-Some.found.now) c.as_slice.result.now c.account_of-account.ensures (search rules) is (search rules) (search rules))
    c.runs_now.ensures.value
