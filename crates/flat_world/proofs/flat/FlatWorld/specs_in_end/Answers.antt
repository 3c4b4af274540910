use Rattle.std.proofs.Common.{◌≡◌, ◌∙◌, map, rules}
use Rattle.std.proofs.lemmas.Result.{IfOk-weaker}
use Rattle.febe_data.specs.ListView.{ListView}
use Rattle.febe_data.specs.declared.spec.Spec.{Spec}
use Rattle.febe_data.specs.Plain.{plain_spec}
use Rattle.world_rules.specs.Ends.{end_set}
use Rattle.flat_rows.specs.EndIndex.{indexed_of}
use Rattle.flat_world.proofs.Endings.{index_by}
use Rattle.flat_world.proofs.flat.FlatWorld.specs_in_end.Goals as goal

pub returns-clause-value : goal.returns-clause-value
returns-clause-value c =
    let world = c.args.self.now.world in
    let specs = map plain_spec c.args.specs.now in
    let session = c.args.session in
    IfOk-weaker c.indexed_specs.result (λ (made : ListView Spec). map plain_spec made.items ≡ map (indexed_of world c.in_ok-index.index) specs) (λ (made : ListView Spec). map plain_spec made.items ≡ end_set world session c.args.end specs)
    (λ made same. same ∙ index_by world session c.args.end c.in_ok-index.index c.as_slice-links.result.now c.as_slice-published.result.now c.account_of-account.result specs
    (search rules) (search rules) (search rules) c.in_ok-index.ensures)
    c.indexed_specs.ensures.value
