use Rattle.std.proofs.Common.{◌≡◌, rules, map}
use Rattle.std.proofs.lemmas.Result.{IfOk-weaker}
use Rattle.febe_data.specs.Plain.{plain_spec}
use Rattle.world_rules.specs.Finding.{documents_found}
use Rattle.flat_rows.proofs.Found.{found_are}
use Rattle.flat_world.proofs.flat.FlatWorld.documents_with.Goals as goal

pub returns-clause-items : goal.returns-clause-items
returns-clause-items c =
    let world = c.args.self.now.world in
    let specs = map plain_spec c.args.specs.now in
    let session = c.args.session in
    let addresses = c.as_slice.result.now in
    IfOk-weaker c.list_of.result (λ made. made.items ≡ c.in_ok-found.found.keys) (λ made. made.items ≡ documents_found world session specs)
    (λ made listed. found_are world session specs addresses c.in_ok-addresses.addresses c.in_ok-shown.shown c.in_ok-found.found c.as_slice-2.result.now c.as_slice-documents.result.now c.as_slice-published.result.now made.items c.account_of-account.result
    (search rules) (search rules) (search rules) (search rules) c.account_of-account.ensures c.in_ok-addresses.ensures c.in_ok-shown.ensures c.in_ok-found.ensures listed)
    c.list_of.ensures.items
