use Rattle.std.proofs.Common.{◌≡◌, ◌∙◌, List, ℕ, ap, map, rules}
use Rattle.std.proofs.lemmas.Result.{IfOk-weaker}
use Rattle.febe_data.specs.ListView.{ListView}
use Rattle.febe_data.specs.Plain.{plain_want}
use Rattle.world_rules.specs.World.{LinkRow, ascending}
use Rattle.world_rules.specs.Finding.{ids_found}
use Rattle.flat_rows.proofs.Found.{links_by}
use Rattle.flat_world.proofs.flat.FlatWorld.link_ids.Goals as goal

pub returns-clause-items : goal.returns-clause-items
returns-clause-items c =
    let world = c.args.self.now.world in
    let want = plain_want c.args.want.now in
    let session = c.args.session in
    IfOk-weaker c.list_of.result (λ (made : ListView (List ℕ)). made.items ≡ c.in_ok-ids.ids.keys) (λ (made : ListView (List ℕ)). made.items ≡ ids_found world session want)
    (λ made is. is ∙ c.in_ok-ids.ensures
    ∙ ap (λ (links : List LinkRow). ascending (map (λ (link : LinkRow). link.id) links)) (links_by world session want c.args.runs.now c.as_slice-published.result.now c.account_of-account.result c.as_slice-links.result.now (search rules) c.account_of-account.ensures (search rules) c.requires))
    c.list_of.ensures.items
