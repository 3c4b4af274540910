use Rattle.std.proofs.Common.{◌≡◌, ◌∙◌, ℕ, ap, length, map, rules}
use Rattle.std.specs.Prelude.{filter}
use Rattle.std.proofs.lemmas.Result.{IfOk-weaker}
use Rattle.febe_data.specs.Plain.{plain_want}
use Rattle.world_rules.specs.Finding.{links_found}
use Rattle.flat_rows.specs.PlainLink.{plain_link}
use Rattle.flat_rows.specs.Meeting.{is_met_by}
use Rattle.flat_rows.proofs.Found.{links_by}
use Rattle.flat_world.proofs.flat.FlatWorld.count_links.Goals as goal

pub returns : goal.returns
returns c =
    let world = c.args.self.now.world in
    let want = plain_want c.args.want.now in
    let session = c.args.session in
    let marked = c.as_slice-published.result.now in
    let account = c.account_of-account.result in
    let links = c.as_slice-links.result.now in
    IfOk-weaker c.count_met.result (λ (count : ℕ). count ≡ length (filter (is_met_by marked account want c.args.runs.now) (map plain_link links))) (λ (count : ℕ). count ≡ length (links_found world session want))
    (λ count is. is ∙ ap length (links_by world session want c.args.runs.now marked account links (search rules) c.account_of-account.ensures (search rules) c.requires)) c.count_met.ensures
