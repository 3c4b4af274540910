use Rattle.std.proofs.Common.{◌∙◌, ◌<◌, ◌≤◌, List, ℕ, length, take, ap, arith}
use Rattle.world_rules.specs.Readers.{reads_by}
use Rattle.links.specs.inside.Read.{id_if_read}
use Rattle.links.proofs.ListSteps.{step_taken, stop_taken, all_taken}
use Rattle.links.proofs.ReadLinks.{id_short, ids_are_read}
use Rattle.links.proofs.readable.ids_read.Goals as goal

pub returns-then-len-limit : goal.returns-then-len-limit
returns-then-len-limit g c =
    let may = reads_by (g.R.Readers.publishes c.args.readers.now) c.args.account.now in
    let links = c.args.table.now in
    let full : c.args.limit ≤ length c.loop-id.found.items = let le = c.if-len-limit.true in let is = c.len.ensures in omega (arith, le, is) in
    stop_taken (id_if_read may links) (id_short may links) c.args.limit c.args.ids.now c.loop-id.id-index c.loop-id.found.items c.loop-id.invariant full
    ∙ ap (λ (ids : List (List ℕ)). take c.args.limit ids) (ids_are_read may links c.args.ids.now)

pub loop-id-preserved : goal.loop-id-preserved
loop-id-preserved g c =
    let may = reads_by (g.R.Readers.publishes c.args.readers.now) c.args.account.now in
    let links = c.args.table.now in
    let room : length c.loop-id.found.items < c.args.limit = let lt = c.if-len-limit.false in let is = c.len.ensures in omega (arith, lt, is) in
    step_taken (id_if_read may links) (id_short may links) c.args.limit c.args.ids.now c.loop-id.id-index c.id-item.result c.loop-id.found.items c.take_read.new.found.items c.loop-id-test.true c.id-item.is c.loop-id.invariant room c.in_ok-take_read.ensures

pub returns : goal.returns
returns g c =
    let may = reads_by (g.R.Readers.publishes c.args.readers.now) c.args.account.now in
    let links = c.args.table.now in
    all_taken (id_if_read may links) (id_short may links) c.args.limit c.args.ids.now c.loop-id.id-index c.loop-id.found.items c.loop-id.invariant c.loop-id-test.false
    ∙ ap (λ (ids : List (List ℕ)). take c.args.limit ids) (ids_are_read may links c.args.ids.now)
