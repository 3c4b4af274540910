use Rattle.std.proofs.Common.{◌≡◌, map}
use Rattle.std.proofs.lemmas.Result.{IfOk-weaker}
use Rattle.enfilade_core.specs.Rows.{Rows, Branches, node_at}
use Rattle.enfilade_core.specs.Plain.{plain_row}
use Rattle.enfilade_balance.proofs.Halved.{rows-have}
use Rattle.enfilade_balance.specs.OneStep.{SplitsRoot}
use Rattle.enfilade_balance.proofs.Rooting.{halves-well_formed, halves-root}
use Rattle.enfilade_balance.proofs.roots.root_of_rows.Goals as goal

pub root_over-requires : goal.root_over-requires
root_over-requires g c =
    halves-well_formed g.P.Plane.widths c.args.arena.now c.rows_halved.new.arena (Rows (map (plain_row g.P.Plane.plain) c.args.rows.now)) c.in_ok-halves.halves.items
    (rows-have g.P.Plane.widths c.args.arena.now (map (plain_row g.P.Plane.plain) c.args.rows.now) c.requires.well_formed).well_formed c.in_ok-halves.ensures.halved

pub returns-clause-splits : goal.returns-clause-splits
returns-clause-splits g c =
    let w = g.P.Plane.widths in
    let new = c.root_over.new.arena in
    let node = Rows (map (plain_row g.P.Plane.plain) c.args.rows.now) in
    let halves = c.in_ok-halves.halves.items in
    IfOk-weaker c.root_over.result (λ root. node_at new root.0 ≡ Branches halves) (λ root. SplitsRoot w new node root.0)
    (λ root is. halves-root w c.rows_halved.new.arena new node halves root.0 c.in_ok-halves.ensures.halved.split c.root_over.ensures.grows is) c.root_over.ensures.is
