use Rattle.std.proofs.Common.{◌≡◌, ◌∙◌, ap}
use Rattle.febe_data.specs.Plain.{plain_history}
use Rattle.world_rules.specs.FlatView.{FlatView, view_of, entries_in}
use Rattle.world_rules.proofs.Folded.{folds_to_world, counts_kept, counts_entries, all_folded, all_fitting}
use Rattle.flat_world.proofs.flat.FlatWorld.fold.Goals as goal

pub returns-clause-world : goal.returns-clause-world
returns-clause-world c =
    let all : c.loop-entry.world ≡ view_of (plain_history c.args.history.now.items) = all_folded c.loop-entry.world c.as_slice-entry-items.result.now c.args.history.now.items c.loop-entry.entry-index c.as_slice-entry-items.ensures c.loop-entry-test.false c.loop-entry.invariant.folded in
    ap (λ (view : FlatView). view.world) all ∙ folds_to_world (plain_history c.args.history.now.items)

pub returns-clause-counted : goal.returns-clause-counted
returns-clause-counted c =
    let all : c.loop-entry.world ≡ view_of (plain_history c.args.history.now.items) = all_folded c.loop-entry.world c.as_slice-entry-items.result.now c.args.history.now.items c.loop-entry.entry-index c.as_slice-entry-items.ensures c.loop-entry-test.false c.loop-entry.invariant.folded in
    ap (λ (view : FlatView). view.counted) all ∙ counts_kept (plain_history c.args.history.now.items)

pub returns-clause-serials : goal.returns-clause-serials
returns-clause-serials c =
    λ session.
    let all : c.loop-entry.world ≡ view_of (plain_history c.args.history.now.items) = all_folded c.loop-entry.world c.as_slice-entry-items.result.now c.args.history.now.items c.loop-entry.entry-index c.as_slice-entry-items.ensures c.loop-entry-test.false c.loop-entry.invariant.folded in
    ap (λ (view : FlatView). entries_in view.sessions session) all ∙ counts_entries (plain_history c.args.history.now.items) session

pub returns-clause-fitting : goal.returns-clause-fitting
returns-clause-fitting c =
    all_fitting c.as_slice-entry-items.result.now c.args.history.now.items c.loop-entry.entry-index c.as_slice-entry-items.ensures c.loop-entry-test.false c.loop-entry.invariant.fitting
