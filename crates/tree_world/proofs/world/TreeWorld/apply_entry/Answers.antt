use Rattle.std.proofs.Common.{◌∙◌, ap, Result, Ok, Err, sym, subst}
use Rattle.std.specs.Prelude.{OnErr}
use Rattle.febe_data.specs.Plain.{plain_change}
use Rattle.world_rules.specs.FlatView.{with_entry}
use Rattle.tree_world.specs.Standing.{Stands}
use Rattle.tree_world.specs.Changed.{after_change}
use Rattle.tree_world.specs.Condition.{condition_of}
use Rattle.tree_world.specs.Nodes.{nodes_in}
use Rattle.tree_world.proofs.EntryCounted.{counts_of, with_sessions}
use Rattle.tree_world.proofs.Grown.{grown_as}
use Rattle.tree_world.proofs.world.TreeWorld.apply_entry.Goals as goal

on_err : {A E : Type 0} (r : Result A E) (X : Type 0) → X → OnErr r X
on_err (Ok v) X x = tt
on_err (Err e) X x = x

pub returns-in_err-reserve-clause-err : goal.returns-in_err-reserve-clause-err
returns-in_err-reserve-clause-err c view stands =
    let before = subst (λ t. Stands t view) (sym c.self.view_is) stands in
    on_err c.from_residual.result _ (with_sessions _ view c.reserve.new.self view.sessions before (c.reserve.ensures.stands view.sessions (counts_of _ view before)))

pub returns-in_err-change-clause-err : goal.returns-in_err-change-clause-err
returns-in_err-change-clause-err c view stands =
    let before = subst (λ t. Stands t view) (sym c.self.view_is) stands in
    on_err c.from_residual-in_err-change.result _ (c.in_err-change.ensures.err view (with_sessions _ view c.reserve.new.self view.sessions before (c.reserve.ensures.stands view.sessions (counts_of _ view before))))

pub returns-clause-ok : goal.returns-clause-ok
returns-clause-ok c view stands =
    let before = subst (λ t. Stands t view) (sym c.self.view_is) stands in
    let after = after_change view c.args.entry.now.session (plain_change c.args.entry.now.change) in
    let done = c.in_ok-change.ensures.ok view (with_sessions _ view c.reserve.new.self view.sessions before (c.reserve.ensures.stands view.sessions (counts_of _ view before))) in
    let changed = subst (λ t. Stands t after) (sym c.self-2.view_is) done in
    with_sessions _ after c.count.new.self (with_entry c.args.entry.now.session view.sessions) changed (c.count.ensures view.sessions (counts_of _ after changed))

pub returns-clause-grown : goal.returns-clause-grown
returns-clause-grown c = grown_as _ _ _ _ (ap nodes_in c.self.view_is) (sym (ap nodes_in c.self-2.view_is)) c.in_ok-change.ensures.grown

pub returns-in_err-reserve-clause-stays : goal.returns-in_err-reserve-clause-stays
returns-in_err-reserve-clause-stays c = on_err c.from_residual.result _ (ap condition_of c.self.view_is)

pub returns-in_err-change-clause-stays : goal.returns-in_err-change-clause-stays
returns-in_err-change-clause-stays c = on_err c.from_residual-in_err-change.result _ (c.in_err-change.ensures.stays ∙ ap condition_of c.self.view_is)

pub returns-in_err-reserve-clause-same_nodes : goal.returns-in_err-reserve-clause-same_nodes
returns-in_err-reserve-clause-same_nodes c = on_err c.from_residual.result _ (ap nodes_in c.self.view_is)

pub returns-in_err-change-clause-same_nodes : goal.returns-in_err-change-clause-same_nodes
returns-in_err-change-clause-same_nodes c = on_err c.from_residual-in_err-change.result _ (c.in_err-change.ensures.same_nodes ∙ ap nodes_in c.self.view_is)
