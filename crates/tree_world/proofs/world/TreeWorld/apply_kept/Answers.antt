use Rattle.std.proofs.Common.{◌∙◌, ap, Result, Ok, Err, sym, subst}
use Rattle.std.specs.Prelude.{OnErr}
use Rattle.febe_data.specs.Plain.{plain_change}
use Rattle.world_rules.specs.FlatView.{with_entry}
use Rattle.tree_world.specs.Trees.{Trees}
use Rattle.tree_world.specs.Standing.{Stands, CountsStand}
use Rattle.tree_world.specs.Changed.{after_change}
use Rattle.tree_world.proofs.EntryCounted.{counts_of, with_sessions}
use Rattle.tree_world.specs.Condition.{condition_of}
use Rattle.tree_world.proofs.Undone.{comes_back, came_inside}
use Rattle.tree_world.specs.Nodes.{nodes_in}
use Rattle.tree_world.proofs.Restored.{comes_to}
use Rattle.tree_world.proofs.Grown.{comes_to_nodes, grown_as}
use Rattle.tree_world.proofs.world.TreeWorld.apply_kept.Goals as goal

on_err : {A E : Type 0} (r : Result A E) (X : Type 0) → X → OnErr r X
on_err (Ok v) X x = tt
on_err (Err e) X x = x

pub returns-in_err-reserve-clause-err : goal.returns-in_err-reserve-clause-err
returns-in_err-reserve-clause-err c view stands =
    let before = subst (λ t. Stands t view) (sym c.self.view_is) stands in
    on_err c.from_residual.result _ (with_sessions _ view c.reserve.new.self view.sessions before (c.reserve.ensures.stands view.sessions (counts_of _ view before)))

pub returns-in_default-clause-err : goal.returns-in_default-clause-err
returns-in_default-clause-err c view stands =
    let before = subst (λ t. Stands t view) (sym c.self.view_is) stands in
    with_sessions _ view c.reserve.new.self view.sessions before (c.reserve.ensures.stands view.sessions (counts_of _ view before))

pub returns-in_err-change-clause-err : goal.returns-in_err-change-clause-err
returns-in_err-change-clause-err c view stands =
    let before = subst (λ t. Stands t view) (sym c.self.view_is) stands in
    on_err c.from_residual-in_err-change.result _ (c.in_err-change.ensures.err view (with_sessions _ view c.reserve.new.self view.sessions before (c.reserve.ensures.stands view.sessions (counts_of _ view before))))

pub returns-clause-ok : goal.returns-clause-ok
returns-clause-ok c view stands =
    let before = subst (λ t. Stands t view) (sym c.self.view_is) stands in
    let after = after_change view c.args.entry.now.session (plain_change c.args.entry.now.change) in
    let done = c.in_ok-change.ensures.ok view (with_sessions _ view c.reserve.new.self view.sessions before (c.reserve.ensures.stands view.sessions (counts_of _ view before))) in
    let changed = subst (λ t. Stands t after) (sym c.self-2.view_is) done in
    with_sessions _ after c.count.new.self (with_entry c.args.entry.now.session view.sessions) changed (c.count.ensures view.sessions (counts_of _ after changed))

pub returns-clause-back : goal.returns-clause-back
returns-clause-back c view stands =
    let before = subst (λ t. Stands t view) (sym c.self.view_is) stands in
    let reserved = c.reserve.ensures.stands view.sessions (counts_of _ view before) in
    let stood = with_sessions _ view c.reserve.new.self view.sessions before reserved in
    let came = came_inside c.args.entry.now.session (plain_change c.args.entry.now.change) _ _ _ c.self-2.view_is c.in_ok-change.ensures.came in
    comes_back _ view c.args.entry.now.session (plain_change c.args.entry.now.change) c.in-Some.undo _ c.count.new.self stood c.self.invariant c.in-Some.ensures.kept c.in-Some.ensures.session c.in-Some.ensures.touched came
    (c.count.ensures view.sessions (subst (λ rows. CountsStand rows view.sessions) (sym (ap (λ (t : Trees). t.sessions) c.self-2.view_is ∙ c.change.ensures.sessions)) reserved))

pub returns-clause-was : goal.returns-clause-was
returns-clause-was c view stands =
    let before = subst (λ t. Stands t view) (sym c.self.view_is) stands in
    let reserved = c.reserve.ensures.stands view.sessions (counts_of _ view before) in
    let stood = with_sessions _ view c.reserve.new.self view.sessions before reserved in
    let came = came_inside c.args.entry.now.session (plain_change c.args.entry.now.change) _ _ _ c.self-2.view_is c.in_ok-change.ensures.came in
    comes_to _ view c.args.entry.now.session (plain_change c.args.entry.now.change) c.in-Some.undo _ c.count.new.self stood c.self.invariant c.in-Some.ensures.kept c.in-Some.ensures.session c.in-Some.ensures.touched came
    (c.count.ensures view.sessions (subst (λ rows. CountsStand rows view.sessions) (sym (ap (λ (t : Trees). t.sessions) c.self-2.view_is ∙ c.change.ensures.sessions)) reserved)) _ (ap condition_of (sym c.self.view_is))

pub returns-in_err-reserve-clause-stays : goal.returns-in_err-reserve-clause-stays
returns-in_err-reserve-clause-stays c = on_err c.from_residual.result _ (ap condition_of c.self.view_is)

pub returns-in_default-clause-stays : goal.returns-in_default-clause-stays
returns-in_default-clause-stays c = ap condition_of c.self.view_is

pub returns-in_err-change-clause-stays : goal.returns-in_err-change-clause-stays
returns-in_err-change-clause-stays c = on_err c.from_residual-in_err-change.result _ (c.in_err-change.ensures.stays ∙ ap condition_of c.self.view_is)

pub returns-clause-grown : goal.returns-clause-grown
returns-clause-grown c = grown_as _ _ _ _ (ap nodes_in c.self.view_is) (sym (ap nodes_in c.self-2.view_is)) c.in_ok-change.ensures.grown

pub returns-clause-were : goal.returns-clause-were
returns-clause-were c view stands =
    let before = subst (λ t. Stands t view) (sym c.self.view_is) stands in
    let reserved = c.reserve.ensures.stands view.sessions (counts_of _ view before) in
    let stood = with_sessions _ view c.reserve.new.self view.sessions before reserved in
    let came = came_inside c.args.entry.now.session (plain_change c.args.entry.now.change) _ _ _ c.self-2.view_is c.in_ok-change.ensures.came in
    comes_to_nodes _ view c.args.entry.now.session (plain_change c.args.entry.now.change) c.in-Some.undo _ c.count.new.self stood c.self.invariant c.in-Some.ensures.kept c.in-Some.ensures.session c.in-Some.ensures.touched came
    (c.count.ensures view.sessions (subst (λ rows. CountsStand rows view.sessions) (sym (ap (λ (t : Trees). t.sessions) c.self-2.view_is ∙ c.change.ensures.sessions)) reserved)) _ (ap nodes_in (sym c.self.view_is))

pub returns-in_err-reserve-clause-same_nodes : goal.returns-in_err-reserve-clause-same_nodes
returns-in_err-reserve-clause-same_nodes c = on_err c.from_residual.result _ (ap nodes_in c.self.view_is)

pub returns-in_default-clause-same_nodes : goal.returns-in_default-clause-same_nodes
returns-in_default-clause-same_nodes c = ap nodes_in c.self.view_is

pub returns-in_err-change-clause-same_nodes : goal.returns-in_err-change-clause-same_nodes
returns-in_err-change-clause-same_nodes c = on_err c.from_residual-in_err-change.result _ (c.in_err-change.ensures.same_nodes ∙ ap nodes_in c.self.view_is)
