use Rattle.std.proofs.Common.{◌∙◌, ℕ, ◌+◌, ◌≤◌, List, Result, Ok, Err, true≢false, refl, sym, ap, subst}
use Rattle.std.specs.Prelude.{OnErr}
use Rattle.enfilade_core.specs.declared.tree.Node.{Node}
use Rattle.enfilade_core.specs.Rows.{Shape}
use Rattle.enfilade_balance.specs.Laws.{DebtsStay}
use Rattle.doc_table.specs.DocumentRows.{with_root}
use Rattle.tree_world.specs.Trees.{Trees}
use Rattle.tree_world.specs.Condition.{debt_of, documents_allow}
use Rattle.tree_world.specs.inside.SameRows.{SameRows}
use Rattle.tree_world.proofs.Tables.{has_some}
use Rattle.tree_world.proofs.Roots.{root_stands}
use Rattle.tree_world.proofs.SameRows.{sound_over}
use Rattle.tree_world.proofs.Balanced.{step_same, step_lowers}
use Rattle.tree_world.proofs.Marked.{stay_self, due_grown, due_rooted, some_row, place, step_found}
use Rattle.tree_world.specs.Nodes.{nodes_in}
use Rattle.tree_world.proofs.Grown.{grown_as, all_same, documents_back}
use Rattle.tree_world.proofs.Undone.{grown_none}
use Rattle.tree_world.proofs.world.TreeWorld.balance_documents.Goals as goal

on_err : {A E : Type 0} (r : Result A E) (X : Type 0) → X → OnErr r X
on_err (Ok v) X x = tt
on_err (Err e) X x = x

pub balance-requires : goal.balance-requires
balance-requires c = (root_stands c.self.inside.pooms c.self.inside.documents c.in-Some.due.0 c.in-Some.due.1 c.self.invariant.0 c.in-Some.ensures.some.root).there

pub returns-in_err-made-clause-idle : goal.returns-in_err-made-clause-idle
returns-in_err-made-clause-idle c off = absurd (true≢false (sym (ap (λ (t : Trees). documents_allow t.nodes t.documents) (sym c.self.view_is) ∙ (some_row c.self.inside.pooms c.self.inside.documents c.in-Some.due.0 c.in-Some.due.1 c.in-Some.ensures.some.root c.in-Some.ensures.some.allows)) ∙ off))

pub set_root-requires : goal.set_root-requires
set_root-requires c = has_some c.self.inside.documents c.in-Some.due.0 c.in-Some.due.1 c.in-Some.ensures.some.root

pub invariant_of-self-2 : goal.invariant_of-self-2
invariant_of-self-2 c =
    sound_over (record { contents = c.self.inside.contents; content = c.self.inside.content; nodes = c.self.inside.pooms; documents = c.self.inside.documents; index = c.self.inside.index; links = c.self.inside.links; access = c.self.inside.access; counted = c.self.inside.counted; sessions = c.self.inside.sessions; due = c.self.inside.due.items })
    (record { contents = c.self.inside.contents; content = c.self.inside.content; nodes = c.balance.new.self; documents = c.set_root.new.self; index = c.self.inside.index; links = c.self.inside.links; access = c.self.inside.access; counted = c.self.inside.counted; sessions = c.self.inside.sessions; due = c.due_tree.new.due.items })
    (step_same (record { contents = c.self.inside.contents; content = c.self.inside.content; nodes = c.self.inside.pooms; documents = c.self.inside.documents; index = c.self.inside.index; links = c.self.inside.links; access = c.self.inside.access; counted = c.self.inside.counted; sessions = c.self.inside.sessions; due = c.self.inside.due.items })
    (record { contents = c.self.inside.contents; content = c.self.inside.content; nodes = c.balance.new.self; documents = c.set_root.new.self; index = c.self.inside.index; links = c.self.inside.links; access = c.self.inside.access; counted = c.self.inside.counted; sessions = c.self.inside.sessions; due = c.due_tree.new.due.items })
    (place c.self.inside.pooms c.balance.new.self c.self.inside.documents c.in-Some.due.0 c.in-Some.due.1 c.in_ok-made.made c.in-Some.ensures.some.root c.in-Some.ensures.some.allows) c.in-Some.due.0 c.in-Some.due.1 c.in_ok-made.made
    (step_found c.self.inside.pooms c.balance.new.self c.self.inside.documents c.in-Some.due.0 c.in-Some.due.1 c.in_ok-made.made c.in-Some.ensures.some.root c.in-Some.ensures.some.allows c.self.invariant.0 c.in_order.ensures
    (subst (λ (nodes : List (Shape ℕ)). DebtsStay nodes) c.arena.ensures c.debts_stay.ensures) c.in_ok-made.ensures.kept c.in_ok-made.ensures.grows c.in_ok-made.ensures.rows c.in_ok-made.ensures.document c.in_ok-made.ensures.lowers c.in_ok-made.ensures.idle)
    (c.set_root.ensures ∙ ap (λ (node : Node). with_root c.self.inside.documents c.in-Some.due.0 node) c.root_after.ensures) refl refl refl refl refl refl refl)
    (due_rooted c.balance.new.self c.self.inside.documents c.set_root.new.self c.in-Some.due.0 c.root_after.result c.due_tree.new.due.items c.due_tree.new.due.items c.in-Some.due.1 c.in-Some.ensures.some.root c.set_root.ensures
    (due_grown c.self.inside.pooms c.balance.new.self c.self.inside.documents c.due_tree.new.due.items c.in_ok-made.ensures.grows c.self.invariant.0 c.due_tree.ensures.due) (stay_self c.due_tree.new.due.items) (λ allows. c.in-Some.ensures.some.marked))
    c.self.invariant

pub returns-clause-same : goal.returns-clause-same
returns-clause-same c =
    subst (λ (t : Trees). SameRows t (record { contents = c.self.inside.contents; content = c.self.inside.content; nodes = c.balance.new.self; documents = c.set_root.new.self; index = c.self.inside.index; links = c.self.inside.links; access = c.self.inside.access; counted = c.self.inside.counted; sessions = c.self.inside.sessions; due = c.due_tree.new.due.items })) c.self.view_is
    (step_same (record { contents = c.self.inside.contents; content = c.self.inside.content; nodes = c.self.inside.pooms; documents = c.self.inside.documents; index = c.self.inside.index; links = c.self.inside.links; access = c.self.inside.access; counted = c.self.inside.counted; sessions = c.self.inside.sessions; due = c.self.inside.due.items })
    (record { contents = c.self.inside.contents; content = c.self.inside.content; nodes = c.balance.new.self; documents = c.set_root.new.self; index = c.self.inside.index; links = c.self.inside.links; access = c.self.inside.access; counted = c.self.inside.counted; sessions = c.self.inside.sessions; due = c.due_tree.new.due.items })
    (place c.self.inside.pooms c.balance.new.self c.self.inside.documents c.in-Some.due.0 c.in-Some.due.1 c.in_ok-made.made c.in-Some.ensures.some.root c.in-Some.ensures.some.allows) c.in-Some.due.0 c.in-Some.due.1 c.in_ok-made.made
    (step_found c.self.inside.pooms c.balance.new.self c.self.inside.documents c.in-Some.due.0 c.in-Some.due.1 c.in_ok-made.made c.in-Some.ensures.some.root c.in-Some.ensures.some.allows c.self.invariant.0 c.in_order.ensures
    (subst (λ (nodes : List (Shape ℕ)). DebtsStay nodes) c.arena.ensures c.debts_stay.ensures) c.in_ok-made.ensures.kept c.in_ok-made.ensures.grows c.in_ok-made.ensures.rows c.in_ok-made.ensures.document c.in_ok-made.ensures.lowers c.in_ok-made.ensures.idle)
    (c.set_root.ensures ∙ ap (λ (node : Node). with_root c.self.inside.documents c.in-Some.due.0 node) c.root_after.ensures) refl refl refl refl refl refl refl)

pub returns-clause-told : goal.returns-clause-told
returns-clause-told c = sym (ap (λ (t : Trees). documents_allow t.nodes t.documents) (sym c.self.view_is) ∙ (some_row c.self.inside.pooms c.self.inside.documents c.in-Some.due.0 c.in-Some.due.1 c.in-Some.ensures.some.root c.in-Some.ensures.some.allows))

pub returns-clause-lowers : goal.returns-clause-lowers
returns-clause-lowers c made =
    subst (λ (t : Trees). debt_of (record { contents = c.self.inside.contents; content = c.self.inside.content; nodes = c.balance.new.self; documents = c.set_root.new.self; index = c.self.inside.index; links = c.self.inside.links; access = c.self.inside.access; counted = c.self.inside.counted; sessions = c.self.inside.sessions; due = c.due_tree.new.due.items }) + 1 ≤ debt_of t) c.self.view_is
    (step_lowers (record { contents = c.self.inside.contents; content = c.self.inside.content; nodes = c.self.inside.pooms; documents = c.self.inside.documents; index = c.self.inside.index; links = c.self.inside.links; access = c.self.inside.access; counted = c.self.inside.counted; sessions = c.self.inside.sessions; due = c.self.inside.due.items })
    (record { contents = c.self.inside.contents; content = c.self.inside.content; nodes = c.balance.new.self; documents = c.set_root.new.self; index = c.self.inside.index; links = c.self.inside.links; access = c.self.inside.access; counted = c.self.inside.counted; sessions = c.self.inside.sessions; due = c.due_tree.new.due.items })
    (place c.self.inside.pooms c.balance.new.self c.self.inside.documents c.in-Some.due.0 c.in-Some.due.1 c.in_ok-made.made c.in-Some.ensures.some.root c.in-Some.ensures.some.allows) c.in-Some.due.0 c.in-Some.due.1 c.in_ok-made.made
    (step_found c.self.inside.pooms c.balance.new.self c.self.inside.documents c.in-Some.due.0 c.in-Some.due.1 c.in_ok-made.made c.in-Some.ensures.some.root c.in-Some.ensures.some.allows c.self.invariant.0 c.in_order.ensures
    (subst (λ (nodes : List (Shape ℕ)). DebtsStay nodes) c.arena.ensures c.debts_stay.ensures) c.in_ok-made.ensures.kept c.in_ok-made.ensures.grows c.in_ok-made.ensures.rows c.in_ok-made.ensures.document c.in_ok-made.ensures.lowers c.in_ok-made.ensures.idle)
    (c.set_root.ensures ∙ ap (λ (node : Node). with_root c.self.inside.documents c.in-Some.due.0 node) c.root_after.ensures) refl refl refl)

pub returns-clause-idle : goal.returns-clause-idle
returns-clause-idle c off = absurd (true≢false (sym (ap (λ (t : Trees). documents_allow t.nodes t.documents) (sym c.self.view_is) ∙ (some_row c.self.inside.pooms c.self.inside.documents c.in-Some.due.0 c.in-Some.due.1 c.in-Some.ensures.some.root c.in-Some.ensures.some.allows)) ∙ off))

pub returns-in_default-clause-grown : goal.returns-in_default-clause-grown
returns-in_default-clause-grown c = grown_as _ _ _ _ (ap nodes_in c.self.view_is) refl (all_same _)

pub returns-in_default-clause-idle_nodes : goal.returns-in_default-clause-idle_nodes
returns-in_default-clause-idle_nodes c off = ap nodes_in c.self.view_is

pub returns-in_err-made-clause-grown : goal.returns-in_err-made-clause-grown
returns-in_err-made-clause-grown c = grown_as _ _ _ _ (ap nodes_in c.self.view_is) refl (record { contents = grown_none _; documents = c.in_err-made.ensures.grows; index = grown_none _; from = grown_none _; to = grown_none _; three = grown_none _ })

pub returns-in_err-made-clause-err_nodes : goal.returns-in_err-made-clause-err_nodes
returns-in_err-made-clause-err_nodes c = on_err c.from_residual.result _ (documents_back _ _ _ (ap nodes_in c.self.view_is) c.in_err-made.ensures.refused)

pub returns-in_err-made-clause-idle_nodes : goal.returns-in_err-made-clause-idle_nodes
returns-in_err-made-clause-idle_nodes c off = absurd (true≢false (sym (ap (λ (t : Trees). documents_allow t.nodes t.documents) (sym c.self.view_is) ∙ (some_row c.self.inside.pooms c.self.inside.documents c.in-Some.due.0 c.in-Some.due.1 c.in-Some.ensures.some.root c.in-Some.ensures.some.allows)) ∙ off))

pub returns-clause-grown : goal.returns-clause-grown
returns-clause-grown c = grown_as _ _ _ _ (ap nodes_in c.self.view_is) refl (record { contents = grown_none _; documents = c.in_ok-made.ensures.grows; index = grown_none _; from = grown_none _; to = grown_none _; three = grown_none _ })

pub returns-clause-idle_nodes : goal.returns-clause-idle_nodes
returns-clause-idle_nodes c off = absurd (true≢false (sym (ap (λ (t : Trees). documents_allow t.nodes t.documents) (sym c.self.view_is) ∙ (some_row c.self.inside.pooms c.self.inside.documents c.in-Some.due.0 c.in-Some.due.1 c.in-Some.ensures.some.root c.in-Some.ensures.some.allows)) ∙ off))
