use Rattle.std.proofs.Common.{◌≡◌, ◌∙◌, true, length, ap, refl, sym, subst}
use Rattle.febe_data.specs.LimitsView.{LimitsView, AreLimits}
use Rattle.febe_data.specs.Plain.{plain_request, plain_history, plain_change}
use Rattle.world_rules.specs.Apply.{world_of}
use Rattle.world_rules.specs.FlatView.{view_of}
use Rattle.world_rules.specs.History.{durable_entries, is_durable}
use Rattle.world_rules.specs.Legal.{entry_after}
use Rattle.world_rules.specs.PlainEffect.{plain_effect}
use Rattle.world_rules.proofs.Placed.{served_is_placed}
use Rattle.world_laws.proofs.Isolated.{query_none}
use Rattle.entry_fits.specs.Laws.{IsRegular}
use Rattle.green_store.specs.Durable.{has_risen, IsDurableEntry}
use Rattle.green_store.specs.StoreView.{StoreView}
use Rattle.green_store.proofs.Accepting.{may_be_kept}
use Rattle.green_store.proofs.Edits.{made_keeps, edit_leaves, kept_keeps}
use Rattle.green_store.proofs.Legals.{refused_here, answered_here, changed_here, allowed_here, effect_here, edit_here, kept_here}
use Rattle.green_store.proofs.Moments.{none_comes, made_timed}
use Rattle.green_store.proofs.Unkept.{made_trees, made_nodes, made_pages}
use Rattle.green_store.proofs.Paging.{same_grown}
use Rattle.green_store.proofs.store.StoreOver.serve.Given as given
use Rattle.green_store.proofs.store.StoreOver.serve.Goals as goal
use Rattle.green_store.proofs.store.StoreOver.serve.Goals.{In_ok-refusal, After-make_kept}

limits_are : (g : given.Over) (c : In_ok-refusal g) → c.self.inside.limits ≡ c.args.self.now.limits
limits_are g c = ap (λ (v : StoreView). v.limits) c.self.view_is

world_is : (g : given.Over) (c : In_ok-refusal g) → view_of (plain_history c.self.inside.history.items) ≡ view_of c.args.self.now.history
world_is g c = ap (λ (v : StoreView). view_of v.history) c.self.view_is

pub make_kept-requires-clause-may : goal.make_kept-requires-clause-may
make_kept-requires-clause-may g c =
    let here = (goal.at.make_kept-requires-clause-may g c).In_ok-refusal in
    let view = view_of (plain_history c.self.inside.history.items) in
    let before = c.args.self.now in
    let request = plain_request c.args.request.now in
    let served = rw c.in-Changed.is at (c.in_ok-refusal.ensures.served view c.self.invariant.world_stands) in
    let counted : is_durable (plain_change c.in-Changed.made.change) ≡ true = sym c.is_durable.ensures ∙ c.if-is_durable.true in
    let bounds : AreLimits before.limits.entries before.limits.text before.limits.flush = subst (λ (l : LimitsView). AreLimits l.entries l.text l.flush) (limits_are g here) c.text.ensures.bounds in
    let regular : IsRegular before.history = subst (λ (v : StoreView). IsRegular v.history) c.self.view_is c.self.invariant.regular in
    may_be_kept before.limits before.history c.args.session request (plain_effect c.in-Changed.made) bounds regular c.requires.live
    (allowed_here before c.self.inside.limits view c.args.session request true c.requires.live (limits_are g here) (world_is g here) c.in-Changed.made served)
    (effect_here before c.self.inside.limits view c.args.session request true c.requires.live (limits_are g here) (world_is g here) c.in-Changed.made served)
    counted c.requires.valid c.look_at.ensures

pub make-requires-clause-placed : goal.make-requires-clause-placed
make-requires-clause-placed g c =
    let here = (goal.at.make-requires-clause-placed g c).In_ok-refusal in
    let view = view_of (plain_history c.self.inside.history.items) in
    let before = c.args.self.now in
    let request = plain_request c.args.request.now in
    let served = rw c.in-Changed.is at (c.in_ok-refusal.ensures.served view c.self.invariant.world_stands) in
    served_is_placed before.limits (length (durable_entries before.history)) (world_of before.history) c.args.session request (plain_effect c.in-Changed.made)
    (allowed_here before c.self.inside.limits view c.args.session request true c.requires.live (limits_are g here) (world_is g here) c.in-Changed.made served)
    (effect_here before c.self.inside.limits view c.args.session request true c.requires.live (limits_are g here) (world_is g here) c.in-Changed.made served)

pub returns-in-Refused-clause-steps : goal.returns-in-Refused-clause-steps
returns-in-Refused-clause-steps g c =
    let here = (goal.at.returns-in-Refused-clause-steps g c).In_ok-refusal in
    let view = view_of (plain_history c.self.inside.history.items) in
    let faults = g.D.Disk.fault_count c.args.disk.now in
    let served = rw c.in-Refused.is at (c.in_ok-refusal.ensures.served view c.self.invariant.world_stands) in
    refused_here c.args.self.now c.self.inside.limits view c.args.session (plain_request c.args.request.now) (has_risen faults faults) c.requires.live (limits_are g here) (world_is g here) c.in-Refused.refusal served

pub returns-in-Refused-clause-moments : goal.returns-in-Refused-clause-moments
returns-in-Refused-clause-moments g c = none_comes c.args.self.now c.args.self.now c.args.moment refl refl

pub returns-in-Answered-clause-moments : goal.returns-in-Answered-clause-moments
returns-in-Answered-clause-moments g c = none_comes c.args.self.now c.args.self.now c.args.moment refl refl

pub returns-in-Answered-clause-steps : goal.returns-in-Answered-clause-steps
returns-in-Answered-clause-steps g c =
    let here = (goal.at.returns-in-Answered-clause-steps g c).In_ok-refusal in
    let view = view_of (plain_history c.self.inside.history.items) in
    let faults = g.D.Disk.fault_count c.args.disk.now in
    let served = rw c.in-Answered.is at (c.in_ok-refusal.ensures.served view c.self.invariant.world_stands) in
    answered_here c.args.self.now c.self.inside.limits view c.args.session (plain_request c.args.request.now) (has_risen faults faults) c.requires.live (limits_are g here) (world_is g here) c.in-Answered.reply served

pub returns-in-Changed-clause-steps : goal.returns-in-Changed-clause-steps
returns-in-Changed-clause-steps g c =
    let here = (goal.at.returns-in-Changed-clause-steps g c).In_ok-refusal in
    let view = view_of (plain_history c.self.inside.history.items) in
    let rose = has_risen (g.D.Disk.fault_count c.args.disk.now) (g.D.Disk.fault_count c.make_kept.new.disk) in
    let served = rw c.in-Changed.is at (c.in_ok-refusal.ensures.served view c.self.invariant.world_stands) in
    let counted : is_durable (plain_change c.in-Changed.made.change) ≡ true = sym c.is_durable.ensures ∙ c.if-is_durable.true in
    kept_here c.args.self.now c.self.inside.limits view c.args.session (plain_request c.args.request.now) rose c.requires.live (limits_are g here) (world_is g here) c.in-Changed.made c.make_kept.result
    c.make_kept.new.self.history served counted c.make_kept.ensures.outcome

edit_is : (g : given.Over) (c : After-make_kept g) → IsDurableEntry c.args.self.now.limits c.args.self.now.history c.args.session (plain_request c.args.request.now) (entry_after c.args.self.now.history c.args.session (plain_effect c.in-Changed.made))
edit_is g c =
    let view = view_of (plain_history c.self.inside.history.items) in
    let limits : c.self.inside.limits ≡ c.args.self.now.limits = ap (λ (v : StoreView). v.limits) c.self.view_is in
    let world : view ≡ view_of c.args.self.now.history = ap (λ (v : StoreView). view_of v.history) c.self.view_is in
    let served = rw c.in-Changed.is at (c.in_ok-refusal.ensures.served view c.self.invariant.world_stands) in
    let counted : is_durable (plain_change c.in-Changed.made.change) ≡ true = sym c.is_durable.ensures ∙ c.if-is_durable.true in
    edit_here c.args.self.now c.self.inside.limits view c.args.session (plain_request c.args.request.now) true c.requires.live limits world c.in-Changed.made served counted

pub returns-in-Changed-clause-any_moment : goal.returns-in-Changed-clause-any_moment
returns-in-Changed-clause-any_moment g c pending has =
    edit_leaves c.args.self.now c.make_kept.new.self (g.D.Disk.state c.args.disk.now) (g.D.Disk.state c.make_kept.new.disk) pending c.args.moment c.args.session (plain_request c.args.request.now)
    (entry_after c.args.self.now.history c.args.session (plain_effect c.in-Changed.made)) (edit_is g (goal.at.returns-in-Changed-clause-any_moment g c).After-make_kept) (c.make_kept.ensures.any_moment pending has)

pub returns-in-Changed-clause-keeps : goal.returns-in-Changed-clause-keeps
returns-in-Changed-clause-keeps g c pending has =
    kept_keeps c.args.self.now c.make_kept.new.self (g.D.Disk.state c.args.disk.now) (g.D.Disk.state c.make_kept.new.disk) pending c.args.moment c.args.session (plain_request c.args.request.now)
    (entry_after c.args.self.now.history c.args.session (plain_effect c.in-Changed.made)) (edit_is g (goal.at.returns-in-Changed-clause-keeps g c).After-make_kept) c.make_kept.result (c.make_kept.ensures.keeps pending has)

pub returns-in-Changed-2-clause-steps : goal.returns-in-Changed-2-clause-steps
returns-in-Changed-2-clause-steps g c =
    let here = (goal.at.returns-in-Changed-2-clause-steps g c).In_ok-refusal in
    let view = view_of (plain_history c.self.inside.history.items) in
    let faults = g.D.Disk.fault_count c.args.disk.now in
    let served = rw c.in-Changed.is at (c.in_ok-refusal.ensures.served view c.self.invariant.world_stands) in
    changed_here c.args.self.now c.self.inside.limits view c.args.session (plain_request c.args.request.now) (has_risen faults faults) c.requires.live (limits_are g here) (world_is g here) c.in-Changed.made c.make.result
    c.make.new.self served c.make.ensures.reply c.make.ensures.ok

pub returns-in-Changed-2-clause-keeps : goal.returns-in-Changed-2-clause-keeps
returns-in-Changed-2-clause-keeps g c pending has =
    made_keeps c.args.self.now c.make.new.self (g.D.Disk.state c.args.disk.now) (g.D.Disk.state c.args.disk.now) pending c.args.moment c.args.session (plain_request c.args.request.now) c.make.result
    (entry_after c.args.self.now.history c.args.session (plain_effect c.in-Changed.made)) (sym c.is_durable.ensures ∙ c.if-is_durable.false) c.make.ensures.ok has

pub returns-in-Changed-2-clause-moments : goal.returns-in-Changed-2-clause-moments
returns-in-Changed-2-clause-moments g c =
    made_timed c.args.self.now c.make.new.self c.make.result (entry_after c.args.self.now.history c.args.session (plain_effect c.in-Changed.made)) c.args.moment (sym c.is_durable.ensures ∙ c.if-is_durable.false) c.make.ensures.ok

pub returns-in-Changed-2-clause-trees : goal.returns-in-Changed-2-clause-trees
returns-in-Changed-2-clause-trees g c same =
    made_trees c.args.self.now c.make.new.self c.make.result (entry_after c.args.self.now.history c.args.session (plain_effect c.in-Changed.made)) c.make.ensures.ok c.make.ensures.err

pub returns-in-Changed-2-clause-nodes : goal.returns-in-Changed-2-clause-nodes
returns-in-Changed-2-clause-nodes g c same =
    made_nodes c.args.self.now c.make.new.self c.make.result (entry_after c.args.self.now.history c.args.session (plain_effect c.in-Changed.made)) c.make.ensures.ok c.make.ensures.err

pub returns-in-Changed-2-clause-grown : goal.returns-in-Changed-2-clause-grown
returns-in-Changed-2-clause-grown g c =
    same_grown c.args.self.now.nodes c.make.new.self.nodes (made_nodes c.args.self.now c.make.new.self c.make.result (entry_after c.args.self.now.history c.args.session (plain_effect c.in-Changed.made)) c.make.ensures.ok c.make.ensures.err)

pub returns-in-Changed-2-clause-pages : goal.returns-in-Changed-2-clause-pages
returns-in-Changed-2-clause-pages g c =
    made_pages c.args.self.now c.make.new.self c.make.result (entry_after c.args.self.now.history c.args.session (plain_effect c.in-Changed.made)) c.make.ensures.ok c.make.ensures.err

pub returns-in-Changed-clause-query : goal.returns-in-Changed-clause-query
returns-in-Changed-clause-query g c query =
    let here = (goal.at.returns-in-Changed-clause-query g c).In_ok-refusal in
    let view = view_of (plain_history c.self.inside.history.items) in
    let request = plain_request c.args.request.now in
    let served = rw c.in-Changed.is at (c.in_ok-refusal.ensures.served view c.self.invariant.world_stands) in
    let made = effect_here c.args.self.now c.self.inside.limits view c.args.session request true c.requires.live (limits_are g here) (world_is g here) c.in-Changed.made served in
    let none = query_none (world_of c.args.self.now.history) c.args.session request query in
    absurd (cc (none, made))
