use Rattle.std.proofs.Common.{◌≡◌, ◌≤◌, ◌<◌, ◌+◌, ◌⊎◌, ◌∙◌, inl, true, List, [], ◌∷◌, ◌++◌, Option, ap, refl, sym, subst, length, rules, arith}
use Rattle.febe_data.specs.Plain.{plain_history, plain_change, plain_reply, refused}
use Rattle.entry_codec.specs.Logged.{PlainLogged, made_at_moment, timed}
use Rattle.febe_data.specs.declared.entry.Entry.{Entry}
use Rattle.febe_data.specs.declared.refusal.Refusal.TheVariants.{Disk}
use Rattle.green_io.specs.Disk.{LeavesOnly}
use Rattle.world_rules.specs.FlatView.{view_of}
use Rattle.world_rules.specs.History.{is_live, durable_entries}
use Rattle.world_rules.specs.Legal.{entry_after}
use Rattle.world_rules.specs.PlainEffect.{plain_effect}
use Rattle.edit_log.specs.Images.{IsAppendable}
use Rattle.green_store.specs.Durable.{kept_rows, Keeps, HoldsWith, IsThat}
use Rattle.green_store.specs.inside.{MayBeKept, KeepsEdit}
use Rattle.green_store.specs.StoreView.{StoreView}
use Rattle.tree_world.specs.Nodes.{AllGrown}
use Rattle.green_store.proofs.Paging.{same_grown}
use Rattle.green_store.proofs.Edits.{appendable, has_one_more, stays_pending}
use Rattle.green_store.proofs.Moments.{timed_counted, none_comes, kept_timed}
use Rattle.green_store.proofs.Regulars.{kept_leaves, regular_changed}
use Rattle.green_store.proofs.Stores.{entry_is, history_is, stands_after, same_store, gone_on, has_serial}
use Rattle.green_store.proofs.Unkept.{is_one_more}
use Rattle.green_store.proofs.store.StoreOver.make_kept.Given as given
use Rattle.green_store.proofs.store.StoreOver.make_kept.Goals as goal
use Rattle.green_store.proofs.store.StoreOver.make_kept.Goals.{After-keep, After-push_reserved, After-push_reserved-2}

may_here : (g : given.Over) (c : After-keep g) → MayBeKept (plain_history c.self.inside.history.items) c.args.session (plain_effect c.args.made)
may_here g c = subst (λ (v : StoreView). MayBeKept v.history c.args.session (plain_effect c.args.made)) (sym c.self.view_is) c.requires.may

serial_fits : (g : given.Over) (c : After-keep g) → c.entries_of.result + 1 < 18446744073709551616
serial_fits g c =
    let items = c.self.inside.history.items in
    let enough : 1 ≤ c.reserve.new.self.spare = search rules in
    omega (arith, has_serial items c.reserve.new.self.spare c.args.session enough (omega (arith, ap length c.reserve.ensures.items)), c.entries_of.ensures (view_of (plain_history items)) c.self.invariant.world_stands)

ready : (g : given.Over) (c : After-keep g)
    → IsAppendable (timed (durable_entries (plain_history c.self.inside.history.items)) c.self.inside.moments.items) (made_at_moment (entry_after (plain_history c.self.inside.history.items) c.args.session (plain_effect c.args.made)) c.args.moment)
    c.in_ok-record.record.items
ready g c =
    let h = plain_history c.self.inside.history.items in
    appendable h c.self.inside.moments.items c.args.session c.entries_of.result (plain_effect c.args.made) c.args.moment c.in_ok-record.record.items (may_here g c) c.self.invariant.timed_all c.self.invariant.entries (omega arith) (serial_fits g c)
    (omega arith) (c.entries_of.ensures (view_of h) c.self.invariant.world_stands) c.in_ok-record.ensures

any_moment : (g : given.Over) (c : After-keep g) (pending : Option PlainLogged) → Keeps (g.D.Disk.state c.args.disk.now) c.args.self.now pending
    → LeavesOnly (g.D.Disk.state c.args.disk.now) (g.D.Disk.state c.keep.new.disk) (HoldsWith (kept_rows c.args.self.now) (λ other. IsThat pending other ⊎ (other ≡ made_at_moment (entry_after c.args.self.now.history c.args.session (plain_effect c.args.made)) c.args.moment)))
any_moment g c =
    let h = plain_history c.self.inside.history.items in
    subst (λ (v : StoreView). (pending : Option PlainLogged) → Keeps (g.D.Disk.state c.args.disk.now) v pending → LeavesOnly (g.D.Disk.state c.args.disk.now) (g.D.Disk.state c.keep.new.disk) (HoldsWith (kept_rows v) (λ other. IsThat pending other ⊎ (other ≡ made_at_moment (entry_after v.history c.args.session (plain_effect c.args.made)) c.args.moment))))
    c.self.view_is (λ pending has. c.keep.ensures.any_moment (timed (durable_entries h) c.self.inside.moments.items) pending (made_at_moment (entry_after h c.args.session (plain_effect c.args.made)) c.args.moment) (ready g c) has)

pub returns-in_default-clause-any_moment : goal.returns-in_default-clause-any_moment
returns-in_default-clause-any_moment g c = any_moment g (goal.at.returns-in_default-clause-any_moment g c).After-keep

pub returns-clause-any_moment : goal.returns-clause-any_moment
returns-clause-any_moment g c = any_moment g (goal.at.returns-clause-any_moment g c).After-keep

-- ---- where the disk failed

pub returns-in_default-clause-keeps : goal.returns-in_default-clause-keeps
returns-in_default-clause-keeps g c =
    let d = g.D.Disk.state c.args.disk.now in
    let e = g.D.Disk.state c.keep.new.disk in
    let h = plain_history c.self.inside.history.items in
    let after : StoreView = record { history = plain_history c.reserve.new.self.items; moments = c.reserve-2.new.self.items; limits = c.self.inside.limits; log = c.keep.new.log; trees = g.W.Rebalance.condition c.undo.new.self; base = c.self.inside.base; nodes = g.W.Rebalance.world_nodes c.undo.new.self; flush = c.self.inside.flush; flushed = c.self.inside.flushed } in
    subst (λ (v : StoreView). (pending : Option PlainLogged) → Keeps d v pending → KeepsEdit v pending (made_at_moment (entry_after v.history c.args.session (plain_effect c.args.made)) c.args.moment) after (refused Disk) e)
    c.self.view_is
    (λ pending has. stays_pending (record { history = h; moments = c.self.inside.moments.items; limits = c.self.inside.limits; log = c.self.inside.log; trees = g.W.Rebalance.condition c.self.inside.world; base = c.self.inside.base; nodes = g.W.Rebalance.world_nodes c.self.inside.world; flush = c.self.inside.flush; flushed = c.self.inside.flushed }) after e pending (made_at_moment (entry_after h c.args.session (plain_effect c.args.made)) c.args.moment) (refused Disk) (ap plain_history c.reserve.ensures.items) c.reserve-2.ensures.items refl
    (c.in_default.ensures.pending (timed (durable_entries h) c.self.inside.moments.items) pending (made_at_moment (entry_after h c.args.session (plain_effect c.args.made)) c.args.moment) (ready g (goal.at.returns-in_default-clause-keeps g c).After-keep) has))

pub returns-in_default-clause-moments : goal.returns-in_default-clause-moments
returns-in_default-clause-moments g c =
    none_comes c.args.self.now _ c.args.moment (ap (λ (es : List Entry). durable_entries (plain_history es)) c.reserve.ensures.items ∙ ap (λ (v : StoreView). durable_entries v.history) c.self.view_is)
    (c.reserve-2.ensures.items ∙ ap (λ (v : StoreView). v.moments) c.self.view_is)

pub returns-in_default-clause-trees : goal.returns-in_default-clause-trees
returns-in_default-clause-trees g c same =
    c.undo.ensures.condition (g.W.Rebalance.condition c.self.inside.world) (c.in_ok-undo.ensures.was (view_of (plain_history c.self.inside.history.items)) c.self.invariant.world_stands) ∙ ap (λ (v : StoreView). v.trees) c.self.view_is

pub returns-in_default-clause-nodes : goal.returns-in_default-clause-nodes
returns-in_default-clause-nodes g c same =
    c.undo.ensures.nodes (g.W.Rebalance.world_nodes c.self.inside.world) (c.in_ok-undo.ensures.were (view_of (plain_history c.self.inside.history.items)) c.self.invariant.world_stands) ∙ ap (λ (v : StoreView). v.nodes) c.self.view_is

pub returns-in_default-clause-grown : goal.returns-in_default-clause-grown
returns-in_default-clause-grown g c =
    same_grown c.args.self.now.nodes _ (c.undo.ensures.nodes (g.W.Rebalance.world_nodes c.self.inside.world) (c.in_ok-undo.ensures.were (view_of (plain_history c.self.inside.history.items)) c.self.invariant.world_stands) ∙ ap (λ (v : StoreView). v.nodes) c.self.view_is)

-- ---- where there was no memory for the trees

pub returns-in_err-undo-clause-nodes : goal.returns-in_err-undo-clause-nodes
returns-in_err-undo-clause-nodes g c same = c.in_err-undo.ensures.same_nodes ∙ ap (λ (v : StoreView). v.nodes) c.self.view_is

pub returns-in_err-undo-clause-grown : goal.returns-in_err-undo-clause-grown
returns-in_err-undo-clause-grown g c = same_grown c.args.self.now.nodes _ (c.in_err-undo.ensures.same_nodes ∙ ap (λ (v : StoreView). v.nodes) c.self.view_is)

pub returns-in_err-undo-clause-trees : goal.returns-in_err-undo-clause-trees
returns-in_err-undo-clause-trees g c same = c.in_err-undo.ensures.stays ∙ ap (λ (v : StoreView). v.trees) c.self.view_is

-- ---- where the disk did not fail

history_grows : (g : given.Over) (c : After-push_reserved g) → plain_history c.push_reserved.new.self.items ≡ plain_history c.self.inside.history.items ++ entry_after (plain_history c.self.inside.history.items) c.args.session (plain_effect c.args.made) ∷ []
history_grows g c =
    let items = c.self.inside.history.items in
    let same = entry_is (plain_history items) c.args.session c.entries_of.result (plain_change c.args.made.change) (c.entries_of.ensures (view_of (plain_history items)) c.self.invariant.world_stands) in
    let grows = rw c.reserve.ensures.items at c.push_reserved.ensures.items in
    history_is items c.push_reserved.new.self.items _ (entry_after (plain_history items) c.args.session (plain_effect c.args.made)) grows same

moments_grow : (g : given.Over) (c : After-push_reserved-2 g) → c.push_reserved-2.new.self.items ≡ c.self.inside.moments.items ++ c.args.moment ∷ []
moments_grow g c = rw c.reserve-2.ensures.items at c.push_reserved-2.ensures.items

pub invariant_of-self-2 : goal.invariant_of-self-2
invariant_of-self-2 g c =
    let items = c.self.inside.history.items in
    let h = plain_history items in
    let entry = entry_after h c.args.session (plain_effect c.args.made) in
    let at_keep = (goal.at.invariant_of-self-2 g c).After-keep in
    let may = may_here g at_keep in
    let live : is_live h c.args.session ≡ true = ap (λ (v : StoreView). is_live v.history c.args.session) c.self.view_is ∙ c.requires.live in
    let same = entry_is h c.args.session c.entries_of.result (plain_change c.args.made.change) (c.entries_of.ensures (view_of h) c.self.invariant.world_stands) in
    let after = stands_after (g.W.LookUp.stands c.apply_with_undo.new.self) (view_of h) _ entry same (c.in_ok-undo.ensures.ok (view_of h) c.self.invariant.world_stands) in
    let room : length c.self.inside.live.items ≤ c.push_reserved.new.self.spare = search rules in
    let leaves = kept_leaves (plain_change c.args.made.change) may.counted in
    same_store _ _ _ _ _ _ _ _ _ _ _ (history_grows g (goal.at.invariant_of-self-2 g c).After-push_reserved) (moments_grow g (goal.at.invariant_of-self-2 g c).After-push_reserved-2) refl refl
    (gone_on h _ _ _ c.push_reserved.new.self.spare _ (g.W.LookUp.stands c.apply_with_undo.new.self) _ _ _ entry c.self.invariant live leaves after room
    (regular_changed h c.args.session (plain_effect c.args.made) leaves may.placed c.self.invariant.regular)
    (timed_counted h c.self.inside.moments.items entry c.args.moment may.counted (ready g at_keep).next (c.self.invariant.timed_all, c.self.invariant.entries)))

pub returns-clause-outcome : goal.returns-clause-outcome
returns-clause-outcome g c =
    let pushed = plain_history c.push_reserved.new.self.items in
    let grows : pushed ≡ c.args.self.now.history ++ entry_after c.args.self.now.history c.args.session (plain_effect c.args.made) ∷ [] =
    history_grows g (goal.at.returns-clause-outcome g c).After-push_reserved ∙ ap (λ (v : StoreView). v.history ++ entry_after v.history c.args.session (plain_effect c.args.made) ∷ []) c.self.view_is in
    inl (record { reply_is = refl; grows = grows })

pub returns-clause-moments : goal.returns-clause-moments
returns-clause-moments g c =
    let entry = entry_after c.args.self.now.history c.args.session (plain_effect c.args.made) in
    let grows : plain_history c.push_reserved.new.self.items ≡ c.args.self.now.history ++ entry ∷ [] =
    history_grows g (goal.at.returns-clause-moments g c).After-push_reserved ∙ ap (λ (v : StoreView). v.history ++ entry_after v.history c.args.session (plain_effect c.args.made) ∷ []) c.self.view_is in
    let comes : c.push_reserved-2.new.self.items ≡ c.args.self.now.moments ++ c.args.moment ∷ [] = moments_grow g (goal.at.returns-clause-moments g c).After-push_reserved-2 ∙ ap (λ (v : StoreView). v.moments ++ c.args.moment ∷ []) c.self.view_is in
    kept_timed c.args.self.now _ entry c.args.moment c.requires.may.counted grows comes

pub returns-clause-keeps : goal.returns-clause-keeps
returns-clause-keeps g c =
    let d = g.D.Disk.state c.args.disk.now in
    let e = g.D.Disk.state c.keep.new.disk in
    let h = plain_history c.self.inside.history.items in
    let entry = entry_after h c.args.session (plain_effect c.args.made) in
    let at_keep = (goal.at.returns-clause-keeps g c).After-keep in
    let after : StoreView = record { history = plain_history c.push_reserved.new.self.items; moments = c.push_reserved-2.new.self.items; limits = c.self.inside.limits; log = c.keep.new.log; trees = g.W.Rebalance.condition c.apply_with_undo.new.self; base = c.self.inside.base; nodes = g.W.Rebalance.world_nodes c.apply_with_undo.new.self; flush = c.self.inside.flush; flushed = c.self.inside.flushed } in
    subst (λ (v : StoreView). (pending : Option PlainLogged) → Keeps d v pending → KeepsEdit v pending (made_at_moment (entry_after v.history c.args.session (plain_effect c.args.made)) c.args.moment) after (plain_reply c.args.made.reply) e)
    c.self.view_is
    (λ pending has. inl (has_one_more e c.keep.new.log h (plain_history c.push_reserved.new.self.items) c.self.inside.moments.items c.push_reserved-2.new.self.items entry c.args.moment (may_here g at_keep).counted
    (history_grows g (goal.at.returns-clause-keeps g c).After-push_reserved) (moments_grow g (goal.at.returns-clause-keeps g c).After-push_reserved-2) c.self.invariant.timed_all
    (c.in-Ok.ensures.done (timed (durable_entries h) c.self.inside.moments.items) pending (made_at_moment entry c.args.moment) (ready g at_keep) has)))

pub returns-clause-trees : goal.returns-clause-trees
returns-clause-trees g c same =
    let pushed = plain_history c.push_reserved.new.self.items in
    let entry = entry_after c.args.self.now.history c.args.session (plain_effect c.args.made) in
    let grows : pushed ≡ c.args.self.now.history ++ entry ∷ [] =
    history_grows g (goal.at.returns-clause-trees g c).After-push_reserved ∙ ap (λ (v : StoreView). v.history ++ entry_after v.history c.args.session (plain_effect c.args.made) ∷ []) c.self.view_is in
    absurd (is_one_more c.args.self.now.history pushed entry c.requires.may.counted grows same)

pub returns-clause-nodes : goal.returns-clause-nodes
returns-clause-nodes g c same =
    let pushed = plain_history c.push_reserved.new.self.items in
    let entry = entry_after c.args.self.now.history c.args.session (plain_effect c.args.made) in
    let grows : pushed ≡ c.args.self.now.history ++ entry ∷ [] =
    history_grows g (goal.at.returns-clause-nodes g c).After-push_reserved ∙ ap (λ (v : StoreView). v.history ++ entry_after v.history c.args.session (plain_effect c.args.made) ∷ []) c.self.view_is in
    absurd (is_one_more c.args.self.now.history pushed entry c.requires.may.counted grows same)

pub returns-clause-grown : goal.returns-clause-grown
returns-clause-grown g c = subst (λ (v : StoreView). AllGrown v.nodes (g.W.Rebalance.world_nodes c.apply_with_undo.new.self)) c.self.view_is c.in_ok-undo.ensures.grown
