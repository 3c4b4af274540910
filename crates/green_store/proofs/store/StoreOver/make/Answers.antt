use Rattle.std.proofs.Common.{◌≡◌, ◌≤◌, ◌∙◌, true, [], ◌∷◌, ◌++◌, ap, refl, sym, subst, length, rules}
use Rattle.febe_data.specs.Plain.{plain_history, plain_change}
use Rattle.world_rules.specs.FlatView.{view_of}
use Rattle.world_rules.specs.History.{is_live}
use Rattle.world_rules.specs.Legal.{entry_after}
use Rattle.world_rules.specs.PlainEffect.{plain_effect}
use Rattle.world_rules.specs.Apply.{world_of}
use Rattle.world_rules.specs.Placed.{IsPlaced}
use Rattle.green_store.specs.StoreView.{StoreView, with_one}
use Rattle.green_store.proofs.Moments.{timed_other}
use Rattle.green_store.proofs.Regulars.{regular_changed}
use Rattle.green_store.proofs.Stores.{entry_is, history_is, stands_after, same_store, gone_on, one_more}
use Rattle.green_store.proofs.store.StoreOver.make.Goals as goal

pub invariant_of-self-2 : goal.invariant_of-self-2
invariant_of-self-2 g c =
    let items = c.self.inside.history.items in
    let view = view_of (plain_history items) in
    let stood = c.self.invariant.world_stands in
    let entry = entry_after (plain_history items) c.args.session (plain_effect c.args.made) in
    let live : is_live (plain_history items) c.args.session ≡ true = ap (λ (v : StoreView). is_live v.history c.args.session) c.self.view_is ∙ c.requires.live in
    let placed : IsPlaced (world_of (plain_history items)) (plain_change c.args.made.change) = subst (λ (v : StoreView). IsPlaced (world_of v.history) (plain_change c.args.made.change)) (sym c.self.view_is) c.requires.placed in
    let same = entry_is (plain_history items) c.args.session c.entries_of.result (plain_change c.args.made.change) (c.entries_of.ensures view stood) in
    let after = stands_after (g.W.LookUp.stands c.apply_beside.new.self) view _ entry same (c.in_ok-apply_beside.ensures.ok view stood) in
    let grows = rw c.reserve.ensures.items at c.push_reserved.ensures.items in
    let history : plain_history c.push_reserved.new.self.items ≡ plain_history items ++ entry ∷ [] = history_is items c.push_reserved.new.self.items _ entry grows same in
    let room : length c.self.inside.live.items ≤ c.push_reserved.new.self.spare = search rules in
    same_store _ _ _ _ _ _ _ _ _ _ _ history refl refl refl (gone_on _ _ _ _ c.push_reserved.new.self.spare _ (g.W.LookUp.stands c.apply_beside.new.self) _ _ _ entry c.self.invariant live c.requires.stays after room
    (regular_changed (plain_history items) c.args.session (plain_effect c.args.made) c.requires.stays placed c.self.invariant.regular)
    (timed_other (plain_history items) _ entry c.requires.drops (c.self.invariant.timed_all, c.self.invariant.entries)))

pub returns-clause-ok : goal.returns-clause-ok
returns-clause-ok g c =
    let items = c.self.inside.history.items in
    let view = view_of (plain_history items) in
    let entry = entry_after (plain_history items) c.args.session (plain_effect c.args.made) in
    let same = entry_is (plain_history items) c.args.session c.entries_of.result (plain_change c.args.made.change) (c.entries_of.ensures view c.self.invariant.world_stands) in
    let grows = rw c.reserve.ensures.items at c.push_reserved.ensures.items in
    let history : plain_history c.push_reserved.new.self.items ≡ plain_history items ++ entry ∷ [] = history_is items c.push_reserved.new.self.items _ entry grows same in
    one_more (plain_history items) _ _ _ _ (g.W.Rebalance.condition c.self.inside.world) _ _ (g.W.Rebalance.world_nodes c.self.inside.world) _ _ _ c.args.self.now entry history c.in_ok-apply_beside.ensures.condition c.in_ok-apply_beside.ensures.nodes c.self.view_is ∙ ap (λ (v : StoreView). with_one c.args.self.now (entry_after v.history c.args.session (plain_effect c.args.made))) c.self.view_is
