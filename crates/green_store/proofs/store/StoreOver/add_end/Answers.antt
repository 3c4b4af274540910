use Rattle.std.proofs.Common.{◌≡◌, ◌+◌, ◌≤◌, ◌^◌, ◌<◌, ◌∙◌, true, [], ◌∷◌, ◌++◌, ap, refl, arith}
use Rattle.febe_data.specs.Plain.{plain_history, ended}
use Rattle.world_rules.specs.FlatView.{entries_in, view_of}
use Rattle.world_rules.specs.History.{is_live}
use Rattle.green_store.specs.Sessions.{end_entry}
use Rattle.green_store.specs.StoreView.{StoreView, with_one}
use Rattle.green_store.proofs.Legals.{done}
use Rattle.green_store.proofs.Stores.{end_has_room, has_serial, has_room, entry_is, history_is, stands_after, same_store, over, one_more}
use Rattle.green_store.proofs.store.StoreOver.add_end.Goals as goal

pub overflow_add-end : goal.overflow_add-end
overflow_add-end g c =
    let items = c.self.inside.history.items in
    let view = view_of (plain_history items) in
    let live : is_live (plain_history items) c.args.session ≡ true = ap (λ (v : StoreView). is_live v.history c.args.session) c.self.view_is ∙ c.requires in
    let enough : 1 ≤ c.self.inside.history.spare = end_has_room _ _ _ _ _ _ c.args.session _ c.self.invariant live in
    let fits : entries_in view.sessions c.args.session + 1 < 2 ^ 64 = has_serial items c.self.inside.history.spare c.args.session enough (omega arith) in
    omega (arith, fits, c.entries_of.ensures view c.self.invariant.world_stands)

pub invariant_of-self : goal.invariant_of-self
invariant_of-self g c =
    let items = c.self.inside.history.items in
    let view = view_of (plain_history items) in
    let end = end_entry (plain_history items) c.args.session in
    let stood = c.self.invariant.world_stands in
    let live : is_live (plain_history items) c.args.session ≡ true = ap (λ (v : StoreView). is_live v.history c.args.session) c.self.view_is ∙ c.requires in
    let enough : 1 ≤ c.self.inside.history.spare = end_has_room _ _ _ _ _ _ c.args.session _ c.self.invariant live in
    let room = has_room items c.self.inside.history.spare c.args.session live enough (omega arith) in
    let same = entry_is (plain_history items) c.args.session c.entries_of.result ended (c.entries_of.ensures view stood) in
    let after = stands_after (g.W.LookUp.stands c.apply_beside.new.self) view _ end same (done c.apply_beside.result _ (c.apply_beside.ensures.in_place view stood tt room) (c.apply_beside.ensures.ok view stood)) in
    let history : plain_history c.push_reserved.new.self.items ≡ plain_history items ++ end ∷ [] = history_is items c.push_reserved.new.self.items _ end c.push_reserved.ensures.items same in
    same_store _ _ _ _ _ c.push_reserved.new.self.spare _ _ _ _ _ history refl c.push_reserved.ensures.spare c.remove.ensures (over _ _ _ _ (g.W.LookUp.stands c.apply_beside.new.self) _ _ c.args.session _ c.self.invariant live after)

pub returns : goal.returns
returns g c =
    let items = c.self.inside.history.items in
    let view = view_of (plain_history items) in
    let end = end_entry (plain_history items) c.args.session in
    let same = entry_is (plain_history items) c.args.session c.entries_of.result ended (c.entries_of.ensures view c.self.invariant.world_stands) in
    let history : plain_history c.push_reserved.new.self.items ≡ plain_history items ++ end ∷ [] = history_is items c.push_reserved.new.self.items _ end c.push_reserved.ensures.items same in
    one_more (plain_history items) _ _ _ _ (g.W.Rebalance.condition c.self.inside.world) _ _ (g.W.Rebalance.world_nodes c.self.inside.world) _ _ _ c.args.self.now end history c.apply_beside.ensures.condition c.apply_beside.ensures.nodes c.self.view_is ∙ ap (λ (v : StoreView). with_one c.args.self.now (end_entry v.history c.args.session)) c.self.view_is
