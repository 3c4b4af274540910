use Rattle.std.proofs.Common.{◌≡◌, ◌≤◌, ◌+◌, ◌∙◌, ◌∷◌, [], ◌++◌, ap, refl, sym, length, rules}
use Rattle.febe_data.specs.Plain.{plain_history}
use Rattle.world_rules.specs.FlatView.{view_of}
use Rattle.green_store.specs.Sessions.{greatest_session, begin_entry}
use Rattle.green_store.specs.StoreView.{StoreView}
use Rattle.green_store.proofs.Stores.{history_is, same_store, begun}
use Rattle.green_store.proofs.store.StoreOver.add_begin.Goals as goal

pub invariant_of-self-2 : goal.invariant_of-self-2
invariant_of-self-2 g c =
    let items = c.self.inside.history.items in
    let next : c.args.session ≡ greatest_session (plain_history items) + 1 = c.requires ∙ ap (λ (v : StoreView). greatest_session v.history + 1) (sym c.self.view_is) in
    let grows = rw c.reserve.ensures.items at c.push_reserved.ensures.items in
    let history : plain_history c.push_reserved.new.self.items ≡ plain_history items ++ begin_entry c.args.session ∷ [] = history_is items c.push_reserved.new.self.items _ (begin_entry c.args.session) grows refl in
    let live : c.push_reserved-2.new.self.items ≡ c.self.inside.live.items ++ c.args.session ∷ [] = rw c.reserve-2.ensures.items at c.push_reserved-2.ensures.items in
    let room : length c.self.inside.live.items + 1 ≤ c.push_reserved.new.self.spare = search rules in
    same_store _ _ _ _ _ _ _ _ _ _ _ history refl refl live
    (begun (plain_history items) _ _ c.push_reserved.new.self.spare _ (g.W.LookUp.stands c.apply_beside.new.self) c.self.inside.live.items _ c.args.session _ c.self.invariant (c.in_ok-apply_beside.ensures.ok (view_of (plain_history items)) c.self.invariant.world_stands) next room)
