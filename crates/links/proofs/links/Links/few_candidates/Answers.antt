use Rattle.std.proofs.Common.{◌≡◌, ℕ, List, subst}
use Rattle.tumbler.specs.ListView.{ListView}
use Rattle.spanfilade.specs.Index.{rows_in_index}
use Rattle.spanfilade.specs.Keys.{keys_met}
use Rattle.links.specs.LinkLists.{LinkLists}
use Rattle.links.specs.inside.Kept.{Hold}
use Rattle.links.proofs.Searched.{hold_from, hold_to, hold_three, some_holds}
use Rattle.links.proofs.links.Links.few_candidates.Goals as goal

pub returns-in-Some-2 : goal.returns-in-Some-2
returns-in-Some-2 c =
    subst (λ (v : LinkLists). Hold v.links c.args.ends.now c.in-Some-2.ids.items) c.self.view_is
    (hold_from c.self.inside.table c.args.ends.now c.in-Some.spans c.in-Some-2.ids.items c.self.inside.from c.ids_ascend.ensures
    (some_holds (λ (ids : ListView (List ℕ)). ids.items ≡ keys_met c.in-Some.spans.items (rows_in_index c.self.inside.from)) c.in_ok-ids.field-0 c.in-Some-2.ids c.in-Some-2.is c.in_ok-ids.ensures.keys)
    c.in-Some.is c.self.invariant.1)

pub returns-in-Some-3 : goal.returns-in-Some-3
returns-in-Some-3 c =
    subst (λ (v : LinkLists). Hold v.links c.args.ends.now c.in-Some-3.ids.items) c.self.view_is
    (hold_to c.self.inside.table c.args.ends.now c.in-Some-to.spans c.in-Some-3.ids.items c.self.inside.to c.ids_ascend.ensures
    (some_holds (λ (ids : ListView (List ℕ)). ids.items ≡ keys_met c.in-Some-to.spans.items (rows_in_index c.self.inside.to)) c.in_ok-ids-2.field-0 c.in-Some-3.ids c.in-Some-3.is c.in_ok-ids-2.ensures.keys)
    c.in-Some-to.is c.self.invariant.2)

pub returns-in-Some-4 : goal.returns-in-Some-4
returns-in-Some-4 c =
    subst (λ (v : LinkLists). Hold v.links c.args.ends.now c.in-Some-4.ids.items) c.self.view_is
    (hold_three c.self.inside.table c.args.ends.now c.in-Some-three.spans c.in-Some-4.ids.items c.self.inside.three c.ids_ascend.ensures
    (some_holds (λ (ids : ListView (List ℕ)). ids.items ≡ keys_met c.in-Some-three.spans.items (rows_in_index c.self.inside.three)) c.in_ok-ids-3.field-0 c.in-Some-4.ids c.in-Some-4.is c.in_ok-ids-3.ensures.keys)
    c.in-Some-three.is c.self.invariant.3)
