use Rattle.std.proofs.Common.{subst}
use Rattle.links.specs.LinkLists.{LinkLists}
use Rattle.links.specs.inside.Kept.{Hold}
use Rattle.links.proofs.Searched.{hold_from, hold_to, hold_three}
use Rattle.links.proofs.links.Links.all_candidates.Goals as goal

pub returns-in-Some : goal.returns-in-Some
returns-in-Some c =
    subst (λ (v : LinkLists). Hold v.links c.args.ends.now c.in_ok-ids.ids.items) c.self.view_is
    (hold_from c.self.inside.table c.args.ends.now c.in-Some.spans c.in_ok-ids.ids.items c.self.inside.from c.ids_ascend.ensures c.in_ok-ids.ensures c.in-Some.is c.self.invariant.1)

pub returns-in-Some-to : goal.returns-in-Some-to
returns-in-Some-to c =
    subst (λ (v : LinkLists). Hold v.links c.args.ends.now c.in_ok-ids-2.ids.items) c.self.view_is
    (hold_to c.self.inside.table c.args.ends.now c.in-Some-to.spans c.in_ok-ids-2.ids.items c.self.inside.to c.ids_ascend.ensures c.in_ok-ids-2.ensures c.in-Some-to.is c.self.invariant.2)

pub returns-in-Some-three : goal.returns-in-Some-three
returns-in-Some-three c =
    subst (λ (v : LinkLists). Hold v.links c.args.ends.now c.in_ok-ids-3.ids.items) c.self.view_is
    (hold_three c.self.inside.table c.args.ends.now c.in-Some-three.spans c.in_ok-ids-3.ids.items c.self.inside.three c.ids_ascend.ensures c.in_ok-ids-3.ensures c.in-Some-three.is c.self.invariant.3)
