use Rattle.std.proofs.Common.{◌≡◌, ◌∙◌, ℕ, List, not, ap, sym, subst, take}
use Rattle.std.specs.List.{All, flat_map}
use Rattle.std.proofs.lemmas.List.Elements.{All-filter}
use Rattle.std.proofs.lemmas.Result.{IfOk-weaker}
use Rattle.tumbler.specs.ListView.{ListView}
use Rattle.tumbler.specs.Places.{comes_before}
use Rattle.tumbler.specs.declared.span.Span.{Span}
use Rattle.world_rules.specs.World.{LinkRow}
use Rattle.links.specs.LinkLists.{LinkLists, IsLink}
use Rattle.links.specs.Finding.{found_in}
use Rattle.links.specs.inside.Kept.{shown, taken, taken_at, Hold}
use Rattle.links.proofs.JoinedEnds.{found_the_same}
use Rattle.links.proofs.Searched.{found_above, found_by_ids, some_holds}
use Rattle.links.proofs.links.Links.find.Goals as goal

pub found_in_order-requires-clause-links : goal.found_in_order-requires-clause-links
found_in_order-requires-clause-links c =
    subst (All IsLink) (sym c.not_before-links.ensures) (All-filter (λ (l : LinkRow). not (comes_before l.id c.args.after.now)) IsLink c.self.inside.table c.self.invariant.0)

pub returns-in_default : goal.returns-in_default
returns-in_default c =
    let homes = c.as_slice-homes.result.now in
    IfOk-weaker c.found_in_order.result
    (λ (found : ListView (List ℕ)). found.items ≡ take c.args.limit (flat_map (λ boxed. taken homes c.in_ok-wanted.wanted c.args.after.now (shown boxed)) c.not_before-links.result.now))
    (λ (found : ListView (List ℕ)). found.items ≡ found_in c.args.self.now.links c.args.homes.now.items c.args.ends.now c.args.after.now c.args.limit)
    (λ found is.
    found_above homes c.in_ok-wanted.wanted c.args.after.now c.args.limit c.self.inside.table c.not_before-links.result.now found.items c.not_before-links.ensures is
    ∙ ap (λ (v : LinkLists). found_in v.links homes c.in_ok-wanted.wanted c.args.after.now c.args.limit) c.self.view_is
    ∙ ap (λ (hs : List Span). found_in c.args.self.now.links hs c.in_ok-wanted.wanted c.args.after.now c.args.limit) c.as_slice-homes.ensures
    ∙ found_the_same c.args.self.now.links c.args.homes.now.items c.in_ok-wanted.wanted c.args.ends.now c.args.after.now c.args.limit c.in_ok-wanted.ensures.same)
    c.found_in_order.ensures

pub returns : goal.returns
returns c =
    let homes = c.as_slice-homes.result.now in
    let links = ap (λ (v : LinkLists). v.links) c.self.view_is in
    let held : Hold c.args.self.now.links c.in_ok-wanted.wanted c.in-Some.ids.items = some_holds (λ (ids : ListView (List ℕ)). Hold c.args.self.now.links c.in_ok-wanted.wanted ids.items) c.in_ok-ids.field-0 c.in-Some.ids c.in-Some.is c.in_ok-ids.ensures in
    let hold : Hold c.self.inside.table c.in_ok-wanted.wanted c.in-Some.ids.items = subst (λ (ls : List LinkRow). Hold ls c.in_ok-wanted.wanted c.in-Some.ids.items) (sym links) held in
    IfOk-weaker c.found_among.result (λ (found : ListView (List ℕ)). found.items ≡ take c.args.limit (flat_map (taken_at c.self.inside.table homes c.in_ok-wanted.wanted c.args.after.now) c.as_slice.result.now))
    (λ (found : ListView (List ℕ)). found.items ≡ found_in c.args.self.now.links c.args.homes.now.items c.args.ends.now c.args.after.now c.args.limit)
    (λ found is.
    found_by_ids homes c.in_ok-wanted.wanted c.args.after.now c.args.limit c.self.inside.table c.in-Some.ids.items found.items c.ids_ascend.ensures hold
    (is ∙ ap (λ (ids : List (List ℕ)). take c.args.limit (flat_map (taken_at c.self.inside.table homes c.in_ok-wanted.wanted c.args.after.now) ids)) c.as_slice.ensures)
    ∙ ap (λ (v : LinkLists). found_in v.links homes c.in_ok-wanted.wanted c.args.after.now c.args.limit) c.self.view_is
    ∙ ap (λ (hs : List Span). found_in c.args.self.now.links hs c.in_ok-wanted.wanted c.args.after.now c.args.limit) c.as_slice-homes.ensures
    ∙ found_the_same c.args.self.now.links c.args.homes.now.items c.in_ok-wanted.wanted c.args.ends.now c.args.after.now c.args.limit c.in_ok-wanted.ensures.same)
    c.found_among.ensures
