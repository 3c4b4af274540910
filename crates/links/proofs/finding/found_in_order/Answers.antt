use Rattle.std.proofs.Common.{◌∙◌, ◌++◌, ◌<◌, ◌≤◌, length, ap, sym, subst, arith}
use Rattle.links.specs.LinkLists.{IsLink, plain_link}
use Rattle.links.specs.declared.row.LinkRow as kept
use Rattle.links.specs.inside.Kept.{shown, taken}
use Rattle.links.proofs.ListSteps.{step_taken, stop_taken, all_taken}
use Rattle.links.proofs.Searched.{taken-short, link_there}
use Rattle.links.proofs.finding.found_in_order.Goals as goal

pub returns-then-len-limit : goal.returns-then-len-limit
returns-then-len-limit c =
    let full : c.args.limit ≤ length c.loop-link.found.items = let le = c.if-len-limit.true in let is = c.len.ensures in omega (arith, le, is) in
    stop_taken (λ boxed. taken c.args.homes.now c.args.ends.now c.args.after.now (shown boxed)) (λ boxed. taken-short c.args.homes.now c.args.ends.now c.args.after.now (shown boxed)) c.args.limit c.args.links.now c.loop-link.link-index c.loop-link.found.items c.loop-link.invariant full

pub take_link-requires-clause-link : goal.take_link-requires-clause-link
take_link-requires-clause-link c = subst (λ (link : kept.LinkRow). IsLink (plain_link link)) (sym c.deref.ensures) (link_there c.args.links.now c.loop-link.link-index c.link-item.result c.requires.links c.loop-link-test.true c.link-item.is)

pub loop-link-preserved : goal.loop-link-preserved
loop-link-preserved c =
    let room : length c.loop-link.found.items < c.args.limit = let lt = c.if-len-limit.false in let is = c.len.ensures in omega (arith, lt, is) in
    step_taken (λ boxed. taken c.args.homes.now c.args.ends.now c.args.after.now (shown boxed)) (λ boxed. taken-short c.args.homes.now c.args.ends.now c.args.after.now (shown boxed)) c.args.limit c.args.links.now c.loop-link.link-index c.link-item.result c.loop-link.found.items c.take_link.new.found.items
    c.loop-link-test.true c.link-item.is c.loop-link.invariant room (c.in_ok-take_link.ensures ∙ ap (λ (link : kept.LinkRow). c.loop-link.found.items ++ taken c.args.homes.now c.args.ends.now c.args.after.now (plain_link link)) c.deref.ensures)

pub returns : goal.returns
returns c =
    all_taken (λ boxed. taken c.args.homes.now c.args.ends.now c.args.after.now (shown boxed)) (λ boxed. taken-short c.args.homes.now c.args.ends.now c.args.after.now (shown boxed)) c.args.limit c.args.links.now c.loop-link.link-index c.loop-link.found.items c.loop-link.invariant c.loop-link-test.false
