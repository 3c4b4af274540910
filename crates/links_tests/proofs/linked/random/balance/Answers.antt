use Rattle.std.proofs.Common.{◌≡◌, ◌∙◌, ℕ, ◌+◌, ◌≤◌, List, length, take, ap, sym, subst, arith, length-append}
use Rattle.std.proofs.lemmas.List.{take-append-le}
use Rattle.enfilade_core.specs.declared.tree.TreeMark.{TreeMark}
use Rattle.enfilade_core.specs.Exchange.{Grows}
use Rattle.spanfilade.specs.Index.{IndexTree, at_mark}
use Rattle.world_rules.specs.World.{LinkRow}
use Rattle.links.specs.LinkLists.{HoldsRuns, removed}
use Rattle.links_tests.proofs.linked.random.balance.Goals as goal

still_long : (old new : IndexTree) (count : ℕ) → Grows old.nodes new.nodes → count ≤ length old.nodes → count ≤ length new.nodes
still_long old new count grows le =
    let long : length new.nodes ≡ length old.nodes + length grows.more = ap length grows.is ∙ length-append old.nodes grows.more in
    omega (arith, le, long)

at_same_mark : (mark : TreeMark) (old new : IndexTree) → Grows old.nodes new.nodes → mark.count ≤ length old.nodes → at_mark mark new ≡ at_mark mark old
at_same_mark mark old new grows le = λ i. record { nodes = (ap (take mark.count) grows.is ∙ take-append-le mark.count old.nodes grows.more le) i; root = mark.root }

holds_still : (end : ℕ) (id : List ℕ) (mark : TreeMark) (links now : List LinkRow) (old new : IndexTree) → now ≡ links → Grows old.nodes new.nodes → mark.count ≤ length old.nodes → HoldsRuns end (removed links id) (at_mark mark old) → HoldsRuns end (removed now id) (at_mark mark new)
holds_still end id mark links now old new same grows le holds =
    subst (HoldsRuns end (removed now id)) (sym (at_same_mark mark old new grows le)) (subst (λ (ls : List LinkRow). HoldsRuns end (removed ls id) (at_mark mark old)) (sym same) holds)

pub returns-clause-counted : goal.returns-clause-counted
returns-clause-counted g c =
    let marks = c.args.last.now.marks in
    let old = c.args.links.now in
    let new = c.balance.new.self in
    let grow = c.balance.ensures.grows in
    let counted = c.requires.counted in (
      still_long old.from new.from marks.from.count grow.from counted.0,
      still_long old.to new.to marks.to.count grow.to counted.1,
      still_long old.three new.three marks.three.count grow.three counted.2,
    )

pub returns-clause-from : goal.returns-clause-from
returns-clause-from g c =
    let last = c.args.last.now in
    let old = c.args.links.now in
    let new = c.balance.new.self in
    holds_still 1 last.id last.marks.from old.links new.links old.from new.from c.balance.ensures.links c.balance.ensures.grows.from c.requires.counted.0 c.requires.from

pub returns-clause-to : goal.returns-clause-to
returns-clause-to g c =
    let last = c.args.last.now in
    let old = c.args.links.now in
    let new = c.balance.new.self in
    holds_still 2 last.id last.marks.to old.links new.links old.to new.to c.balance.ensures.links c.balance.ensures.grows.to c.requires.counted.1 c.requires.to

pub returns-clause-three : goal.returns-clause-three
returns-clause-three g c =
    let last = c.args.last.now in
    let old = c.args.links.now in
    let new = c.balance.new.self in
    holds_still 3 last.id last.marks.three old.links new.links old.three new.three c.balance.ensures.links c.balance.ensures.grows.three c.requires.counted.2 c.requires.three
