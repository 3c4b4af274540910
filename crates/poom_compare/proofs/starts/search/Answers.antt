use Rattle.std.proofs.Common.{arith, subst, List, length, ◌<◌, ◌≤◌, ◌≡◌}
use Rattle.world_rules.specs.declared.pairs.Pair.{Pair}
use Rattle.poom_compare.specs.declared.segment.Side.TheVariants.{Left, Right}
use Rattle.poom_compare.specs.Segments.{starts_of, all_starts}
use Rattle.poom_compare.proofs.Found.{left_stops, right_stops, both_whole}
use Rattle.poom_compare.proofs.starts.search.Goals as goal

pub returns-then-not-branch : goal.returns-then-not-branch
returns-then-not-branch c =
    left_stops c.in_ok-push_all.field-0 c.new-found.result.items c.push_all.new.found.items (starts_of Left c.args.lefts.now c.args.rights.now) (starts_of Right c.args.rights.now c.args.lefts.now) c.new-found.ensures.items c.in_ok-push_all.ensures c.if-not-branch.true

pub returns-then-not-branch-2 : goal.returns-then-not-branch-2
returns-then-not-branch-2 c =
    right_stops c.in_ok-push_all.field-0 c.in_ok-push_all-2.field-0 c.new-found.result.items c.push_all.new.found.items c.push_all-2.new.found.items (starts_of Left c.args.lefts.now c.args.rights.now) (starts_of Right c.args.rights.now c.args.lefts.now)
    c.new-found.ensures.items c.in_ok-push_all.ensures c.if-not-branch.false c.in_ok-push_all-2.ensures c.if-not-branch-2.true

pub returns-then-len-gt-MOST : goal.returns-then-len-gt-MOST
returns-then-len-gt-MOST c =
    let is : c.push_all-2.new.found.items ≡ all_starts c.args.lefts.now c.args.rights.now =
    both_whole c.in_ok-push_all.field-0 c.in_ok-push_all-2.field-0 c.new-found.result.items c.push_all.new.found.items c.push_all-2.new.found.items (starts_of Left c.args.lefts.now c.args.rights.now) (starts_of Right c.args.rights.now c.args.lefts.now)
    c.new-found.ensures.items c.in_ok-push_all.ensures c.if-not-branch.false c.in_ok-push_all-2.ensures c.if-not-branch-2.false in
    subst (λ (ps : List Pair). 65536 < length ps) is (omega (arith, c.len.ensures, c.push_all-2.new.found.ok.0, c.if-len-gt-MOST.true))

pub returns : goal.returns
returns c =
    let is : c.push_all-2.new.found.items ≡ all_starts c.args.lefts.now c.args.rights.now =
    both_whole c.in_ok-push_all.field-0 c.in_ok-push_all-2.field-0 c.new-found.result.items c.push_all.new.found.items c.push_all-2.new.found.items (starts_of Left c.args.lefts.now c.args.rights.now) (starts_of Right c.args.rights.now c.args.lefts.now)
    c.new-found.ensures.items c.in_ok-push_all.ensures c.if-not-branch.false c.in_ok-push_all-2.ensures c.if-not-branch-2.false in
    (is, subst (λ (ps : List Pair). length ps ≤ 65536) is (omega (arith, c.len.ensures, c.push_all-2.new.found.ok.0, c.if-len-gt-MOST.false)))
