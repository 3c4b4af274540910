use Rattle.std.proofs.Common.{ℕ, eqb, refl, arith, ap, sym, inr, true, false}
use Rattle.enfilade_balance.proofs.Places.{part-at}
use Rattle.enfilade_balance.proofs.Rooting.{lone-lighter, lone-root, told-root}
use Rattle.enfilade_balance.proofs.balance.inner_balanced.Goals as goal

pub root_below-requires : goal.root_below-requires
root_below-requires g c =
    let one = c.if-branches-eq1.true in
    part-at g.P.Plane.widths c.args.arena.now c.args.branches.now 0 c.index-branches-0.result c.requires.well_formed record { there = omega (arith, one); is = c.index-branches-0.is }

pub returns-then-branches-eq1-clause-balanced : goal.returns-then-branches-eq1-clause-balanced
returns-then-branches-eq1-clause-balanced g c = record {
  busy = refl;
  dropped = sym (ap (λ (n : ℕ). eqb n 1) c.if-branches-eq1.true);
  lighter = lone-lighter c.args.arena.now c.root_below.new.arena c.args.branches.now 0 c.index-branches-0.result c.in_ok-made.made.0 c.if-branches-eq1.true refl c.index-branches-0.is c.in_ok-made.ensures.root c.in_ok-made.ensures.owes;
}

pub returns-then-branches-eq1-clause-one : goal.returns-then-branches-eq1-clause-one
returns-then-branches-eq1-clause-one g c =
    let one = c.if-branches-eq1.true in
    lone-root c.args.arena.now c.root_below.new.arena c.args.branches.now 0 c.index-branches-0.result c.in_ok-made.made.0 one refl c.index-branches-0.is c.in_ok-made.ensures.grows
    (part-at g.P.Plane.widths c.args.arena.now c.args.branches.now 0 c.index-branches-0.result c.requires.well_formed record { there = omega (arith, one); is = c.index-branches-0.is }).branch.below c.in_ok-made.ensures.is

pub returns-then-is_split-clause-one : goal.returns-then-is_split-clause-one
returns-then-is_split-clause-one g c =
    inr (told-root g.P.Plane.widths c.branches_stepped.new.arena c.root_over.new.arena c.in_ok-branches.field-0.is_split true c.args.branches.now c.in_ok-branches.field-0.branches.items c.in_ok-made-3.made.0 c.in_ok-branches.ensures.steps c.if-is_split.true
    c.root_over.ensures.grows c.in_ok-made-3.ensures.is)

pub returns-clause-one : goal.returns-clause-one
returns-clause-one g c =
    (told-root g.P.Plane.widths c.branches_stepped.new.arena c.root_over.new.arena c.in_ok-branches.field-0.is_split false c.args.branches.now c.in_ok-branches.field-0.branches.items c.in_ok-made-3.made.0 c.in_ok-branches.ensures.steps c.if-is_split.false
    c.root_over.ensures.grows c.in_ok-made-3.ensures.is)
