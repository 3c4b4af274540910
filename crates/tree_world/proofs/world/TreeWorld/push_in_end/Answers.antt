use Rattle.std.proofs.Common.{◌∙◌, List, All, ap, sym, subst}
use Rattle.poom_compare.specs.declared.positions.Interval.{Interval}
use Rattle.poom_compare.specs.Placed.{is_in_some, IsInterval, AreApart}
use Rattle.tree_world.specs.inside.Reads.{links_for}
use Rattle.tree_world.proofs.InEnds.{pushed_in_end}
use Rattle.tree_world.proofs.world.TreeWorld.push_in_end.Goals as goal

pub numbers_between-own-requires : goal.numbers_between-own-requires
numbers_between-own-requires c =
    let are = c.in_ok-find_numbers.ensures c.args.placed.now.document c.requires.within.extent c.in-Some.numbers.now c.requires.within.there (sym c.in-Some.ensures.value) in
    record { each = subst (All (IsInterval 4294967295)) (sym c.as_slice.ensures.value) are.each; apart = subst AreApart (sym c.as_slice.ensures.value) are.apart }

pub returns : goal.returns
returns c =
    let are = c.in_ok-find_numbers.ensures c.args.placed.now.document c.requires.within.extent c.in-Some.numbers.now c.requires.within.there (sym c.in-Some.ensures.value) in
    record {
      known = c.in_ok-find_numbers.ensures;
      each = c.in_ok-push_met.ensures.each;
      same = λ n.
          pushed_in_end c.args.end (links_for c.args.self.now c.args.account.now) c.args.placed.now c.requires.within.extent c.in-Some.numbers.now.items c.numbers_between-own.result.now c.args.made.now.items c.push_met.new.made.items n are c.requires.within.from c.requires.within.to
          (λ m from to. c.numbers_between-own.ensures m from to ∙ ap (λ (l : List Interval). is_in_some l m) c.as_slice.ensures.value) (c.in_ok-push_met.ensures.same n);
    }
