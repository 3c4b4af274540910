use Rattle.std.proofs.Common.{◌≡◌, ◌≤◌, ◌∙◌, ◌++◌, ◌∷◌, [], All, List, ap, refl, sym, subst, arith}
use Rattle.std.specs.Prelude.{◌⊎◌}
use Rattle.std.specs.List.{list_any}
use Rattle.poom_compare.specs.declared.positions.Interval.{Interval}
use Rattle.poom_compare.specs.Placed.{is_in, is_in_some, IsInterval, AreApart}
use Rattle.poom_compare.proofs.Lists.{all_last}
use Rattle.poom_compare.proofs.IntervalSteps.{NotBehind, longer_apart, longer_behind, longer_each, longer_same, more_apart}
use Rattle.poom_compare.proofs.positions.push_joined.Goals as goal

pub returns-then-interval-last : goal.returns-then-interval-last
returns-then-interval-last c =
    let long = c.args.length in
    let interval = c.args.interval in
    let xs = c.pop.new.self.items in
    let last = c.in-Some.last in
    let to = c.max.result in
    let longer : Interval = record { from = last.from; to = to } in
    let old_is : c.args.made.now.items ≡ xs ++ last ∷ [] = c.in-Some.ensures.items in
    let new_is : c.push-then-interval-last.new.self.items ≡ xs ++ longer ∷ [] = c.in_ok-push-2.ensures.items in
    let each = subst (All (IsInterval long)) old_is c.requires.each in
    let apart = subst AreApart old_is c.requires.apart in
    let behind = subst (All (NotBehind interval.from)) old_is c.requires.behind in
    let is = all_last (IsInterval long) xs last each in
    let le : last.to ≤ to = omega (arith, c.max.ensures) in
    let le' : interval.to ≤ to = omega (arith, c.max.ensures) in
    let which : (to ≡ last.to) ⊎ (to ≡ interval.to) = grind (arith, c.max.ensures) in
    record {
      each = subst (All (IsInterval long)) (sym new_is) (longer_each long xs last interval to each c.requires.interval le which);
      apart = subst AreApart (sym new_is) (longer_apart xs last longer apart refl);
      behind = subst (All (NotBehind interval.from)) (sym new_is) (longer_behind xs last longer interval.from behind refl);
      same = λ n.
          ap (λ (l : List Interval). is_in_some l n) new_is
          ∙ (longer_same xs last interval to is.some c.requires.interval.some (all_last (NotBehind interval.from) xs last behind) c.if-interval-last.true le le' which n ∙ ap (λ (l : List Interval). list_any (is_in n) (l ++ interval ∷ [])) (sym old_is));
    }

pub returns-clause-apart : goal.returns-clause-apart
returns-clause-apart c =
    let long = c.args.length in
    let xs = c.pop.new.self.items in
    let last = c.in-Some.last in
    let old_is : c.args.made.now.items ≡ xs ++ last ∷ [] = c.in-Some.ensures.items in
    let new_is : c.push-3.new.self.items ≡ (xs ++ last ∷ []) ++ c.args.interval ∷ [] = c.in_ok-push-4.ensures.items ∙ ap (λ (l : List Interval). l ++ c.args.interval ∷ []) c.in_ok-push-3.ensures.items in
    subst AreApart (sym new_is) (more_apart long xs last c.args.interval (subst AreApart old_is c.requires.apart) (subst (All (IsInterval long)) old_is c.requires.each) c.if-interval-last.false)
