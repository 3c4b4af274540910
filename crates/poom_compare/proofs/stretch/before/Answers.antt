use Rattle.std.proofs.Common.{◌≡◌, ℕ, ◌-◌, ◌+◌, sym, ap, subst, ◌∙◌, arith, get_or}
use Rattle.poom_compare.specs.declared.stretch.Stretch.{Stretch}
use Rattle.poom_compare.specs.Placed.{text_of}
use Rattle.poom_compare.proofs.Lists.{same_at}
use Rattle.poom_compare.proofs.Stretches.{text_before, none_before_first, none_before_apart}
use Rattle.poom_compare.proofs.stretch.before.Goals as goal

-- what an index past the end would give
abbrev none : Stretch
none = record { at = 0; first = 0; length = 0 }

pub returns-then-k-eq0 : goal.returns-then-k-eq0
returns-then-k-eq0 c = λ d. sym (none_before_first c.args.stretches.now c.requires.stretches c.args.k d c.if-k-eq0.true c.requires.inside)

pub returns-then-last-stretches : goal.returns-then-last-stretches
returns-then-last-stretches c = λ d.
    subst (λ (s : Stretch). 0 ≡ text_of c.args.stretches.now (s.at - 1)) (same_at c.args.stretches.now c.args.k none d c.requires.inside)
    (sym (none_before_apart c.args.stretches.now c.requires.stretches c.args.k none (omega (arith, c.if-k-eq0.false)) c.requires.inside c.if-last-stretches.true))

pub returns : goal.returns
returns c = λ d.
    subst (λ (s : Stretch). (get_or c.args.stretches.now (c.args.k - 1) none).first + c.from.result - 1 ≡ text_of c.args.stretches.now (s.at - 1)) (same_at c.args.stretches.now c.args.k none d c.requires.inside)
    (sym (text_before c.args.stretches.now c.requires.stretches c.args.k none (omega (arith, c.if-k-eq0.false)) c.requires.inside c.if-last-stretches.false
    ∙ ap (λ (n : ℕ). (get_or c.args.stretches.now (c.args.k - 1) none).first + n - 1) (sym c.from.ensures)))
