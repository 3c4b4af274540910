use Rattle.std.proofs.Common.{◌≡◌, ◌+◌, sym, subst, arith, get_or}
use Rattle.poom_compare.specs.declared.stretch.Stretch.{Stretch}
use Rattle.poom_compare.specs.Placed.{text_of}
use Rattle.poom_compare.proofs.Lists.{same_at}
use Rattle.poom_compare.proofs.Stretches.{text_after, none_after_last, none_after_apart}
use Rattle.poom_compare.proofs.stretch.after.Goals as goal

-- what an index past the end would give
abbrev none : Stretch
none = record { at = 0; first = 0; length = 0 }

pub returns-then-k-stretches : goal.returns-then-k-stretches
returns-then-k-stretches c = λ d. sym (none_after_last c.args.stretches.now c.requires.stretches c.args.k d c.if-k-stretches.true)

pub returns-then-this-next : goal.returns-then-this-next
returns-then-this-next c = λ d.
    subst (λ (s : Stretch). 0 ≡ text_of c.args.stretches.now (s.at + s.length)) (same_at c.args.stretches.now c.args.k none d c.requires.inside)
    (sym (none_after_apart c.args.stretches.now c.requires.stretches c.args.k none (omega (arith, c.if-k-stretches.false, c.requires.inside)) c.if-this-next.true))

pub returns : goal.returns
returns c = λ d.
    subst (λ (s : Stretch). (get_or c.args.stretches.now (c.args.k + 1) none).first ≡ text_of c.args.stretches.now (s.at + s.length)) (same_at c.args.stretches.now c.args.k none d c.requires.inside)
    (sym (text_after c.args.stretches.now c.requires.stretches c.args.k none (omega (arith, c.if-k-stretches.false, c.requires.inside)) c.if-this-next.false))
