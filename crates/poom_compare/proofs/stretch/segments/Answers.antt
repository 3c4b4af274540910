use Rattle.std.proofs.Common.{◌∙◌, ◌++◌, ◌∷◌, [], sym, subst, refl, get_or}
use Rattle.poom_compare.specs.declared.stretch.Stretch.{Stretch}
use Rattle.poom_compare.specs.Segments.{AreSegmentsOf}
use Rattle.poom_compare.specs.Placed.{text_of, segment_of}
use Rattle.poom_compare.proofs.Behind.{mapped_more, mapped_all}
use Rattle.poom_compare.proofs.Stretches.{are_segments}
use Rattle.poom_compare.proofs.stretch.segments.Goals as goal

-- what an index past the end would give
abbrev none : Stretch
none = record { at = 0; first = 0; length = 0 }

pub loop-k-preserved : goal.loop-k-preserved
loop-k-preserved c =
    let s = get_or c.args.stretches.now c.loop-k.k none in
    mapped_more (segment_of c.args.stretches.now) c.args.stretches.now c.loop-k.k _ none c.loop-k.made.items c.push.new.self.items c.loop-k-test.true c.loop-k.invariant
    (c.in_ok-push.ensures.items
    ∙ (λ i. c.loop-k.made.items ++ record { at = s.at; first = s.first; length = s.length; before = c.before-in-loop-k.ensures none i; after = c.after.ensures none i } ∷ [])) refl

pub returns : goal.returns
returns c =
    subst (AreSegmentsOf (text_of c.args.stretches.now)) (sym (mapped_all (segment_of c.args.stretches.now) c.args.stretches.now c.loop-k.k c.loop-k.made.items c.loop-k-test.false c.loop-k.invariant)) (are_segments c.args.stretches.now c.requires)
