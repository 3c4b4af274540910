-- What is found from behind.
use Rattle.std.proofs.Common.{◌≡◌, ℕ, ◌+◌, ◌<◌, ◌≤◌, ◌∙◌, ◌++◌, ◌∷◌, [], List, length, take, map, ap, sym, subst, arith, All, get_or}
use Rattle.std.specs.Prelude.{Some, None}
use Rattle.std.specs.Global.{Vec}
use Rattle.std.proofs.lemmas.List.{take_all, take_more, map-append, length-map}
use Rattle.std.proofs.lemmas.List.Elements.{All-map}
use Rattle.world_rules.specs.declared.pairs.Pair.{Pair}
use Rattle.poom_compare.specs.declared.segment.Segment.{Segment}
use Rattle.poom_compare.specs.Segments.{IsSegment, IsSmall, AreSegmentsOf, AreEnds, AreFound, AreFoundEnds, flipped_text, flipped_segment, flipped_pair}
use Rattle.poom_compare.proofs.Mirror.{flipped_right, flipped_segments, ends_from}

-- ---- one after another

pub mapped_more : {X Y : Type 0} (f : X → Y) (xs : List X) (k n : ℕ) (d : X) (now new : List Y) → k < length xs → now ≡ map f (take k xs) → new ≡ now ++ f (get_or xs k d) ∷ [] → n ≡ k + 1 → new ≡ map f (take n xs)
mapped_more {Y = Y} f xs k n d now new lt so more next =
    more
    ∙ (ap (λ (ys : List Y). ys ++ f (get_or xs k d) ∷ []) so
    ∙ (sym (map-append f (take k xs) (get_or xs k d ∷ [])) ∙ ap (map f) (sym (ap (λ (m : ℕ). take m xs) next ∙ take_more xs k d lt))))

pub mapped_all : {X Y : Type 0} (f : X → Y) (xs : List X) (k : ℕ) (now : List Y) → length xs ≤ k → now ≡ map f (take k xs) → now ≡ map f xs
mapped_all f xs k now le so = so ∙ ap (map f) (take_all k xs le)

pub segments_right : (list : List Segment) → All IsSegment list → All IsSegment (map flipped_segment list)
segments_right list right = All-map IsSegment flipped_segment list (λ k d within. flipped_right (get_or list k d) (right k d within))

pub pairs_small : (pairs : List Pair) → All IsSmall (map flipped_pair pairs)
pairs_small pairs = All-map IsSmall flipped_pair pairs (λ k d within. record { left = omega arith; right = omega arith })

-- ---- ends

pub none_behind : (lefts rights ls rs : List Segment) → ls ≡ map flipped_segment lefts → rs ≡ map flipped_segment rights → AreFound ls rs None → AreFoundEnds lefts rights None
none_behind lefts rights ls rs is is' more f g are are' =
    let found = more (flipped_text f) (flipped_text g) (subst (AreSegmentsOf (flipped_text f)) (sym is) (flipped_segments f lefts are)) (subst (AreSegmentsOf (flipped_text g)) (sym is') (flipped_segments g rights are')) in
    let long : length (map flipped_pair found.pairs) ≡ length found.pairs = length-map found.pairs flipped_pair in
    let many = found.many in
    record { pairs = map flipped_pair found.pairs; are = ends_from f g lefts rights are are' found.pairs found.are; many = omega arith }

pub found_behind : (lefts rights ls rs : List Segment) (found made : Vec Pair) → ls ≡ map flipped_segment lefts → rs ≡ map flipped_segment rights → AreFound ls rs (Some found) → made.items ≡ map flipped_pair found.items → AreFoundEnds lefts rights (Some made)
found_behind lefts rights ls rs found made is is' all made_is = (
  subst (All IsSmall) (sym made_is) (pairs_small found.items),
  λ f g are are'.
      subst (AreEnds f g) (sym made_is)
      (ends_from f g lefts rights are are' found.items
      (all.2 (flipped_text f) (flipped_text g) (subst (AreSegmentsOf (flipped_text f)) (sym is) (flipped_segments f lefts are)) (subst (AreSegmentsOf (flipped_text g)) (sym is') (flipped_segments g rights are')))),
)

pub ruleset behind = (mapped_more, mapped_all, segments_right, pairs_small, none_behind, found_behind)
