-- Fronts of what was written, and what holds of the plain values of a list.
use Rattle.std.proofs.Common.{◌≡◌, ℕ, List, ◌++◌, length, take, drop, append_assoc, All, map, ap, sym, refl, ◌∙◌, Result, Ok, Err}
use Rattle.std.specs.Prelude.{OnErr}
use Rattle.std.specs.Io.{StartsWith}
use Rattle.std.proofs.lemmas.List.{get_or-map, length-map, take_at, take-append-drop}

-- what holds of the plain values holds of what they are taken from
pub each_plain : {X Y : Type 0} (plain : X → Y) (P : Y → Type 0) (xs : List X) → All P (map plain xs) → All (λ x. P (plain x)) xs
each_plain plain P xs h i d lt =
    rw (← get_or-map plain xs i d (plain d) lt) (h i (plain d) (rw length-map lt))

-- what begins with a longer front begins with the shorter one
pub begins : (now then front more : List ℕ) → StartsWith now then → then ≡ front ++ more → StartsWith now front
begins now then front more h e =
    let whole : now ≡ front ++ (more ++ drop (length then) now) = sym (take-append-drop (length then) now) ∙ ap (λ (xs : List ℕ). xs ++ drop (length then) now) (h ∙ e) ∙ append_assoc front more (drop (length then) now) in
    ap (take (length front)) whole ∙ take_at front (more ++ drop (length then) now) (length front) refl

-- what holds anyway holds where there is an error
pub whatever : {T E P : Type 0} (r : Result T E) → P → OnErr r P
whatever (Ok x) p = tt
whatever (Err e) p = p
