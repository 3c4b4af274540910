-- Reading places one after the other, as a loop does.
use Rattle.std.proofs.Common.{◌≡◌, ℕ, suc, ◌-◌, ◌+◌, ◌≤◌, ◌<◌, ◌⊎◌, Bool, true, false, List, [], ◌∷◌, ◌++◌, length, get_or, drop, Option, Some, None, refl, sym, ap, subst, ◌∙◌, append_assoc, arith, inl, inr}
use Rattle.std.specs.Prelude.{◌==◌, ◌||◌, not}
use Rattle.tumbler.specs.Places.{place}
use Rattle.std.proofs.lemmas.List.{append-nil}
use Rattle.std.proofs.lemmas.Bool.{ne_eqb, eq-eqb}
use Rattle.febe_fields.specs.Reading.{◌>>=◌, after, digits_at, places_at, ends_well, all_places_at, tumbler_at}

-- what was read before, and what is still read
abbrev pub with_prefix : List ℕ → Option (List ℕ × List ℕ) → Option (List ℕ × List ℕ)
with_prefix prefix read = read >>= λ x. Some (prefix ++ x.0, x.1)

regroup : (prefix : List ℕ) (n : ℕ) (read : Option (List ℕ × List ℕ)) → with_prefix prefix (read >>= λ x. Some (n ∷ x.0, x.1)) ≡ with_prefix (prefix ++ n ∷ []) read
regroup prefix n (Some x) = ap (λ (ns : List ℕ). Some (ns, x.1)) (simp append_assoc)
regroup prefix n None = refl

pub goes_on : (prefix : List ℕ) (room i : ℕ) (bytes : List ℕ) (n : ℕ) (behind : List ℕ) (total : Option (List ℕ × List ℕ)) → i < room → digits_at bytes ≡ Some (n, behind)
    → with_prefix prefix (places_at (room - i) (46 ∷ bytes)) ≡ total → with_prefix (prefix ++ n ∷ []) (places_at (room - (i + 1)) behind) ≡ total
unfolding places_at
goes_on prefix room i bytes n behind total lt h so_far =
    let k : room - i ≡ suc (room - (i + 1)) = omega arith in
    let one : with_prefix prefix (places_at (room - i) (46 ∷ bytes)) ≡ with_prefix (prefix ++ n ∷ []) (places_at (room - (i + 1)) behind) = rw (k, h) (regroup prefix n (places_at (room - (i + 1)) behind)) in
    sym one ∙ so_far

pub fails : (prefix : List ℕ) (room i : ℕ) (bytes : List ℕ) (total : Option (List ℕ × List ℕ)) → i < room → digits_at bytes ≡ None
    → with_prefix prefix (places_at (room - i) (46 ∷ bytes)) ≡ total → total ≡ None
unfolding places_at
fails prefix room i bytes total lt h so_far =
    let k : room - i ≡ suc (room - (i + 1)) = omega arith in
    let one : with_prefix prefix (places_at (room - i) (46 ∷ bytes)) ≡ None = rw (k, h) refl in
    sym so_far ∙ one

pub is_full : (prefix : List ℕ) (room i : ℕ) (bytes : List ℕ) (total : Option (List ℕ × List ℕ)) → room ≤ i → with_prefix prefix (places_at (room - i) bytes) ≡ total → total ≡ Some (prefix, bytes)
unfolding places_at
is_full prefix room i bytes total le so_far =
    let k : room - i ≡ 0 = omega arith in
    let one : with_prefix prefix (places_at (room - i) bytes) ≡ Some (prefix, bytes) = rw k (ap (λ (ns : List ℕ). Some (ns, bytes)) (append-nil prefix)) in
    sym so_far ∙ one

pub ends_early : (prefix : List ℕ) (room i : ℕ) (b : ℕ) (bytes : List ℕ) (total : Option (List ℕ × List ℕ)) → i < room → (b ≡ 46 → ⊥)
    → with_prefix prefix (places_at (room - i) (b ∷ bytes)) ≡ total → total ≡ Some (prefix, b ∷ bytes)
unfolding places_at
ends_early prefix room i b bytes total lt other so_far =
    let k : room - i ≡ suc (room - (i + 1)) = omega arith in
    let test = ne_eqb b 46 other in
    let one : with_prefix prefix (places_at (room - i) (b ∷ bytes)) ≡ Some (prefix, b ∷ bytes) = rw (k, test) (ap (λ (ns : List ℕ). Some (ns, b ∷ bytes)) (append-nil prefix)) in
    sym so_far ∙ one

pub ends_all : (prefix : List ℕ) (room i : ℕ) (total : Option (List ℕ × List ℕ)) → i < room
    → with_prefix prefix (places_at (room - i) []) ≡ total → total ≡ Some (prefix, [])
unfolding places_at
ends_all prefix room i total lt so_far =
    let k : room - i ≡ suc (room - (i + 1)) = omega arith in
    let one : with_prefix prefix (places_at (room - i) []) ≡ Some (prefix, []) = rw k (ap (λ (ns : List ℕ). Some (ns, [])) (append-nil prefix)) in
    sym so_far ∙ one

-- one more place, as the code reads it
pub goes_on_at : (prefix : List ℕ) (room i : ℕ) (rest : List ℕ) (n : ℕ) (behind : List ℕ) (total : Option (List ℕ × List ℕ)) → i < room → 1 ≤ length rest → get_or rest 0 0 ≡ 46
    → digits_at (drop 1 rest) ≡ Some (n, behind) → with_prefix prefix (places_at (room - i) rest) ≡ total → with_prefix (prefix ++ n ∷ []) (places_at (room - (i + 1)) behind) ≡ total
goes_on_at prefix room i [] n behind total lt long dot h so_far = absurd (omega arith)
goes_on_at prefix room i (b ∷ rest) n behind total lt long dot h so_far =
    goes_on prefix room i rest n behind total lt h (subst (λ (d : ℕ). with_prefix prefix (places_at (room - i) (d ∷ rest)) ≡ total) dot so_far)

or_is_false : (a b : Bool) → a ≡ false → b ≡ true → (a || not b) ≡ false
or_is_false a b e f = rw (e, f) refl

-- a list of places that ends badly
pub ends_badly : (places : List ℕ) → (24 < length places) ⊎ ((0 < length places) × (place places (length places - 1) ≡ 0)) → length places ≤ 24 → ends_well places ≡ false
ends_badly places (inl long) few = absurd (omega arith)
ends_badly places (inr (some, last)) few = or_is_false (length places == 0) (place places (length places - 1) == 0) (ne_eqb _ _ (λ e. omega arith)) (eq-eqb _ _ last)

pub tumbler_fails : (bytes places rest behind : List ℕ) → all_places_at bytes ≡ Some (places, rest) → after 126 rest ≡ Some behind → ends_well places ≡ false → tumbler_at bytes ≡ None
unfolding tumbler_at
tumbler_fails bytes places rest behind e f g = rw (e, f, g) refl
