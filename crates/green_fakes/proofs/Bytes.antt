-- Bytes that are written in place, and any bytes in the place of others.
use Rattle.std.proofs.Common.{◌≡◌, ◌⊎◌, inl, inr, ℕ, ◌+◌, ◌-◌, ◌≤◌, ◌<◌, List, ◌++◌, length, take, drop, replicate, sym, ap, ◌∙◌, arith, append_assoc, length-append}
use Rattle.std.proofs.lemmas.List.{append-nil, take_all, take_at, take-append-le, drop_all, drop-drop, length-replicate, replicate-append-replicate}
use Rattle.std.proofs.lemmas.Bool.{cases_lt}
use Rattle.green_fakes.specs.DiskView.{written_at}

-- the front of bytes that have grown by zeros
pub front_grown : (at more : ℕ) (old : List ℕ) → at - length old ≤ more → take at (old ++ replicate more 0) ≡ take at old ++ replicate (at - length old) 0
front_grown at more old room = by_case (cases_lt (length old) at)
  where
    zeros : ℕ → List ℕ
    zeros n = replicate n 0

    long : (n : ℕ) → length (zeros n) ≡ n
    long n = length-replicate n (the_zero)
      where
        the_zero : ℕ
        the_zero = 0

    by_case : (length old < at) ⊎ (at ≤ length old) → take at (old ++ zeros more) ≡ take at old ++ zeros (at - length old)
    by_case (inl past) =
        let parts : zeros (at - length old) ++ zeros (more - (at - length old)) ≡ zeros more = replicate-append-replicate (at - length old) (more - (at - length old)) 0 ∙ ap zeros (omega (arith, room)) in
        let split : old ++ zeros more ≡ (old ++ zeros (at - length old)) ++ zeros (more - (at - length old)) = ap (λ (l : List ℕ). old ++ l) (sym parts) ∙ sym (append_assoc old (zeros (at - length old)) (zeros (more - (at - length old)))) in
        ap (take at) split
        ∙ take_at (old ++ zeros (at - length old)) (zeros (more - (at - length old))) at (omega (arith, length-append old (zeros (at - length old)), long (at - length old), past))
        ∙ ap (λ (l : List ℕ). l ++ zeros (at - length old)) (sym (take_all at old (omega (arith, past))))
    by_case (inr within) =
        let none : at - length old ≡ 0 = omega (arith, within) in
        take-append-le at old (zeros more) within ∙ sym (ap (λ n. take at old ++ zeros n) none ∙ append-nil (take at old))

-- what is behind the place up to which bytes have grown
pub back_grown : (end more : ℕ) (old : List ℕ) → more ≤ end - length old → drop end (old ++ replicate more 0) ≡ drop end old
back_grown end more old room = by_case (cases_lt (length old) end)
  where
    long : length {A = ℕ} (replicate more 0) ≡ more
    long = length-replicate more (the_zero)
      where
        the_zero : ℕ
        the_zero = 0

    by_case : (length old < end) ⊎ (end ≤ length old) → drop end (old ++ replicate more 0) ≡ drop end old
    by_case (inl past) =
        drop_all end (old ++ replicate more 0) (omega (arith, length-append old (replicate more 0), long, room, past)) ∙ sym (drop_all end old (omega (arith, past)))
    by_case (inr within) =
        let none : more ≡ 0 = omega (arith, within, room) in
        ap (λ n. drop end (old ++ replicate n 0)) none ∙ ap (drop end) (append-nil old)

-- bytes that have grown by zeros up to the end of a write, and are then overwritten
pub overwritten : (at end : ℕ) (bytes old grown new : List ℕ) → end ≡ at + length bytes → grown ≡ old ++ replicate (end - length old) 0 → new ≡ take at grown ++ bytes ++ drop end grown → new ≡ written_at at bytes old
overwritten at end bytes old grown new is longer put =
    put
    ∙ ap (λ (l : List ℕ). take at l ++ bytes ++ drop end l) longer
    ∙ ap (λ (l : List ℕ). l ++ bytes ++ drop end (old ++ replicate (end - length old) 0)) (front_grown at (end - length old) old (omega (arith, is)))
    ∙ ap (λ (l : List ℕ). take at old ++ replicate (at - length old) 0 ++ bytes ++ l) (back_grown end (end - length old) old (omega arith) ∙ ap (λ n. drop n old) is)

-- a slice of all items, put back
pub whole_back : (n : ℕ) (now before : List ℕ) → length now ≡ n → take n (now ++ drop (length now) before) ≡ now
whole_back n now before is = take_at now (drop (length now) before) n is

-- a slice between two places, put back
pub mid_parts : (from to : ℕ) (before now : List ℕ) → from ≤ to → take from before ++ (now ++ drop (to - from) (drop from before)) ≡ take from before ++ now ++ drop to before
mid_parts from to before now le =
    ap (λ (l : List ℕ). take from before ++ (now ++ l)) (drop-drop (to - from) from before ∙ ap (λ n. drop n before) (omega (arith, le)))
    ∙ sym (append_assoc (take from before) now (drop to before))
