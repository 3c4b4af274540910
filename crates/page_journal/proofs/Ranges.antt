-- The bytes of a range, and those beside a write.
use Rattle.std.proofs.Common.{◌≡◌, ◌⊎◌, inl, inr, ℕ, ◌+◌, ◌-◌, ◌<◌, ◌≤◌, List, ◌++◌, length, get_or, take, drop, replicate, sym, ◌∙◌, ap, arith, append_assoc, length-append, length-drop, length-take, get_or-take, get_or-drop, drop_at, ext_get_or}
use Rattle.std.proofs.lemmas.List.{length-replicate, get_or_append_left, get_or-append_right}
use Rattle.green_io.specs.Disk.{Written, Torn}

-- two lists that agree in a range which both have
pub same_range : (a b : List ℕ) (at n : ℕ) → at + n ≤ length a → at + n ≤ length b → ((i : ℕ) → at ≤ i → i < at + n → get_or b i 0 ≡ get_or a i 0) → take n (drop at b) ≡ take n (drop at a)
same_range a b at n fits_a fits_b same =
    let long_b : length (take n (drop at b)) ≡ n = omega (arith, length-take n (drop at b), length-drop at b) in
    let long_a : length (take n (drop at a)) ≡ n = omega (arith, length-take n (drop at a), length-drop at a) in
    ext_get_or 0 (take n (drop at b)) (take n (drop at a)) (long_b ∙ sym long_a)
    (λ i within. at_place a b at n i (omega (arith, within, long_b)) same)
  where
    at_place : (a b : List ℕ) (at n i : ℕ) → i < n → ((i : ℕ) → at ≤ i → i < at + n → get_or b i 0 ≡ get_or a i 0) → get_or (take n (drop at b)) i 0 ≡ get_or (take n (drop at a)) i 0
    at_place a b at n i lt same =
        get_or-take n (drop at b) i 0 lt
        ∙ get_or-drop at b i 0
        ∙ same (at + i) (omega arith) (omega arith)
        ∙ sym (get_or-take n (drop at a) i 0 lt ∙ get_or-drop at a i 0)

-- a torn write leaves the bytes that were there, in front of its range and behind it
pub torn_keeps : (at n : ℕ) (old new : List ℕ) → Torn at n old new → (i : ℕ) → i < length old → (i < at) ⊎ (at + n ≤ i) → get_or new i 0 ≡ get_or old i 0
torn_keeps at n old new torn i within (inl below) =
    ap (λ (l : List ℕ). get_or l i 0) (torn.bytes ∙ append_assoc (take at old) torn.any (drop (at + n) old))
    ∙ get_or_append_left (take at old) (torn.any ++ drop (at + n) old) 0 i (omega (arith, length-take at old))
    ∙ get_or-take at old i 0 below
torn_keeps at n old new torn i within (inr above) =
    let whole : length new ≡ length (take at old ++ torn.any) + length (drop (at + n) old) = ap length torn.bytes ∙ length-append (take at old ++ torn.any) (drop (at + n) old) in
    let long : length (take at old ++ torn.any) ≡ at + n = omega (arith, whole, torn.no_shorter, torn.no_longer, length-drop (at + n) old) in
    let place : at + n + (i - (at + n)) ≡ i = omega arith in
    ap (λ (l : List ℕ). get_or l i 0) torn.bytes
    ∙ get_or-append_right (take at old ++ torn.any) (drop (at + n) old) (at + n) i 0 long above
    ∙ get_or-drop (at + n) old (i - (at + n)) 0
    ∙ ap (λ (k : ℕ). get_or old k 0) place

-- a whole write is one that may be left
pub written_torn : (at : ℕ) (bytes old new : List ℕ) → Written at bytes old new → Torn at (length bytes) old new
written_torn at bytes old new written =
    let is : new ≡ take at old ++ (replicate (at - length old) 0 ++ bytes) ++ drop (at + length bytes) old = written ∙ ap (λ (l : List ℕ). l ++ drop (at + length bytes) old) (append_assoc (take at old) (replicate (at - length old) 0) bytes) in
    let whole : length new ≡ length (take at old ++ (replicate (at - length old) 0 ++ bytes)) + length (drop (at + length bytes) old) = ap length is ∙ length-append (take at old ++ (replicate (at - length old) 0 ++ bytes)) (drop (at + length bytes) old) in
    let front : length (take at old ++ (replicate (at - length old) 0 ++ bytes)) ≡ at + length bytes = omega (arith, length-append (take at old) (replicate (at - length old) 0 ++ bytes), length-append (replicate (at - length old) 0) bytes, length-take at old, length-replicate {A = ℕ} (at - length old) 0) in
    let behind : length (drop (at + length bytes) old) ≡ length old - (at + length bytes) = length-drop (at + length bytes) old in
    record {
      any = replicate (at - length old) 0 ++ bytes;
      bytes = is;
      no_shorter = omega (arith, whole, front, behind);
      no_longer = omega (arith, whole, front, behind);
    }

-- what stands from its place on after a whole write
pub written_drop : (at : ℕ) (bytes old new : List ℕ) → Written at bytes old new → drop at new ≡ bytes ++ drop (at + length bytes) old
written_drop at bytes old new written =
    ap (drop at) (written ∙ append_assoc (take at old ++ replicate (at - length old) 0) bytes (drop (at + length bytes) old))
    ∙ drop_at (take at old ++ replicate (at - length old) 0) (bytes ++ drop (at + length bytes) old) at (omega (arith, length-append (take at old) (replicate (at - length old) 0), length-take at old, length-replicate {A = ℕ} (at - length old) 0))
