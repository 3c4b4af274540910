-- Reading items one after the other, as a loop does.
use Rattle.std.proofs.Common.{◌≡◌, ℕ, suc, ◌-◌, ◌+◌, ◌≤◌, ◌<◌, List, [], ◌∷◌, ◌++◌, Option, Some, None, refl, sym, ap, ◌∙◌, append_assoc, arith}
use Rattle.std.proofs.lemmas.List.{append-nil}
use Rattle.febe_fields.specs.Reading.{◌>>=◌, many_at}

-- the items that were read before, and those that are still read
abbrev pub with_items : {X : Type 0} → List X → Option (List X × List ℕ) → Option (List X × List ℕ)
with_items prefix read = read >>= λ x. Some (prefix ++ x.0, x.1)

regroup : {X : Type 0} (prefix : List X) (x : X) (others : Option (List X × List ℕ)) → with_items prefix (others >>= λ y. Some (x ∷ y.0, y.1)) ≡ with_items (prefix ++ x ∷ []) others
regroup {X} prefix x (Some y) = ap (λ (xs : List X). Some (xs, y.1)) (sym (append_assoc prefix (x ∷ []) y.0))
regroup prefix x None = refl

pub one_more : {X : Type 0} (read : List ℕ → Option (X × List ℕ)) (prefix : List X) (count i : ℕ) (bytes : List ℕ) (x : X) (behind : List ℕ) (total : Option (List X × List ℕ)) → i < count
    → read bytes ≡ Some (x, behind) → with_items prefix (many_at read (count - i) bytes) ≡ total → with_items (prefix ++ x ∷ []) (many_at read (count - (i + 1)) behind) ≡ total
unfolding many_at
one_more read prefix count i bytes x behind total lt h so_far =
    let k : count - i ≡ suc (count - (i + 1)) = omega arith in
    let one : with_items prefix (many_at read (count - i) bytes) ≡ with_items (prefix ++ x ∷ []) (many_at read (count - (i + 1)) behind) = rw (k, h) (regroup prefix x (many_at read (count - (i + 1)) behind)) in
    sym one ∙ so_far

pub none_more : {X : Type 0} (read : List ℕ → Option (X × List ℕ)) (prefix : List X) (count i : ℕ) (bytes : List ℕ) (total : Option (List X × List ℕ)) → i < count
    → read bytes ≡ None → with_items prefix (many_at read (count - i) bytes) ≡ total → total ≡ None
unfolding many_at
none_more read prefix count i bytes total lt h so_far =
    let k : count - i ≡ suc (count - (i + 1)) = omega arith in
    let one : with_items prefix (many_at read (count - i) bytes) ≡ None = rw (k, h) refl in
    sym so_far ∙ one

pub all_read : {X : Type 0} (read : List ℕ → Option (X × List ℕ)) (prefix : List X) (count i : ℕ) (bytes : List ℕ) (total : Option (List X × List ℕ)) → count ≤ i
    → with_items prefix (many_at read (count - i) bytes) ≡ total → total ≡ Some (prefix, bytes)
unfolding many_at
all_read {X} read prefix count i bytes total le so_far =
    let k : count - i ≡ 0 = omega arith in
    let one : with_items prefix (many_at read (count - i) bytes) ≡ Some (prefix, bytes) = rw k (ap (λ (xs : List X). Some (xs, bytes)) (append-nil prefix)) in
    sym so_far ∙ one
