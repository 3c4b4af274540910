-- One place is raised in an array of places with zeros behind them; then a lead, a reach that is moved, or all places.
use Rattle.std.proofs.Common.{◌≡◌, ◌≢◌, ℕ, zero, suc, true, min, ◌+◌, ◌-◌, ◌^◌, ◌<◌, ◌≤◌, ◌↔◌, leb, max, List, [], ◌∷◌, ◌++◌, length, get_or, take, drop, replicate, refl, arith, ap, ◌∙◌, sym, length-take-le, inl, inr}
use Rattle.std.proofs.Math.ListN.{set}
use Rattle.std.proofs.lemmas.List.{length-set, drop-set-lt, drop-drop, drop-replicate, get_or-take, get_or-set_other, take_more}
use Rattle.std.proofs.lemmas.Grind.{common_steps, same_number_lists, get_or-set_at, get_or_after_one}
use Rattle.std.proofs.lemmas.Bool.{cases_lt, leb-true, le-leb}
use Rattle.tumbler.specs.Places.{sum, EndsWell}
use Rattle.tumbler.specs.Reach.{lead, greater, HasRoom, IsCovered}
use Rattle.tumbler.specs.Padded.{IsPadded, AreCells, leading_zeros}
use Rattle.tumbler.proofs.Reaches.{greater-none, greater_assoc}
use Rattle.tumbler.proofs.LeadingZeros.{AreZero, no_places, cells-zero, cells-filled, counted-within, zeros-set_some, zeros-set_none}
use Rattle.tumbler.proofs.PaddedSteps.{padded-place}

-- ---- one place behind zeros

alone_long : (k x : ℕ) → length (replicate k 0 ++ x ∷ []) ≡ k + 1
alone_long zero x = refl
alone_long (suc k) x = let rest = alone_long k x in omega (arith, rest)

alone_here : (k x : ℕ) → get_or (replicate k 0 ++ x ∷ []) k 0 ≡ x
alone_here zero x = refl
alone_here (suc k) x = alone_here k x

alone_off : (k x j : ℕ) → j ≢ k → get_or (replicate k 0 ++ x ∷ []) j 0 ≡ 0
alone_off zero x zero ne = absurd (ne refl)
alone_off zero x (suc j) ne = refl
alone_off (suc k) x zero ne = refl
alone_off (suc k) x (suc j) ne = alone_off k x j (λ e. ne (ap suc e))

greater_long : (a b : List ℕ) → length (greater a b) ≡ max (length a) (length b)
greater_long [] b = omega arith
greater_long (x ∷ a) [] = omega arith
greater_long (x ∷ a) (y ∷ b) = let rest = greater_long a b in omega (arith, rest)

greater_at : (a b : List ℕ) (k : ℕ) → get_or (greater a b) k 0 ≡ max (get_or a k 0) (get_or b k 0)
greater_at [] b k = omega arith
greater_at (x ∷ a) [] k = omega arith
greater_at (x ∷ a) (y ∷ b) zero = refl
greater_at (x ∷ a) (y ∷ b) (suc k) = greater_at a b k

-- ---- one place is raised

pub lift-padded : (n : ℕ) (cells : List ℕ) (k v : ℕ) → IsPadded n cells → k < 24 → IsPadded (max n (k + 1)) (set cells k v)
lift-padded n cells k v padded lt =
    let few : n ≤ 24 = padded.few in
    let past : n + (max n (k + 1) - n) ≡ max n (k + 1) = omega arith in
    let fewer : (24 - n) - (max n (k + 1) - n) ≡ 24 - max n (k + 1) = omega arith in
    record {
      few = omega (arith, few, lt);
      long = length-set cells k v ∙ padded.long;
      zeros = drop-set-lt (max n (k + 1)) cells k v (omega arith) ∙ ap (λ (i : ℕ). drop i cells) (sym past) ∙ sym (drop-drop (max n (k + 1) - n) n cells)
          ∙ ap (drop (max n (k + 1) - n)) padded.zeros ∙ drop-replicate (max n (k + 1) - n) (24 - n) 0 ∙ ap (λ (i : ℕ). replicate i 0) fewer;
    }

pub lift-value : (n : ℕ) (cells : List ℕ) (k x : ℕ) → IsPadded n cells → k < 24 → take (max n (k + 1)) (set cells k (max (get_or cells k 0) x)) ≡ greater (take n cells) (replicate k 0 ++ x ∷ [])
lift-value n cells k x padded lt =
    let v : ℕ = max (get_or cells k 0) x in
    let m : ℕ = max n (k + 1) in
    let one : List ℕ = replicate k 0 ++ x ∷ [] in
    let made = lift-padded n cells k v padded lt in
    let whole : length (take m (set cells k v)) ≡ m = length-take-le m (set cells k v) (omega (arith, made.few, made.long)) in
    let few : n ≤ 24 = padded.few in
    let old : length (take n cells) ≡ n = length-take-le n cells (omega (arith, few, padded.long)) in
    let long : length (greater (take n cells) one) ≡ m = greater_long (take n cells) one ∙ ap (λ (i : ℕ). max i (length one)) old ∙ ap (max n) (alone_long k x) in
    same_number_lists (take m (set cells k v)) (greater (take n cells) one) (whole ∙ sym long) (λ j in_made.
    let j_m : j < m = omega (arith, in_made, whole) in
    let made_at : get_or (take m (set cells k v)) j 0 ≡ get_or (set cells k v) j 0 = get_or-take m (set cells k v) j 0 j_m in
    let j_24 : j < 24 = omega (arith, j_m, few, lt) in
    let old_at : get_or (take n cells) j 0 ≡ get_or cells j 0 = padded-place n cells j padded j_24 in
    let both_at = greater_at (take n cells) one j in
    at_place n cells k x j (omega (arith, lt, padded.long)) made_at old_at both_at)
  where
    off : (n : ℕ) (cells : List ℕ) (k x j : ℕ) → j ≢ k
        → get_or (take (max n (k + 1)) (set cells k (max (get_or cells k 0) x))) j 0 ≡ get_or (set cells k (max (get_or cells k 0) x)) j 0
        → get_or (take n cells) j 0 ≡ get_or cells j 0
        → get_or (greater (take n cells) (replicate k 0 ++ x ∷ [])) j 0 ≡ max (get_or (take n cells) j 0) (get_or (replicate k 0 ++ x ∷ []) j 0)
        → get_or (take (max n (k + 1)) (set cells k (max (get_or cells k 0) x))) j 0 ≡ get_or (greater (take n cells) (replicate k 0 ++ x ∷ [])) j 0
    off n cells k x j ne made_at old_at both_at =
        let stays = get_or-set_other cells k j (max (get_or cells k 0) x) 0 ne in
        let none = alone_off k x j ne in
        omega (arith, made_at, old_at, both_at, stays, none)

    at_place : (n : ℕ) (cells : List ℕ) (k x j : ℕ) → k < length cells
        → get_or (take (max n (k + 1)) (set cells k (max (get_or cells k 0) x))) j 0 ≡ get_or (set cells k (max (get_or cells k 0) x)) j 0
        → get_or (take n cells) j 0 ≡ get_or cells j 0
        → get_or (greater (take n cells) (replicate k 0 ++ x ∷ [])) j 0 ≡ max (get_or (take n cells) j 0) (get_or (replicate k 0 ++ x ∷ []) j 0)
        → get_or (take (max n (k + 1)) (set cells k (max (get_or cells k 0) x))) j 0 ≡ get_or (greater (take n cells) (replicate k 0 ++ x ∷ [])) j 0
    at_place n cells k x j lt made_at old_at both_at = elim (cases_lt j k) [
      | inl before ↦ off n cells k x j (λ e. absurd (omega (arith, before, e))) made_at old_at both_at
      | inr le ↦ elim (cases_lt k j) [
        | inl behind ↦ off n cells k x j (λ e. absurd (omega (arith, behind, e))) made_at old_at both_at
        | inr ge ↦
            let same : j ≡ k = omega (arith, le, ge) in
            let here = get_or-set_at cells k j (max (get_or cells k 0) x) 0 same lt in
            let one_at : get_or (replicate k 0 ++ x ∷ []) j 0 ≡ x = ap (λ (i : ℕ). get_or (replicate k 0 ++ x ∷ []) i 0) same ∙ alone_here k x in
            let cell_at : get_or cells j 0 ≡ get_or cells k 0 = ap (λ (i : ℕ). get_or cells i 0) same in
            omega (arith, made_at, old_at, both_at, here, one_at, cell_at)
      ]
    ]

pub lift-filled : (n z : ℕ) (cells : List ℕ) (k v : ℕ) → AreCells n z cells → k < 24 → v ≢ 0 → AreCells (max n (k + 1)) (min z k) (set cells k v)
lift-filled n z cells k v are lt ne = record {
  padded = lift-padded n cells k v are.padded lt;
  zeros = ap (λ (i : ℕ). min i k) are.zeros ∙ sym (zeros-set_some cells k v (omega (arith, lt, are.padded.long)) ne);
}

pub lift-blank : (n z : ℕ) (cells : List ℕ) (k x v : ℕ) → AreCells n z cells → k < 24 → v ≡ max (get_or cells k 0) x → v ≡ 0 → AreCells (max n (k + 1)) z (set cells k v)
lift-blank n z cells k x v are lt is e = record {
  padded = lift-padded n cells k v are.padded lt;
  zeros = are.zeros ∙ sym (zeros-set_none cells k v (omega (arith, is, e)));
}

pub ruleset lifting = (lift-padded, lift-value, lift-filled, lift-blank)

-- ---- all places

next_place : (front : List ℕ) (k x : ℕ) → length front ≡ k → greater front (replicate k 0 ++ x ∷ []) ≡ front ++ x ∷ []
next_place [] zero x e = refl
next_place [] (suc k) x e = absurd (omega (arith, e))
next_place (y ∷ front) zero x e = absurd (omega (arith, e))
next_place (y ∷ front) (suc k) x e =
    let head : max y 0 ≡ y = omega arith in
    ap (λ (n : ℕ). n ∷ greater front (replicate k 0 ++ x ∷ [])) head ∙ ap (λ (r : List ℕ). y ∷ r) (next_place front k x (omega (arith, e)))

then_place : (s front : List ℕ) (k x : ℕ) → length front ≡ k → greater (greater s front) (replicate k 0 ++ x ∷ []) ≡ greater s (front ++ x ∷ [])
then_place s front k x e = greater_assoc s front (replicate k 0 ++ x ∷ []) ∙ ap (greater s) (next_place front k x e)

pub raise-first : (s cells : List ℕ) → s ≡ greater s (take 0 cells)
raise-first s cells = sym (greater-none s)

pub raise-more : (s now made cells : List ℕ) (k x : ℕ) → k < length cells → now ≡ greater s (take k cells) → x ≡ get_or cells k 0 → made ≡ greater now (replicate k 0 ++ x ∷ []) → made ≡ greater s (take (k + 1) cells)
raise-more s now made cells k x lt so_far value is =
    is ∙ ap (λ (r : List ℕ). greater r (replicate k 0 ++ x ∷ [])) so_far
    ∙ then_place s (take k cells) k x (length-take-le k cells (omega (arith, lt)))
    ∙ ap (λ (n : ℕ). greater s (take k cells ++ n ∷ [])) value
    ∙ ap (greater s) (sym (take_more cells k 0 lt))

pub raise-end : (s now cells : List ℕ) (k n : ℕ) → k ≤ n → n ≤ k → now ≡ greater s (take k cells) → now ≡ greater s (take n cells)
raise-end s now cells k n le ge so_far = so_far ∙ ap (λ (i : ℕ). greater s (take i cells)) (omega (arith, le, ge))

pub ruleset raising = (raise-first, raise-more, raise-end)

-- ---- a lead

pub zero-first : (cells : List ℕ) → AreZero cells 0
zero-first cells = λ j lt. absurd (omega (arith, lt))

pub zero-more : (cells : List ℕ) (k : ℕ) → AreZero cells k → get_or cells k 0 ≡ 0 → AreZero cells (k + 1)
zero-more cells k zeros e = λ j lt. elim (cases_lt j k) [
  | inl before ↦ zeros j before
  | inr past ↦ let at : j ≡ k = omega (arith, past, lt) in ap (λ (i : ℕ). get_or cells i 0) at ∙ e
]

lead_at : (p : List ℕ) (k : ℕ) → k < length p → AreZero p k → get_or p k 0 ≢ 0 → lead p ≡ replicate k 0 ++ get_or p k 0 ∷ []
lead_at [] k lt zeros ne = absurd (omega (arith, lt))
lead_at (zero ∷ p) zero lt zeros ne = absurd (ne refl)
lead_at (suc x ∷ p) zero lt zeros ne = refl
lead_at (zero ∷ p) (suc k) lt zeros ne = ap (λ (r : List ℕ). 0 ∷ r) (lead_at p k (omega (arith, lt)) (λ j l. zeros (suc j) (omega (arith, l))) ne)
lead_at (suc x ∷ p) (suc k) lt zeros ne = let e : suc x ≡ 0 = zeros 0 (omega arith) in absurd (omega (arith, e))

front_zero : (n : ℕ) (cells : List ℕ) (k : ℕ) → k ≤ n → AreZero cells k → AreZero (take n cells) k
front_zero n cells k le zeros = λ j lt. get_or-take n cells j 0 (omega (arith, lt, le)) ∙ zeros j lt

front_long : (n : ℕ) (cells : List ℕ) → IsPadded n cells → length (take n cells) ≡ n
front_long n cells padded = length-take-le n cells (omega (arith, padded.few, padded.long))

pub lead-here : (n : ℕ) (cells : List ℕ) (k : ℕ) → IsPadded n cells → k < n → AreZero cells k → get_or cells k 0 ≢ 0 → lead (take n cells) ≡ replicate k 0 ++ get_or cells k 0 ∷ []
lead-here n cells k padded lt zeros ne =
    let same : get_or (take n cells) k 0 ≡ get_or cells k 0 = get_or-take n cells k 0 lt in
    lead_at (take n cells) k (omega (arith, lt, front_long n cells padded)) (front_zero n cells k (omega (arith, lt)) zeros) (λ e. ne (sym same ∙ e))
    ∙ ap (λ (x : ℕ). replicate k 0 ++ x ∷ []) same

pub lead-none : (n : ℕ) (cells : List ℕ) (k : ℕ) → IsPadded n cells → k ≤ n → n ≤ k → AreZero cells k → EndsWell (take n cells) → lead (take n cells) ≡ []
lead-none n cells k padded le ge zeros ends = ap (λ (i : ℕ). lead (take i cells)) (no_places n cells k padded le ge zeros ends)

pub none-raised : (s p : List ℕ) → p ≡ [] → s ≡ greater s p
none-raised s p e = sym (ap (greater s) e ∙ greater-none s)

-- the lead of places is their first one that is not 0, behind zeros
pub lead-found : (n z : ℕ) (cells : List ℕ) → AreCells n z cells → z < 24 → lead (take n cells) ≡ replicate z 0 ++ get_or cells z 0 ∷ []
lead-found n z cells are lt = lead-here n cells z are.padded (counted-within n z cells are lt) (cells-zero n z cells are) (cells-filled n z cells are lt)

pub lead-missing : (n z : ℕ) (cells : List ℕ) → AreCells n z cells → 24 ≤ z → EndsWell (take n cells) → lead (take n cells) ≡ []
lead-missing n z cells are ge ends =
    let few : n ≤ 24 = are.padded.few in
    lead-none n cells n are.padded (omega arith) (omega arith) (λ j lt. cells-zero n z cells are j (omega (arith, lt, few, ge))) ends

-- whether the lead covers places, by how many they are and where it ends
pub covered-tested : (m : ℕ) (a : List ℕ) (n z : ℕ) (d : List ℕ) → IsPadded m a → AreCells n z d → EndsWell (take n d) → (leb m (z + 1) ≡ true) ↔ IsCovered (take m a) (take n d)
covered-tested m a n z d in_a are ends =
    let few : m ≤ 24 = in_a.few in
    let long = front_long m a in_a in
    elim (cases_lt z 24) [
      | inl lt ↦
          let at : length (lead (take n d)) ≡ z + 1 = ap length (lead-found n z d are lt) ∙ alone_long z (get_or d z 0) in (
            λ e. inr (let le = leb-true m (z + 1) e in omega (arith, le, at, long)),
            λ c. le-leb m (z + 1) (elim c [ inl none ↦ absurd (omega (arith, none, at)) | inr le ↦ omega (arith, le, at, long) ]),
          )
      | inr ge ↦ (λ e. inl (ap length (lead-missing n z d are ge ends)), λ c. le-leb m (z + 1) (omega (arith, few, ge)))
    ]

pub ruleset leads = (lead-found, lead-missing, none-raised)

-- ---- a reach that is moved

room_at : (a r : List ℕ) (k : ℕ) → HasRoom a r → k < length r → get_or a k 0 + get_or r k 0 < 2 ^ 32
room_at a [] k h lt = absurd (omega (arith, lt))
room_at a (x ∷ r) zero h lt = h.0
room_at a (x ∷ r) (suc k) h lt =
    let rest : get_or (drop 1 a) k 0 + get_or r k 0 < 2 ^ 32 = room_at (drop 1 a) r k h.1 (omega (arith, lt)) in
    let at : get_or (drop 1 a) k 0 ≡ get_or a (1 + k) 0 = get_or_after_one a k 0 in
    let next : get_or a (1 + k) 0 ≡ get_or a (suc k) 0 = ap (λ (i : ℕ). get_or a i 0) (omega arith) in
    omega (arith, rest, at, next)

pub moved-fit : (n : ℕ) (d : List ℕ) (m : ℕ) (r : List ℕ) (k : ℕ) → IsPadded n d → IsPadded m r → HasRoom (take n d) (take m r) → k < n → get_or d k 0 < 2 ^ 32 → get_or r k 0 + get_or d k 0 < 2 ^ 32
moved-fit n d m r k in_d in_r room lt small = elim (cases_lt k m) [
  | inl within ↦
      let both = room_at (take n d) (take m r) k room (omega (arith, within, front_long m r in_r)) in
      let first : get_or (take n d) k 0 ≡ get_or d k 0 = get_or-take n d k 0 lt in
      let second : get_or (take m r) k 0 ≡ get_or r k 0 = get_or-take m r k 0 within in
      omega (arith, both, first, second)
  | inr past ↦
      let few : n ≤ 24 = in_d.few in
      let none : get_or (take m r) k 0 ≡ 0 = past_end (take m r) k (omega (arith, past, front_long m r in_r)) in
      let cell : get_or (take m r) k 0 ≡ get_or r k 0 = padded-place m r k in_r (omega (arith, lt, few)) in
      omega (arith, none, cell, small)
]
  where
    past_end : (xs : List ℕ) (k : ℕ) → length xs ≤ k → get_or xs k 0 ≡ 0
    past_end xs k le = grind (arith, common_steps)

sum_alone : (r front : List ℕ) (k x : ℕ) → x ≢ 0 → length front ≡ k → ((j : ℕ) → j < k → get_or front j 0 ≡ get_or r j 0) → sum r (replicate k 0 ++ x ∷ []) ≡ front ++ (get_or r k 0 + x) ∷ []
sum_alone r [] zero zero ne e same = absurd (ne refl)
sum_alone r [] zero (suc x) ne e same = refl
sum_alone r [] (suc k) x ne e same = absurd (omega (arith, e))
sum_alone r (y ∷ front) zero x ne e same = absurd (omega (arith, e))
sum_alone r (y ∷ front) (suc k) x ne e same =
    let head : get_or r 0 0 ≡ y = sym (same 0 (omega arith)) in
    let at : get_or (drop 1 r) k 0 ≡ get_or r (suc k) 0 = get_or_after_one r k 0 ∙ ap (λ (i : ℕ). get_or r i 0) (omega arith) in
    let rest = sum_alone (drop 1 r) front k x ne (omega (arith, e)) (λ j lt. same (suc j) (omega (arith, lt)) ∙ sym (get_or_after_one r j 0 ∙ ap (λ (i : ℕ). get_or r i 0) (omega arith))) in
    ap (λ (n : ℕ). n ∷ sum (drop 1 r) (replicate k 0 ++ x ∷ [])) head ∙ ap (λ (places : List ℕ). y ∷ places) rest
    ∙ ap (λ (n : ℕ). y ∷ (front ++ (n + x) ∷ [])) at

pub moved-found : (s now made : List ℕ) (n : ℕ) (d : List ℕ) (m : ℕ) (r : List ℕ) (k x : ℕ) → IsPadded n d → IsPadded m r → k < n → AreZero d k → get_or d k 0 ≢ 0 → now ≡ greater s (take k r) → x ≡ get_or r k 0 + get_or d k 0
    → made ≡ greater now (replicate k 0 ++ x ∷ []) → made ≡ greater s (sum (take m r) (lead (take n d)))
moved-found s now made n d m r k x in_d in_r lt zeros ne so_far value is =
    let few : n ≤ 24 = in_d.few in
    let long : length (take k r) ≡ k = length-take-le k r (omega (arith, lt, few, in_r.long)) in
    let at : get_or (take m r) k 0 ≡ get_or r k 0 = padded-place m r k in_r (omega (arith, lt, few)) in
    is ∙ ap (λ (p : List ℕ). greater p (replicate k 0 ++ x ∷ [])) so_far
    ∙ then_place s (take k r) k x long
    ∙ ap (λ (i : ℕ). greater s (take k r ++ i ∷ [])) (value ∙ ap (λ (i : ℕ). i + get_or d k 0) (sym at))
    ∙ ap (greater s) (sym (sum_alone (take m r) (take k r) k (get_or d k 0) ne long (λ j l. get_or-take k r j 0 l ∙ sym (padded-place m r j in_r (omega (arith, l, lt, few))))))
    ∙ ap (λ (p : List ℕ). greater s (sum (take m r) p)) (sym (lead-here n d k in_d lt zeros ne))

pub moved-more : (s now made : List ℕ) (n : ℕ) (d r : List ℕ) (m k x : ℕ) → IsPadded n d → IsPadded m r → k < n → get_or d k 0 ≡ 0 → now ≡ greater s (take k r) → x ≡ get_or r k 0 + get_or d k 0 → made ≡ greater now (replicate k 0 ++ x ∷ []) → made ≡ greater s (take (k + 1) r)
moved-more s now made n d r m k x in_d in_r lt e so_far value is =
    let few : n ≤ 24 = in_d.few in
    raise-more s now made r k x (omega (arith, lt, few, in_r.long)) so_far (omega (arith, value, e)) is

pub moved-none : (s now made : List ℕ) (n : ℕ) (d : List ℕ) (m : ℕ) (r : List ℕ) (k : ℕ) → IsPadded n d → k ≤ n → n ≤ k → AreZero d k → EndsWell (take n d) → now ≡ greater s (take k r) → made ≡ greater now (take m r) → made ≡ greater s (sum (take m r) (lead (take n d)))
moved-none s now made n d m r k in_d le ge zeros ends so_far is =
    let none : k ≡ 0 = omega (arith, le, ge, no_places n d k in_d le ge zeros ends) in
    is ∙ ap (λ (p : List ℕ). greater p (take m r)) (so_far ∙ ap (λ (i : ℕ). greater s (take i r)) none ∙ greater-none s)
    ∙ ap (λ (p : List ℕ). greater s (sum (take m r) p)) (sym (lead-none n d k in_d le ge zeros ends))

pub ruleset moving = (raise-first, zero-first, zero-more, moved-fit, moved-found, moved-more, moved-none)
