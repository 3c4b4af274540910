-- One step along a lead and along a test of room, and their ends.
use Rattle.std.proofs.Common.{◌≡◌, ◌≢◌, ℕ, zero, suc, ◌+◌, ◌<◌, ◌≤◌, ◌↔◌, List, [], ◌∷◌, ◌++◌, length, get_or, take, drop, refl, arith, ap, ◌∙◌, sym, append_assoc}
use Rattle.std.proofs.lemmas.List.{drop_more, drop-drop, drop_all, take_more}
use Rattle.std.proofs.lemmas.Grind.{common_steps}
use Rattle.tumbler.specs.Places.{place_bound}
use Rattle.tumbler.specs.Reach.{lead, HasRoom}

-- ---- leads

-- the places before k are 0
lead_zero : (x : ℕ) (p : List ℕ) → x ≡ 0 → lead (x ∷ p) ≡ 0 ∷ lead p
lead_zero zero p e = refl
lead_zero (suc x) p e = absurd (omega arith)

lead_one : (x : ℕ) (p : List ℕ) → x ≢ 0 → lead (x ∷ p) ≡ x ∷ []
lead_one zero p n = absurd (n refl)
lead_one (suc x) p n = refl

pub lead-keeps : (p : List ℕ) (k : ℕ) → k < length p → get_or p k 0 ≡ 0 → take k p ++ lead (drop k p) ≡ lead p → take (k + 1) p ++ lead (drop (k + 1) p) ≡ lead p
lead-keeps p k lt e h =
    rw (take_more p k 0 lt) (append_assoc (take k p) (get_or p k 0 ∷ []) (lead (drop (k + 1) p))
    ∙ ap (λ (r : List ℕ). take k p ++ r) (rw e (sym (ap lead (drop_more p k 0 lt) ∙ lead_zero (get_or p k 0) (drop (k + 1) p) e)))
    ∙ h)

pub lead-found : (p : List ℕ) (k : ℕ) → k < length p → get_or p k 0 ≢ 0 → take k p ++ lead (drop k p) ≡ lead p → take (k + 1) p ≡ lead p
lead-found p k lt n h =
    take_more p k 0 lt ∙ ap (λ (r : List ℕ). take k p ++ r) (sym (ap lead (drop_more p k 0 lt) ∙ lead_one (get_or p k 0) (drop (k + 1) p) n)) ∙ h

-- ---- room

first_of_rest : (a : List ℕ) (k : ℕ) → get_or (drop k a) 0 0 ≡ get_or a k 0
first_of_rest a k = grind (arith, common_steps)

rest_of_rest : (a : List ℕ) (k : ℕ) → drop 1 (drop k a) ≡ drop (k + 1) a
rest_of_rest a k = drop-drop 1 k a

pub room-step : (a r : List ℕ) (k : ℕ) → k < length r → HasRoom (drop k a) (drop k r) ↔ ((get_or a k 0 + get_or r k 0 < place_bound) × HasRoom (drop (k + 1) a) (drop (k + 1) r))
room-step a r k lt = rw (drop_more r k 0 lt) (rw (first_of_rest a k, rest_of_rest a k) (λ h. h, λ h. h))

pub room-end : (a r : List ℕ) (k : ℕ) → length r ≤ k → HasRoom (drop k a) (drop k r)
room-end a r k le = rw (drop_all k r le) tt

pub ruleset reaches = (lead-keeps, lead-found, room-step, room-end)
