-- What texts of stretches show.
use Rattle.std.proofs.Common.{◌≡◌, ℕ, zero, suc, ◌+◌, ◌-◌, ◌<◌, ◌≤◌, ◌∙◌, ◌&&◌, ◌∷◌, [], Bool, List, length, map, true, false, ap, sym, refl, subst, cond, arith, get_or, inl, inr}
use Rattle.std.specs.Prelude.{Contains, nat_le, nat_lt, ◌⊎◌}
use Rattle.std.specs.List.{AllPairs}
use Rattle.std.proofs.lemmas.Bool.Decides.{nat_tests}
use Rattle.std.proofs.lemmas.List.Elements.{All-map, All-contains, Contains-get_or}
use Rattle.world_rules.proofs.Later.{after_first, without_first}
use Rattle.poom_compare.specs.declared.stretch.Stretch.{Stretch}
use Rattle.poom_compare.specs.Segments.{IsSegment, IsSegmentOf, AreSegmentsOf, is_meeting}
use Rattle.poom_compare.specs.Placed.{AreStretches, IsStretch, text_of, segment_of}
use Rattle.poom_compare.proofs.Lists.{here, there, none_there, first_or_rest, contains_map, pairs_map, same_at}

abbrev Before : Stretch → Stretch → Type 0
Before a b = a.at + a.length ≤ b.at

within : (a b x : ℕ) → a ≤ x → x < b → (nat_le a x && nat_lt x b) ≡ true
within a b x l m = grind (arith, nat_tests)

beyond : (a b x : ℕ) → b ≤ x → (nat_le a x && nat_lt x b) ≡ false
beyond a b x l = grind (arith, nat_tests)

inside : (a b x : ℕ) → (nat_le a x && nat_lt x b) ≡ true → (a ≤ x) × (x < b)
inside a b x e = (grind (arith, nat_tests), grind (arith, nat_tests))

-- ---- at a position of a stretch

pub text_in : (list : List Stretch) → AllPairs Before list → (s : Stretch) → Contains list s → (x : ℕ) → s.at ≤ x → x < s.at + s.length → text_of list x ≡ s.first + (x - s.at)
text_in [] ascend s found x from to = absurd (none_there s found)
text_in (t ∷ ts) ascend s found x from to = elim (first_or_rest t s ts found) [
  | inl is ↦
      ap (λ (b : Bool). cond b (t.first + (x - t.at)) (text_of ts x)) (within t.at (t.at + t.length) x (subst (λ (u : Stretch). u.at ≤ x) (sym is) from) (subst (λ (u : Stretch). x < u.at + u.length) (sym is) to))
      ∙ ap (λ (u : Stretch). u.first + (x - u.at)) is
  | inr rest ↦
      let behind : Before t s = All-contains (Before t) ts s (after_first Before t ts ascend) rest in
      ap (λ (b : Bool). cond b (t.first + (x - t.at)) (text_of ts x)) (beyond t.at (t.at + t.length) x (omega arith)) ∙ text_in ts (without_first Before t ts ascend) s rest x from to
]

-- ---- where it shows something

pub record IsShownBy (list : List Stretch) (x : ℕ) : Type 0 where
  pub stretch : Stretch
  pub is_one : Contains list stretch
  pub from : stretch.at ≤ x
  pub to : x < stretch.at + stretch.length

pub text_some : (list : List Stretch) (x : ℕ) → 1 ≤ text_of list x → IsShownBy list x
text_some [] x some = absurd (omega arith)
text_some (t ∷ ts) x some = go (nat_le t.at x && nat_lt x (t.at + t.length)) refl some (text_some ts x)
  where
    go : (b : Bool) → (nat_le t.at x && nat_lt x (t.at + t.length)) ≡ b → 1 ≤ cond b (t.first + (x - t.at)) (text_of ts x) → (1 ≤ text_of ts x → IsShownBy ts x) → IsShownBy (t ∷ ts) x
    go true e some rest = let bounds = inside t.at (t.at + t.length) x e in record { stretch = t; is_one = here t ts; from = bounds.0; to = bounds.1 }
    go false e some rest = let found = rest some in record { stretch = found.stretch; is_one = there t found.stretch ts found.is_one; from = found.from; to = found.to }

none_if : (n : ℕ) → (1 ≤ n → ⊥) → n ≡ 0
none_if zero no_more = refl
none_if (suc n) no_more = absurd (no_more (omega arith))

-- stretch j of the list, and what it is beside stretch k
three : (j k : ℕ) → (j < k) ⊎ ((j ≡ k) ⊎ (k < j))
three j k = grind arith

record AtPlaces (list : List Stretch) (j k : ℕ) (t s : Stretch) : Type 0 where
  before : j < k → t.at + t.length ≤ s.at
  same : j ≡ k → t ≡ s
  behind : k < j → s.at + s.length ≤ t.at

places : (list : List Stretch) → AllPairs Before list → (j k : ℕ) (t s : Stretch) → j < length list → k < length list → get_or list j t ≡ t → get_or list k s ≡ s → AtPlaces list j k t s
places list ascend j k t s lt lt' at at' =
    let first : get_or list j s ≡ t = same_at list j s t lt ∙ at in
    record {
      before = λ less. subst (λ (u : Stretch). Before u s) first (subst (λ (u : Stretch). Before (get_or list j s) u) at' (ascend j k s less lt'));
      same = λ e. sym first ∙ (ap (λ (n : ℕ). get_or list n s) e ∙ at');
      behind = λ more. subst (λ (u : Stretch). Before s u) first (subst (λ (u : Stretch). Before u (get_or list j s)) at' (ascend k j s more lt));
    }

right_at : (list : List Stretch) → AreStretches list → (k : ℕ) (d : Stretch) → k < length list → IsStretch (get_or list k d)
right_at list are k d lt = are.each k d lt

-- ---- just before a stretch

pub text_before : (list : List Stretch) → AreStretches list → (k : ℕ) (d : Stretch) → 1 ≤ k → k < length list → (get_or list (k - 1) d).at + (get_or list (k - 1) d).length ≡ (get_or list k d).at
    → text_of list ((get_or list k d).at - 1) ≡ (get_or list (k - 1) d).first + (get_or list (k - 1) d).length - 1
text_before list are k d one lt touch =
    let p = get_or list (k - 1) d in
    let s = get_or list k d in
    let right = right_at list are (k - 1) d (omega arith) in
    let filled = right.filled in
    text_in list are.ascend p (Contains-get_or list (k - 1) d (omega arith)) (s.at - 1) (omega arith) (omega arith) ∙ omega arith

pub none_before_first : (list : List Stretch) → AreStretches list → (k : ℕ) (d : Stretch) → k ≡ 0 → k < length list → text_of list ((get_or list k d).at - 1) ≡ 0
none_before_first list are k d first lt = none_if (text_of list ((get_or list k d).at - 1)) clash
  where
    s : Stretch
    s = get_or list k d

    clash : 1 ≤ text_of list ((get_or list k d).at - 1) → ⊥
    clash some =
        let found = text_some list ((get_or list k d).at - 1) some in
        let t = found.stretch in
        let here' = places list are.ascend found.is_one.0 k t (get_or list k d) found.is_one.1 lt found.is_one.2 (same_at list k (get_or list k d) d lt) in
        let from = found.from in
        let one = (right_at list are k d lt).from_one in
        go t here' (three found.is_one.0 k) from one
      where
        go : (t : Stretch) {j : ℕ} → AtPlaces list j k t (get_or list k d) → (j < k) ⊎ ((j ≡ k) ⊎ (k < j)) → t.at ≤ (get_or list k d).at - 1 → 1 ≤ (get_or list k d).at → ⊥
        go t here' (inl less) from one = omega arith
        go t here' (inr (inl e)) from one = let is : t.at ≡ (get_or list k d).at = ap (λ (u : Stretch). u.at) (here'.same e) in omega arith
        go t here' (inr (inr more)) from one = let le = here'.behind more in omega arith

pub none_before_apart : (list : List Stretch) → AreStretches list → (k : ℕ) (d : Stretch) → 1 ≤ k → k < length list → ((get_or list (k - 1) d).at + (get_or list (k - 1) d).length ≡ (get_or list k d).at → ⊥) → text_of list ((get_or list k d).at - 1) ≡ 0
none_before_apart list are k d one lt apart = none_if (text_of list ((get_or list k d).at - 1)) clash
  where
    clash : 1 ≤ text_of list ((get_or list k d).at - 1) → ⊥
    clash some =
        let found = text_some list ((get_or list k d).at - 1) some in
        let t = found.stretch in
        let j = found.is_one.0 in
        let here' = places list are.ascend j k t (get_or list k d) found.is_one.1 lt found.is_one.2 (same_at list k (get_or list k d) d lt) in
        let last' = places list are.ascend j (k - 1) t (get_or list (k - 1) d) found.is_one.1 (omega arith) found.is_one.2 (same_at list (k - 1) (get_or list (k - 1) d) d (omega arith)) in
        let next : (get_or list (k - 1) d).at + (get_or list (k - 1) d).length ≤ (get_or list k d).at = are.ascend (k - 1) k d (omega arith) lt in
        let filled = (right_at list are (k - 1) d (omega arith)).filled in
        go t j here' last' (three j k) (three j (k - 1)) found.from found.to (right_at list are k d lt).from_one next filled
      where
        go : (t : Stretch) (j : ℕ) → AtPlaces list j k t (get_or list k d) → AtPlaces list j (k - 1) t (get_or list (k - 1) d) → (j < k) ⊎ ((j ≡ k) ⊎ (k < j)) → (j < k - 1) ⊎ ((j ≡ k - 1) ⊎ (k - 1 < j)) → t.at ≤ (get_or list k d).at - 1
            → (get_or list k d).at - 1 < t.at + t.length → 1 ≤ (get_or list k d).at → (get_or list (k - 1) d).at + (get_or list (k - 1) d).length ≤ (get_or list k d).at → 1 ≤ (get_or list (k - 1) d).length → ⊥
        go t j here' last' (inr (inl e)) side from to first next filled = let is : t.at ≡ (get_or list k d).at = ap (λ (u : Stretch). u.at) (here'.same e) in omega arith
        go t j here' last' (inr (inr more)) side from to first next filled = let le = here'.behind more in omega arith
        go t j here' last' (inl less) (inl earlier) from to first next filled = let le = last'.before earlier in omega arith
        go t j here' last' (inl less) (inr (inl e)) from to first next filled =
            let at : t.at ≡ (get_or list (k - 1) d).at = ap (λ (u : Stretch). u.at) (last'.same e) in
            let long : t.length ≡ (get_or list (k - 1) d).length = ap (λ (u : Stretch). u.length) (last'.same e) in
            apart (omega arith)
        go t j here' last' (inl less) (inr (inr later)) from to first next filled = omega arith

-- ---- just behind one

pub text_after : (list : List Stretch) → AreStretches list → (k : ℕ) (d : Stretch) → k + 1 < length list → (get_or list k d).at + (get_or list k d).length ≡ (get_or list (k + 1) d).at
    → text_of list ((get_or list k d).at + (get_or list k d).length) ≡ (get_or list (k + 1) d).first
text_after list are k d lt touch =
    let q = get_or list (k + 1) d in
    let s = get_or list k d in
    let filled = (right_at list are (k + 1) d lt).filled in
    text_in list are.ascend q (Contains-get_or list (k + 1) d lt) (s.at + s.length) (omega arith) (omega arith) ∙ omega arith

pub none_after_last : (list : List Stretch) → AreStretches list → (k : ℕ) (d : Stretch) → k + 1 ≡ length list → text_of list ((get_or list k d).at + (get_or list k d).length) ≡ 0
none_after_last list are k d last = none_if (text_of list ((get_or list k d).at + (get_or list k d).length)) clash
  where
    clash : 1 ≤ text_of list ((get_or list k d).at + (get_or list k d).length) → ⊥
    clash some =
        let found = text_some list ((get_or list k d).at + (get_or list k d).length) some in
        let t = found.stretch in
        let j = found.is_one.0 in
        let here' = places list are.ascend j k t (get_or list k d) found.is_one.1 (omega arith) found.is_one.2 (same_at list k (get_or list k d) d (omega arith)) in
        go t j here' (three j k) found.to found.is_one.1 (right_at list are k d (omega arith)).filled
      where
        go : (t : Stretch) (j : ℕ) → AtPlaces list j k t (get_or list k d) → (j < k) ⊎ ((j ≡ k) ⊎ (k < j)) → (get_or list k d).at + (get_or list k d).length < t.at + t.length → j < length list → 1 ≤ (get_or list k d).length → ⊥
        go t j here' (inl less) to lt filled = let le = here'.before less in omega arith
        go t j here' (inr (inl e)) to lt filled =
            let at : t.at ≡ (get_or list k d).at = ap (λ (u : Stretch). u.at) (here'.same e) in
            let long : t.length ≡ (get_or list k d).length = ap (λ (u : Stretch). u.length) (here'.same e) in
            omega arith
        go t j here' (inr (inr more)) to lt filled = omega arith

pub none_after_apart : (list : List Stretch) → AreStretches list → (k : ℕ) (d : Stretch) → k + 1 < length list → ((get_or list k d).at + (get_or list k d).length ≡ (get_or list (k + 1) d).at → ⊥) → text_of list ((get_or list k d).at + (get_or list k d).length) ≡ 0
none_after_apart list are k d lt apart = none_if (text_of list ((get_or list k d).at + (get_or list k d).length)) clash
  where
    clash : 1 ≤ text_of list ((get_or list k d).at + (get_or list k d).length) → ⊥
    clash some =
        let found = text_some list ((get_or list k d).at + (get_or list k d).length) some in
        let t = found.stretch in
        let j = found.is_one.0 in
        let here' = places list are.ascend j k t (get_or list k d) found.is_one.1 (omega arith) found.is_one.2 (same_at list k (get_or list k d) d (omega arith)) in
        let next' = places list are.ascend j (k + 1) t (get_or list (k + 1) d) found.is_one.1 lt found.is_one.2 (same_at list (k + 1) (get_or list (k + 1) d) d lt) in
        let next : (get_or list k d).at + (get_or list k d).length ≤ (get_or list (k + 1) d).at = are.ascend k (k + 1) d (omega arith) lt in
        go t j here' next' (three j k) (three j (k + 1)) found.from found.to next (right_at list are k d (omega arith)).filled (right_at list are (k + 1) d lt).filled
      where
        go : (t : Stretch) (j : ℕ) → AtPlaces list j k t (get_or list k d) → AtPlaces list j (k + 1) t (get_or list (k + 1) d) → (j < k) ⊎ ((j ≡ k) ⊎ (k < j)) → (j < k + 1) ⊎ ((j ≡ k + 1) ⊎ (k + 1 < j)) → t.at ≤ (get_or list k d).at + (get_or list k d).length
            → (get_or list k d).at + (get_or list k d).length < t.at + t.length → (get_or list k d).at + (get_or list k d).length ≤ (get_or list (k + 1) d).at → 1 ≤ (get_or list k d).length → 1 ≤ (get_or list (k + 1) d).length → ⊥
        go t j here' next' (inl less) side from to next filled filled' = let le = here'.before less in omega arith
        go t j here' next' (inr (inl e)) side from to next filled filled' =
            let at : t.at ≡ (get_or list k d).at = ap (λ (u : Stretch). u.at) (here'.same e) in
            let long : t.length ≡ (get_or list k d).length = ap (λ (u : Stretch). u.length) (here'.same e) in
            omega arith
        go t j here' next' (inr (inr more)) (inl less) from to next filled filled' = omega arith
        go t j here' next' (inr (inr more)) (inr (inl e)) from to next filled filled' = let at : t.at ≡ (get_or list (k + 1) d).at = ap (λ (u : Stretch). u.at) (next'.same e) in apart (omega arith)
        go t j here' next' (inr (inr more)) (inr (inr later)) from to next filled filled' = let le = next'.behind later in omega arith

-- ---- segments

number_below : (list : List Stretch) → AreStretches list → (x : ℕ) → text_of list x < 4611686018427387904
number_below list are x = go (some_or_none (text_of list x))
  where
    some_or_none : (n : ℕ) → (n ≡ 0) ⊎ (1 ≤ n)
    some_or_none n = grind arith

    go : (text_of list x ≡ 0) ⊎ (1 ≤ text_of list x) → text_of list x < 4611686018427387904
    go (inl none) = omega arith
    go (inr some) =
        let found = text_some list x some in
        let right : IsStretch found.stretch = All-contains IsStretch list found.stretch are.each found.is_one in
        let is = text_in list are.ascend found.stretch found.is_one x found.from found.to in
        let from = found.from in
        let to = found.to in
        let last = right.numbers_end in
        omega arith

segment_right : (list : List Stretch) → AreStretches list → (s : Stretch) → IsStretch s → IsSegment (segment_of list s)
segment_right list are s right = record {
  from_one = right.from_one;
  filled = right.filled;
  ends = right.ends;
  numbered = right.numbered;
  numbers_end = right.numbers_end;
  before_fits = number_below list are (s.at - 1);
  after_fits = number_below list are (s.at + s.length);
}

segment_shows : (list : List Stretch) → AreStretches list → (k : ℕ) (d : Stretch) → k < length list → IsSegmentOf (text_of list) (segment_of list (get_or list k d))
segment_shows list are k d lt = record {
  shows = λ n less.
      let s = get_or list k d in
      let is : text_of list (s.at + n) ≡ s.first + (s.at + n - s.at) = text_in list are.ascend s (Contains-get_or list k d lt) (s.at + n) (omega arith) (omega arith) in
      is ∙ omega arith;
  before = refl;
  after = refl;
}

segments_apart : (list : List Stretch) (a b : Stretch) → Before a b → is_meeting (segment_of list a) (segment_of list b) ≡ false
segments_apart list a b before = not_meeting a.at (a.at + a.length) b.at (b.at + b.length) before
  where
    not_meeting : (p q r s : ℕ) → q ≤ r → (nat_lt p s && nat_lt r q) ≡ false
    not_meeting p q r s l = grind (arith, nat_tests)

pub are_segments : (list : List Stretch) → AreStretches list → AreSegmentsOf (text_of list) (map (segment_of list) list)
are_segments list are = record {
  right = All-map IsSegment (segment_of list) list (λ k d lt. segment_right list are (get_or list k d) (are.each k d lt));
  each = All-map (IsSegmentOf (text_of list)) (segment_of list) list (λ k d lt. segment_shows list are k d lt);
  cover = λ x some. let found = text_some list x some in record { segment = segment_of list found.stretch; is_one = contains_map (segment_of list) list found.stretch found.is_one; from = found.from; to = found.to };
  apart = pairs_map IsStretch Before (λ a b. is_meeting a b ≡ false) (segment_of list) (λ a b _ _ before. segments_apart list a b before) list are.each are.ascend;
}
