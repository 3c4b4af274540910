-- Places of marked nodes: they rise.
use Rattle.std.proofs.Common.{◌≡◌, ◌∙◌, inl, inr, ℕ, zero, suc, ◌+◌, ◌-◌, ◌<◌, ◌≤◌, Bool, true, false, List, length, sym, ap, refl, arith, true≢false}
use Rattle.std.specs.Prelude.{count_by}
use Rattle.std.proofs.lemmas.List.{take_all, get_or_past}
use Rattle.std.proofs.lemmas.List.Sums.{count_by_more_yes, count_by_more_no}
use Rattle.std.proofs.lemmas.Bool.{cases_lt}
use Rattle.enfilade_core.specs.NewNumbers.{is_marked, rank}

pub marked_within : (marks : List Bool) (k : ℕ) → is_marked marks k ≡ true → k < length marks
marked_within marks k h = elim (cases_lt k (length marks)) [
  | inl lt ↦ lt
  | inr ge ↦ absurd (true≢false (sym h ∙ get_or_past marks k false ge))
]

pub rank_yes : (marks : List Bool) (k : ℕ) → is_marked marks k ≡ true → rank marks (k + 1) ≡ rank marks k + 1
rank_yes marks k h = count_by_more_yes (λ mark. mark) marks k false (marked_within marks k h) h

pub rank_no : (marks : List Bool) (k : ℕ) → is_marked marks k ≡ false → rank marks (k + 1) ≡ rank marks k
rank_no marks k h = elim (cases_lt k (length marks)) [
  | inl lt ↦ count_by_more_no (λ mark. mark) marks k false lt h
  | inr ge ↦ ap (count_by (λ mark. mark)) (take_all (k + 1) marks (omega (arith, ge)) ∙ sym (take_all k marks ge))
]

rank_step : (marks : List Bool) (k : ℕ) → rank marks k ≤ rank marks (k + 1)
rank_step marks k = by (is_marked marks k) refl
  where
    by : (b : Bool) → is_marked marks k ≡ b → rank marks k ≤ rank marks (k + 1)
    by true e = omega (arith, rank_yes marks k e)
    by false e = omega (arith, rank_no marks k e)

rank_on : (marks : List Bool) (k n : ℕ) → rank marks k ≤ rank marks (k + n)
rank_on marks k zero = let same : k + 0 ≡ k = omega arith in omega (arith, ap (rank marks) same)
rank_on marks k (suc n) =
    let same : k + suc n ≡ (k + n) + 1 = omega arith in
    let rest = rank_on marks k n in
    let step = rank_step marks (k + n) in
    omega (arith, rest, step, ap (rank marks) same)

pub rank_up_to : (marks : List Bool) (j k : ℕ) → j ≤ k → rank marks j ≤ rank marks k
rank_up_to marks j k le =
    let same : j + (k - j) ≡ k = omega (arith, le) in
    let on = rank_on marks j (k - j) in
    omega (arith, on, ap (rank marks) same)

pub rank_less : (marks : List Bool) (j k : ℕ) → is_marked marks j ≡ true → j < k → rank marks j < rank marks k
rank_less marks j k h lt =
    let same : (j + 1) + (k - (j + 1)) ≡ k = omega (arith, lt) in
    let on = rank_on marks (j + 1) (k - (j + 1)) in
    omega (arith, on, rank_yes marks j h, ap (rank marks) same)

-- no two marked nodes have one place
pub rank_once : (marks : List Bool) (j k : ℕ) → is_marked marks j ≡ true → is_marked marks k ≡ true → rank marks j ≡ rank marks k → j ≡ k
rank_once marks j k hj hk same = elim (cases_lt j k) [
  | inl lt ↦ let less = rank_less marks j k hj lt in absurd (omega (arith, less, same))
  | inr ge ↦ elim (cases_lt k j) [
    | inl lt ↦ let less = rank_less marks k j hk lt in absurd (omega (arith, less, same))
    | inr le ↦ omega (arith, ge, le)
  ]
]

-- each place below a rank is that of a marked node
pub rank_only : (marks : List Bool) (n p : ℕ) → p < rank marks n → (k : ℕ) × (is_marked marks k ≡ true) × (rank marks k ≡ p)
rank_only marks zero p lt = absurd (omega (arith, lt, none marks))
  where
    none : (ms : List Bool) → rank ms 0 ≡ 0
    none ms = refl
rank_only marks (suc n) p lt = by (is_marked marks n) refl (rank_only marks n p)
  where
    on : suc n ≡ n + 1
    on = omega arith

    by : (b : Bool) → is_marked marks n ≡ b → (p < rank marks n → (k : ℕ) × (is_marked marks k ≡ true) × (rank marks k ≡ p)) → (k : ℕ) × (is_marked marks k ≡ true) × (rank marks k ≡ p)
    by true e early = elim (cases_lt p (rank marks n)) [
      | inl less ↦ early less
      | inr ge ↦ (n, e, omega (arith, ge, lt, rank_yes marks n e, ap (rank marks) on))
    ]
    by false e early = early (omega (arith, lt, rank_no marks n e, ap (rank marks) on))
