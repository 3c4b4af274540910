-- A number above all numbers of a list has no entry there.
use Rattle.std.proofs.Common.{◌≡◌, ◌≢◌, ℕ, ◌+◌, inr, ◌<◌, ◌≤◌, Bool, cond, List, [], ◌∷◌, ◌++◌, All, refl, ap, ◌∙◌, arith, ne_eqb}
use mathlib.Core.Logic.{dite}
use native.Mathlib.Decide.{ℕ_discrete}
use Rattle.std.proofs.lemmas.List.Elements.{All-head, All-tail}
use Rattle.history_lock.specs.Histories.{entries_of, Grows}

pub none_later : (last n : ℕ) → last < n → (xs : List (ℕ × ℕ)) → All (λ (e : ℕ × ℕ). e.0 ≤ last) xs → entries_of (λ (e : ℕ × ℕ). e.0) n xs ≡ []
none_later last n lt [] all = refl
none_later last n lt (x ∷ xs) all =
    let here = All-head (λ (e : ℕ × ℕ). e.0 ≤ last) x xs all in
    let after = none_later last n lt xs (All-tail (λ (e : ℕ × ℕ). e.0 ≤ last) x xs all) in
    ap (λ (b : Bool). cond b (x ∷ entries_of (λ (e : ℕ × ℕ). e.0) n xs) (entries_of (λ (e : ℕ × ℕ). e.0) n xs)) (ne_eqb x.0 n (λ e. omega arith)) ∙ after

-- one entry more, of a number that is above all others or of the number that was there
pub grown_by_one : (last number own job : ℕ) (before after : List (ℕ × ℕ)) → All (λ (e : ℕ × ℕ). e.0 ≤ last) before → after ≡ before ++ (own, job) ∷ [] → (number ≡ 0 → own ≡ last + 1) → (number ≢ 0 → own ≡ number)
    → Grows (λ (e : ℕ × ℕ). e.0) number before own after
grown_by_one last number own job before after all is new old =
    let some_number : own ≢ 0 = λ z. dite (ℕ_discrete number 0) (λ n. let k = new n in absurd (omega arith)) (λ n. let k = old n in absurd (n (omega arith))) in
    ((own, job) ∷ [], is, inr ((own, job), refl, refl, some_number, (λ z. let k = new z in none_later last own (omega arith) before all), old))
