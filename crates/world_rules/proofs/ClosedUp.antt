-- Numbers in a row of which some go, while the others close up.
use Rattle.std.proofs.Common.{◌≡◌, ◌≢◌, ℕ, zero, suc, ◌+◌, ◌-◌, ◌<◌, ◌≤◌, ◌∙◌, ◌&&◌, Bool, true, false, not, cond, List, [], ◌∷◌, length, map, ap, sym, refl, subst, arith, ⊎_elim}
use Rattle.std.specs.Prelude.{filter, nat_lt}
use Rattle.std.proofs.lemmas.Bool.{and_right, lt-ltb, le-ltb, cases_eq}
use Rattle.world_rules.specs.declared.rows.Row.{Row}
use Rattle.world_rules.specs.Picking.{places_of}
use Rattle.world_rules.specs.Edits.{down_by}
use Rattle.world_rules.specs.Laws.{numbers_from}
use Rattle.world_rules.proofs.InRow.{InRow, row_head, row_tail, row_cons}

-- how many numbers of a list that pass g are below n
abbrev pub passing_below : (ℕ → Bool) → List ℕ → ℕ → ℕ
passing_below g ns n = length (filter (λ (m : ℕ). g m && nat_lt m n) ns)

-- ---- one number more

none_below : (g : ℕ → Bool) (a k n : ℕ) → n ≤ a → passing_below g (numbers_from a k) n ≡ 0
none_below g a zero n le = refl
none_below g a (suc k) n le = rw (and_right (g a) (nat_lt a n) (le-ltb a n le)) (none_below g (a + 1) k n (omega arith))

first_below : (g : ℕ → Bool) (a k : ℕ) (v : Bool) → g a ≡ v → passing_below g (numbers_from a (suc k)) (a + 1) ≡ passing_below g (numbers_from a (suc k)) a + cond v 1 0
first_below g a k true e =
    rw (e, lt-ltb a (a + 1) (omega arith), le-ltb a a (omega arith), none_below g (a + 1) k (a + 1) (omega arith), none_below g (a + 1) k a (omega arith)) refl
first_below g a k false e = rw (e, none_below g (a + 1) k (a + 1) (omega arith), none_below g (a + 1) k a (omega arith)) refl

later_below : (g : ℕ → Bool) (a k n : ℕ) (v : Bool) → g a ≡ v → a < n → passing_below g (numbers_from (a + 1) k) (n + 1) ≡ passing_below g (numbers_from (a + 1) k) n + cond (g n) 1 0
    → passing_below g (numbers_from a (suc k)) (n + 1) ≡ passing_below g (numbers_from a (suc k)) n + cond (g n) 1 0
later_below g a k n true e lt rest = rw (e, lt-ltb a (n + 1) (omega arith), lt-ltb a n lt) (ap suc rest ∙ omega arith)
later_below g a k n false e lt rest = rw e rest

pub one_more_below : (g : ℕ → Bool) (a k n : ℕ) → a ≤ n → n < a + k → passing_below g (numbers_from a k) (n + 1) ≡ passing_below g (numbers_from a k) n + cond (g n) 1 0
one_more_below g a zero n low high = absurd (omega arith)
one_more_below g a (suc k) n low high =
    ⊎_elim
    (λ (same : a ≡ n). subst (λ (m : ℕ). passing_below g (numbers_from a (suc k)) (m + 1) ≡ passing_below g (numbers_from a (suc k)) m + cond (g m) 1 0) same (first_below g a k (g a) refl))
    (λ (differs : a ≢ n). later_below g a k n (g a) refl (omega arith) (one_more_below g (a + 1) k n (omega arith) (omega arith)))
    (cases_eq a n)

-- ---- rows that close up

-- f counts what is gone below a place
module _ (f : ℕ → ℕ) (g : ℕ → Bool) where
  -- a row closes up by what is gone below it
  abbrev pub closed : Row → Row
  closed row = down_by (f row.n) row

  abbrev pub CountsGone : ℕ → ℕ → Type 0
  CountsGone a k = (n : ℕ) → a ≤ n → n < a + k → f (n + 1) ≡ f n + cond (g n) 1 0

  closes_step : (a b : ℕ) (x : Row) (xs : List Row) (v : Bool) → x.n ≡ a → g x.n ≡ v → a ≡ b + f a → f (a + 1) ≡ f a + cond (g a) 1 0
      → ((c : ℕ) → a + 1 ≡ c + f (a + 1) → InRow c (map closed (filter (λ (row : Row). not (g row.n)) xs))) → InRow b (map closed (filter (λ (row : Row). not (g row.n)) (x ∷ xs)))
  closes_step a b x xs true here e start grows rest =
      let gone : g a ≡ true = ap g (sym here) ∙ e in
      let more : f (a + 1) ≡ f a + 1 = grows ∙ ap (λ (u : Bool). f a + cond u 1 0) gone in
      rw e (rest b (omega arith))
  closes_step a b x xs false here e start grows rest =
      let stays : g a ≡ false = ap g (sym here) ∙ e in
      let same : f (a + 1) ≡ f a + 0 = grows ∙ ap (λ (u : Bool). f a + cond u 1 0) stays in
      let place : x.n - f x.n ≡ b = ap (λ (n : ℕ). n - f n) here ∙ omega arith in
      rw e (row_cons b (closed x) (map closed (filter (λ (row : Row). not (g row.n)) xs)) place (rest (b + 1) (omega arith)))

  pub closes : (a b : ℕ) (xs : List Row) → InRow a xs → a ≡ b + f a → CountsGone a (length xs) → InRow b (map closed (filter (λ (row : Row). not (g row.n)) xs))
  closes a b [] row start grows = refl
  closes a b (x ∷ xs) row start grows =
      closes_step a b x xs (g x.n) (row_head a x xs row) refl start (grows a (omega arith) (omega arith))
      (λ c next. closes (a + 1) c xs (row_tail a x xs row) next (λ n low high. grows n (omega arith) (omega arith)))

-- what some of a row leave closes up
pub row_closes : (g : ℕ → Bool) (xs : List Row) → InRow 1 xs → InRow 1 (map (closed (passing_below g (places_of xs)) g) (filter (λ (row : Row). not (g row.n)) xs))
row_closes g xs row =
    let k : ℕ = length xs in
    closes (passing_below g (places_of xs)) g 1 1 xs row
    (rw row (ap (λ (n : ℕ). 1 + n) (sym (none_below g 1 k 1 (omega arith)))))
    (λ n low high. rw row (one_more_below g 1 k n low high))
