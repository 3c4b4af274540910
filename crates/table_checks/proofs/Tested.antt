-- A fact of all items that a loop tests, one after the other.
use Rattle.std.proofs.Common.{◌≡◌, ◌∙◌, ℕ, ◌+◌, ◌<◌, ◌≤◌, Bool, true, false, true≢false, List, length, map, take, get_or, subst, sym, refl}
use Rattle.std.specs.Prelude.{IsTrue, ◌↔◌}
use Rattle.std.specs.List.{All}
use Rattle.std.proofs.lemmas.List.{take_all}
use Rattle.std.proofs.lemmas.List.Elements.{All-more, All-map}
use Rattle.tumbler.proofs.Alls.{All-unmapped}

-- ---- answers

pub yes_iff : {F : Type 0} → F → IsTrue true ↔ F
yes_iff f = ((λ e. f), (λ g. refl))

pub no_iff : {F : Type 0} → (F → ⊥) → IsTrue false ↔ F
no_iff not = ((λ e. absurd (true≢false (sym e))), (λ f. absurd (not f)))

-- what a test that failed decides does not hold
pub refuted : {F : Type 0} (b : Bool) → IsTrue b ↔ F → b ≡ false → F → ⊥
refuted b decides e f = true≢false (sym (decides.1 f) ∙ e)

-- a test that failed is true of nothing
pub untrue : (b c : Bool) → b ≡ c → b ≡ false → IsTrue c → ⊥
untrue b c is e t = true≢false (sym t ∙ sym is ∙ e)

-- ---- loops

module _ {X : Type 0} (P : X → Type 0) where
  pub more : (xs : List X) (i : ℕ) (x : X) → i < length xs → x ≡ get_or xs i x → P x → All P (take i xs) → All P (take (i + 1) xs)
  more xs i x lt is p before = All-more P xs i x lt before (subst P is p)

  pub whole : (xs : List X) (i : ℕ) → length xs ≤ i → All P (take i xs) → All P xs
  whole xs i past all = subst (All P) (take_all i xs past) all

  pub fails : (xs : List X) (i : ℕ) (x : X) → i < length xs → x ≡ get_or xs i x → (P x → ⊥) → All P xs → ⊥
  fails xs i x lt is not all = not (subst P (sym is) (all i x lt))

module _ {X Y : Type 0} (P : Y → Type 0) (view : X → Y) where
  pub seen_whole : (xs : List X) (i : ℕ) → length xs ≤ i → All (λ x. P (view x)) (take i xs) → All P (map view xs)
  seen_whole xs i past all = All-map P view xs (whole (λ x. P (view x)) xs i past all)

  pub seen_fails : (xs : List X) (i : ℕ) (x : X) → i < length xs → x ≡ get_or xs i x → (P (view x) → ⊥) → All P (map view xs) → ⊥
  seen_fails xs i x lt is not all = fails (λ x. P (view x)) xs i x lt is not (All-unmapped P view xs all)
