-- What a pass knows stays true where the history grows.
use Rattle.std.proofs.Common.{◌≡◌, ◌≢◌, ℕ, ◌==◌, Bool, true, false, cond, List, [], ◌∷◌, ◌++◌, length, All, sym, refl, ap, ◌∙◌, subst, inl, inr, ⊎_elim, arith, append_assoc, append-nil, eq-eqb, ne_eqb}
use mathlib.Core.Logic.{dite}
use native.Mathlib.Decide.{ℕ_discrete}
use Rattle.std.proofs.lemmas.Bool.{cases_Bool}
use Rattle.std.proofs.lemmas.List.Elements.{filter-append, All-nil, All-cons, All-head, All-tail, All-append}
use Rattle.history_lock.specs.declared.view.View.{View}
use Rattle.history_lock.specs.Histories.{StartsWith, entries_of, Extends, Adds}
use Rattle.history_lock.specs.Passes.{same_number, times_ended, IsWhole, Fits, all_ended, taking_in, looking}
use Rattle.history_lock.specs.inside.Rule.{times_known}
use Rattle.history_lock.specs.inside.Steps.{later_number, successor}
use Rattle.history_lock.proofs.Counting.{same_number-other, other_from_none, times_known-live, times_known-spent}

module _ {E : Type 0} where
  cons≢nil : (x : E) (xs : List E) → x ∷ xs ≢ []
  cons≢nil x xs e = let l : length (x ∷ xs) ≡ 0 = ap length e in absurd (omega arith)

  pub snoc≢nil : (xs : List E) (x : E) → xs ++ x ∷ [] ≢ []
  snoc≢nil [] x e = cons≢nil x [] e
  snoc≢nil (y ∷ ys) x e = cons≢nil y (ys ++ x ∷ []) e

module _ {E : Type 0} (owner : E → ℕ) where
  one_own : (n : ℕ) (e : E) → owner e ≡ n → entries_of owner n (e ∷ []) ≡ e ∷ []
  one_own n e is = ap (λ (b : Bool). cond b (e ∷ []) []) (eq-eqb (owner e) n is)

  one_other : (n : ℕ) (e : E) → owner e ≢ n → entries_of owner n (e ∷ []) ≡ []
  one_other n e ne = ap (λ (b : Bool). cond b (e ∷ []) []) (ne_eqb (owner e) n ne)

  pub entries_of-append : (n : ℕ) (xs ys : List E) → entries_of owner n (xs ++ ys) ≡ entries_of owner n xs ++ entries_of owner n ys
  entries_of-append n xs ys = filter-append (λ e. owner e == n) xs ys

  pub entries_of-own : (n : ℕ) (xs : List E) (e : E) → owner e ≡ n → entries_of owner n (xs ++ e ∷ []) ≡ entries_of owner n xs ++ e ∷ []
  entries_of-own n xs e is = entries_of-append n xs (e ∷ []) ∙ ap (λ (l : List E). entries_of owner n xs ++ l) (one_own n e is)

  pub entries_of-other : (n : ℕ) (xs : List E) (e : E) → owner e ≢ n → entries_of owner n (xs ++ e ∷ []) ≡ entries_of owner n xs
  entries_of-other n xs e ne = entries_of-append n xs (e ∷ []) ∙ (ap (λ (l : List E). entries_of owner n xs ++ l) (one_other n e ne) ∙ append-nil (entries_of owner n xs))

  -- a number without an entry in the history stands nowhere
  none_ended : (history : List E) (n : ℕ) → entries_of owner n history ≡ [] → (pairs : List (ℕ × List E)) → All (IsWhole owner history) pairs → times_ended n pairs ≡ 0
  none_ended history n none [] whole = refl
  none_ended history n none (p ∷ ps) whole =
      let here = All-head (IsWhole owner history) p ps whole in
      let other : p.0 ≢ n = λ e. here.2 (here.1 ∙ (ap (λ k. entries_of owner k history) e ∙ none)) in
      let zero_here = same_number-other p.0 n other in
      let r = none_ended history n none ps (All-tail (IsWhole owner history) p ps whole) in
      omega arith

  pub none_known : (history : List E) (numbers : List ℕ) (n : ℕ) → n ≢ 0 → entries_of owner n history ≡ [] → (v : View E) → (v.spent ≡ false → Fits owner history numbers v) → times_known n v ≡ 0
  none_known history numbers n some_number none v fits = ⊎_elim (λ (gone : v.spent ≡ true). times_known-spent n v gone)
      (λ (live : v.spent ≡ false).
      let f = fits live in
      let other : v.number ≢ n = λ e. let w = f.numbered (λ z. some_number (sym e ∙ z)) in w.2 (w.1 ∙ (ap (λ k. entries_of owner k history) e ∙ none)) in
      let zero_here = same_number-other v.number n other in
      let r = none_ended history n none v.ended f.ended in
      let is = times_known-live n v live in
      omega arith)
      (cases_Bool v.spent)

  -- one entry of the number after comes to the history
  module _ (history : List E) (e : E) (after : ℕ) (its : owner e ≡ after) (some_number : after ≢ 0) where
    abbrev later : List E
    later = history ++ e ∷ []

    pub starts_later : (seen : List E) → StartsWith history seen → StartsWith later seen
    starts_later seen s = (s.0 ++ e ∷ [], ap (λ l. l ++ e ∷ []) s.1 ∙ append_assoc seen s.0 (e ∷ []))

    extends_later : (n : ℕ) (seen : List E) → (n ≢ 0 → after ≢ n) → Extends owner n seen history → Extends owner n seen later
    extends_later n seen other x =
        let none : entries_of owner 0 (x.0 ++ e ∷ []) ≡ [] = entries_of-other 0 x.0 e (λ z. some_number (sym its ∙ z)) ∙ x.2 in (
          x.0 ++ e ∷ [],
          ap (λ l. l ++ e ∷ []) x.1 ∙ append_assoc seen x.0 (e ∷ []),
          none,
          dite (ℕ_discrete n 0) (λ z. ap (λ k. entries_of owner k (x.0 ++ e ∷ [])) z ∙ none)
              (λ nz. entries_of-other n x.0 e (λ i. other nz (sym its ∙ i)) ∙ x.3),
        )

    whole_later : (pair : ℕ × List E) → after ≢ pair.0 → IsWhole owner history pair → IsWhole owner later pair
    whole_later pair other w = (w.0, w.1 ∙ sym (entries_of-other pair.0 history e (λ i. other (sym its ∙ i))), w.2)

    all_later : (pairs : List (ℕ × List E)) → times_ended after pairs ≡ 0 → All (IsWhole owner history) pairs → All (IsWhole owner later) pairs
    all_later [] none whole = All-nil (IsWhole owner later)
    all_later (p ∷ ps) none whole =
        let here : same_number p.0 after ≡ 0 = omega arith in let there : times_ended after ps ≡ 0 = omega arith in
        All-cons (IsWhole owner later) p ps (whole_later p (other_from_none p.0 after here) (All-head (IsWhole owner history) p ps whole)) (all_later ps there (All-tail (IsWhole owner history) p ps whole))

    -- it is none of this pass's
    pub fits_later : (numbers : List ℕ) (v : View E) → same_number v.number after ≡ 0 → times_ended after v.ended ≡ 0 → Fits owner history numbers v → Fits owner later numbers v
    fits_later numbers v none none_ended f = record {
      fixed = f.fixed;
      seen = extends_later v.number v.seen (λ _. other_from_none v.number after none) f.seen;
      heard = starts_later v.heard f.heard;
      unnumbered = f.unnumbered;
      numbered = λ nz. whole_later (v.number, v.mine) (other_from_none v.number after none) (f.numbered nz);
      ended = all_later v.ended none_ended f.ended;
    }

    -- it is this pass's
    pub fits_own : (numbers : List ℕ) (v : View E) → (v.number ≡ 0 → entries_of owner after history ≡ []) → (v.number ≢ 0 → after ≡ v.number) → times_ended after v.ended ≡ 0
        → Fits owner history numbers v → (w : View E) → w.number ≡ after → w.seen ≡ later → w.mine ≡ v.mine ++ e ∷ [] → w.heard ≡ v.heard → w.ended ≡ v.ended → w.fixed ≡ v.fixed → Fits owner later numbers w
    fits_own numbers v new old none_ended f w number seen mine heard ended fixed =
        let mine_before : entries_of owner after history ≡ v.mine = dite (ℕ_discrete v.number 0) (λ z. new z ∙ sym (f.unnumbered z)) (λ nz. ap (λ k. entries_of owner k history) (old nz) ∙ sym ((f.numbered nz).1)) in
        let mine_after : v.mine ++ e ∷ [] ≡ entries_of owner after later = sym (entries_of-own after history e its ∙ ap (λ l. l ++ e ∷ []) mine_before) in
        record {
          fixed = fixed ∙ f.fixed;
          seen = ([], sym seen ∙ sym (append-nil w.seen), refl, refl);
          heard = subst (λ (l : List E). StartsWith later l) (sym heard) (starts_later v.heard f.heard);
          unnumbered = λ z. absurd (some_number (sym number ∙ z));
          numbered = λ nz. (nz, mine ∙ (mine_after ∙ ap (λ k. entries_of owner k later) (sym number)), λ none. snoc≢nil v.mine e (sym mine ∙ none));
          ended = subst (λ (l : List (ℕ × List E)). All (IsWhole owner later) l) (sym ended) (all_later v.ended none_ended f.ended);
        }

  -- the pass has seen the history, and nothing else of what it knows has changed
  pub fits_same : (history : List E) (numbers : List ℕ) (v : View E) → Fits owner history numbers v → (w : View E) → w.number ≡ v.number → w.seen ≡ history → w.mine ≡ v.mine → w.heard ≡ v.heard → w.ended ≡ v.ended → w.fixed ≡ v.fixed → Fits owner history numbers w
  fits_same history numbers v f w number seen mine heard ended fixed = record {
    fixed = fixed ∙ f.fixed;
    seen = ([], sym seen ∙ sym (append-nil w.seen), refl, refl);
    heard = subst (λ (l : List E). StartsWith history l) (sym heard) f.heard;
    unnumbered = λ z. mine ∙ f.unnumbered (sym number ∙ z);
    numbered = λ nz. let k = f.numbered (λ z. nz (number ∙ z)) in (nz, mine ∙ (k.1 ∙ ap (λ k. entries_of owner k history) (sym number)), λ none. k.2 (sym mine ∙ none));
    ended = subst (λ (l : List (ℕ × List E)). All (IsWhole owner history) l) (sym ended) f.ended;
  }

  -- the number after a play is the one that what was added tells
  pub later_number-is : (n : ℕ) (history : List E) (after : ℕ) (added : List E) → Adds owner n history after added → later_number owner n added ≡ after
  later_number-is n history after added (inl none) = ap (later_number owner n) none.0 ∙ sym none.1
  later_number-is n history after added (inr one) = ap (later_number owner n) one.1 ∙ one.2

  pub fits_looking : (history : List E) (numbers : List ℕ) (v : View E) → Fits owner history numbers v → Fits owner history numbers (looking v history)
  fits_looking history numbers v f = record { fixed = f.fixed; seen = ([], sym (append-nil history), refl, refl); heard = (history, refl); unnumbered = f.unnumbered; numbered = f.numbered; ended = f.ended }

  pub fits_successor : (history : List E) (numbers : List ℕ) (v : View E) → Fits owner history numbers v → Fits owner history numbers (successor v)
  fits_successor history numbers v f = let x = f.seen in
      record { fixed = f.fixed; seen = (x.0, x.1, x.2, x.2); heard = (history, refl); unnumbered = λ _. refl; numbered = λ nz. absurd (nz refl); ended = All-nil (IsWhole owner history) }

  all_whole : (history : List E) (numbers : List ℕ) (v : View E) → Fits owner history numbers v → All (IsWhole owner history) (all_ended v)
  all_whole history numbers v f = dite (ℕ_discrete v.number 0)
      (λ z. subst (λ (b : Bool). All (IsWhole owner history) (cond b v.ended ((v.number, v.mine) ∷ v.ended))) (sym (eq-eqb v.number 0 z)) f.ended)
      (λ nz. subst (λ (b : Bool). All (IsWhole owner history) (cond b v.ended ((v.number, v.mine) ∷ v.ended))) (sym (ne_eqb v.number 0 nz)) (All-cons (IsWhole owner history) (v.number, v.mine) v.ended (f.numbered nz) f.ended))

  pub fits_taking_in : (history : List E) (numbers : List ℕ) (v other : View E) → Fits owner history numbers v → Fits owner history numbers other → Fits owner history numbers (taking_in v other)
  fits_taking_in history numbers v other f g = record {
    fixed = f.fixed;
    seen = f.seen;
    heard = (g.seen.0, g.seen.1);
    unnumbered = f.unnumbered;
    numbered = f.numbered;
    ended = All-append (IsWhole owner history) v.ended (all_ended other) f.ended (all_whole history numbers other g);
  }
