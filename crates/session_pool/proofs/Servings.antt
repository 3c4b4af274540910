-- Jobs served one after another, and by several passes, are jobs served by one.
use Rattle.std.proofs.Common.{◌≡◌, ℕ, ◌+◌, ◌==◌, Bool, cond, eq-eqb, List, [], ◌∷◌, ◌++◌, All, sym, refl, ap, ◌∙◌, subst, arith, append_assoc, append-nil, length-append}
use Rattle.std.specs.Prelude.{flat_map}
use Rattle.std.proofs.lemmas.List.Elements.{filter-append, All-nil, All-cons, All-head, All-tail, All-append}
use Rattle.history_lock.specs.declared.view.View.{View}
use Rattle.history_lock.specs.Histories.{StartsWith, entries_of, Extends}
use Rattle.history_lock.specs.Passes.{all_ended, newcomer, looking, taking_in, HasTakenIn}
use Rattle.session_pool.specs.Counts.{saturated, raised}
use Rattle.session_pool.specs.Serving.{HasServed, HasTold}

module _ {E : Type 0} where
  starts_trans : (a b c : List E) → StartsWith c b → StartsWith b a → StartsWith c a
  starts_trans a b c s t = (t.0 ++ s.0, s.1 ∙ (ap (λ l. l ++ s.0) t.1 ∙ append_assoc a t.0 s.0))

  -- what was seen stays seen
  seen_later : (b c : List E) → StartsWith c b → (served : List (View E)) → All (λ s. StartsWith b s.seen) served → All (λ s. StartsWith c s.seen) served
  seen_later b c on [] all = All-nil (λ s. StartsWith c s.seen)
  seen_later b c on (s ∷ ss) all = All-cons (λ s. StartsWith c s.seen) s ss (starts_trans s.seen b c on (All-head (λ s. StartsWith b s.seen) s ss all)) (seen_later b c on ss (All-tail (λ s. StartsWith b s.seen) s ss all))

  flat_map-append : (xs ys : List (View E)) → flat_map all_ended (xs ++ ys) ≡ flat_map all_ended xs ++ flat_map all_ended ys
  flat_map-append [] ys = refl
  flat_map-append (x ∷ xs) ys = ap (λ l. all_ended x ++ l) (flat_map-append xs ys) ∙ sym (append_assoc (all_ended x) (flat_map all_ended xs) (flat_map all_ended ys))

  unnumbered : (v : View E) → v.number ≡ 0 → all_ended v ≡ v.ended
  unnumbered v none = ap (λ (b : Bool). cond b v.ended ((v.number, v.mine) ∷ v.ended)) (eq-eqb v.number 0 none)

module _ {E : Type 0} (owner : E → ℕ) where
  none_twice : (n : ℕ) (xs ys : List E) → entries_of owner n xs ≡ [] → entries_of owner n ys ≡ [] → entries_of owner n (xs ++ ys) ≡ []
  none_twice n xs ys a b = filter-append (λ e. owner e == n) xs ys ∙ (ap (λ l. l ++ entries_of owner n ys) a ∙ b)

  extends_trans : (n : ℕ) (a b c : List E) → Extends owner n a b → Extends owner n b c → Extends owner n a c
  extends_trans n a b c x y = (
    x.0 ++ y.0,
    y.1 ∙ (ap (λ l. l ++ y.0) x.1 ∙ append_assoc a x.0 y.0),
    none_twice 0 x.0 y.0 x.2 y.2,
    none_twice n x.0 y.0 x.3 y.3,
  )

  -- no job was served
  pub served_none : (v : View E) → HasServed owner v [] v
  served_none v = record { extends = ([], sym (append-nil v.seen), refl, refl); seen = All-nil (λ s. StartsWith v.seen s.seen); view = ap (λ l. record v { ended = l }) (sym (append-nil v.ended)) }

  -- a pass was taken in that served these jobs, and had no number
  pub served_by_another : (v other w : View E) (served : List (View E)) → other.number ≡ 0 → other.ended ≡ flat_map all_ended served → All (λ s. StartsWith other.seen s.seen) served
      → HasTakenIn owner v other w → HasServed owner v served w
  served_by_another v other w served none ended seen t =
      let h = t.history in
      let both : View E = looking (taking_in v other) h in
      let is : all_ended other ≡ flat_map all_ended served = unnumbered other none ∙ ended in
      subst (λ x. HasServed owner v served x) (sym t.view)
      (record {
        extends = t.extends;
        seen = seen_later other.seen h t.extends_other served seen;
        view = ap (λ l. record v { seen = h; heard = []; ended = v.ended ++ l }) is;
      })

  -- a pass was taken in that served one job
  pub served_one : (v same own w : View E) → same ≡ v → HasTakenIn owner same own w → HasServed owner v (own ∷ []) w
  served_one v same own w is taken =
      let t : HasTakenIn owner v own w = subst (λ u. HasTakenIn owner u own w) is taken in
      let h = t.history in
      subst (λ x. HasServed owner v (own ∷ []) x) (sym t.view)
      (record {
        extends = t.extends;
        seen = All-cons (λ s. StartsWith h s.seen) own [] t.extends_other (All-nil (λ s. StartsWith h s.seen));
        view = ap (λ l. record v { seen = h; heard = []; ended = v.ended ++ l }) (sym (append-nil (all_ended own)));
      })

  pub served_both : (v w x : View E) (one two : List (View E)) → HasServed owner v one w → HasServed owner w two x → HasServed owner v (one ++ two) x
  served_both v w x one two a b =
      let number : w.number ≡ v.number = ap (λ u. u.number) a.view in
      let on : Extends owner v.number w.seen x.seen = subst (λ n. Extends owner n w.seen x.seen) number b.extends in
      let later : View E → View E = λ u. record u { seen = x.seen; heard = x.heard; ended = u.ended ++ flat_map all_ended two } in
      let after : later w ≡ later (record v { seen = w.seen; heard = w.heard; ended = v.ended ++ flat_map all_ended one }) = ap later a.view in
      let with : List (ℕ × List E) → View E = λ l. record v { seen = x.seen; heard = x.heard; ended = l } in
      let joined : with ((v.ended ++ flat_map all_ended one) ++ flat_map all_ended two) ≡ with (v.ended ++ flat_map all_ended (one ++ two)) =
      ap with (append_assoc v.ended (flat_map all_ended one) (flat_map all_ended two) ∙ ap (λ l. v.ended ++ l) (sym (flat_map-append one two))) in
      record {
        extends = extends_trans v.number v.seen w.seen x.seen a.extends on;
        seen = All-append (λ s. StartsWith x.seen s.seen) one two (seen_later w.seen x.seen (b.extends.0, b.extends.1) one a.seen) b.seen;
        view = b.view ∙ (after ∙ joined);
      }

  pub told_none : (v : View E) (count : ℕ) → count ≡ 0 → HasTold owner v 0 count v
  told_none v count none = record { served = []; passes = served_none v; each = refl; counted = none }

  pub told_one : (v w x own : View E) (jobs count more : ℕ) → HasTold owner v jobs count w → HasServed owner w (own ∷ []) x → more ≡ raised count → HasTold owner v (jobs + 1) more x
  told_one v w x own jobs count more told one is = record {
    served = told.served ++ own ∷ [];
    passes = served_both v w x told.served (own ∷ []) told.passes one;
    each = (let e = told.each in omega (arith, length-append told.served (own ∷ [])));
    counted = (let e = told.counted in omega arith);
  }

  pub told_both : (v w x other : View E) (seen : List E) (fixed : List ℕ) (jobs more count count' counts : ℕ) → HasTold owner v jobs count w → HasTold owner (newcomer seen fixed) more count' other → HasTakenIn owner w other x
      → counts ≡ saturated (count + count') → HasTold owner v (jobs + more) counts x
  told_both v w x other seen fixed jobs more count count' counts told theirs t is =
      let p = theirs.passes in
      let one = served_by_another w other x theirs.served (ap (λ u. u.number) p.view) (ap (λ u. u.ended) p.view) p.seen t in
      record {
        served = told.served ++ theirs.served;
        passes = served_both v w x told.served theirs.served told.passes one;
        each = (let e = told.each in let e' = theirs.each in omega (arith, length-append told.served theirs.served));
        counted = (let e = told.counted in let e' = theirs.counted in omega arith);
      }
