-- The laws of calls, by going along what was done with a pass.
use Rattle.std.proofs.Common.{◌≡◌, ◌≢◌, ℕ, Bool, cond, eq-eqb, ne_eqb, List, [], ◌∷◌, ◌++◌, All, sym, refl, ap, ◌∙◌, subst, inl, inr, arith, append_assoc, append-nil}
use mathlib.Core.Logic.{dite}
use native.Mathlib.Decide.{ℕ_discrete}
use Rattle.std.proofs.lemmas.List.Elements.{All-nil, All-cons, All-head, All-tail, All-append, All-weaker}
use Rattle.history_lock.specs.declared.view.View.{View}
use Rattle.history_lock.specs.Histories.{StartsWith, entries_of, Extends, Adds}
use Rattle.history_lock.specs.Passes.{times_ended, all_ended, IsWhole, AreApart}
use Rattle.history_lock.specs.Laws.{IsOwn, Life, made, made_from, went_on, played, found_held, looked, took_in, added_by, taken_in, passes, seen_by, AllStand, EachOnceInOrder}
use Rattle.history_lock.proofs.Counting.{times_ended-append, times_all_ended}
use Rattle.history_lock.proofs.Growing.{snoc≢nil, entries_of-append, entries_of-own}

module _ {E : Type 0} where
  starts_refl : (xs : List E) → StartsWith xs xs
  starts_refl xs = ([], sym (append-nil xs))

  starts_trans : (a b c : List E) → StartsWith a b → StartsWith b c → StartsWith a c
  starts_trans a b c s t = (t.0 ++ s.0, s.1 ∙ (ap (λ l. l ++ s.0) t.1 ∙ append_assoc c t.0 s.0))

  all_from : (a b : List E) → StartsWith a b → (seen : List (List E)) → All (StartsWith b) seen → All (StartsWith a) seen
  all_from a b s seen all = All-weaker (StartsWith b) (StartsWith a) (λ c t. starts_trans a b c s t) seen all

module _ {X : Type 0} (P : X → Type 0) where
  all_left : (xs ys : List X) → All P (xs ++ ys) → All P xs
  all_left [] ys all = All-nil P
  all_left (x ∷ xs) ys all = All-cons P x xs (All-head P x (xs ++ ys) all) (all_left xs ys (All-tail P x (xs ++ ys) all))

  all_right : (xs ys : List X) → All P (xs ++ ys) → All P ys
  all_right [] ys all = all
  all_right (x ∷ xs) ys all = all_right xs ys (All-tail P x (xs ++ ys) all)

module _ {E : Type 0} (owner : E → ℕ) where
  extends_starts : (n : ℕ) (seen history : List E) → Extends owner n seen history → StartsWith history seen
  extends_starts n seen history x = (x.0, x.1)

  own_later : (n : ℕ) (seen history mine : List E) → Extends owner n seen history → IsOwn owner seen (n, mine) → IsOwn owner history (n, mine)
  own_later n seen history mine x own = (
    own.0,
    λ nz. let whole = own.1 nz in
        let same : entries_of owner n history ≡ entries_of owner n seen = ap (entries_of owner n) x.1 ∙ (entries_of-append owner n seen x.0 ∙ (ap (λ (l : List E). entries_of owner n seen ++ l) x.3 ∙ append-nil (entries_of owner n seen))) in
        (nz, whole.1 ∙ sym same, whole.2),
  )

  own_added : (n after : ℕ) (history added mine : List E) → IsOwn owner history (n, mine) → Adds owner n history after added → IsOwn owner (history ++ added) (after, mine ++ added)
  own_added n after history added mine own (inl none) =
      let same : history ++ added ≡ history = ap (λ (l : List E). history ++ l) none.0 ∙ append-nil history in
      let same_mine : mine ++ added ≡ mine = ap (λ (l : List E). mine ++ l) none.0 ∙ append-nil mine in
      subst (λ (z : List E × ℕ × List E). IsOwn owner z.0 (z.1, z.2)) (λ i. (sym same i, sym none.1 i, sym same_mine i)) own
  own_added n after history added mine own (inr one) =
      let e : E = one.0 in
      let before : mine ≡ entries_of owner after history = dite (ℕ_discrete n 0) (λ z. own.0 z ∙ sym (one.4 z)) (λ nz. (own.1 nz).1 ∙ ap (λ k. entries_of owner k history) (sym (one.5 nz))) in
      let whole : mine ++ e ∷ [] ≡ entries_of owner after (history ++ e ∷ []) = ap (λ l. l ++ e ∷ []) before ∙ sym (entries_of-own owner after history e one.2) in
      subst (λ (l : List E). IsOwn owner (history ++ l) (after, mine ++ l)) (sym one.1) ((λ z. absurd (one.3 z)), λ nz. (nz, whole, snoc≢nil mine e))

module _ {E J A : Type 0} (owner : E → ℕ) (plays : List ℕ → List E → ℕ → J → A → ℕ → List E → List ℕ → List ℕ → Type 0) (origin : List E) (fixed : List ℕ) where
  abbrev V : Type 0
  V = View E

  abbrev L : V → Type 0
  L = Life owner plays origin fixed

  -- ---- what a pass knows of its own, from what was done with it

  fixed_is : {w : V} → L w → w.fixed ≡ fixed
  fixed_is (made is) = ap (λ (x : V). x.fixed) is
  fixed_is (made_from life is) = ap (λ (x : V). x.fixed) is ∙ fixed_is life
  fixed_is (went_on life is) = ap (λ (x : V). x.fixed) is ∙ fixed_is life
  fixed_is (played held job answer point life done) = ap (λ (x : V). x.fixed) done.view ∙ fixed_is life
  fixed_is (found_held life is) = ap (λ (x : V). x.fixed) is ∙ fixed_is life
  fixed_is (looked answer life told) = ap (λ (x : V). x.fixed) told.view ∙ fixed_is life
  fixed_is (took_in life others joined) = ap (λ (x : V). x.fixed) joined.view ∙ fixed_is life

  mine_is : {w : V} (life : L w) → w.mine ≡ added_by owner plays origin fixed life
  mine_is (made is) = ap (λ (x : V). x.mine) is
  mine_is (made_from life is) = ap (λ (x : V). x.mine) is
  mine_is (went_on life is) = ap (λ (x : V). x.mine) is ∙ mine_is life
  mine_is (played held job answer point life done) = ap (λ (x : V). x.mine) done.view ∙ ap (λ (l : List E). l ++ done.added) (mine_is life)
  mine_is (found_held life is) = ap (λ (x : V). x.mine) is ∙ mine_is life
  mine_is (looked answer life told) = ap (λ (x : V). x.mine) told.view ∙ mine_is life
  mine_is (took_in life others joined) = ap (λ (x : V). x.mine) joined.view ∙ mine_is life

  -- the numbers that stand in what a pass knows of others stand as often among those that were taken in
  times_taken : (n : ℕ) → n ≢ 0 → {w : V} (life : L w) → times_ended n w.ended ≡ times_ended n (taken_in owner plays origin fixed life)
  times_taken n nz (made is) = ap (λ (x : V). times_ended n x.ended) is
  times_taken n nz (made_from life is) = ap (λ (x : V). times_ended n x.ended) is
  times_taken n nz (went_on life is) = ap (λ (x : V). times_ended n x.ended) is ∙ times_taken n nz life
  times_taken n nz (played held job answer point life done) = ap (λ (x : V). times_ended n x.ended) done.view ∙ times_taken n nz life
  times_taken n nz (found_held life is) = ap (λ (x : V). times_ended n x.ended) is ∙ times_taken n nz life
  times_taken n nz (looked answer life told) = ap (λ (x : V). times_ended n x.ended) told.view ∙ times_taken n nz life
  times_taken n nz (took_in {v = v} {other = other} life others joined) =
      let both = ap (λ (x : V). times_ended n x.ended) joined.view ∙ times_ended-append n v.ended (all_ended other) in
      let its = times_all_ended n other nz in
      let before = times_taken n nz life in
      let theirs = times_taken n nz others in
      let all = times_ended-append n (taken_in owner plays origin fixed life) ((other.number, added_by owner plays origin fixed others) ∷ taken_in owner plays origin fixed others) in
      omega arith

  -- ---- what it has seen

  seen_all : {w : V} (life : L w) → All (StartsWith w.seen) (seen_by owner plays origin fixed life)
  seen_all (made is) = subst (λ (l : List E). All (StartsWith l) (origin ∷ [])) (sym (ap (λ (x : V). x.seen) is)) (All-cons (StartsWith origin) origin [] (starts_refl origin) (All-nil (StartsWith origin)))
  seen_all (made_from life is) = subst (λ (l : List E). All (StartsWith l) (seen_by owner plays origin fixed life)) (sym (ap (λ (x : V). x.seen) is)) (seen_all life)
  seen_all (went_on life is) = subst (λ (l : List E). All (StartsWith l) (seen_by owner plays origin fixed life)) (sym (ap (λ (x : V). x.seen) is)) (seen_all life)
  seen_all (played {v = v} held job answer point life done) =
      let h : List E = done.history ++ done.added in
      let from : StartsWith h v.seen = starts_trans h done.history v.seen (done.added, refl) (extends_starts owner v.number v.seen done.history done.extends) in
      subst (λ (l : List E). All (StartsWith l) (h ∷ seen_by owner plays origin fixed life)) (sym (ap (λ (x : V). x.seen) done.view))
      (All-cons (StartsWith h) h (seen_by owner plays origin fixed life) (starts_refl h) (all_from h v.seen from (seen_by owner plays origin fixed life) (seen_all life)))
  seen_all (found_held life is) = subst (λ (l : List E). All (StartsWith l) (seen_by owner plays origin fixed life)) (sym (ap (λ (x : V). x.seen) is)) (seen_all life)
  seen_all (looked {v = v} answer life told) =
      let h : List E = told.history in
      let from : StartsWith h v.seen = extends_starts owner v.number v.seen h told.extends in
      subst (λ (l : List E). All (StartsWith l) (h ∷ seen_by owner plays origin fixed life)) (sym (ap (λ (x : V). x.seen) told.view))
      (All-cons (StartsWith h) h (seen_by owner plays origin fixed life) (starts_refl h) (all_from h v.seen from (seen_by owner plays origin fixed life) (seen_all life)))
  seen_all (took_in {v = v} {other = other} life others joined) =
      let h : List E = joined.history in
      let its : List (List E) = seen_by owner plays origin fixed life in
      let theirs : List (List E) = seen_by owner plays origin fixed others in
      let from : StartsWith h v.seen = extends_starts owner v.number v.seen h joined.extends in
      subst (λ (l : List E). All (StartsWith l) (h ∷ (its ++ theirs))) (sym (ap (λ (x : V). x.seen) joined.view))
      (All-cons (StartsWith h) h (its ++ theirs) (starts_refl h)
      (All-append (StartsWith h) its theirs (all_from h v.seen from its (seen_all life)) (all_from h other.seen joined.extends_other theirs (seen_all others))))

  -- ---- its entries

  own_seen : {w : V} (life : L w) → IsOwn owner w.seen (w.number, added_by owner plays origin fixed life)
  own_seen (made is) = ((λ _. refl), λ nz. absurd (nz (ap (λ (x : V). x.number) is)))
  own_seen (made_from life is) = ((λ _. refl), λ nz. absurd (nz (ap (λ (x : V). x.number) is)))
  own_seen (went_on life is) = subst (λ (x : V). IsOwn owner x.seen (x.number, added_by owner plays origin fixed life)) (sym is) (own_seen life)
  own_seen (played {v = v} {w = w} held job answer point life done) =
      let mine : List E = added_by owner plays origin fixed life in
      subst (λ (l : List E). IsOwn owner l (w.number, mine ++ done.added)) (sym (ap (λ (x : V). x.seen) done.view))
      (own_added owner v.number w.number done.history done.added mine (own_later owner v.number v.seen done.history mine done.extends (own_seen life)) done.adds)
  own_seen (found_held life is) = subst (λ (x : V). IsOwn owner x.seen (x.number, added_by owner plays origin fixed life)) (sym is) (own_seen life)
  own_seen (looked {v = v} answer life told) =
      let mine : List E = added_by owner plays origin fixed life in
      subst (λ (x : V). IsOwn owner x.seen (x.number, mine)) (sym told.view) (own_later owner v.number v.seen told.history mine told.extends (own_seen life))
  own_seen (took_in {v = v} life others joined) =
      let mine : List E = added_by owner plays origin fixed life in
      subst (λ (x : V). IsOwn owner x.seen (x.number, mine)) (sym joined.view) (own_later owner v.number v.seen joined.history mine joined.extends (own_seen life))

  module _ (last : List E) where
    -- what a pass that was taken in shows, where it is true of the last history
    own_of : {v : V} (life : L v) → All (IsWhole owner last) (all_ended v) → IsOwn owner last (v.number, added_by owner plays origin fixed life) × All (IsWhole owner last) v.ended
    own_of {v} life all = dite (ℕ_discrete v.number 0)
        (λ none. (((λ _. (own_seen life).0 none), λ nz. absurd (nz none)), subst (λ (b : Bool). All (IsWhole owner last) (cond b v.ended ((v.number, v.mine) ∷ v.ended))) (eq-eqb v.number 0 none) all))
        (λ some_number.
        let both : All (IsWhole owner last) ((v.number, v.mine) ∷ v.ended) = subst (λ (b : Bool). All (IsWhole owner last) (cond b v.ended ((v.number, v.mine) ∷ v.ended))) (ne_eqb v.number 0 some_number) all in (
          ((λ none. absurd (some_number none)), λ _. subst (λ (l : List E). IsWhole owner last (v.number, l)) (mine_is life) (All-head (IsWhole owner last) (v.number, v.mine) v.ended both)),
          All-tail (IsWhole owner last) (v.number, v.mine) v.ended both,
        ))

    own_taken : {w : V} (life : L w) → All (IsWhole owner last) w.ended → All (IsOwn owner last) (taken_in owner plays origin fixed life)
    own_taken (made is) all = All-nil (IsOwn owner last)
    own_taken (made_from life is) all = All-nil (IsOwn owner last)
    own_taken (went_on life is) all = own_taken life (subst (λ (x : V). All (IsWhole owner last) x.ended) is all)
    own_taken (played held job answer point life done) all = own_taken life (subst (λ (l : List (ℕ × List E)). All (IsWhole owner last) l) (ap (λ (x : V). x.ended) done.view) all)
    own_taken (found_held life is) all = own_taken life (subst (λ (x : V). All (IsWhole owner last) x.ended) is all)
    own_taken (looked answer life told) all = own_taken life (subst (λ (l : List (ℕ × List E)). All (IsWhole owner last) l) (ap (λ (x : V). x.ended) told.view) all)
    own_taken (took_in {v = v} {other = other} life others joined) all =
        let both : All (IsWhole owner last) (v.ended ++ all_ended other) = subst (λ (l : List (ℕ × List E)). All (IsWhole owner last) l) (ap (λ (x : V). x.ended) joined.view) all in
        let its = own_of others (all_right (IsWhole owner last) v.ended (all_ended other) both) in
        let theirs : List (ℕ × List E) = taken_in owner plays origin fixed others in
        All-append (IsOwn owner last) (taken_in owner plays origin fixed life) ((other.number, added_by owner plays origin fixed others) ∷ theirs)
        (own_taken life (all_left (IsWhole owner last) v.ended (all_ended other) both))
        (All-cons (IsOwn owner last) (other.number, added_by owner plays origin fixed others) theirs its.0 (own_taken others its.1))

    -- ---- its replies

    stands : {w : V} (life : L w) → StartsWith last w.seen → AllStand owner plays origin fixed last life
    stands (made is) late = subst (λ (l : List E). StartsWith last l) (ap (λ (x : V). x.seen) is) late
    stands (made_from life is) late = stands life (subst (λ (l : List E). StartsWith last l) (ap (λ (x : V). x.seen) is) late)
    stands (went_on life is) late = stands life (subst (λ (x : V). StartsWith last x.seen) is late)
    stands (played {v = v} held job answer point life done) late =
        let mine : List E = added_by owner plays origin fixed life in
        let after : StartsWith last (done.history ++ done.added) = subst (λ (l : List E). StartsWith last l) (ap (λ (x : V). x.seen) done.view) late in
        let before : StartsWith last done.history = starts_trans last (done.history ++ done.added) done.history after (done.added, refl) in
        let from : StartsWith done.history v.seen = extends_starts owner v.number v.seen done.history done.extends in (
          stands life (starts_trans last done.history v.seen before from),
          (all_from done.history v.seen from (seen_by owner plays origin fixed life) (seen_all life), after),
          own_later owner v.number v.seen done.history mine done.extends (own_seen life),
          fixed_is life,
        )
    stands (found_held life is) late = stands life (subst (λ (l : List E). StartsWith last l) (ap (λ (x : V). x.seen) is) late)
    stands (looked {v = v} answer life told) late =
        let here : StartsWith last told.history = subst (λ (l : List E). StartsWith last l) (ap (λ (x : V). x.seen) told.view) late in
        let from : StartsWith told.history v.seen = extends_starts owner v.number v.seen told.history told.extends in (
          stands life (starts_trans last told.history v.seen here from),
          (all_from told.history v.seen from (seen_by owner plays origin fixed life) (seen_all life), here),
        )
    stands (took_in {v = v} {other = other} life others joined) late =
        let h : List E = joined.history in
        let its : List (List E) = seen_by owner plays origin fixed life in
        let theirs : List (List E) = seen_by owner plays origin fixed others in
        let here : StartsWith last h = subst (λ (l : List E). StartsWith last l) (ap (λ (x : V). x.seen) joined.view) late in
        let from : StartsWith h v.seen = extends_starts owner v.number v.seen h joined.extends in (
          stands life (starts_trans last h v.seen here from),
          stands others (starts_trans last h other.seen here joined.extends_other),
          (All-append (StartsWith h) its theirs (all_from h v.seen from its (seen_all life)) (all_from h other.seen joined.extends_other theirs (seen_all others)), here),
        )

  apart_is : {w : V} (life : L w) → AreApart (all_ended w) → AreApart (passes owner plays origin fixed life)
  apart_is {w} life apart n nz = let most = apart n nz in let is = times_all_ended n w nz in let same = times_taken n nz life in omega arith

  pub once_in_order : EachOnceInOrder owner plays origin fixed
  once_in_order w life last numbers fits apart = record {
    own = All-cons (IsOwn owner last) (w.number, added_by owner plays origin fixed life) (taken_in owner plays origin fixed life)
        (own_later owner w.number w.seen last (added_by owner plays origin fixed life) fits.seen (own_seen life)) (own_taken last life fits.ended);
    apart = apart_is life apart;
    stand = stands last life (extends_starts owner w.number w.seen last fits.seen);
    same = sym fits.fixed ∙ fixed_is life;
  }
