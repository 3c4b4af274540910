-- How far the pool has come after each of its steps.
use Rattle.std.proofs.Common.{◌≡◌, ℕ, ◌+◌, [], ◌∷◌, length, sym, refl, ap, ◌∙◌, subst, arith}
use Rattle.history_lock.specs.declared.view.View.{View}
use Rattle.history_lock.specs.Passes.{newcomer, HasTakenIn}
use Rattle.session_pool.specs.declared.traffic.Traffic.{Traffic}
use Rattle.session_pool.specs.Counts.{saturated, raised}
use Rattle.session_pool.specs.Serving.{HasServed, HasTold, HasPooled}
use Rattle.session_pool.specs.inside.Rule.{traffic, united, all_parts}
use Rattle.session_pool.specs.inside.Work.{HasWorked, Stands}
use Rattle.session_pool.proofs.Servings.{served_none, served_by_another, told_none, told_one, told_both}

module _ {E : Type 0} (owner : E → ℕ) where
  as_many : (v w : View E) (jobs jobs' count : ℕ) → jobs ≡ jobs' → HasTold owner v jobs count w → HasTold owner v jobs' count w
  as_many v w jobs jobs' count e told = subst (λ k. HasTold owner v k count w) e told

  -- a new worker
  pub worked_none : (v old : View E) (count : ℕ) (hand : Traffic) → v ≡ newcomer old.seen old.fixed → count ≡ 0 → hand ≡ traffic 1 0 0 → HasWorked owner v count hand
  worked_none v old count hand new none seat =
      let begun : View E = newcomer old.seen old.fixed in
      let told : HasTold owner begun 0 count begun = told_none owner begun count none in
      let told' : HasTold owner begun 0 count v = subst (λ u. HasTold owner begun 0 count u) (sym new) told in
      record {
        seen = old.seen;
        fixed = old.fixed;
        parts = ap (λ h. h.parts) seat;
        sent = ap (λ h. h.sent) seat;
        told = as_many begun v 0 hand.taken count (sym (ap (λ h. h.taken) seat)) told';
      }

  pub worked_one : (v x own : View E) (count count' : ℕ) (hand hand' : Traffic) → HasWorked owner v count hand → HasServed owner v (own ∷ []) x → count' ≡ raised count → hand' ≡ traffic 1 hand.sent (hand.taken + 1) → HasWorked owner x count' hand'
  worked_one v x own count count' hand hand' worked one is seat =
      let begun : View E = newcomer worked.seen worked.fixed in
      record {
        seen = worked.seen;
        fixed = worked.fixed;
        parts = ap (λ h. h.parts) seat;
        sent = ap (λ h. h.sent) seat ∙ worked.sent;
        told = as_many begun x (hand.taken + 1) hand'.taken count' (sym (ap (λ h. h.taken) seat)) (told_one owner begun v x own hand.taken count count' worked.told one is);
      }

  pub stands_begun : (v w : View E) (given count : ℕ) (hand : Traffic) → w ≡ v → given ≡ 0 → count ≡ 0 → hand ≡ traffic all_parts 0 0 → Stands owner v w given count hand
  stands_begun v w given count hand same none none' seat =
      let told : HasTold owner v 0 count w = subst (λ u. HasTold owner v 0 count u) (sym same) (told_none owner v count none') in
      let taken : hand.taken ≡ 0 = ap (λ h. h.taken) seat in
      let sent : hand.sent ≡ 0 = ap (λ h. h.sent) seat in
      record { here = 0; told = as_many v w 0 (0 + hand.taken) count (omega arith) told; all_given = omega arith }

  pub stands_same : (v w : View E) (given given' count : ℕ) (hand : Traffic) → given' ≡ given → Stands owner v w given count hand → Stands owner v w given' count hand
  stands_same v w given given' count hand e s = subst (λ n. Stands owner v w n count hand) (sym e) s

  pub stands_hand : (v w : View E) (given count : ℕ) (hand hand' : Traffic) → hand' ≡ hand → Stands owner v w given count hand → Stands owner v w given count hand'
  stands_hand v w given count hand hand' e s = subst (λ h. Stands owner v w given count h) (sym e) s

  -- a worker was made of what the caller has
  pub stands_cut : (v w w' : View E) (given count : ℕ) (hand hand' : Traffic) (parts : ℕ) → w' ≡ w → hand' ≡ traffic parts hand.sent hand.taken → Stands owner v w given count hand → Stands owner v w' given count hand'
  stands_cut v w w' given count hand hand' parts same seat s =
      let here = s.here in
      let sent : hand'.sent ≡ hand.sent = ap (λ h. h.sent) seat in
      let taken : hand'.taken ≡ hand.taken = ap (λ h. h.taken) seat in
      let all = s.all_given in
      let told : HasTold owner v (here + hand.taken) count w' = subst (λ u. HasTold owner v (here + hand.taken) count u) (sym same) s.told in
      record { here = here; told = as_many v w' (here + hand.taken) (here + hand'.taken) count (omega arith) told; all_given = omega arith }

  pub stands_sent : (v w : View E) (given given' count : ℕ) (hand hand' : Traffic) → Stands owner v w given count hand → given' ≡ raised given → hand' ≡ traffic hand.parts (hand.sent + 1) hand.taken → Stands owner v w given' count hand'
  stands_sent v w given given' count hand hand' s more seat =
      let here = s.here in
      let sent : hand'.sent ≡ hand.sent + 1 = ap (λ h. h.sent) seat in
      let taken : hand'.taken ≡ hand.taken = ap (λ h. h.taken) seat in
      let all = s.all_given in
      record { here = here; told = as_many v w (here + hand.taken) (here + hand'.taken) count (omega arith) s.told; all_given = omega arith }

  pub stands_here : (v w x own : View E) (given given' count count' : ℕ) (hand hand' : Traffic) → Stands owner v w given count hand → given' ≡ raised given → hand' ≡ hand → HasServed owner w (own ∷ []) x → count' ≡ raised count → Stands owner v x given' count' hand'
  stands_here v w x own given given' count count' hand hand' s more seat one is =
      let here = s.here in
      let sent : hand'.sent ≡ hand.sent = ap (λ h. h.sent) seat in
      let taken : hand'.taken ≡ hand.taken = ap (λ h. h.taken) seat in
      let all = s.all_given in
      record {
        here = here + 1;
        told = as_many v x (here + hand.taken + 1) (here + 1 + hand'.taken) count' (omega arith) (told_one owner v w x own (here + hand.taken) count count' s.told one is);
        all_given = omega arith;
      }

  pub stands_taken : (v w x own : View E) (given count count' : ℕ) (hand hand' : Traffic) → Stands owner v w given count hand → hand' ≡ traffic hand.parts hand.sent (hand.taken + 1) → HasServed owner w (own ∷ []) x → count' ≡ raised count → Stands owner v x given count' hand'
  stands_taken v w x own given count count' hand hand' s seat one is =
      let here = s.here in
      let sent : hand'.sent ≡ hand.sent = ap (λ h. h.sent) seat in
      let taken : hand'.taken ≡ hand.taken + 1 = ap (λ h. h.taken) seat in
      let all = s.all_given in
      record {
        here = here;
        told = as_many v x (here + hand.taken + 1) (here + hand'.taken) count' (omega arith) (told_one owner v w x own (here + hand.taken) count count' s.told one is);
        all_given = omega arith;
      }

  pub stands_both : (v w x other : View E) (given count count' counts : ℕ) (hand hand' hands : Traffic) → Stands owner v w given count hand → HasWorked owner other count' hand' → HasTakenIn owner w other x → counts ≡ saturated (count + count') → hands ≡ united hand hand' → Stands owner v x given counts hands
  stands_both v w x other given count count' counts hand hand' hands s worked t is seat =
      let here = s.here in
      let sent : hands.sent ≡ hand.sent + hand'.sent = ap (λ h. h.sent) seat in
      let taken : hands.taken ≡ hand.taken + hand'.taken = ap (λ h. h.taken) seat in
      let none = worked.sent in
      let all = s.all_given in
      record {
        here = here;
        told = as_many v x (here + hand.taken + hand'.taken) (here + hands.taken) counts (omega arith)
            (told_both owner v w x other worked.seen worked.fixed (here + hand.taken) hand'.taken count count' counts s.told worked.told t is);
        all_given = omega arith;
      }

  -- where as many were taken as were sent, every job that was given was served
  pub stands_pooled : (v w : View E) (given count : ℕ) (hand : Traffic) → Stands owner v w given count hand → hand.sent ≡ hand.taken → HasPooled owner v given count w
  stands_pooled v w given count hand s even =
      let here = s.here in
      let all = s.all_given in
      let each = s.told.each in
      let counted = s.told.counted in
      let given' : given ≡ saturated (length s.told.served) = omega arith in
      record { served = s.told.served; passes = s.told.passes; each = given'; counted = omega arith }

  pub pooled_none : (v : View E) (given count : ℕ) → given ≡ 0 → count ≡ 0 → HasPooled owner v given count v
  pooled_none v given count none none' = record { served = []; passes = served_none owner v; each = omega arith; counted = omega arith }

  pub pooled_same : (v w : View E) (given given' count : ℕ) → given' ≡ given → HasPooled owner v given count w → HasPooled owner v given' count w
  pooled_same v w given given' count e p = subst (λ n. HasPooled owner v n count w) (sym e) p

  pub pooled_one : (v w x own : View E) (given given' count count' : ℕ) → HasPooled owner v given count w → given' ≡ raised given → HasServed owner w (own ∷ []) x → count' ≡ raised count → HasPooled owner v given' count' x
  pooled_one v w x own given given' count count' p more one is =
      let each = p.each in
      let counted = p.counted in
      let told = told_one owner v w x own (length p.served) count count' (record { served = p.served; passes = p.passes; each = refl; counted = counted ∙ each }) one is in
      let longer = told.each in
      record { served = told.served; passes = told.passes; each = omega arith; counted = omega arith }

  -- the jobs were served with a new pass, which is then taken in
  pub pooled_by_another : (v same w begun own : View E) (given count : ℕ) → same ≡ v → begun ≡ newcomer v.seen v.fixed → HasPooled owner begun given count own → HasTakenIn owner same own w → HasPooled owner v given count w
  pooled_by_another v same w begun own given count is new p taken =
      let t : HasTakenIn owner v own w = subst (λ u. HasTakenIn owner u own w) is taken in
      let q : HasPooled owner (newcomer v.seen v.fixed) given count own = subst (λ u. HasPooled owner u given count own) new p in
      record {
        served = q.served;
        passes = served_by_another owner v own w q.served (ap (λ u. u.number) q.passes.view) (ap (λ u. u.ended) q.passes.view) q.passes.seen t;
        each = q.each;
        counted = q.counted;
      }
