-- Each step at the channel keeps its balance.
use Rattle.std.proofs.Common.{◌≡◌, ◌≢◌, ℕ, zero, suc, ◌+◌, ◌-◌, ◌<◌, ◌≤◌, List, [], ◌∷◌, ◌++◌, length, set, sym, refl, ap, ◌∙◌, subst, ⊎_elim, arith}
use Rattle.std.specs.Prelude.{⊤, Result, Ok, Err, MatchResult}
use mathlib.Core.Option.{some, some-injective, some-ne-none}
use lib.ListN.{get_elem?}
use Rattle.atomic_table.proofs.Lists.{at_set, at_snoc}
use Rattle.crossbeam_channel.specs.Fifo.{Pushes, Pops, Forks, Merges, Learns, Held}
use Rattle.session_pool.specs.declared.traffic.Message.{Message}
use Rattle.session_pool.specs.declared.traffic.Traffic.{Traffic}
use Rattle.session_pool.specs.inside.Rule.{all_parts, traffic, united, total, weight, jobs_in, sending, taking, KnowsAll, IsBalanced}

module _ {V : Type 0} (f : V → ℕ) where
  total_set : (views : List V) (seat : ℕ) (v w : V) → get_elem? views seat ≡ some v → total f (set views seat w) + f v ≡ total f views + f w
  total_set [] seat v w e = absurd (some-ne-none v (sym e))
  total_set (x ∷ xs) zero v w e = let is : f x ≡ f v = ap f (some-injective x v e) in omega arith
  total_set (x ∷ xs) (suc seat) v w e = let r = total_set xs seat v w e in omega arith

  total_at : (views : List V) (seat : ℕ) (v : V) → get_elem? views seat ≡ some v → f v ≤ total f views
  total_at [] seat v e = absurd (some-ne-none v (sym e))
  total_at (x ∷ xs) zero v e = let is : f x ≡ f v = ap f (some-injective x v e) in omega arith
  total_at (x ∷ xs) (suc seat) v e = let r = total_at xs seat v e in omega arith

  total_snoc : (views : List V) (w : V) → total f (views ++ w ∷ []) ≡ total f views + f w
  total_snoc [] w = omega arith
  total_snoc (x ∷ xs) w = let r = total_snoc xs w in omega arith

-- a seat with no part has sent and taken nothing
abbrev IsIdle : Traffic → Type 0
IsIdle v = v.parts ≡ 0 → (v.sent ≡ 0) × (v.taken ≡ 0)

abbrev AllIdle : List Traffic → Type 0
AllIdle views = (seat : ℕ) (v : Traffic) → get_elem? views seat ≡ some v → IsIdle v

idle_total : (f : Traffic → ℕ) → ((v : Traffic) → IsIdle v → v.parts ≡ 0 → f v ≡ 0) → (views : List Traffic) → AllIdle views → total (λ v. v.parts) views ≡ 0 → total f views ≡ 0
idle_total f none [] idle e = refl
idle_total f none (x ∷ xs) idle e = let here = none x (idle zero x refl) (omega arith) in let r = idle_total f none xs (λ seat v at. idle (suc seat) v at) (omega arith) in omega arith

-- where one seat has all parts, f of it is f of all
whole : (f : Traffic → ℕ) → ((v : Traffic) → IsIdle v → v.parts ≡ 0 → f v ≡ 0) → (views : List Traffic) (seat : ℕ) (v : Traffic) → AllIdle views → get_elem? views seat ≡ some v → total (λ v. v.parts) views ≡ v.parts → total f views ≡ f v
whole f none [] seat v idle at e = absurd (some-ne-none v (sym at))
whole f none (x ∷ xs) zero v idle at e =
    let is : x ≡ v = some-injective x v at in let parts : x.parts ≡ v.parts = ap (λ u. u.parts) is in let fs : f x ≡ f v = ap f is in
    let r = idle_total f none xs (λ seat v at. idle (suc seat) v at) (omega arith) in omega arith
whole f none (x ∷ xs) (suc seat) v idle at e =
    let mine : v.parts ≤ total (λ v. v.parts) xs = total_at (λ v. v.parts) xs seat v at in
    let here = none x (idle zero x refl) (omega arith) in let r = whole f none xs seat v (λ seat v at. idle (suc seat) v at) at (omega arith) in omega arith

idle_set : (views : List Traffic) (seat : ℕ) (w : Traffic) → IsIdle w → AllIdle views → AllIdle (set views seat w)
idle_set views seat w mine idle j u e = ⊎_elim (λ (x : (j ≡ seat) × (w ≡ u)). subst IsIdle x.1 mine) (λ (x : (j ≢ seat) × (get_elem? views j ≡ some u)). idle j u x.1) (at_set views seat j w u e)

idle_snoc : (views : List Traffic) (w : Traffic) → IsIdle w → AllIdle views → AllIdle (views ++ w ∷ [])
idle_snoc views w mine idle j u e = ⊎_elim (λ (x : get_elem? views j ≡ some u). idle j u x) (λ (is : w ≡ u). subst IsIdle is mine) (at_snoc views w u j e)

only_one : AllIdle (traffic all_parts 0 0 ∷ [])
only_one zero u e = subst IsIdle (some-injective (traffic all_parts 0 0) u e) (λ _. (refl, refl))
only_one (suc j) u e = absurd (some-ne-none u (sym e))

-- a message that tells to stop counts for none, whether it was sent or came back
pub still_same : {A B : Type 0} (sent : Result A B) (P : B → Type 0) (v w : Traffic) → MatchResult sent (λ _. w ≡ traffic v.parts (v.sent + 0) v.taken) (λ e. P e × (w ≡ v)) → w ≡ v
still_same (Ok done) P v w h = let same : v.sent + 0 ≡ v.sent = omega arith in h ∙ ap (λ n. traffic v.parts n v.taken) same
still_same (Err e) P v w h = h.1

module _ {J : Type 0} where
  jobs_in_none : (items : List (Message J)) → length items ≡ 0 → jobs_in items ≡ 0
  jobs_in_none [] none = refl
  jobs_in_none (x ∷ xs) none = absurd (omega arith)

  pub begins : IsBalanced {J = J} [] (traffic all_parts 0 0 ∷ [])
  begins = record { parts = omega arith; jobs = omega arith; idle = only_one }

  pub puts : (n seat : ℕ) (v : Traffic) (x : Message J) → 0 < v.parts → Pushes (IsBalanced {J = J}) n seat v x (λ w. w ≡ sending v x)
  puts n seat v x some_part items views room b at =
      let w : Traffic = sending v x in (
        w,
        record {
          parts = (let s = total_set (λ u. u.parts) views seat v w at in let p = b.parts in omega arith);
          jobs = (let s = total_set (λ u. u.sent) views seat v w at in let t = total_set (λ u. u.taken) views seat v w at in let p = b.jobs in let a = total_snoc weight items x in omega arith);
          idle = idle_set views seat w (λ none. absurd (omega arith)) b.idle;
        },
        refl,
      )

  pub takes : (seat : ℕ) (v : Traffic) → 0 < v.parts → Pops (IsBalanced {J = J}) seat v (λ x w. w ≡ taking v x)
  takes seat v some_part x items views b at =
      let w : Traffic = taking v x in (
        w,
        record {
          parts = (let s = total_set (λ u. u.parts) views seat v w at in let p = b.parts in omega arith);
          jobs = (let s = total_set (λ u. u.sent) views seat v w at in let t = total_set (λ u. u.taken) views seat v w at in let p = b.jobs in omega arith);
          idle = idle_set views seat w (λ none. absurd (omega arith)) b.idle;
        },
        refl,
      )

  pub forks : (seat : ℕ) (v : Traffic) → 1 < v.parts → Forks (IsBalanced {J = J}) seat v (traffic (v.parts - 1) v.sent v.taken) (traffic 1 0 0)
  forks seat v some_parts items views b at =
      let l : Traffic = traffic (v.parts - 1) v.sent v.taken in let r : Traffic = traffic 1 0 0 in let vs : List Traffic = set views seat l in record {
        parts = (let s = total_set (λ u. u.parts) views seat v l at in let p = b.parts in let a = total_snoc (λ u. u.parts) vs r in omega arith);
        jobs = (let s = total_set (λ u. u.sent) views seat v l at in let t = total_set (λ u. u.taken) views seat v l at in let p = b.jobs in let a = total_snoc (λ u. u.sent) vs r in let a' = total_snoc (λ u. u.taken) vs r in omega arith);
        idle = idle_snoc vs r (λ none. absurd (omega arith)) (idle_set views seat l (λ none. absurd (omega arith)) b.idle);
      }

  pub merges : (seat : ℕ) (v : Traffic) (other : ℕ) (w : Traffic) → 0 < v.parts → Merges (IsBalanced {J = J}) seat v other w (united v w) (traffic 0 0 0)
  merges seat v other w some_part items views b at apart at' =
      let both : Traffic = united v w in let none : Traffic = traffic 0 0 0 in let vs : List Traffic = set views seat both in record {
        parts = (let s = total_set (λ u. u.parts) views seat v both at in let s' = total_set (λ u. u.parts) vs other w none at' in let p = b.parts in omega arith);
        jobs = (let s = total_set (λ u. u.sent) views seat v both at in let s' = total_set (λ u. u.sent) vs other w none at' in let t = total_set (λ u. u.taken) views seat v both at in let t' = total_set (λ u. u.taken) vs other w none at' in let p = b.jobs in omega arith);
        idle = idle_set vs other none (λ _. (refl, refl)) (idle_set views seat both (λ none. absurd (omega arith)) b.idle);
      }

  pub learns : (seat : ℕ) (v : Traffic) → Learns (IsBalanced {J = J}) seat v (KnowsAll v)
  learns seat v items views b at all =
      let e : total (λ u. u.parts) views ≡ v.parts = b.parts ∙ sym all in
      let s = whole (λ u. u.sent) (λ u idle none. (idle none).0) views seat v b.idle at e in
      let t = whole (λ u. u.taken) (λ u idle none. (idle none).1) views seat v b.idle at e in
      let p = b.jobs in omega arith

  pub learns_nothing : (seat : ℕ) (v : Traffic) → Learns (IsBalanced {J = J}) seat v (λ items. ⊤)
  learns_nothing seat v items views b at = tt

  -- a seat with all parts has found the channel empty
  pub even : (v w : Traffic) → w ≡ v → v.parts ≡ all_parts → Held {T = Message J} 0 (KnowsAll v) → w.sent ≡ w.taken
  even v w same all held = let none = jobs_in_none held.0 held.1 in let e = held.2 all in let s = ap (λ h. h.sent) same in let t = ap (λ h. h.taken) same in omega arith
