-- What a pass knows after jobs were served with passes of their own, which it took in.
use Rattle.std.specs.Prelude.{◌≡◌, ℕ, List, ◌++◌, length, All, flat_map}
use Rattle.history_lock.specs.declared.view.View.{View}
use Rattle.history_lock.specs.Histories.{StartsWith, Extends}
use Rattle.history_lock.specs.Passes.{all_ended}
use Rattle.session_pool.specs.Counts.{saturated}

module _ {E : Type 0} (owner : E → ℕ) where
  -- Each job was served with a pass, and all of those passes were taken in. The history that is now seen extends what was seen,
  -- and begins with what each of them had seen. Their numbers and entries, and those that they took in, came to those of the pass.
  pub record HasServed (v : View E) (served : List (View E)) (w : View E) : Type 0 where
    pub extends : Extends owner v.number v.seen w.seen
    pub seen : All (λ s. StartsWith w.seen s.seen) served
    pub view : w ≡ record v { seen = w.seen; heard = w.heard; ended = v.ended ++ flat_map all_ended served }

  -- So many jobs were served, and so many were counted
  pub record HasTold (v : View E) (jobs count : ℕ) (w : View E) : Type 0 where
    pub served : List (View E)
    pub passes : HasServed v served w
    pub each : length served ≡ jobs
    pub counted : count ≡ saturated jobs

  -- Every job that was given was served with a pass of its own, once, and was counted
  pub record HasPooled (v : View E) (given count : ℕ) (w : View E) : Type 0 where
    pub served : List (View E)
    pub passes : HasServed v served w
    pub each : given ≡ saturated (length served)
    pub counted : count ≡ given
