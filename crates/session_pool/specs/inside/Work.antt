-- What a worker brings back, and how far the pool has come.
use Rattle.std.specs.Prelude.{◌≡◌, ◌+◌, ℕ, List}
use Rattle.crossbeam_channel.specs.Claims.{Pass, view}
use Rattle.history_lock.specs.declared.view.View.{View}
use Rattle.history_lock.specs.Passes.{newcomer}
use Rattle.session_pool.specs.declared.traffic.Message.{Message}
use Rattle.session_pool.specs.declared.traffic.Traffic.{Traffic}
use Rattle.session_pool.specs.declared.work.Worked.{Worked}
use Rattle.session_pool.specs.Counts.{saturated}
use Rattle.session_pool.specs.Serving.{HasTold}

module _ {E : Type 0} (owner : E → ℕ) where
  -- the jobs that the seat has taken were served with the pass, which was new, and counted
  pub record HasWorked (v : View E) (count : ℕ) (hand : Traffic) : Type 0 where
    pub seen : List E
    pub fixed : List ℕ
    pub parts : hand.parts ≡ 1
    pub sent : hand.sent ≡ 0
    pub told : HasTold owner (newcomer seen fixed) hand.taken count v

  -- The caller's pass began as v. Some jobs were served here and never sent, and those that the seat has taken were served too;
  -- all of these were counted. Those that were given are those served here and those sent.
  pub record Stands (v w : View E) (given count : ℕ) (hand : Traffic) : Type 0 where
    pub here : ℕ
    pub told : HasTold owner v (here + hand.taken) count w
    pub all_given : given ≡ saturated (here + hand.sent)

module _ {P J Y : Type 0} where
  -- the pass is of the lock, and the seat is at the channel
  pub record IsPlaced (IsOfLock : P → Type 0) (IsAtChannel : Pass (Message J) Traffic → Type 0) (own : Worked P (Pass (Message J) Traffic) Y) : Type 0 where
    pub lock : IsOfLock own.pass
    pub channel : IsAtChannel own.seat

  module _ {E : Type 0} (owner : E → ℕ) (knows : P → View E) (count : Y → ℕ) where
    -- what a worker has tells of the jobs that it has taken
    abbrev pub IsWorkers : Worked P (Pass (Message J) Traffic) Y → Type 0
    IsWorkers own = HasWorked owner (knows own.pass) (count own.tally) (view own.seat)

    -- what stood of the caller still stands
    abbrev pub GoesOn : Worked P (Pass (Message J) Traffic) Y → ℕ → Worked P (Pass (Message J) Traffic) Y → ℕ → Type 0
    GoesOn own given own' given' = (v : View E) → Stands owner v (knows own.pass) given (count own.tally) (view own.seat) → Stands owner v (knows own'.pass) given' (count own'.tally) (view own'.seat)
