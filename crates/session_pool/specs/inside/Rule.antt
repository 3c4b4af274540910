-- What holds of the channel at each moment: of the messages in it, and of what each seat has sent and taken.
use Rattle.std.specs.Prelude.{◌≡◌, ◌+◌, ℕ, List, [], ◌∷◌}
use mathlib.Core.Option.{some}
use lib.ListN.{get_elem?}
use Rattle.session_pool.specs.declared.traffic.Message.{Message}
use Rattle.session_pool.specs.declared.traffic.Message.TheVariants.{Job, Stop}
use Rattle.session_pool.specs.declared.traffic.Traffic.{Traffic}

-- all parts of the right to know the whole
abbrev pub all_parts : ℕ
all_parts = 4294967296

abbrev pub traffic : ℕ → ℕ → ℕ → Traffic
traffic parts sent taken = record { parts = parts; sent = sent; taken = taken }

-- of two seats together
abbrev pub united : Traffic → Traffic → Traffic
united v w = traffic (v.parts + w.parts) (v.sent + w.sent) (v.taken + w.taken)

-- f of each, added up
abbrev pub total : {V : Type 0} → (V → ℕ) → List V → ℕ
total f [] = 0
total f (v ∷ vs) = f v + total f vs

module _ {J : Type 0} where
  -- how many jobs a message has
  abbrev pub weight : Message J → ℕ
  weight (Job number job) = 1
  weight Stop = 0

  -- how many jobs these messages have
  abbrev pub jobs_in : List (Message J) → ℕ
  jobs_in items = total weight items

  abbrev pub sending : Traffic → Message J → Traffic
  sending v message = traffic v.parts (v.sent + weight message) v.taken

  abbrev pub taking : Traffic → Message J → Traffic
  taking v message = traffic v.parts v.sent (v.taken + weight message)

  -- a seat with all parts has sent as many jobs as it has taken and are in the channel
  abbrev pub KnowsAll : Traffic → List (Message J) → Type 0
  KnowsAll v items = v.parts ≡ all_parts → v.sent ≡ v.taken + jobs_in items

  -- the parts are all, as many jobs were sent as were taken and are in the channel, and a seat with no part has sent and taken none
  pub record IsBalanced (items : List (Message J)) (views : List Traffic) : Type 0 where
    pub parts : total (λ v. v.parts) views ≡ all_parts
    pub jobs : total (λ v. v.sent) views ≡ total (λ v. v.taken) views + jobs_in items
    pub idle : (seat : ℕ) (v : Traffic) → get_elem? views seat ≡ some v → v.parts ≡ 0 → (v.sent ≡ 0) × (v.taken ≡ 0)
