-- What the calls with a lock's passes come to, in whatever order threads made them.
use Rattle.std.specs.Prelude.{◌≡◌, ◌≢◌, ℕ, List, [], ◌∷◌, ◌++◌, replicate, All}
use Rattle.history_lock.specs.declared.view.View.{View}
use Rattle.history_lock.specs.Histories.{StartsWith}
use Rattle.history_lock.specs.Passes.{newcomer, finding, all_ended, IsWhole, AreApart, HasActed, HasLooked, HasTakenIn, Fits}

module _ {E : Type 0} (owner : E → ℕ) where
  -- a number and what the pass that has it added: without a number that is nothing, and else all that the history has of it, in order
  abbrev pub IsOwn : List E → ℕ × List E → Type 0
  IsOwn history pass = (pass.0 ≡ 0 → pass.1 ≡ []) × (pass.0 ≢ 0 → IsWhole owner history pass)

module _ {E J A : Type 0} (owner : E → ℕ) (plays : List ℕ → List E → ℕ → J → A → ℕ → List E → List ℕ → List ℕ → Type 0) (origin : List E) (fixed : List ℕ) where
  -- All that was done with a pass, from when it was made until it knows this. The lock was made of a value with the history `origin`
  -- and these fixed numbers. Each step is what the contract of a call says of the pass, whatever others did meanwhile.
  pub data Life : View E → Type 0 where
    -- made with the lock
    made : {w : View E} → w ≡ newcomer origin fixed → Life w
    -- made from another pass, of which this is the life until then
    made_from : {v w : View E} → Life v → w ≡ newcomer v.seen v.fixed → Life w
    -- another was made from it
    went_on : {v w : View E} → Life v → w ≡ v → Life w
    -- a play, which found the lock held this often before
    played : {v w : View E} (held : ℕ) (job : J) (answer : A) (point : ℕ) → Life v → HasActed owner plays v job answer point (replicate held 1 ++ 0 ∷ []) w → Life w
    -- a try, or an attempt to end the lock, that found it held
    found_held : {v w : View E} → Life v → w ≡ finding v (1 ∷ []) → Life w
    looked : {v w : View E} (answer : ℕ) → Life v → HasLooked owner v answer w → Life w
    -- another pass was taken in, of which this is the life
    took_in : {v other w : View E} → Life v → Life other → HasTakenIn owner v other w → Life w

  -- the entries that its plays added, in order
  abbrev pub added_by : {w : View E} → Life w → List E
  added_by (made is) = []
  added_by (made_from life is) = []
  added_by (went_on life is) = added_by life
  added_by (played held job answer point life done) = added_by life ++ done.added
  added_by (found_held life is) = added_by life
  added_by (looked answer life told) = added_by life
  added_by (took_in life others joined) = added_by life

  -- the passes that were taken in, by it or by one of those: of each its number, and the entries that its plays added
  abbrev pub taken_in : {w : View E} → Life w → List (ℕ × List E)
  taken_in (made is) = []
  taken_in (made_from life is) = []
  taken_in (went_on life is) = taken_in life
  taken_in (played held job answer point life done) = taken_in life
  taken_in (found_held life is) = taken_in life
  taken_in (looked answer life told) = taken_in life
  taken_in (took_in {other = other} life others joined) = taken_in life ++ (other.number, added_by others) ∷ taken_in others

  -- this pass and those
  abbrev pub passes : {w : View E} → Life w → List (ℕ × List E)
  passes {w} life = (w.number, added_by life) ∷ taken_in life

  -- Each history that the pass had seen: the one it began with, and those that its plays left and its looks told; with all that the one which
  -- it was made from had seen, and those that it took in.
  abbrev pub seen_by : {w : View E} → Life w → List (List E)
  seen_by (made is) = origin ∷ []
  seen_by (made_from life is) = seen_by life
  seen_by (went_on life is) = seen_by life
  seen_by (played held job answer point life done) = (done.history ++ done.added) ∷ seen_by life
  seen_by (found_held life is) = seen_by life
  seen_by (looked answer life told) = told.history ∷ seen_by life
  seen_by (took_in life others joined) = joined.history ∷ (seen_by life ++ seen_by others)

  module _ (last : List E) where
    -- the history `before` begins with each that was seen, and the last one begins with the history `after`
    abbrev pub StandsPast : List (List E) → (before after : List E) → Type 0
    StandsPast seen before after = All (StartsWith before) seen × StartsWith last after

    -- Each reply stands past all that the pass had seen: a play goes from the history before it to the one after it, a look tells one.
    -- The history before a play has of the pass's number what its plays had added, and the play's relation holds of these fixed numbers.
    abbrev pub AllStand : {w : View E} → Life w → Type 0
    AllStand (made is) = StartsWith last origin
    AllStand (made_from life is) = AllStand life
    AllStand (went_on life is) = AllStand life
    AllStand (played {v = v} held job answer point life done) =
        AllStand life × StandsPast (seen_by life) done.history (done.history ++ done.added) × IsOwn owner done.history (v.number, added_by life) × (v.fixed ≡ fixed)
    AllStand (found_held life is) = AllStand life
    AllStand (looked answer life told) = AllStand life × StandsPast (seen_by life) told.history told.history
    AllStand (took_in life others joined) = AllStand life × AllStand others × StandsPast (seen_by life ++ seen_by others) joined.history joined.history

  -- what holds where the lock is ended: the last history and the fixed numbers are the value's that it kept
  pub record Holds (last : List E) (numbers : List ℕ) {w : View E} (life : Life w) : Type 0 where
    -- the last history has what each pass added, once and in order, and no entry is two passes'
    pub own : All (IsOwn owner last) (passes life)
    pub apart : AreApart (passes life)
    pub stand : AllStand last life
    pub same : numbers ≡ fixed

  -- It holds of whatever was done with the pass that is handed in, and with those that it took in.
  abbrev pub EachOnceInOrder : Type 0
  EachOnceInOrder = (w : View E) (life : Life w) (last : List E) (numbers : List ℕ) → Fits owner last numbers w → AreApart (all_ended w) → Holds last numbers life
