-- What each step tells the seat that makes it: `acquired` and the rest read the step, the seat before, the number found and the seat after.
use Rattle.std.specs.Prelude.{◌≡◌, ◌≢◌, ℕ, true, false, List, [], ◌∷◌, ◌++◌, length, drop, Option, Some, None}
use Rattle.atomic_table.specs.Table.{Me, Step, rest}
use Rattle.atomic_table.specs.declared.shared.Seat.{Seat}
use Rattle.history_lock.specs.declared.view.View.{View}
use Rattle.history_lock.specs.declared.view.Held.{Held}
use Rattle.history_lock.specs.Histories.{StartsWith, Extends, Adds}
use Rattle.history_lock.specs.Passes.{finding, looking, acted}

module _ {E : Type 0} where
  abbrev pub hold : List E → List ℕ → Held E
  hold history marks = record { history = history; marks = marks }

  -- the view holds the lock, with this history and these marks of the value; it has the value out, or leaves it at home
  abbrev pub holding : View E → List E → List ℕ → View E
  holding v history marks = record v { held = Some (hold history marks); out = true }

  abbrev pub closing : View E → List E → View E
  closing v history = record v { held = Some (hold history []); out = false }

  abbrev pub released : View E → View E
  released v = record v { held = None; out = false }

  -- another pass is made of it
  abbrev pub successor : View E → View E
  successor v = record { number = 0; seen = v.seen; mine = []; heard = []; ended = []; fixed = v.fixed; finds = []; acts = []; held = None; out = false; spent = false }

  -- what is left of a pass that was taken in
  abbrev pub spent_view : View E
  spent_view = record { number = 0; seen = []; mine = []; heard = []; ended = []; fixed = []; finds = []; acts = []; held = None; out = false; spent = true }

  module _ (owner : E → ℕ) where
    -- the number after these entries were added
    abbrev pub later_number : ℕ → List E → ℕ
    later_number number [] = number
    later_number number (e ∷ es) = owner e

    -- a play was made: these are the history and the marks after it
    abbrev pub counted : View E → Held E → List E → List ℕ → View E
    counted v before history marks =
        let added = drop (length before.history) history in
        record v {
          number = later_number v.number added;
          seen = history;
          mine = v.mine ++ added;
          acts = v.acts ++ record { before = before.marks; after = marks; point = length history } ∷ [];
          held = Some (hold history marks);
        }

module _ {T E : Type 0} where
  -- the seat holds neither the lock nor the slot, and was not taken in
  abbrev pub IsIdle : Me (Option T) (View E) → Type 0
  IsIdle me = (me.1 ≡ []) × (me.0.held ≡ None) × (me.0.out ≡ false) × (me.0.spent ≡ false)

module _ {T E : Type 0} (history_of : T → List E) (owner : E → ℕ) (fixed_of marks_of : T → List ℕ) where
  -- the seat has taken the slot, in which this value is, and holds the lock
  pub record HasTaken (v : View E) (after : Me (Option T) (View E)) : Type 0 where
    pub kept : T
    pub extends : Extends owner v.number v.seen (history_of kept)
    pub fixed : fixed_of kept ≡ v.fixed
    pub seat : after ≡ (holding v (history_of kept) (marks_of kept), (0, Some kept) ∷ [])

module _ {T E : Type 0} (history_of : T → List E) (fixed_of marks_of : T → List ℕ) where
  -- the seat has the value in hand, with its history and its marks
  pub record IsHolding (me : Me (Option T) (View E)) : Type 0 where
    pub kept : T
    pub fixed : fixed_of kept ≡ me.0.fixed
    pub carried : me.1 ≡ (0, Some kept) ∷ []
    pub held : me.0.held ≡ Some (hold (history_of kept) (marks_of kept))
    pub out : me.0.out ≡ true
    pub live : me.0.spent ≡ false

module _ {T E : Type 0} (history_of : T → List E) (owner : E → ℕ) (fixed_of : T → List ℕ) where
  -- a value after a play is back in the slot, and the length of its history is to be stored
  pub record HasPlayed (me : Me (Option T) (View E)) : Type 0 where
    pub kept : T
    pub before : Held E
    pub added : List E
    pub number : ℕ
    pub carried : me.1 ≡ (0, Some kept) ∷ []
    pub held : me.0.held ≡ Some before
    pub out : me.0.out ≡ true
    pub live : me.0.spent ≡ false
    pub history : history_of kept ≡ before.history ++ added
    pub adds : Adds owner me.0.number before.history number added
    pub fixed : fixed_of kept ≡ me.0.fixed

module _ {T E : Type 0} (history_of : T → List E) (fixed_of : T → List ℕ) where
  -- the slot has the value whose history is the one that is held
  pub record HasCounted (me : Me (Option T) (View E)) : Type 0 where
    pub kept : T
    pub before : Held E
    pub carried : me.1 ≡ (0, Some kept) ∷ []
    pub held : me.0.held ≡ Some before
    pub out : me.0.out ≡ true
    pub live : me.0.spent ≡ false
    pub history : history_of kept ≡ before.history
    pub fixed : fixed_of kept ≡ me.0.fixed

module _ {T E : Type 0} (history_of : T → List E) (owner : E → ℕ) (fixed_of marks_of : T → List ℕ) where
  abbrev pub acquired : Step (Option T) → Me (Option T) (View E) → ℕ → Me (Option T) (View E) → Type 0
  acquired step before found after =
      (found ≡ 0 → HasTaken history_of owner fixed_of marks_of (finding before.0 (0 ∷ [])) after)
      × (found ≢ 0 → after ≡ (finding before.0 (1 ∷ []), []))

  abbrev pub closed_off : Step (Option T) → Me (Option T) (View E) → ℕ → Me (Option T) (View E) → Type 0
  closed_off step before found after =
      (found ≡ 0 → (history : List E) × (after ≡ (closing (finding before.0 (0 ∷ [])) history, [])))
      × (found ≢ 0 → after ≡ (finding before.0 (1 ∷ []), []))

module _ {T E : Type 0} (history_of : T → List E) (owner : E → ℕ) (marks_of : T → List ℕ) where
  -- what the view becomes where the length of the value's history is stored
  abbrev pub Recounted : Me (Option T) (View E) → Me (Option T) (View E) → Type 0
  Recounted before after =
      (kept : T) (hold : Held E) → before.1 ≡ (0, Some kept) ∷ [] → before.0.held ≡ Some hold
      → after ≡ (counted owner before.0 hold (history_of kept) (marks_of kept), before.1)

  abbrev pub recounted : Step (Option T) → Me (Option T) (View E) → ℕ → Me (Option T) (View E) → Type 0
  recounted step before stored after = Recounted before after

module _ {T E : Type 0} where
  abbrev pub freed : Step (Option T) → Me (Option T) (View E) → ℕ → Me (Option T) (View E) → Type 0
  freed step before stored after = after ≡ (released before.0, rest before.1)

  abbrev pub IsSameSeat : Seat (Option T) (View E) → Seat (Option T) (View E) → Type 0
  IsSameSeat old new = (new.table_id ≡ old.table_id) × (new.id ≡ old.id)

module _ {T E : Type 0} (owner : E → ℕ) where
  -- the history is now seen, which extends all that was seen or heard of
  pub record HasSeen (before : Me (Option T) (View E)) (found : ℕ) (after : Me (Option T) (View E)) : Type 0 where
    pub history : List E
    pub extends : Extends owner before.0.number before.0.seen history
    pub heard : StartsWith history before.0.heard
    pub count : found ≡ length history
    pub seat : after ≡ (looking before.0 history, before.1)

  abbrev pub looked : Step (Option T) → Me (Option T) (View E) → ℕ → Me (Option T) (View E) → Type 0
  looked step before found after = HasSeen before found after

  -- what a play made of the view that held the lock
  pub record HasFinished {J A : Type 0} (plays : List ℕ → List E → ℕ → J → A → ℕ → List E → List ℕ → List ℕ → Type 0) (v : View E) (job : J) (answer : A) (length_after : ℕ) (after : Me (Option T) (View E)) : Type 0 where
    pub before : Held E
    pub held : v.held ≡ Some before
    pub added : List E
    pub marks : List ℕ
    pub adds : Adds owner v.number before.history after.0.number added
    pub played : plays v.fixed before.history v.number job answer after.0.number (before.history ++ added) before.marks marks
    pub point : length_after ≡ length (before.history ++ added)
    pub seat : after ≡ (acted v [] (record { before = before.marks; after = marks; point = length (before.history ++ added) }) after.0.number before.history added, [])
