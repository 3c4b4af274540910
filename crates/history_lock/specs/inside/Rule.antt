-- What holds of a lock between any two steps. Word 0 is 1 while a pass holds the lock, and else 0; word 1 is the length of the history.
-- Slot 0 has the value. It is at home where no seat has taken the slot.
use Rattle.std.specs.Prelude.{◌≡◌, ◌≢◌, ◌+◌, ◌≤◌, ℕ, true, false, List, [], ◌∷◌, if◌then◌else◌, length, slice_index, Option, Some, None}
use mathlib.Core.Option.{some, none}
use lib.ListN.{get_elem?}
use Rattle.atomic_table.specs.Table.{State}
use Rattle.history_lock.specs.declared.view.View.{View}
use Rattle.history_lock.specs.declared.view.Held.{Held}
use Rattle.history_lock.specs.Passes.{same_number, times_ended, Fits}

-- f of each, added up
abbrev pub total : {V : Type 0} → (V → ℕ) → List V → ℕ
total f [] = 0
total f (v ∷ vs) = f v + total f vs

module _ {E : Type 0} where
  -- how often the number stands in what a pass knows, as its own and among those that it took in
  abbrev pub times_known : ℕ → View E → ℕ
  times_known number v = if v.spent then 0 else (same_number v.number number + times_ended number v.ended)

  -- F holds of each seat's view
  abbrev pub EachView : List (View E) → (ℕ → View E → Type 0) → Type 0
  EachView views F = (seat : ℕ) (v : View E) → get_elem? views seat ≡ some v → F seat v

module _ {T E : Type 0} (history_of : T → List E) (owner : E → ℕ) (fixed_of : T → List ℕ) where
  pub record IsKept (s : State (Option T) (View E)) : Type 0 where
    -- the history, the fixed numbers, and the seat that holds the lock, if one does
    pub history : List E
    pub numbers : List ℕ
    pub holder : ℕ
    pub words : length s.words ≡ 2
    pub slots : length s.homes ≡ 1
    pub count : slice_index s.words 1 ≡ length history
    -- the word is 1 exactly where one view holds the lock, and what that one holds is the history
    pub free : slice_index s.words 0 ≡ 0 → EachView s.views (λ _ v. v.held ≡ None)
    pub taken : slice_index s.words 0 ≢ 0 → (slice_index s.words 0 ≡ 1) × ((v : View E) × (hold : Held E) × (get_elem? s.views holder ≡ some v) × (v.held ≡ Some hold))
    pub held : EachView s.views (λ seat v. (hold : Held E) → v.held ≡ Some hold → (seat ≡ holder) × (hold.history ≡ history))
    -- where a view has the value out, that view holds the lock and no value is at home; where none has, one is
    pub out : EachView s.views (λ _ v. v.out ≡ true → (v.held ≢ None) × (get_elem? s.homes 0 ≡ some none))
    pub home : EachView s.views (λ _ v. v.out ≡ false) → (kept : T) × (get_elem? s.homes 0 ≡ some (some (Some kept)))
    -- a value at home has this history and these fixed numbers
    pub value : (kept : T) → get_elem? s.homes 0 ≡ some (some (Some kept)) → (history_of kept ≡ history) × (fixed_of kept ≡ numbers)
    -- what each pass knows is true, unless it was taken in by another
    pub each : EachView s.views (λ _ v. v.spent ≡ false → Fits owner history numbers v)
    -- no number but 0 stands twice in all that passes know
    pub apart : (number : ℕ) → number ≢ 0 → total (times_known number) s.views ≤ 1
