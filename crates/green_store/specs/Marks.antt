-- What passes know of a housed store: to which session an entry belongs, the numbers that stay, and those that plays change.
use Rattle.std.specs.Prelude.{ℕ, ◌+◌, ◌*◌, ◌||◌, nat_lt, nat_le, if◌then◌else◌, Bool, List, [], ◌∷◌, take, slice_index}
use Rattle.febe_data.specs.LimitsView.{LimitsView}
use Rattle.febe_data.specs.Plain.{PlainChange, PlainEntry, restarted}
use Rattle.green_store.specs.StoreView.{StoreView}
use Rattle.green_store.specs.IsStep.{unsaved}

-- the session that an entry is of; a restart is of none, which is 0
abbrev pub owner_of : PlainEntry → ℕ
owner_of entry = owner_by entry.change
  where
    owner_by : PlainChange → ℕ
    owner_by restarted = 0
    owner_by other = entry.session

-- ---- the fixed numbers: the limits that the store was opened with

abbrev pub numbers_of : LimitsView → List ℕ
numbers_of limits = limits.entries ∷ limits.text ∷ limits.flush ∷ []

abbrev pub limits_in : List ℕ → LimitsView
limits_in numbers = record { entries = slice_index numbers 0; text = slice_index numbers 1; flush = slice_index numbers 2 }

-- ---- the marks

-- a background step would put something right, or lack memory for it
abbrev pub is_due : StoreView → Bool
is_due store = store.trees.allows || nat_le store.limits.flush (unsaved store) || nat_lt (2 * store.base + 1024) store.trees.nodes

-- How many faults the disk had; what the trees owe together; how many kept entries stand past those for which the pages
-- stand; 1 where a background step is due, else 0; how many nodes no root reaches; and the moment of the last job.
abbrev pub marks_of : ℕ → StoreView → ℕ → List ℕ
marks_of faults store last = faults ∷ store.trees.debt ∷ unsaved store ∷ (if is_due store then 1 else 0) ∷ store.trees.unreached ∷ last ∷ []

abbrev pub faults_in : List ℕ → ℕ
faults_in marks = slice_index marks 0

abbrev pub debt_in : List ℕ → ℕ
debt_in marks = slice_index marks 1

abbrev pub unsaved_in : List ℕ → ℕ
unsaved_in marks = slice_index marks 2

abbrev pub due_in : List ℕ → ℕ
due_in marks = slice_index marks 3

abbrev pub unreached_in : List ℕ → ℕ
unreached_in marks = slice_index marks 4

abbrev pub last_in : List ℕ → ℕ
last_in marks = slice_index marks 5

-- all but the last, which each play sets
abbrev pub but_last : List ℕ → List ℕ
but_last marks = take 5 marks
