-- What opening finds.
use Rattle.std.specs.Prelude.{◌≡◌, ◌≢◌, ◌⊎◌, ℕ, true, [], ◌∷◌, drop}
use Rattle.green_io.specs.Areas.{Areas}
use Rattle.page_journal.specs.declared.opening.Gate.{Gate}
use Rattle.page_journal.specs.declared.opening.Gate.TheVariants as gates
use Rattle.page_journal.specs.declared.opening.Found.{Found}
use Rattle.page_journal.specs.declared.opening.Found.TheVariants.{Shut, Torn, Open}
use Rattle.page_journal.specs.Pages.{Bytes}
use Rattle.page_journal.specs.JournalBytes.{begins_with_record, replayed}
use Rattle.page_journal.specs.Images.{IsShut, HomeIs}

-- an image with these bytes in Home and in the Journal
abbrev pub AreAreas : Areas → Areas → Type 0
AreAreas areas image = HomeIs areas.home (λ journal. journal ≡ areas.journal) image

-- the first byte is 0, or 1, or another; or there is none
abbrev pub IsGate : Gate → Bytes → Type 0
IsGate gates.Shut front = (behind : Bytes) × (front ≡ 0 ∷ behind)
IsGate gates.Open front = (behind : Bytes) × (front ≡ 1 ∷ behind)
IsGate gates.Torn front = (front ≡ []) ⊎ ((gate : ℕ) × (behind : Bytes) × (gate ≢ 1) × (front ≡ gate ∷ behind))

-- the gate is open, and a whole record stands behind it
pub record IsOpenAt (kept journal : Bytes) : Type 0 where
  pub behind : Bytes
  pub parts : journal ≡ 1 ∷ behind
  pub kept_is : kept ≡ drop 4095 behind
  pub whole : begins_with_record kept ≡ true

-- the Journal is as it was found: its gate is 0, nothing is laid over Home, or a whole record is
abbrev pub IsFound : Found → Bytes → Type 0
IsFound Shut journal = IsShut journal
IsFound Torn journal = replayed journal ≡ []
IsFound (Open kept) journal = IsOpenAt kept.items journal

-- the same where the gate was read before, and is open
abbrev pub IsRecordFound : Found → Bytes → Type 0
IsRecordFound found journal = (behind : Bytes) → journal ≡ 1 ∷ behind → IsFound found journal
