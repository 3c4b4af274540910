-- What contracts see of a disk in memory, and what its calls do.
use Rattle.std.specs.Prelude.{◌≡◌, ◌⊎◌, ℕ, ◌+◌, ◌-◌, ◌^◌, ◌==◌, min, if◌then◌else◌, List, [], ◌∷◌, ◌++◌, length, take, drop, replicate, Result, Ok, Err, IsOk, IsErr}
use Rattle.tumbler.specs.ListView.{ListView}
use Rattle.green_io.specs.declared.disk.Area.{Area}
use Rattle.green_io.specs.declared.disk.Area.TheVariants.{Log, Home, Journal, Second}
use Rattle.green_io.specs.declared.disk.DiskFailed.{DiskFailed}
use Rattle.green_io.specs.Areas.{Areas, is_same}
use Rattle.green_io.specs.declared.source.ReadAnswer.{ReadAnswer}
use Rattle.green_io.specs.declared.source.ReadAnswer.TheVariants.{Failed}
use Rattle.green_fakes.specs.MemoryView.{one_more, fails_next, answer_of_count}
use Rattle.green_fakes.specs.declared.change.Step.{Step}
use Rattle.green_fakes.specs.declared.change.Step.TheVariants.{Write, FailedWrite, Cut, FailedCut, Sync}
use Rattle.green_fakes.specs.declared.change.Change.{Change}
use Rattle.green_fakes.specs.declared.turn.Turn.{Turn}
use Rattle.green_fakes.specs.declared.turn.Turn.TheVariants.{Succeeds, Fails, Over}

-- what the areas held at first, what calls have done to them, the latest first, how many calls there were, those
-- that fail, the faults, and how many of these were for want of memory
pub record DiskView : Type 0 where
  pub first : Areas
  pub changes : List Change
  pub calls : ℕ
  pub failing : List ℕ
  pub faults : ℕ
  pub shortages : ℕ

-- the areas with other bytes in one of them
abbrev pub put : Area → List ℕ → Areas → Areas
put Log bytes areas = record areas { log = bytes }
put Home bytes areas = record areas { home = bytes }
put Journal bytes areas = record areas { journal = bytes }
put Second bytes areas = record areas { second = bytes }

-- the bytes with these at this place, and zeros between the old end and the place
abbrev pub written_at : ℕ → List ℕ → List ℕ → List ℕ
written_at at bytes old = take at old ++ replicate (at - length old) 0 ++ bytes ++ drop (at + length bytes) old

-- what an area reads after a step, of what it read before: what failed changes nothing
abbrev pub after_step : Step → List ℕ → List ℕ
after_step (Write at bytes) old = written_at at bytes.items old
after_step (FailedWrite at count) old = old
after_step (Cut length) old = take length old
after_step (FailedCut length) old = old
after_step Sync old = old

-- what an area reads that held these bytes at first
abbrev pub bytes_after : Area → List ℕ → List Change → List ℕ
bytes_after area first [] = first
bytes_after area first (change ∷ before) =
    if is_same change.area area then after_step change.step (bytes_after area first before) else bytes_after area first before

-- what all areas read
abbrev pub areas_after : Areas → List Change → Areas
areas_after first changes = record {
  log = bytes_after Log first.log changes;
  home = bytes_after Home first.home changes;
  journal = bytes_after Journal first.journal changes;
  second = bytes_after Second first.second changes;
}

-- what the areas of a disk read
abbrev pub areas_of : DiskView → Areas
areas_of disk = areas_after disk.first disk.changes

-- What becomes of the call after so many: it fails where there were as many as can be counted, and where it is
-- among those that fail.
abbrev pub turn_of : ℕ → List ℕ → Turn
turn_of calls failing = if calls == 2 ^ 64 - 1 then Over else if fails_next calls failing then Fails else Succeeds

-- what becomes of the next call of a disk
abbrev pub next_turn : DiskView → Turn
next_turn disk = turn_of disk.calls disk.failing

-- a disk that has counted one more call
abbrev pub counted : DiskView → DiskView
counted disk = record disk { calls = one_more disk.calls }

-- a disk that has counted one more fault
abbrev pub with_fault : DiskView → DiskView
with_fault disk = record disk { faults = one_more disk.faults }

-- a disk that has counted one more fault, for want of memory
abbrev pub with_shortage : DiskView → DiskView
with_shortage disk = record disk { faults = one_more disk.faults; shortages = one_more disk.shortages }

-- a disk in which a call, with so many calls before it, has done this
abbrev pub with_change : DiskView → ℕ → Area → Step → DiskView
with_change disk before area step = record disk { changes = record { before = before; area = area; step = step } ∷ disk.changes }

-- the call has done this, and it was not to fail
abbrev pub Does : DiskView → DiskView → Area → Step → Type 0
Does old new area step = (next_turn old ≡ Succeeds) × (new ≡ with_change (counted old) old.calls area step)

-- A call of which this becomes has failed, and has counted a fault: one that is not listed only for want of memory, and
-- nothing is done; one that is listed is noted, so that a crash may leave any part of it, unless memory to note it is
-- wanting.
abbrev pub FailsBy : Turn → DiskView → DiskView → Area → Step → Type 0
FailsBy Succeeds old new area step = new ≡ with_shortage (counted old)
FailsBy Fails old new area step = (new ≡ with_fault (with_change (counted old) old.calls area step)) ⊎ (new ≡ with_shortage (counted old))
FailsBy Over old new area step = new ≡ with_fault (counted old)

-- the call has failed
abbrev pub FailsTo : DiskView → DiskView → Area → Step → Type 0
FailsTo old new area step = FailsBy (next_turn old) old new area step

-- a sync of which this becomes has failed: one that is not listed only for want of memory
abbrev pub FailsToSync : Turn → DiskView → DiskView → Type 0
FailsToSync Succeeds old new = new ≡ with_shortage (counted old)
FailsToSync Fails old new = new ≡ with_fault (counted old)
FailsToSync Over old new = new ≡ with_fault (counted old)

-- a write of these bytes
abbrev pub Writes : DiskView → DiskView → Area → ℕ → List ℕ → Result (Unit {0}) DiskFailed → Type 0
Writes old new area at bytes (Ok done) = (text : ListView ℕ) × (text.items ≡ bytes) × Does old new area (Write at text)
Writes old new area at bytes (Err failed) = FailsTo old new area (FailedWrite at (length bytes))

-- a cut to this length
abbrev pub Cuts : DiskView → DiskView → Area → ℕ → Result (Unit {0}) DiskFailed → Type 0
Cuts old new area length (Ok done) = Does old new area (Cut length)
Cuts old new area length (Err failed) = FailsTo old new area (FailedCut length)

-- a sync
abbrev pub Syncs : DiskView → DiskView → Area → Result (Unit {0}) DiskFailed → Type 0
Syncs old new area (Ok done) = Does old new area Sync
Syncs old new area (Err failed) = FailsToSync (next_turn old) old new

-- a disk after a call that only looks, of which this becomes
abbrev pub looked : Turn → DiskView → DiskView
looked Succeeds old = counted old
looked Fails old = with_fault (counted old)
looked Over old = with_fault (counted old)

-- a disk after its next call, which only looks
abbrev pub after_look : DiskView → DiskView
after_look old = looked (next_turn old) old

-- the answer of a call of which this becomes
abbrev pub Looks : Turn → Result (Unit {0}) DiskFailed → Type 0
Looks Succeeds answer = IsOk answer
Looks Fails answer = IsErr answer
Looks Over answer = IsErr answer

-- the answer of a call that asks for a length
abbrev pub IsLength : Turn → ℕ → Result ℕ DiskFailed → Type 0
IsLength Succeeds length answer = answer ≡ Ok length
IsLength Fails length answer = IsErr answer
IsLength Over length answer = IsErr answer

-- how many bytes a read gives from this place on: all that are there, where there is room for them
abbrev pub given : ℕ → List ℕ → List ℕ → ℕ
given at bytes into = min (length into) (length bytes - at)

-- the answer of a call that reads from this place on, and what it has put into a buffer
abbrev pub IsRead : Turn → ℕ → List ℕ → List ℕ → List ℕ → ReadAnswer → Type 0
IsRead Succeeds at bytes old new answer =
    (answer ≡ answer_of_count (given at bytes old)) × (new ≡ take (given at bytes old) (drop at bytes) ++ drop (given at bytes old) old)
IsRead Fails at bytes old new answer = (answer ≡ Failed) × (new ≡ old)
IsRead Over at bytes old new answer = (answer ≡ Failed) × (new ≡ old)

-- the step leaves what is read
abbrev pub IsUnread : Step → Type 0
IsUnread step = (old : List ℕ) → after_step step old ≡ old
