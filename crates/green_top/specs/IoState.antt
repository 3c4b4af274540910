-- What is seen of a source, a sink and a disk.
use Rattle.std.specs.Prelude.{ℕ, ◌≤◌, List, Option}
use Rattle.std.specs.Io.KnownBytes.{Consumes, Appends}

-- what a source has left and a sink has taken, where they tell it, and their counts of faults, and the disk's
pub record IoState : Type 0 where
  pub left : Option (List ℕ)
  pub source_faults : ℕ
  pub taken : Option (List ℕ)
  pub sink_faults : ℕ
  pub disk_faults : ℕ

-- a source, a sink and a disk as they are
abbrev pub io_state : Option (List ℕ) → ℕ → Option (List ℕ) → ℕ → ℕ → IoState
io_state left source_faults taken sink_faults disk_faults = record { left = left; source_faults = source_faults; taken = taken; sink_faults = sink_faults; disk_faults = disk_faults }

-- the same source and sink, beside a disk with this count
abbrev pub with_disk_faults : IoState → ℕ → IoState
with_disk_faults io disk_faults = io_state io.left io.source_faults io.taken io.sink_faults disk_faults

-- these bytes were read, and these were written, and no count of faults fell
pub record Moves (before after : IoState) (read written : List ℕ) : Type 0 where
  pub consumed : Consumes before.left after.left read
  pub appended : Appends before.taken after.taken written
  pub source_never_falls : before.source_faults ≤ after.source_faults
  pub sink_never_falls : before.sink_faults ≤ after.sink_faults
  pub disk_never_falls : before.disk_faults ≤ after.disk_faults
