-- The answers of an append or a mend, and of an opening.
use Rattle.std.specs.Prelude.{ℕ, Result, Ok, Err}
use Rattle.edit_log.specs.declared.log.Appended.{Appended}
use Rattle.edit_log.specs.declared.log.Appended.TheVariants.{Ok as Done, Disk as Failed}
use Rattle.edit_log.specs.declared.opening.LogFault.{LogFault}
use Rattle.edit_log.specs.declared.opening.LogFault.TheVariants.{Damaged, Disk, Memory}

-- this holds if it is done
abbrev pub OnDone : Appended → Type 0 → Type 0
OnDone Done fact = fact
OnDone Failed fact = Unit {0}

-- this holds if the disk failed
abbrev pub OnFailed : Appended → Type 0 → Type 0
OnFailed Done fact = Unit {0}
OnFailed Failed fact = fact

-- this holds of the place where the log is damaged
abbrev pub OnDamaged : {T : Type 0} → Result T LogFault → (ℕ → Type 0) → Type 0
OnDamaged (Ok opened) fact = Unit {0}
OnDamaged (Err (Damaged at)) fact = fact at
OnDamaged (Err Disk) fact = Unit {0}
OnDamaged (Err Memory) fact = Unit {0}

-- this holds if the disk failed while opening
abbrev pub OnDiskFault : {T : Type 0} → Result T LogFault → Type 0 → Type 0
OnDiskFault (Ok opened) fact = Unit {0}
OnDiskFault (Err (Damaged at)) fact = Unit {0}
OnDiskFault (Err Disk) fact = fact
OnDiskFault (Err Memory) fact = Unit {0}

-- this holds if there was no memory while opening
abbrev pub OnNoMemory : {T : Type 0} → Result T LogFault → Type 0 → Type 0
OnNoMemory (Ok opened) fact = Unit {0}
OnNoMemory (Err (Damaged at)) fact = Unit {0}
OnNoMemory (Err Disk) fact = Unit {0}
OnNoMemory (Err Memory) fact = fact
