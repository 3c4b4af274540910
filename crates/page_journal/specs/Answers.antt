-- The answers of the calls of a journal.
use Rattle.std.specs.Prelude.{◌≡◌, Bool, true, false, Option, None, Some, Result, Ok, Err}
use Rattle.page_journal.specs.declared.page_fault.PageFault.{PageFault}
use Rattle.page_journal.specs.declared.page_fault.PageFault.TheVariants.{Disk, Memory}
use Rattle.page_journal.specs.Pages.{Bytes}

-- this holds if the disk failed
abbrev pub OnDiskFault : {T : Type 0} → Result T PageFault → Type 0 → Type 0
OnDiskFault (Ok done) fact = Unit {0}
OnDiskFault (Err Disk) fact = fact
OnDiskFault (Err Memory) fact = Unit {0}

-- this holds if there was no memory
abbrev pub OnMemory : {T : Type 0} → Result T PageFault → Type 0 → Type 0
OnMemory (Ok done) fact = Unit {0}
OnMemory (Err Disk) fact = Unit {0}
OnMemory (Err Memory) fact = fact

-- the page is there with these bytes, or it is not there
abbrev pub IsPage : Bool → Bytes → Option Bytes → Type 0
IsPage true bytes page = page ≡ Some bytes
IsPage false bytes page = page ≡ None
