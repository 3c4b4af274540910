-- The numbers of the refusals.
use Rattle.std.specs.Prelude.{ℕ}
use Rattle.febe_data.specs.declared.refusal.Refusal.{Refusal}
use Rattle.febe_data.specs.declared.refusal.Refusal.TheVariants.{NoAccount, NoSuchDocument, Private, NotOpen, NotOpenForWriting, NotOwner, Conflict, BadAddress, BadCuts, NoSuchLink, NoSuchEnd, TooLong, Full, Disk, Memory}

-- the number that a reply has for a refusal
abbrev pub refusal_number : Refusal → ℕ
refusal_number NoAccount = 1
refusal_number NoSuchDocument = 2
refusal_number Private = 15
refusal_number NotOpen = 3
refusal_number NotOpenForWriting = 4
refusal_number NotOwner = 5
refusal_number Conflict = 6
refusal_number BadAddress = 7
refusal_number BadCuts = 8
refusal_number NoSuchLink = 9
refusal_number NoSuchEnd = 10
refusal_number TooLong = 11
refusal_number Full = 12
refusal_number Disk = 13
refusal_number Memory = 14
