-- What holds on an answer, from what holds on each of its kinds.
use Rattle.std.proofs.Common.{Result, Ok, Err, OnOk, OnErr}
use Rattle.page_journal.specs.declared.page_fault.PageFault.{PageFault}
use Rattle.page_journal.specs.declared.page_fault.PageFault.TheVariants.{Disk, Memory}
use Rattle.page_journal.specs.Answers.{OnDiskFault, OnMemory}

pub on_fault : {T : Type 0} (r : Result T PageFault) (A B C : Type 0) → OnDiskFault r A → OnMemory r B → (A → C) → (B → C) → OnErr r C
on_fault (Ok x) A B C a b left right = tt
on_fault (Err Disk) A B C a b left right = left a
on_fault (Err Memory) A B C a b left right = right b

pub ok_then : {T E : Type 0} (r : Result T E) (A C : Type 0) → OnOk r A → (A → C) → OnOk r C
ok_then (Ok x) A C has follows = follows has
ok_then (Err e) A C has follows = tt

pub err_then : {T E : Type 0} (r : Result T E) (A C : Type 0) → OnErr r A → (A → C) → OnErr r C
err_then (Ok x) A C has follows = tt
err_then (Err e) A C has follows = follows has

pub on_err : {T E : Type 0} (r : Result T E) (C : Type 0) → C → OnErr r C
on_err (Ok x) C has = tt
on_err (Err e) C has = has
