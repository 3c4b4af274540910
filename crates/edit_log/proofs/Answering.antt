-- What holds on an answer, from what else holds on it.
use Rattle.std.proofs.Common.{Result, Ok, Err, OnOk, OnErr}
use Rattle.edit_log.specs.Answers.{OnNoMemory}
use Rattle.edit_log.specs.declared.opening.LogFault.{LogFault}
use Rattle.edit_log.specs.declared.opening.LogFault.TheVariants.{Damaged, Disk, Memory}

pub on_ok : {T E : Type 0} (r : Result T E) (A B C : Type 0) → OnOk r A → OnOk r B → (A → B → C) → OnOk r C
on_ok (Ok x) A B C a b both = both a b
on_ok (Err e) A B C a b both = tt

pub on_err : {T E : Type 0} (r : Result T E) (C : Type 0) → C → OnErr r C
on_err (Ok x) C has = tt
on_err (Err e) C has = has

pub on_no_memory : {T : Type 0} (r : Result T LogFault) (C : Type 0) → C → OnNoMemory r C
on_no_memory (Ok x) C has = tt
on_no_memory (Err (Damaged at)) C has = tt
on_no_memory (Err Disk) C has = tt
on_no_memory (Err Memory) C has = has
