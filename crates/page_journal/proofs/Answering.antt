-- What holds on an answer, from what else holds on it.
use Rattle.std.proofs.Common.{Result, Ok, Err, OnOk, OnErr}

pub on_ok : {T E : Type 0} (r : Result T E) (A B C : Type 0) → OnOk r A → OnOk r B → (A → B → C) → OnOk r C
on_ok (Ok x) A B C a b both = both a b
on_ok (Err e) A B C a b both = tt

pub on_err : {T E : Type 0} (r : Result T E) (C : Type 0) → C → OnErr r C
on_err (Ok x) C has = tt
on_err (Err e) C has = has
