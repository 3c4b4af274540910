-- What follows from what a call did, where it did it.
use Rattle.std.specs.Prelude.{OnOk, Result}
use Rattle.std.proofs.Common.{Ok, Err}

pub if_done : {A E : Type 0} (r : Result A E) (P Q : Type 0) → (P → Q) → OnOk r P → OnOk r Q
if_done (Ok value) P Q f done = f done
if_done (Err error) P Q f done = tt
