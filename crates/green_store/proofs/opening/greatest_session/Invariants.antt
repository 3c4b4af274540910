-- It is the greatest of the entries that were passed.
use Rattle.std.proofs.Common.{◌≡◌, take}
use Rattle.febe_data.specs.Plain.{plain_history}
use Rattle.green_store.specs.Sessions.{greatest_session}
use Rattle.green_store.proofs.opening.greatest_session.Given as goal

abbrev pub invariant-loop-entry : goal.invariant-loop-entry
invariant-loop-entry l = l.greatest ≡ greatest_session (plain_history (take l.entry-index l.entries))
