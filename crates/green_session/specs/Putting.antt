-- What writing bytes to a sink comes to.
use Rattle.std.specs.Prelude.{◌≡◌, ◌≢◌, ℕ, ◌≤◌, List, [], ◌++◌, Option}
use Rattle.std.specs.Io.KnownBytes.{Appends}
use Rattle.green_io.specs.Outside.{HasRisen}
use Rattle.green_session.specs.declared.put.Put.{Put}
use Rattle.green_session.specs.declared.put.Put.TheVariants.{Done, WriteFault, Memory}

-- all was written; or a prefix of it but not all, and the count of faults rose; or nothing, for want of memory
abbrev pub PutIs : Put → List ℕ → List ℕ → ℕ → ℕ → Type 0
PutIs Done written bytes before after = written ≡ bytes
PutIs WriteFault written bytes before after = HasRisen before after × (written ≢ bytes)
PutIs Memory written bytes before after = written ≡ []

-- these bytes were written, and are a prefix of what was to be written
pub record IsPut (taken taken' : Option (List ℕ)) (before after : ℕ) (bytes : List ℕ) (result : Put) : Type 0 where
  pub written : List ℕ
  pub rest : List ℕ
  pub prefix : bytes ≡ written ++ rest
  pub appended : Appends taken taken' written
  pub never_falls : before ≤ after
  pub put : PutIs result written bytes before after
