-- How far whole requests reach in the bytes that were read.
use Rattle.std.specs.Prelude.{◌≡◌, ◌≢◌, ◌⊎◌, ℕ, List, ◌++◌}
use Rattle.std.specs.List.{flat_map, AllByRecursion}
use Rattle.febe_data.specs.Plain.{PlainRequest}
use Rattle.febe_data.specs.Validity.{IsRequest}
use Rattle.febe_fields.specs.Prefixes.{HasNoSpelledPrefix}
use Rattle.febe_wire.specs.Grammar.{spell_request, IsSpelled}
use Rattle.febe_wire.specs.Sessions.{greeting, QuitsLast, EndsInQuit}

-- the greeting is no prefix of the bytes
abbrev pub IsNotGreeted : List ℕ → Type 0
IsNotGreeted bytes = (rest : List ℕ) → bytes ≢ greeting ++ rest

-- the greeting is a prefix of the bytes
abbrev pub IsGreetedFirst : List ℕ → Type 0
IsGreetedFirst bytes = (rest : List ℕ) × (bytes ≡ greeting ++ rest)

-- the greeting and these valid requests, of which only the last may be quit, are a prefix of the bytes
pub record HasRequestPrefix (bytes : List ℕ) (requests : List PlainRequest) : Type 0 where
  pub rest : List ℕ
  pub spelled : bytes ≡ greeting ++ flat_map spell_request requests ++ rest
  pub valid : AllByRecursion IsRequest requests
  pub quits_last : QuitsLast requests

-- these are all the whole requests of the bytes behind the greeting, up to a quit
pub record AreWholeRequests (bytes : List ℕ) (requests : List PlainRequest) : Type 0 where
  pub prefix : HasRequestPrefix bytes requests
  pub whole : EndsInQuit requests ⊎ HasNoSpelledPrefix IsSpelled prefix.rest
