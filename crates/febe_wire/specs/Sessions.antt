-- The bytes of a session.
use Rattle.std.specs.Prelude.{◌≡◌, ◌≢◌, ℕ, ◌+◌, ◌<◌, List, [], ◌∷◌, ◌++◌, length, take, codes}
use Rattle.std.specs.List.{flat_map, AllByRecursion}
use Rattle.febe_data.specs.Plain.{PlainRequest, quit}
use Rattle.febe_data.specs.Validity.{IsRequest}
use Rattle.febe_fields.specs.Prefixes.{IsPrefix}
use Rattle.febe_wire.specs.Grammar.{spell_request}

-- the prefix of each session's input
abbrev pub greeting : List ℕ
greeting = codes "P0~"

-- only the last of the requests may be quit
abbrev pub QuitsLast : List PlainRequest → Type 0
QuitsLast [] = Unit {0}
QuitsLast (request ∷ []) = Unit {0}
QuitsLast (request ∷ next ∷ rest) = (request ≢ quit) × QuitsLast (next ∷ rest)

-- the last of the requests is quit
abbrev pub EndsInQuit : List PlainRequest → Type 0
EndsInQuit [] = ⊥
EndsInQuit (request ∷ []) = request ≡ quit
EndsInQuit (request ∷ next ∷ rest) = EndsInQuit (next ∷ rest)

-- the bytes are the greeting and these requests, of which only the last may be quit
pub record IsInputOf (requests : List PlainRequest) (bytes : List ℕ) : Type 0 where
  pub spelled : bytes ≡ greeting ++ flat_map spell_request requests
  pub valid : AllByRecursion IsRequest requests
  pub quits_last : QuitsLast requests

-- the bytes are some session's input
pub record IsInput (bytes : List ℕ) : Type 0 where
  pub requests : List PlainRequest
  pub input : IsInputOf requests bytes

-- the bytes are a session's input that ends in a quit: what follows it is not judged
pub record IsQuitInput (bytes : List ℕ) : Type 0 where
  pub requests : List PlainRequest
  pub input : IsInputOf requests bytes
  pub quits : EndsInQuit requests

-- The bytes are malformed at k: their first k are a prefix of some session's input, which no quit has ended,
-- and with one byte more they are a prefix of none.
pub record IsMalformedAt (bytes : List ℕ) (k : ℕ) : Type 0 where
  pub within : k < length bytes
  pub prefix : IsPrefix IsInput (take k bytes)
  pub goes_on : ¬ IsQuitInput (take k bytes)
  pub longest : ¬ IsPrefix IsInput (take (k + 1) bytes)

-- The bytes are truncated: they are a prefix of some session's input, and end within its greeting or a request.
pub record IsTruncated (bytes : List ℕ) : Type 0 where
  pub some : bytes ≢ []
  pub prefix : IsPrefix IsInput bytes
  pub inside : ¬ IsInput bytes
