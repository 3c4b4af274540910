-- The bytes of requests.
use Rattle.std.specs.Prelude.{◌≡◌, ℕ, List, ◌++◌}
use Rattle.std.specs.List.{flat_map}
use Rattle.febe_data.specs.Plain.{PlainRequest}
use Rattle.febe_data.specs.FieldValues.{request_number, request_values}
use Rattle.febe_data.specs.Spelling.{spell_number, spell_value}
use Rattle.febe_data.specs.Validity.{IsRequest}

-- the field values of a request, one behind the other
abbrev pub spell_values : PlainRequest → List ℕ
spell_values request = flat_map spell_value (request_values request)

-- the one spelling of a request: its number, then its field values
abbrev pub spell_request : PlainRequest → List ℕ
spell_request request = spell_number (request_number request) ++ spell_values request

-- these bytes spell this request
pub record Spells (bytes : List ℕ) (request : PlainRequest) : Type 0 where
  pub valid : IsRequest request
  pub spelled : bytes ≡ spell_request request

-- these bytes spell some request
pub record IsSpelled (bytes : List ℕ) : Type 0 where
  pub request : PlainRequest
  pub spells : Spells bytes request
