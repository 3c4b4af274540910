-- What reading and scanning say.
use Rattle.std.specs.Prelude.{ℕ, ◌≤◌, List, length, take, Option, Some, None}
use Rattle.febe_data.specs.declared.request.Request.{Request}
use Rattle.febe_data.specs.Plain.{PlainRequest, plain_request}
use Rattle.febe_fields.specs.declared.scanned.Scanned.{Scanned}
use Rattle.febe_fields.specs.declared.scanned.Scanned.TheVariants.{Incomplete, Complete}
use Rattle.febe_fields.specs.declared.scanned.Scanned.TheVariants as scanned
use Rattle.febe_fields.specs.Prefixes.{IsUnfinished, IsBadAt}
use Rattle.febe_wire.specs.declared.got.Got.{Got}
use Rattle.febe_wire.specs.declared.got.Got.TheVariants as got_answers
use Rattle.febe_wire.specs.Grammar.{Spells, IsSpelled}

-- a fact that holds where a scan did not come to an end
abbrev pub IfIncomplete : Scanned → Type 0 → Type 0
IfIncomplete Incomplete P = P
IfIncomplete (Complete used) P = Unit {0}
IfIncomplete (scanned.Bad at) P = Unit {0}

-- the first bytes, as many as were used, spell the request
pub record IsRead (bytes : List ℕ) (request : PlainRequest) (used : ℕ) : Type 0 where
  pub within : used ≤ length bytes
  pub spells : Spells (take used bytes) request

-- What was got is so: a request is spelled by the bytes that it used; more is wanted where the bytes are
-- a proper prefix of a request; they are bad where they are no prefix of one and begin with none.
abbrev pub IsGot : List ℕ → Got → Type 0
IsGot bytes (got_answers.Request request used) = IsRead bytes (plain_request request) used
IsGot bytes got_answers.More = IsUnfinished IsSpelled bytes
IsGot bytes (got_answers.Bad at) = IsBadAt IsSpelled bytes at

-- What was read at once is so: a request, and how many of the bytes spell it; or nothing, where no prefix of the bytes of
-- this length or less is one.
abbrev pub IsReadAtOnce : List ℕ → Option (Request × ℕ) → Type 0
IsReadAtOnce bytes (Some x) = IsRead bytes (plain_request x.0) x.1
IsReadAtOnce bytes None = (n : ℕ) → n ≤ length bytes → n ≤ 65536 → ¬ IsSpelled (take n bytes)
