-- Which field values, requests and replies the grammar can spell.
use Rattle.std.specs.Prelude.{ℕ, ◌≤◌, ◌<◌, List, length, All, sum_by}
use Rattle.std.specs.List.{AllByRecursion}
use Rattle.tumbler.specs.declared.span.Span.{Span}
use Rattle.tumbler.specs.Places.{IsTumbler}
use Rattle.febe_data.specs.declared.run.Diagonal.{Diagonal}
use Rattle.febe_data.specs.Plain.{PlainSpec, PlainItem, bytes, link, PlainRequest, PlainReply}
use Rattle.febe_data.specs.FieldValues.{FieldValue, tumbler_value, number_value, text_value, span_value, spans_value, tumblers_value, spec_value, specs_value, mode_value, rule_value, items_value, diagonals_value, request_values, reply_values}

-- as many bytes as one text may have
abbrev pub IsShort : List ℕ → Type 0
IsShort text = length text ≤ 16777216

-- bytes, as many as a text may have
pub record IsText (text : List ℕ) : Type 0 where
  pub short : IsShort text
  pub bytes : All (λ b. b < 256) text

-- start and width are tumblers
pub record IsSpan (span : Span) : Type 0 where
  pub start : IsTumbler span.start
  pub width : IsTumbler span.width

-- as many as a list may have, and each of them is right
pub record IsList {X : Type 0} (IsWellFormed : X → Type 0) (xs : List X) : Type 0 where
  pub few : length xs ≤ 65536
  pub each : All IsWellFormed xs

-- the document is a tumbler, and the spans are spans
pub record IsSpec (spec : PlainSpec) : Type 0 where
  pub document : IsTumbler spec.document
  pub spans : IsList IsSpan spec.spans

-- how many spans there are in all the specs together
abbrev pub spans_in_all : List PlainSpec → ℕ
spans_in_all specs = sum_by (λ spec. length spec.spans) specs

-- a spec set: a list of specs, whose spans are together as many as one list may have
pub record IsSpecSet (specs : List PlainSpec) : Type 0 where
  pub list : IsList IsSpec specs
  pub few_spans : spans_in_all specs ≤ 65536

-- the bytes of an item are as many as a text may have, and its link is a tumbler
abbrev pub IsItem : PlainItem → Type 0
IsItem (bytes text) = IsShort text
IsItem (link id) = IsTumbler id

-- text positions count from 1
pub record IsDiagonal (diagonal : Diagonal) : Type 0 where
  pub left : 1 ≤ diagonal.left
  pub left_bound : diagonal.left < 4294967296
  pub right : 1 ≤ diagonal.right
  pub right_bound : diagonal.right < 4294967296
  pub length_bound : diagonal.length < 4294967296

-- what the grammar can spell
abbrev pub IsFieldValue : FieldValue → Type 0
IsFieldValue (tumbler_value places) = IsTumbler places
IsFieldValue (number_value n) = n < 4294967296
IsFieldValue (text_value text) = IsText text
IsFieldValue (span_value span) = IsSpan span
IsFieldValue (spans_value spans) = IsList IsSpan spans
IsFieldValue (tumblers_value tumblers) = IsList IsTumbler tumblers
IsFieldValue (spec_value spec) = IsSpec spec
IsFieldValue (specs_value specs) = IsSpecSet specs
IsFieldValue (mode_value mode) = Unit {0}
IsFieldValue (rule_value rule) = Unit {0}
IsFieldValue (items_value items) = IsList IsItem items
IsFieldValue (diagonals_value diagonals) = IsList IsDiagonal diagonals

-- a valid request: each of its field values is one that the grammar can spell
abbrev pub IsRequest : PlainRequest → Type 0
IsRequest request = AllByRecursion IsFieldValue (request_values request)

-- a valid reply
abbrev pub IsReply : PlainReply → Type 0
IsReply reply = AllByRecursion IsFieldValue (reply_values reply)
