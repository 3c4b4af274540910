-- Which entries have a body, and which bytes are one.
use Rattle.std.specs.Prelude.{◌≡◌, ℕ, ◌<◌, List, ◌++◌, Option, Some, None}
use Rattle.tumbler.specs.Places.{IsTumbler}
use Rattle.febe_data.specs.declared.entry.Entry.{Entry}
use Rattle.febe_data.specs.Plain.{PlainChange, document_created, version_made, copy_opened, text_inserted, span_deleted, blocks_swapped, specs_copied, link_made, document_published, plain_entry}
use Rattle.febe_data.specs.Validity.{IsText, IsSpan, IsList, IsSpecSet}
use Rattle.entry_codec.specs.Format.{body_of}
use Rattle.entry_codec.specs.Logged.{PlainLogged, plain_logged, untimed}
use Rattle.entry_codec.specs.declared.format.LogFormat.{LogFormat}
use Rattle.entry_codec.specs.declared.format.LogFormat.TheVariants.{Old, New}
use Rattle.entry_codec.specs.declared.logged.Logged.{Logged}

-- a number that four bytes have room for
abbrev pub IsU32 : ℕ → Type 0
IsU32 n = n < 4294967296

-- and one that eight bytes have room for
abbrev pub IsU64 : ℕ → Type 0
IsU64 n = n < 18446744073709551616

-- The changes that are logged, within the bounds of their fields: texts, lists, and the spans in all specs of one list
-- are at most as many as one request may have.
abbrev pub IsEncodable : PlainChange → Type 0
IsEncodable (document_created document) = IsTumbler document
IsEncodable (version_made source document) = IsTumbler source × IsTumbler document
IsEncodable (copy_opened source document) = IsTumbler source × IsTumbler document
IsEncodable (text_inserted document at first text) = IsTumbler document × IsU32 at × IsU32 first × IsText text
IsEncodable (span_deleted document span) = IsTumbler document × IsSpan span
IsEncodable (blocks_swapped document cuts) = IsTumbler document × IsList IsU32 cuts
IsEncodable (specs_copied document at specs) = IsTumbler document × IsU32 at × IsSpecSet specs
IsEncodable (link_made home number place from to three) = IsTumbler home × IsU32 number × IsU32 place × IsSpecSet from × IsSpecSet to × IsSpecSet three
IsEncodable (document_published document) = IsTumbler document
IsEncodable other = ⊥

-- a moment that the format has room for: the old one has none, which stands for 0
abbrev pub IsMoment : LogFormat → ℕ → Type 0
IsMoment Old moment = moment ≡ 0
IsMoment New moment = IsU64 moment

-- such a change, by a session and with a serial that eight bytes have room for, and its moment
pub record HasBody (format : LogFormat) (row : PlainLogged) : Type 0 where
  pub session : IsU64 row.entry.session
  pub serial : IsU64 row.entry.serial
  pub change : IsEncodable row.entry.change
  pub moment : IsMoment format row.moment

-- these bytes are the body of this entry with its moment
pub record IsBodyOf (format : LogFormat) (row : PlainLogged) (bytes : List ℕ) : Type 0 where
  pub valid : HasBody format row
  pub spelled : bytes ≡ body_of format row

-- these bytes are a body
pub record IsBody (format : LogFormat) (bytes : List ℕ) : Type 0 where
  pub row : PlainLogged
  pub body : IsBodyOf format row bytes

-- what decoding gave is so: the entry and the moment whose body the bytes are, or none where they are no body
abbrev pub IsDecoded : List ℕ → Option Logged → Type 0
IsDecoded bytes (Some logged) = IsBodyOf New (plain_logged logged) bytes
IsDecoded bytes None = ¬ IsBody New bytes

-- so it is of the format of before, which has no moments
abbrev pub IsOldDecoded : List ℕ → Option Entry → Type 0
IsOldDecoded bytes (Some entry) = IsBodyOf Old (untimed (plain_entry entry)) bytes
IsOldDecoded bytes None = ¬ IsBody Old bytes

-- the bytes begin with a body, and these stand behind it
pub record BeginsWithBody (format : LogFormat) (bytes : List ℕ) : Type 0 where
  pub body : List ℕ
  pub rest : List ℕ
  pub is_body : IsBody format body
  pub split : bytes ≡ body ++ rest

-- the bytes are this front and these behind it, and no body but the front can begin them
pub record IsOnlyFront (format : LogFormat) (bytes front rest : List ℕ) : Type 0 where
  pub split : bytes ≡ front ++ rest
  pub only : (body more : List ℕ) → IsBody format body → bytes ≡ body ++ more → body ≡ front
