-- Reading a body from left to right: a value and the bytes after it, or nothing.
use Rattle.std.specs.Prelude.{ℕ, ◌==◌, List, [], ◌∷◌, length, take, drop, Option, Some, None, nat_lt, if◌then◌else◌}
use Rattle.std.specs.Int.{w32, w64, from_be_bytes}
use Rattle.tumbler.specs.declared.span.Span.{Span}
use Rattle.febe_data.specs.Plain.{PlainSpec, PlainChange, PlainEntry, document_created, version_made, copy_opened, text_inserted, span_deleted, blocks_swapped, specs_copied, link_made, document_published}
use Rattle.febe_data.specs.Validity.{spans_in_all}
use Rattle.febe_fields.specs.Reading.{◌>>=◌, ends_well, many_at}
use Rattle.entry_codec.specs.Logged.{PlainLogged, made_at_moment}
use Rattle.entry_codec.specs.declared.format.LogFormat.{LogFormat}
use Rattle.entry_codec.specs.declared.format.LogFormat.TheVariants.{Old, New}

-- ---- numbers, tumblers and texts

unfoldable pub u8_at : List ℕ → Option (ℕ × List ℕ)
u8_at [] = None
u8_at (b ∷ bytes) = Some (b, bytes)

unfoldable pub u32_at : List ℕ → Option (ℕ × List ℕ)
u32_at bytes = if nat_lt (length bytes) 4 then None else Some (from_be_bytes w32 (take 4 bytes), drop 4 bytes)

unfoldable pub u64_at : List ℕ → Option (ℕ × List ℕ)
u64_at bytes = if nat_lt (length bytes) 8 then None else Some (from_be_bytes w64 (take 8 bytes), drop 8 bytes)

-- the places of a tumbler: how many there are, at most 24, and each of them
unfoldable pub places_at : List ℕ → Option (List ℕ × List ℕ)
places_at bytes = do
  count ← u8_at bytes
  if nat_lt 24 count.0 then None else many_at u32_at count.0 count.1

-- a tumbler: its last place is not 0
unfoldable pub tumbler_at : List ℕ → Option (List ℕ × List ℕ)
tumbler_at bytes = do
  places ← places_at bytes
  if ends_well places.0 then Some (places.0, places.1) else None

-- the length of a text or of a body
unfoldable pub length_at : LogFormat → List ℕ → Option (ℕ × List ℕ)
length_at Old bytes = u32_at bytes
length_at New bytes = u64_at bytes

-- a text: its length is at most 16777216, and that many bytes stand there
unfoldable pub text_at : LogFormat → List ℕ → Option (List ℕ × List ℕ)
text_at format bytes = do
  len ← length_at format bytes
  if nat_lt 16777216 len.0 then None else (if nat_lt (length len.1) len.0 then None else Some (take len.0 len.1, drop len.0 len.1))

-- ---- lists

-- a list: how many items it has, which is at most 65536, and the items
unfoldable pub list_at : {X : Type 0} → (List ℕ → Option (X × List ℕ)) → List ℕ → Option (List X × List ℕ)
list_at read bytes = do
  count ← u32_at bytes
  if nat_lt 65536 count.0 then None else many_at read count.0 count.1

abbrev pub numbers_at : List ℕ → Option (List ℕ × List ℕ)
numbers_at bytes = list_at u32_at bytes

unfoldable pub span_at : List ℕ → Option (Span × List ℕ)
span_at bytes = do
  start ← tumbler_at bytes
  width ← tumbler_at start.1
  Some (record { start = start.0; width = width.0 }, width.1)

abbrev pub spans_at : List ℕ → Option (List Span × List ℕ)
spans_at bytes = list_at span_at bytes

unfoldable pub spec_at : List ℕ → Option (PlainSpec × List ℕ)
spec_at bytes = do
  document ← tumbler_at bytes
  spans ← spans_at document.1
  Some (record { document = document.0; spans = spans.0 }, spans.1)

-- a list of specs: its spans are at most 65536 in all
unfoldable pub specs_at : List ℕ → Option (List PlainSpec × List ℕ)
specs_at bytes = do
  specs ← list_at spec_at bytes
  if nat_lt 65536 (spans_in_all specs.0) then None else Some (specs.0, specs.1)

-- ---- changes

unfoldable pub create_at : List ℕ → Option (PlainChange × List ℕ)
create_at bytes = do
  document ← tumbler_at bytes
  Some (document_created document.0, document.1)

unfoldable pub version_at : List ℕ → Option (PlainChange × List ℕ)
version_at bytes = do
  source ← tumbler_at bytes
  document ← tumbler_at source.1
  Some (version_made source.0 document.0, document.1)

unfoldable pub open_copy_at : List ℕ → Option (PlainChange × List ℕ)
open_copy_at bytes = do
  source ← tumbler_at bytes
  document ← tumbler_at source.1
  Some (copy_opened source.0 document.0, document.1)

unfoldable pub insert_at : LogFormat → List ℕ → Option (PlainChange × List ℕ)
insert_at format bytes = do
  document ← tumbler_at bytes
  at ← u32_at document.1
  first ← u32_at at.1
  text ← text_at format first.1
  Some (text_inserted document.0 at.0 first.0 text.0, text.1)

unfoldable pub delete_at : List ℕ → Option (PlainChange × List ℕ)
delete_at bytes = do
  document ← tumbler_at bytes
  span ← span_at document.1
  Some (span_deleted document.0 span.0, span.1)

unfoldable pub rearrange_at : List ℕ → Option (PlainChange × List ℕ)
rearrange_at bytes = do
  document ← tumbler_at bytes
  cuts ← numbers_at document.1
  Some (blocks_swapped document.0 cuts.0, cuts.1)

unfoldable pub copy_at : List ℕ → Option (PlainChange × List ℕ)
copy_at bytes = do
  document ← tumbler_at bytes
  at ← u32_at document.1
  specs ← specs_at at.1
  Some (specs_copied document.0 at.0 specs.0, specs.1)

unfoldable pub link_at : List ℕ → Option (PlainChange × List ℕ)
link_at bytes = do
  home ← tumbler_at bytes
  number ← u32_at home.1
  place ← u32_at number.1
  from ← specs_at place.1
  to ← specs_at from.1
  three ← specs_at to.1
  Some (link_made home.0 number.0 place.0 from.0 to.0 three.0, three.1)

unfoldable pub publish_at : List ℕ → Option (PlainChange × List ℕ)
publish_at bytes = do
  document ← tumbler_at bytes
  Some (document_published document.0, document.1)

-- the change of this kind
unfoldable pub change_at : LogFormat → ℕ → List ℕ → Option (PlainChange × List ℕ)
change_at format kind bytes =
    if kind == 1 then create_at bytes else (
    if kind == 2 then version_at bytes else (
    if kind == 3 then open_copy_at bytes else (
    if kind == 4 then insert_at format bytes else (
    if kind == 5 then delete_at bytes else (
    if kind == 6 then rearrange_at bytes else (
    if kind == 7 then copy_at bytes else (
    if kind == 8 then link_at bytes else (
    if kind == 9 then publish_at bytes else None))))))))

-- ---- entries

-- what stands behind the head, up to the end
unfoldable pub made_at : LogFormat → List ℕ → Option PlainEntry
made_at format bytes = do
  session ← u64_at bytes
  serial ← u64_at session.1
  kind ← u8_at serial.1
  change ← change_at format kind.0 kind.1
  if length change.1 == 0 then Some (record { session = session.0; serial = serial.0; change = change.0 }) else None

-- the number of a format
abbrev pub number_of : LogFormat → ℕ
number_of Old = 1
number_of New = 2

-- a moment; the old format has none, and 0 stands for it
unfoldable pub moment_at : LogFormat → List ℕ → Option (ℕ × List ℕ)
moment_at Old bytes = Some (0, bytes)
moment_at New bytes = u64_at bytes

-- the head: the number of the format, and the moment
unfoldable pub head_at : LogFormat → List ℕ → Option (ℕ × List ℕ)
head_at format bytes = do
  number ← u8_at bytes
  if number.0 == number_of format then moment_at format number.1 else None

-- what stands behind the length of a body, up to its end
unfoldable pub row_at : LogFormat → List ℕ → Option PlainLogged
row_at format bytes = do
  head ← head_at format bytes
  entry ← made_at format head.1
  Some (made_at_moment entry head.0)

-- the entry and the moment whose body this is: it is as long as its first bytes say
unfoldable pub body_row : LogFormat → List ℕ → Option PlainLogged
body_row format bytes = do
  len ← length_at format bytes
  if len.0 == length len.1 then row_at format len.1 else None
