-- How the fields of entries are written. Numbers are unsigned, of a fixed size, with the high byte first.
use Rattle.std.specs.Prelude.{ℕ, List, [], ◌∷◌, ◌++◌, length}
use Rattle.std.specs.List.{flat_map}
use Rattle.std.specs.Int.{w32, w64, to_be_bytes}
use Rattle.tumbler.specs.declared.span.Span.{Span}
use Rattle.febe_data.specs.Plain.{PlainSpec, PlainChange, document_created, version_made, copy_opened, text_inserted, span_deleted, blocks_swapped, specs_copied, link_made, document_published}
use Rattle.entry_codec.specs.Logged.{PlainLogged}
use Rattle.entry_codec.specs.declared.format.LogFormat.{LogFormat}
use Rattle.entry_codec.specs.declared.format.LogFormat.TheVariants.{Old, New}

-- a number in four bytes
abbrev pub u32_bytes : ℕ → List ℕ
u32_bytes n = to_be_bytes w32 n

-- and in eight
abbrev pub u64_bytes : ℕ → List ℕ
u64_bytes n = to_be_bytes w64 n

-- a tumbler: one byte that counts its places, and each place
abbrev pub tumbler_bytes : List ℕ → List ℕ
tumbler_bytes places = length places ∷ flat_map u32_bytes places

-- a span: its start and its width
abbrev pub span_bytes : Span → List ℕ
span_bytes span = tumbler_bytes span.start ++ tumbler_bytes span.width

-- a list: how many items, and each of them
abbrev pub list_bytes : {X : Type 0} → (X → List ℕ) → List X → List ℕ
list_bytes item_bytes xs = u32_bytes (length xs) ++ flat_map item_bytes xs

-- a spec: its document and its spans
abbrev pub spec_bytes : PlainSpec → List ℕ
spec_bytes spec = tumbler_bytes spec.document ++ list_bytes span_bytes spec.spans

abbrev pub specs_bytes : List PlainSpec → List ℕ
specs_bytes specs = list_bytes spec_bytes specs

-- the length of a text or of a body: in four bytes, or in eight
abbrev pub length_bytes : LogFormat → ℕ → List ℕ
length_bytes Old n = u32_bytes n
length_bytes New n = u64_bytes n

-- how many bytes that is
abbrev pub length_size : LogFormat → ℕ
length_size Old = 4
length_size New = 8

-- a text: its length, and its bytes as they are
abbrev pub text_bytes : LogFormat → List ℕ → List ℕ
text_bytes format text = length_bytes format (length text) ++ text

-- the number of each kind of change that is logged
abbrev pub kind_of : PlainChange → ℕ
kind_of (document_created document) = 1
kind_of (version_made source document) = 2
kind_of (copy_opened source document) = 3
kind_of (text_inserted document at first text) = 4
kind_of (span_deleted document span) = 5
kind_of (blocks_swapped document cuts) = 6
kind_of (specs_copied document at specs) = 7
kind_of (link_made home number place from to three) = 8
kind_of (document_published document) = 9
-- the others are never logged
kind_of other = 0

-- the fields of a change, in their order
abbrev pub change_bytes : LogFormat → PlainChange → List ℕ
change_bytes format (document_created document) = tumbler_bytes document
change_bytes format (version_made source document) = tumbler_bytes source ++ tumbler_bytes document
change_bytes format (copy_opened source document) = tumbler_bytes source ++ tumbler_bytes document
change_bytes format (text_inserted document at first text) = tumbler_bytes document ++ (u32_bytes at ++ (u32_bytes first ++ text_bytes format text))
change_bytes format (span_deleted document span) = tumbler_bytes document ++ span_bytes span
change_bytes format (blocks_swapped document cuts) = tumbler_bytes document ++ list_bytes u32_bytes cuts
change_bytes format (specs_copied document at specs) = tumbler_bytes document ++ (u32_bytes at ++ specs_bytes specs)
change_bytes format (link_made home number place from to three) =
    tumbler_bytes home ++ (u32_bytes number ++ (u32_bytes place ++ (specs_bytes from ++ (specs_bytes to ++ specs_bytes three))))
change_bytes format (document_published document) = tumbler_bytes document
change_bytes format other = []

-- the number of the format, and behind it, where the format has one, the moment
abbrev pub head_bytes : LogFormat → ℕ → List ℕ
head_bytes Old moment = 1 ∷ []
head_bytes New moment = 2 ∷ u64_bytes moment

-- what stands behind the length of a body: its head, who made the change, what kind it is, and its fields
abbrev pub logged_bytes : LogFormat → PlainLogged → List ℕ
logged_bytes format row =
    head_bytes format row.moment
    ++ (u64_bytes row.entry.session ++ (u64_bytes row.entry.serial ++ (kind_of row.entry.change ∷ change_bytes format row.entry.change)))

-- the body of an entry and its moment: how many bytes stand behind, and these bytes
abbrev pub body_of : LogFormat → PlainLogged → List ℕ
body_of format row = length_bytes format (length (logged_bytes format row)) ++ logged_bytes format row
