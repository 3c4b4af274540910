-- How long what is written is, and how long it can be: four bytes have room for the length of each body.
use Rattle.std.proofs.Common.{◌≡◌, ℕ, ◌+◌, ◌*◌, ◌≤◌, List, [], ◌∷◌, ◌++◌, length, All, refl, ap, ◌∙◌, arith}
use Rattle.std.specs.List.{flat_map}
use Rattle.std.proofs.lemmas.List.{length-append}
use Rattle.std.proofs.lemmas.List.Elements.{All-head, All-tail}
use Rattle.std.proofs.lemmas.List.Sums.{sum_by-cons}
use Rattle.tumbler.specs.declared.span.Span.{Span}
use Rattle.tumbler.specs.Places.{IsTumbler}
use Rattle.febe_data.specs.Plain.{PlainSpec, PlainChange, PlainEntry, restarted, began, ended, account_changed, document_opened, document_closed, document_created, version_made, copy_opened, text_inserted, span_deleted, blocks_swapped, specs_copied, link_made, document_published}
use Rattle.febe_data.specs.Validity.{IsSpan, IsSpec, IsSpecSet, spans_in_all}
use Rattle.entry_codec.specs.Logged.{PlainLogged, made_at_moment, untimed}
use Rattle.entry_codec.specs.Format.{u32_bytes, u64_bytes, tumbler_bytes, span_bytes, list_bytes, spec_bytes, specs_bytes, length_bytes, length_size, text_bytes, kind_of, change_bytes, head_bytes, logged_bytes, body_of}
use Rattle.entry_codec.specs.Bodies.{IsEncodable, HasBody}
use Rattle.entry_codec.specs.Laws.{MomentsAreAsLong}
use Rattle.entry_codec.specs.declared.format.LogFormat.{LogFormat}
use Rattle.entry_codec.specs.declared.format.LogFormat.TheVariants.{Old, New}

numbers_length : (numbers : List ℕ) → length (flat_map u32_bytes numbers) ≡ 4 * length numbers
numbers_length [] = omega arith
numbers_length (n ∷ numbers) = omega (arith, length-append (u32_bytes n) (flat_map u32_bytes numbers), numbers_length numbers)

-- a length, and the head of a body, have as many bytes whatever they say
pub length_length : (format : LogFormat) (n : ℕ) → length (length_bytes format n) ≡ length_size format
length_length Old n = refl
length_length New n = refl

size_short : (format : LogFormat) → length_size format ≤ 8
size_short Old = omega arith
size_short New = omega arith

pub head_as_long : (format : LogFormat) (moment : ℕ) → length (head_bytes format moment) ≡ length (head_bytes format 0)
head_as_long Old moment = refl
head_as_long New moment = refl

head_short : (format : LogFormat) (moment : ℕ) → length (head_bytes format moment) ≤ 9
head_short Old moment = omega arith
head_short New moment = omega arith

pub text_is : (format : LogFormat) (text : List ℕ) → length (text_bytes format text) ≡ length_size format + length text
text_is format text = length-append (length_bytes format (length text)) text ∙ ap (λ (k : ℕ). k + length text) (length_length format (length text))

text_length : (format : LogFormat) (text : List ℕ) → length text ≤ 16777216 → length (text_bytes format text) ≤ 16777224
text_length format text short = omega (arith, text_is format text, size_short format, short)

pub tumbler_counted : (places : List ℕ) → 1 + 4 * length places ≡ length (tumbler_bytes places)
tumbler_counted places = omega (arith, numbers_length places)

pub cuts_counted : (document cuts : List ℕ) (size count : ℕ) → size ≡ length (tumbler_bytes document) → count ≡ length cuts → size + 4 + 4 * count ≡ length (tumbler_bytes document ++ list_bytes u32_bytes cuts)
cuts_counted document cuts size count e f =
    omega (arith, e, f, length-append (tumbler_bytes document) (list_bytes u32_bytes cuts), length-append (u32_bytes (length cuts)) (flat_map u32_bytes cuts), numbers_length cuts)

tumbler_length : (places : List ℕ) → IsTumbler places → length (tumbler_bytes places) ≤ 97
tumbler_length places h = omega (arith, numbers_length places, h.few)

span_length : (span : Span) → IsSpan span → length (span_bytes span) ≤ 194
span_length span h = omega (arith, length-append (tumbler_bytes span.start) (tumbler_bytes span.width), tumbler_length span.start h.start, tumbler_length span.width h.width)

spans_length : (spans : List Span) → All IsSpan spans → length (flat_map span_bytes spans) ≤ 194 * length spans
spans_length [] each = omega arith
spans_length (span ∷ spans) each =
    omega (arith, length-append (span_bytes span) (flat_map span_bytes spans), span_length span (All-head IsSpan span spans each), spans_length spans (All-tail IsSpan span spans each))

spec_length : (spec : PlainSpec) → IsSpec spec → length (spec_bytes spec) ≤ 101 + 194 * length spec.spans
spec_length spec h =
    let list : List ℕ = list_bytes span_bytes spec.spans in
    omega (arith, length-append (tumbler_bytes spec.document) list, length-append (u32_bytes (length spec.spans)) (flat_map span_bytes spec.spans), tumbler_length spec.document h.document, spans_length spec.spans h.spans.each)

each_length : (specs : List PlainSpec) → All IsSpec specs → length (flat_map spec_bytes specs) ≤ 101 * length specs + 194 * spans_in_all specs
each_length [] each = omega arith
each_length (spec ∷ specs) each =
    omega (arith, length-append (spec_bytes spec) (flat_map spec_bytes specs), spec_length spec (All-head IsSpec spec specs each), each_length specs (All-tail IsSpec spec specs each), sum_by-cons (λ (s : PlainSpec). length s.spans) spec specs)

-- 4 for the count, 101 for each spec and 194 for each span
specs_length : (specs : List PlainSpec) → IsSpecSet specs → length (specs_bytes specs) ≤ 19333124
specs_length specs h =
    omega (arith, length-append (u32_bytes (length specs)) (flat_map spec_bytes specs), each_length specs h.list.each, h.list.few, h.few_spans)

pub specs_counted : (specs : List PlainSpec) (size : ℕ) → size ≡ length (flat_map spec_bytes specs) → IsSpecSet specs → 4 + size ≤ 19333124
specs_counted specs size e h = omega (arith, e, specs_length specs h, length-append (u32_bytes (length specs)) (flat_map spec_bytes specs))

-- room for three lists of specs, or a text
change_length : (format : LogFormat) (change : PlainChange) → IsEncodable change → length (change_bytes format change) ≤ 60000000
change_length format (document_created document) h = omega (arith, tumbler_length document h)
change_length format (version_made source document) h = omega (arith, length-append (tumbler_bytes source) (tumbler_bytes document), tumbler_length source h.0, tumbler_length document h.1)
change_length format (copy_opened source document) h = omega (arith, length-append (tumbler_bytes source) (tumbler_bytes document), tumbler_length source h.0, tumbler_length document h.1)
change_length format (text_inserted document at first text) h =
    omega (arith, length-append (tumbler_bytes document) (u32_bytes at ++ (u32_bytes first ++ text_bytes format text)), length-append (u32_bytes at) (u32_bytes first ++ text_bytes format text), length-append (u32_bytes first) (text_bytes format text), text_length format text h.3.short, tumbler_length document h.0)
change_length format (span_deleted document span) h = omega (arith, length-append (tumbler_bytes document) (span_bytes span), tumbler_length document h.0, span_length span h.1)
change_length format (blocks_swapped document cuts) h =
    omega (arith, length-append (tumbler_bytes document) (list_bytes u32_bytes cuts), length-append (u32_bytes (length cuts)) (flat_map u32_bytes cuts), numbers_length cuts, tumbler_length document h.0, h.1.few)
change_length format (specs_copied document at specs) h =
    omega (arith, length-append (tumbler_bytes document) (u32_bytes at ++ specs_bytes specs), length-append (u32_bytes at) (specs_bytes specs), specs_length specs h.2, tumbler_length document h.0)
change_length format (link_made home number place from to three) h =
    let ends : List ℕ = specs_bytes from ++ (specs_bytes to ++ specs_bytes three) in
    omega (
      arith,
      length-append (tumbler_bytes home) (u32_bytes number ++ (u32_bytes place ++ ends)),
      length-append (u32_bytes number) (u32_bytes place ++ ends),
      length-append (u32_bytes place) ends,
      length-append (specs_bytes from) (specs_bytes to ++ specs_bytes three),
      length-append (specs_bytes to) (specs_bytes three),
      specs_length from h.3,
      specs_length to h.4,
      specs_length three h.5,
      tumbler_length home h.0,
    )
change_length format (document_published document) h = omega (arith, tumbler_length document h)
change_length format restarted h = absurd h
change_length format began h = absurd h
change_length format ended h = absurd h
change_length format (account_changed account) h = absurd h
change_length format (document_opened document mode) h = absurd h
change_length format (document_closed document) h = absurd h

pub logged_short : (format : LogFormat) (row : PlainLogged) → HasBody format row → length (logged_bytes format row) ≤ 60000026
logged_short format row h =
    let fields : List ℕ = kind_of row.entry.change ∷ change_bytes format row.entry.change in
    omega (
      arith,
      length-append (head_bytes format row.moment) (u64_bytes row.entry.session ++ (u64_bytes row.entry.serial ++ fields)),
      length-append (u64_bytes row.entry.session) (u64_bytes row.entry.serial ++ fields),
      length-append (u64_bytes row.entry.serial) fields,
      head_short format row.moment,
      change_length format row.entry.change h.change,
    )

-- ---- whatever the moment is

pub logged_as_long : (format : LogFormat) (entry : PlainEntry) (moment : ℕ) → length (logged_bytes format (made_at_moment entry moment)) ≡ length (logged_bytes format (untimed entry))
logged_as_long format entry moment =
    let made : List ℕ = u64_bytes entry.session ++ (u64_bytes entry.serial ++ (kind_of entry.change ∷ change_bytes format entry.change)) in
    omega (arith, length-append (head_bytes format moment) made, length-append (head_bytes format 0) made, head_as_long format moment)

pub body_is : (format : LogFormat) (row : PlainLogged) → length (body_of format row) ≡ length_size format + length (logged_bytes format row)
body_is format row =
    length-append (length_bytes format (length (logged_bytes format row))) (logged_bytes format row)
    ∙ ap (λ (k : ℕ). k + length (logged_bytes format row)) (length_length format (length (logged_bytes format row)))

pub moments_are_as_long : MomentsAreAsLong
moments_are_as_long format entry moment =
    omega (arith, body_is format (made_at_moment entry moment), body_is format (untimed entry), logged_as_long format entry moment)
