-- When a request is refused: its tests in their order, of which the first that holds gives the refusal.
use Rattle.std.specs.Prelude.{ℕ, ◌+◌, ◌==◌, ◌&&◌, ◌||◌, Bool, true, false, not, List, [], ◌∷◌, ◌++◌, length, map, Option, Some, None, slice_index, nat_le, nat_lt, is_none, if◌then◌else◌}
use Rattle.std.specs.List.{list_any, sum_by}
use Rattle.tumbler.specs.declared.span.Span.{Span}
use Rattle.tumbler.specs.Places.{fits}
use Rattle.tumbler.specs.Address.{account_test}
use Rattle.febe_data.specs.declared.access.Mode.{Mode}
use Rattle.febe_data.specs.declared.access.Mode.TheVariants.{Read, Write}
use Rattle.febe_data.specs.declared.access.Rule.{Rule}
use Rattle.febe_data.specs.declared.access.Rule.TheVariants.{Refuse, Copy, Always}
use Rattle.febe_data.specs.declared.refusal.Refusal.{Refusal}
use Rattle.febe_data.specs.declared.refusal.Refusal.TheVariants.{NoAccount, NoSuchDocument, Private, NotOpen, NotOpenForWriting, NotOwner, Conflict, BadAddress, BadCuts, NoSuchLink, NoSuchEnd, TooLong, Full}
use Rattle.febe_data.specs.LimitsView.{LimitsView}
use Rattle.febe_data.specs.Validity.{spans_in_all}
use Rattle.febe_data.specs.Plain.{PlainSpec, PlainWant, PlainRequest, insert, span_set, copy, rearrange, retrieve, relate, create, delete, version, whole_span, quit, follow, find_documents, create_link, end_sets, count_links, find_links, next_links, set_account, opens, closes, publish}
use Rattle.world_rules.specs.declared.ends.End.TheVariants.{From, To, Three}
use Rattle.world_rules.specs.World.{World, has_document, account_of_session, mode_of, is_held_against, text_length}
use Rattle.world_rules.specs.Readable.{is_readable_by, is_readable}
pub use Rattle.world_rules.specs.Readable.{owns}
use Rattle.world_rules.specs.Picking.{picked_text, picked_links, picked_addresses, runs_of}
use Rattle.world_rules.specs.Edits.{cuts_of}
use Rattle.world_rules.specs.Relation.{diagonals}
use Rattle.world_rules.specs.Finding.{documents_found, ids_found, ids_after, link_at}
use Rattle.world_rules.specs.Ends.{end_numbered, end_set}
use Rattle.world_rules.specs.Answers.{follow_of}

-- a test, and what is refused where it holds
abbrev pub Check : Type 0
Check = Bool × Refusal

-- the refusal of the first test that holds
abbrev pub first_holding : List Check → Option Refusal
first_holding [] = None
first_holding (check ∷ checks) = if check.0 then Some check.1 else first_holding checks

-- ---- documents and sessions

-- some spec names a document that there is not
abbrev pub lacks_document : World → List PlainSpec → Bool
lacks_document world specs = list_any (λ (spec : PlainSpec). not (has_document world spec.document)) specs

-- some spec names a document that is not published, nor of the account
abbrev pub hides_document_by : (published : List (List ℕ)) → Option (List ℕ) → List PlainSpec → Bool
hides_document_by published account specs = list_any (λ (spec : PlainSpec). not (is_readable_by published account spec.document)) specs

-- some spec names a document that the session may not read
abbrev pub hides_document : World → ℕ → List PlainSpec → Bool
hides_document world session specs = hides_document_by world.published (account_of_session world session) specs

-- some spec names a document that the session has not open
abbrev pub lacks_opening : World → ℕ → List PlainSpec → Bool
lacks_opening world session specs = list_any (λ (spec : PlainSpec). is_none (mode_of world session spec.document)) specs

abbrev pub is_read_only : Option Mode → Bool
is_read_only (Some Read) = true
is_read_only (Some Write) = false
is_read_only None = false

-- the session may open the document for writing
abbrev pub may_write : World → ℕ → List ℕ → Bool
may_write world session document = owns world session document && not (is_held_against world session document)

-- opening makes a version: always by that rule, and by the rule copy where it is for writing and the document can't be written
abbrev pub opens_version : World → ℕ → List ℕ → Mode → Rule → Bool
opens_version world session document mode Always = true
opens_version world session document Write Copy = not (may_write world session document)
opens_version world session document mode rule = false

-- opening for writing, and opening that always makes a version, want an account
abbrev pub wants_account : Mode → Rule → Bool
wants_account mode Always = true
wants_account Write rule = true
wants_account mode rule = false

-- opening for writing is refused where it can't be
abbrev pub is_strict : Mode → Rule → Bool
is_strict Write Refuse = true
is_strict mode rule = false

-- ---- addresses

-- the V-address is `1.n` with n from 1 to one more than the document's text rows
abbrev pub is_place : ℕ → List ℕ → Bool
is_place text_rows at = length at == 2 && slice_index at 0 == 1 && nat_le 1 (slice_index at 1) && nat_le (slice_index at 1) (text_rows + 1)

-- the n of a V-address `1.n`
abbrev pub position_of : List ℕ → ℕ
position_of at = slice_index at 1

-- the span's end is no address
abbrev pub is_bad_span : Span → Bool
is_bad_span span = not (fits span.start span.width)

-- some span of the specs is bad
abbrev pub has_bad_span : List PlainSpec → Bool
has_bad_span specs = list_any (λ (spec : PlainSpec). list_any is_bad_span spec.spans) specs

-- some cut is no place of the text
abbrev pub has_bad_cut : ℕ → List (List ℕ) → Bool
has_bad_cut text_rows cuts = list_any (λ cut. not (is_place text_rows cut)) cuts

-- ---- sizes

-- the history has as many counted entries as it may
abbrev pub history_full : LimitsView → ℕ → Bool
history_full limits counted = nat_le limits.entries counted

-- a list that no reply has room for; also more runs than specs may name
abbrev pub is_too_long : ℕ → Bool
is_too_long items = nat_lt 65536 items

-- more positions than a document may have
abbrev pub is_too_large : ℕ → Bool
is_too_large positions = nat_lt 1073741824 positions

-- how many bytes and how many items a span of a retrieve gives
abbrev pub span_bytes : World → List ℕ → Span → ℕ
span_bytes world document span = length (picked_text world document span)

abbrev pub span_items : World → List ℕ → Span → ℕ
span_items world document span = (if span_bytes world document span == 0 then 0 else 1) + length (picked_links world document span)

abbrev pub total_of : (List ℕ → Span → ℕ) → List PlainSpec → ℕ
total_of measure specs = sum_by (λ (spec : PlainSpec). sum_by (measure spec.document) spec.spans) specs

-- how many runs the three spec sets have together
abbrev pub runs_in_all : World → (from to three : List PlainSpec) → ℕ
runs_in_all world from to three = length (runs_of world from) + length (runs_of world to) + length (runs_of world three)

-- ---- the tests that requests share

-- the document is there, and the session has it open
abbrev pub holding : World → ℕ → List ℕ → List Check
holding world session document =
    (not (has_document world document), NoSuchDocument)
    ∷ (is_none (mode_of world session document), NotOpen)
    ∷ []

-- the session may read it too
abbrev pub reading : World → ℕ → List ℕ → List Check
reading world session document =
    (not (has_document world document), NoSuchDocument)
    ∷ (not (is_readable world session document), Private)
    ∷ (is_none (mode_of world session document), NotOpen)
    ∷ []

-- and open for writing
abbrev pub writing : World → ℕ → List ℕ → List Check
writing world session document = reading world session document ++ (is_read_only (mode_of world session document), NotOpenForWriting) ∷ []

-- what the specs name is there, may be read, and is open, and the spans are spans
abbrev pub picking : World → ℕ → List PlainSpec → List Check
picking world session specs =
    (lacks_document world specs, NoSuchDocument)
    ∷ (hides_document world session specs, Private)
    ∷ (lacks_opening world session specs, NotOpen)
    ∷ (has_bad_span specs, BadAddress)
    ∷ []

-- a document that changes, and specs beside it
abbrev pub writing_from : World → ℕ → List ℕ → List PlainSpec → List Check
writing_from world session document specs =
    (not (has_document world document) || lacks_document world specs, NoSuchDocument)
    ∷ (not (is_readable world session document) || hides_document world session specs, Private)
    ∷ (is_none (mode_of world session document) || lacks_opening world session specs, NotOpen)
    ∷ (is_read_only (mode_of world session document), NotOpenForWriting)
    ∷ []

-- some spec of the want names a document that there is not
abbrev pub lacks_document_of : World → PlainWant → Bool
lacks_document_of world want = lacks_document world want.from || lacks_document world want.to || lacks_document world want.three

-- or one that the session may not read
abbrev pub hides_document_of : World → ℕ → PlainWant → Bool
hides_document_of world session want = hides_document world session want.from || hides_document world session want.to || hides_document world session want.three

-- or one that the session has not open
abbrev pub lacks_opening_of : World → ℕ → PlainWant → Bool
lacks_opening_of world session want = lacks_opening world session want.from || lacks_opening world session want.to || lacks_opening world session want.three

-- or has a bad span, or the want names one of homes
abbrev pub has_bad_span_in : PlainWant → Bool
has_bad_span_in want = has_bad_span want.from || has_bad_span want.to || has_bad_span want.three || list_any is_bad_span want.homes

-- links are looked for
abbrev pub finding : World → ℕ → PlainWant → List Check
finding world session want =
    (lacks_document_of world want, NoSuchDocument)
    ∷ (hides_document_of world session want, Private)
    ∷ (lacks_opening_of world session want, NotOpen)
    ∷ (has_bad_span_in want, BadAddress)
    ∷ (is_too_long (runs_in_all world want.from want.to want.three), TooLong)
    ∷ []

-- ---- the tests of each request

abbrev pub checks : LimitsView → ℕ → World → ℕ → PlainRequest → List Check
checks limits counted world session (insert document at text) =
    writing world session document
    ++ (not (is_place (text_length world document) at), BadAddress)
    ∷ (is_too_large (text_length world document + length text), TooLong)
    ∷ (history_full limits counted, Full)
    ∷ (nat_lt limits.text (length world.bytes + length text), Full)
    ∷ []
checks limits counted world session (span_set document) = reading world session document
checks limits counted world session (copy document at specs) =
    writing_from world session document specs
    ++ (not (is_place (text_length world document) at) || has_bad_span specs, BadAddress)
    ∷ (is_too_large (text_length world document + length (picked_addresses world specs)), TooLong)
    ∷ (is_too_long (length (runs_of world specs)), TooLong)
    ∷ (history_full limits counted, Full)
    ∷ []
checks limits counted world session (rearrange document cuts) =
    writing world session document
    ++ (has_bad_cut (text_length world document) cuts, BadAddress)
    ∷ (is_none (cuts_of (map position_of cuts)), BadCuts)
    ∷ (history_full limits counted, Full)
    ∷ []
checks limits counted world session (retrieve specs) =
    picking world session specs
    ++ (nat_lt 16777216 (total_of (span_bytes world) specs), TooLong)
    ∷ (is_too_long (total_of (span_items world) specs), TooLong)
    ∷ []
checks limits counted world session (relate left right) =
    picking world session (left ∷ right ∷ [])
    ++ (is_too_long (length (diagonals world left right)), TooLong)
    ∷ []
checks limits counted world session create =
    (is_none (account_of_session world session), NoAccount)
    ∷ (history_full limits counted, Full)
    ∷ []
checks limits counted world session (delete document span) =
    writing world session document
    ++ (is_bad_span span, BadAddress)
    ∷ (history_full limits counted, Full)
    ∷ []
checks limits counted world session (version document) =
    (is_none (account_of_session world session), NoAccount)
    ∷ reading world session document
    ++ (history_full limits counted, Full)
    ∷ []
checks limits counted world session (whole_span document) = reading world session document
checks limits counted world session quit = []
checks limits counted world session (follow link end) =
    (is_none (link_at world session link), NoSuchLink)
    ∷ (is_none (end_numbered end), NoSuchEnd)
    ∷ (is_too_long (spans_in_all (follow_of world session (link_at world session link) (end_numbered end))), TooLong)
    ∷ []
checks limits counted world session (find_documents specs) =
    picking world session specs
    ++ (is_too_long (length (runs_of world specs)), TooLong)
    ∷ (is_too_long (length (documents_found world session specs)), TooLong)
    ∷ []
checks limits counted world session (create_link home from to three) =
    writing_from world session home (from ++ to ++ three)
    ++ (has_bad_span (from ++ to ++ three), BadAddress)
    ∷ (is_too_long (runs_in_all world from to three), TooLong)
    ∷ (history_full limits counted, Full)
    ∷ []
checks limits counted world session (end_sets specs) =
    picking world session specs
    ++ (is_too_long (spans_in_all (end_set world session From specs)), TooLong)
    ∷ (is_too_long (spans_in_all (end_set world session To specs)), TooLong)
    ∷ (is_too_long (spans_in_all (end_set world session Three specs)), TooLong)
    ∷ []
checks limits counted world session (count_links want) = finding world session want
checks limits counted world session (find_links want) =
    finding world session want
    ++ (is_too_long (length (ids_found world session want)), TooLong)
    ∷ []
checks limits counted world session (next_links want after limit) =
    finding world session want
    ++ (is_too_long (length (ids_after world session want after limit)), TooLong)
    ∷ []
checks limits counted world session (set_account account) =
    (not (account_test account), BadAddress)
    ∷ []
checks limits counted world session (opens document mode rule) =
    (wants_account mode rule && is_none (account_of_session world session), NoAccount)
    ∷ (not (has_document world document), NoSuchDocument)
    ∷ (not (is_readable world session document), Private)
    ∷ (is_strict mode rule && not (owns world session document), NotOwner)
    ∷ (is_strict mode rule && is_held_against world session document, Conflict)
    ∷ (opens_version world session document mode rule && history_full limits counted, Full)
    ∷ []
-- what a session has open it may close, whatever it may read
checks limits counted world session (closes document) = holding world session document
checks limits counted world session (publish document) =
    writing world session document
    ++ (history_full limits counted, Full)
    ∷ []

-- the refusal that a request is given, if it is refused
abbrev pub wanted : LimitsView → ℕ → World → ℕ → PlainRequest → Option Refusal
wanted limits counted world session request = first_holding (checks limits counted world session request)
