-- What requests and replies are made of: a number, and the values of their fields in order.
use Rattle.std.specs.Prelude.{ℕ, List, [], ◌∷◌}
use Rattle.tumbler.specs.declared.span.Span.{Span}
use Rattle.febe_data.specs.declared.access.Mode.{Mode}
use Rattle.febe_data.specs.declared.access.Rule.{Rule}
use Rattle.febe_data.specs.declared.run.Diagonal.{Diagonal}
use Rattle.febe_data.specs.Plain.{PlainSpec, PlainWant, PlainItem, PlainRequest, insert, span_set, copy, rearrange, retrieve, relate, create, delete, version, whole_span, quit, follow, find_documents, create_link, end_sets, count_links, find_links, next_links, set_account, opens, closes, publish, PlainReply, inserted, copied, rearranged, deleted, has_quit, account_set, closed, gave_span_set, gave_whole_span, retrieved, related, created, versioned, linked, opened, followed, found_documents, gave_end_sets, counted_links, found_links, gave_next_links, refused, published}

-- the value of one field
pub data FieldValue : Type 0 where
  tumbler_value : (places : List ℕ) → FieldValue
  number_value : (n : ℕ) → FieldValue
  text_value : (text : List ℕ) → FieldValue
  span_value : (span : Span) → FieldValue
  spans_value : (spans : List Span) → FieldValue
  tumblers_value : (tumblers : List (List ℕ)) → FieldValue
  spec_value : (spec : PlainSpec) → FieldValue
  specs_value : (specs : List PlainSpec) → FieldValue
  mode_value : (mode : Mode) → FieldValue
  rule_value : (rule : Rule) → FieldValue
  items_value : (items : List PlainItem) → FieldValue
  diagonals_value : (diagonals : List Diagonal) → FieldValue

-- the number of a request
abbrev pub request_number : PlainRequest → ℕ
request_number (insert document at text) = 0
request_number (span_set document) = 1
request_number (copy document at specs) = 2
request_number (rearrange document cuts) = 3
request_number (retrieve specs) = 5
request_number (relate left right) = 10
request_number create = 11
request_number (delete document span) = 12
request_number (version document) = 13
request_number (whole_span document) = 14
request_number quit = 16
request_number (follow link end) = 18
request_number (find_documents specs) = 22
request_number (create_link home from to three) = 27
request_number (end_sets specs) = 28
request_number (count_links want) = 29
request_number (find_links want) = 30
request_number (next_links want after limit) = 31
request_number (set_account account) = 34
request_number (opens document mode rule) = 35
request_number (closes document) = 36
request_number (publish document) = 40

-- what a request gives for the links that it looks for, with other values behind
abbrev pub want_values : PlainWant → List FieldValue → List FieldValue
want_values want others = spans_value want.homes ∷ specs_value want.from ∷ specs_value want.to ∷ specs_value want.three ∷ others

-- the field values of a request, in their order
abbrev pub request_values : PlainRequest → List FieldValue
request_values (insert document at text) = tumbler_value document ∷ tumbler_value at ∷ text_value text ∷ []
request_values (span_set document) = tumbler_value document ∷ []
request_values (copy document at specs) = tumbler_value document ∷ tumbler_value at ∷ specs_value specs ∷ []
request_values (rearrange document cuts) = tumbler_value document ∷ tumblers_value cuts ∷ []
request_values (retrieve specs) = specs_value specs ∷ []
request_values (relate left right) = spec_value left ∷ spec_value right ∷ []
request_values create = []
request_values (delete document span) = tumbler_value document ∷ span_value span ∷ []
request_values (version document) = tumbler_value document ∷ []
request_values (whole_span document) = tumbler_value document ∷ []
request_values quit = []
request_values (follow link end) = tumbler_value link ∷ number_value end ∷ []
request_values (find_documents specs) = specs_value specs ∷ []
request_values (create_link home from to three) = tumbler_value home ∷ specs_value from ∷ specs_value to ∷ specs_value three ∷ []
request_values (end_sets specs) = specs_value specs ∷ []
request_values (count_links want) = want_values want []
request_values (find_links want) = want_values want []
request_values (next_links want after limit) = want_values want (tumbler_value after ∷ number_value limit ∷ [])
request_values (set_account account) = tumbler_value account ∷ []
request_values (opens document mode rule) = tumbler_value document ∷ mode_value mode ∷ rule_value rule ∷ []
request_values (closes document) = tumbler_value document ∷ []
request_values (publish document) = tumbler_value document ∷ []

-- the field values of a reply, in their order
abbrev pub reply_values : PlainReply → List FieldValue
reply_values inserted = []
reply_values copied = []
reply_values rearranged = []
reply_values deleted = []
reply_values has_quit = []
reply_values account_set = []
reply_values closed = []
reply_values (gave_span_set spans) = spans_value spans ∷ []
reply_values (gave_whole_span span) = span_value span ∷ []
reply_values (retrieved items) = items_value items ∷ []
reply_values (related diagonals) = diagonals_value diagonals ∷ []
reply_values (created document) = tumbler_value document ∷ []
reply_values (versioned document) = tumbler_value document ∷ []
reply_values (linked id) = tumbler_value id ∷ []
reply_values (opened document) = tumbler_value document ∷ []
reply_values (followed specs) = specs_value specs ∷ []
reply_values (found_documents documents) = tumblers_value documents ∷ []
reply_values (gave_end_sets from to three) = specs_value from ∷ specs_value to ∷ specs_value three ∷ []
reply_values (counted_links count) = number_value count ∷ []
reply_values (found_links ids) = tumblers_value ids ∷ []
reply_values (gave_next_links ids) = tumblers_value ids ∷ []
reply_values (refused refusal) = []
reply_values published = []
