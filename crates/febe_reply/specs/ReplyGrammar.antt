-- The bytes of replies.
use Rattle.std.specs.Prelude.{◌≡◌, ◌<◌, ℕ, List, ◌++◌, codes, All}
use Rattle.std.specs.List.{flat_map, AllByRecursion}
use Rattle.febe_data.specs.Refusal.{refusal_number}
use Rattle.febe_data.specs.FieldValues.{FieldValue, tumbler_value, number_value, text_value, span_value, spans_value, tumblers_value, spec_value, specs_value, mode_value, rule_value, items_value, diagonals_value, reply_values}
use Rattle.febe_data.specs.Plain.{PlainItem, bytes, link, PlainReply, inserted, copied, rearranged, deleted, has_quit, account_set, closed, gave_span_set, gave_whole_span, retrieved, related, created, versioned, linked, opened, followed, found_documents, gave_end_sets, counted_links, found_links, gave_next_links, refused, published}
use Rattle.febe_data.specs.Spelling.{spell_number, spell_value}
use Rattle.febe_data.specs.Validity.{IsReply}

-- the number of the request that a reply answers, or a question mark and the number of the refusal
abbrev pub reply_head : PlainReply → List ℕ
reply_head inserted = spell_number 0
reply_head (gave_span_set spans) = spell_number 1
reply_head copied = spell_number 2
reply_head rearranged = spell_number 3
reply_head (retrieved items) = spell_number 5
reply_head (related diagonals) = spell_number 10
reply_head (created document) = spell_number 11
reply_head deleted = spell_number 12
reply_head (versioned document) = spell_number 13
reply_head (gave_whole_span span) = spell_number 14
reply_head has_quit = spell_number 16
reply_head (followed specs) = spell_number 18
reply_head (found_documents documents) = spell_number 22
reply_head (linked id) = spell_number 27
reply_head (gave_end_sets from to three) = spell_number 28
reply_head (counted_links count) = spell_number 29
reply_head (found_links ids) = spell_number 30
reply_head (gave_next_links ids) = spell_number 31
reply_head account_set = spell_number 34
reply_head (opened document) = spell_number 35
reply_head closed = spell_number 36
reply_head published = spell_number 40
reply_head (refused refusal) = codes "?" ++ spell_number (refusal_number refusal)

-- the one spelling of a reply: its head, then what it gives
abbrev pub spell_reply : PlainReply → List ℕ
spell_reply reply = reply_head reply ++ flat_map spell_value (reply_values reply)

-- an item's text is made of bytes
abbrev pub HoldsBytes : PlainItem → Type 0
HoldsBytes (bytes text) = All (λ b. b < 256) text
HoldsBytes (link id) = Unit {0}

-- the texts of the items in a field value are made of bytes
abbrev pub HasBytes : FieldValue → Type 0
HasBytes (tumbler_value places) = Unit {0}
HasBytes (number_value n) = Unit {0}
HasBytes (text_value text) = Unit {0}
HasBytes (span_value span) = Unit {0}
HasBytes (spans_value spans) = Unit {0}
HasBytes (tumblers_value tumblers) = Unit {0}
HasBytes (spec_value spec) = Unit {0}
HasBytes (specs_value specs) = Unit {0}
HasBytes (mode_value mode) = Unit {0}
HasBytes (rule_value rule) = Unit {0}
HasBytes (items_value items) = All HoldsBytes items
HasBytes (diagonals_value diagonals) = Unit {0}

-- these bytes spell this reply
pub record SpellsReply (bytes : List ℕ) (reply : PlainReply) : Type 0 where
  pub valid : IsReply reply
  pub texts : AllByRecursion HasBytes (reply_values reply)
  pub spelled : bytes ≡ spell_reply reply

-- these bytes spell some reply
pub record IsSpelledReply (bytes : List ℕ) : Type 0 where
  pub reply : PlainReply
  pub spells : SpellsReply bytes reply
