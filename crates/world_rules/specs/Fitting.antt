-- Which changes name only spans that end at an address, and cuts that bound two blocks.
use Rattle.std.specs.Prelude.{false, List, [], ◌∷◌, ◌≡◌, is_none}
use Rattle.tumbler.specs.Span.{SpanFits}
use Rattle.febe_data.specs.Plain.{PlainChange, PlainEntry, span_deleted, blocks_swapped, specs_copied, link_made}
use Rattle.world_rules.specs.Edits.{cuts_of}
use Rattle.world_rules.specs.Refusals.{has_bad_span}

-- other changes name neither
abbrev pub IsFitting : PlainChange → Type 0
IsFitting (span_deleted document span) = SpanFits span
IsFitting (blocks_swapped document cuts) = is_none (cuts_of cuts) ≡ false
IsFitting (specs_copied document at specs) = has_bad_span specs ≡ false
IsFitting (link_made home number place from to three) = (has_bad_span from ≡ false) × (has_bad_span to ≡ false) × (has_bad_span three ≡ false)
IsFitting other = Unit {0}

-- so do all changes of a history
abbrev pub AreFitting : List PlainEntry → Type 0
AreFitting [] = Unit {0}
AreFitting (entry ∷ history) = IsFitting entry.change × AreFitting history
