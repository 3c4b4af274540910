-- How the field values of requests and replies are written. Each has one spelling.
use Rattle.std.specs.Prelude.{ℕ, zero, suc, List, [], ◌∷◌, ◌++◌, length, drop, codes, decimal}
use Rattle.std.specs.List.{flat_map}
use Rattle.tumbler.specs.declared.span.Span.{Span}
use Rattle.febe_data.specs.declared.run.Diagonal.{Diagonal}
use Rattle.febe_data.specs.Access.{mode_number, rule_number}
use Rattle.febe_data.specs.Plain.{PlainSpec, PlainItem, bytes, link}
use Rattle.febe_data.specs.FieldValues.{FieldValue, tumbler_value, number_value, text_value, span_value, spans_value, tumblers_value, spec_value, specs_value, mode_value, rule_value, items_value, diagonals_value}

-- a number: its digits, then a tilde
abbrev pub spell_number : ℕ → List ℕ
spell_number n = decimal n ++ codes "~"

-- how many places from the first on are 0
abbrev pub zeros_of : List ℕ → ℕ
zeros_of [] = 0
zeros_of (zero ∷ places) = suc (zeros_of places)
zeros_of (suc p ∷ places) = 0

-- a dot and the digits, for each place
abbrev pub spell_places : List ℕ → List ℕ
spell_places places = flat_map (λ p. codes "." ++ decimal p) places

-- a tumbler: how many places from the first on are 0, each further place, then a tilde
abbrev pub spell_tumbler : List ℕ → List ℕ
spell_tumbler places = decimal (zeros_of places) ++ spell_places (drop (zeros_of places) places) ++ codes "~"

-- a text: a t, its length, a colon, and its bytes as they are
abbrev pub spell_text : List ℕ → List ℕ
spell_text text = codes "t" ++ decimal (length text) ++ codes ":" ++ text

-- a span: its start and its width
abbrev pub spell_span : Span → List ℕ
spell_span span = spell_tumbler span.start ++ spell_tumbler span.width

-- a list: how many items, and each of them
abbrev pub spell_list : {X : Type 0} → (X → List ℕ) → List X → List ℕ
spell_list spell xs = spell_number (length xs) ++ flat_map spell xs

-- a spec: its document and its spans
abbrev pub spell_spec : PlainSpec → List ℕ
spell_spec spec = spell_tumbler spec.document ++ spell_list spell_span spec.spans

-- an item: its bytes as a text, or the tumbler of its link
abbrev pub spell_item : PlainItem → List ℕ
spell_item (bytes text) = spell_text text
spell_item (link id) = spell_tumbler id

-- the V-address of a text position
abbrev pub spell_text_address : ℕ → List ℕ
spell_text_address position = spell_tumbler (1 ∷ position ∷ [])

-- a diagonal: the V-addresses of its first pair, and its length
abbrev pub spell_diagonal : Diagonal → List ℕ
spell_diagonal diagonal = spell_text_address diagonal.left ++ spell_text_address diagonal.right ++ spell_number diagonal.length

-- any field value
abbrev pub spell_value : FieldValue → List ℕ
spell_value (tumbler_value places) = spell_tumbler places
spell_value (number_value n) = spell_number n
spell_value (text_value text) = spell_text text
spell_value (span_value span) = spell_span span
spell_value (spans_value spans) = spell_list spell_span spans
spell_value (tumblers_value tumblers) = spell_list spell_tumbler tumblers
spell_value (spec_value spec) = spell_spec spec
spell_value (specs_value specs) = spell_list spell_spec specs
spell_value (mode_value mode) = spell_number (mode_number mode)
spell_value (rule_value rule) = spell_number (rule_number rule)
spell_value (items_value items) = spell_list spell_item items
spell_value (diagonals_value diagonals) = spell_list spell_diagonal diagonals
