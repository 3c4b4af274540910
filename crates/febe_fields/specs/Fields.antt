-- Which bytes spell fields, and which of them take a scan to its end.
use Rattle.std.specs.Prelude.{◌≡◌, ◌↔◌, ℕ, List, [], ◌∷◌}
use Rattle.std.specs.List.{flat_map, AllByRecursion}
use Rattle.tumbler.specs.declared.span.Span.{Span}
use Rattle.febe_data.specs.declared.access.Mode.{Mode}
use Rattle.febe_data.specs.declared.access.Rule.{Rule}
use Rattle.febe_data.specs.Plain.{PlainSpec}
use Rattle.febe_data.specs.FieldValues.{FieldValue, tumbler_value, number_value, text_value, span_value, spans_value, tumblers_value, spec_value, specs_value, mode_value, rule_value}
use Rattle.febe_data.specs.Spelling.{spell_value}
use Rattle.febe_data.specs.Validity.{IsFieldValue}
use Rattle.febe_fields.specs.declared.scanner.Field.{Field}
use Rattle.febe_fields.specs.declared.scanner.Field.TheVariants as fields
use Rattle.febe_fields.specs.Scanning.{Outcome, goes, done, fails}
use Rattle.febe_fields.specs.Machine.{State, field_step, fields_next}

-- the values of a field
abbrev pub ValueOf : Field → Type 0
ValueOf fields.Tumbler = List ℕ
ValueOf fields.Number = ℕ
ValueOf fields.Text = List ℕ
ValueOf fields.Span = Span
ValueOf fields.Spans = List Span
ValueOf fields.Tumblers = List (List ℕ)
ValueOf fields.Spec = PlainSpec
ValueOf fields.Specs = List PlainSpec
ValueOf fields.Mode = Mode
ValueOf fields.Rule = Rule

-- the value of a field of this kind
abbrev pub field_value : (field : Field) → ValueOf field → FieldValue
field_value fields.Tumbler value = tumbler_value value
field_value fields.Number value = number_value value
field_value fields.Text value = text_value value
field_value fields.Span value = span_value value
field_value fields.Spans value = spans_value value
field_value fields.Tumblers value = tumblers_value value
field_value fields.Spec value = spec_value value
field_value fields.Specs value = specs_value value
field_value fields.Mode value = mode_value value
field_value fields.Rule value = rule_value value

-- one value for each field
abbrev pub ValuesOf : List Field → Type 0
ValuesOf [] = Unit {0}
ValuesOf (field ∷ behind) = ValueOf field × ValuesOf behind

-- the values of these fields
abbrev pub field_values : (fields : List Field) → ValuesOf fields → List FieldValue
field_values [] values = []
field_values (field ∷ behind) values = field_value field values.0 ∷ field_values behind values.1

-- the bytes spell a right value for each field, one after the other
pub record SpellsFields (fields : List Field) (bytes : List ℕ) : Type 0 where
  pub values : ValuesOf fields
  pub valid : AllByRecursion IsFieldValue (field_values fields values)
  pub spelled : bytes ≡ flat_map spell_value (field_values fields values)

-- these bytes, and no fewer, follow an outcome
abbrev pub takes_on : {State : Type 0} → Outcome State → List ℕ → (State → Type 0) → Type 0
takes_on (goes s) bytes on = on s
takes_on done bytes on = bytes ≡ []
takes_on fails bytes on = ⊥

-- these bytes, and no fewer, take the state to its end
unfoldable pub takes : {State : Type 0} → (State → ℕ → Outcome State) → State → List ℕ → Type 0
takes step s [] = ⊥
takes step s (b ∷ bytes) = takes_on (step s b) bytes (λ next. takes step next bytes)

-- the same, for what comes after an outcome
abbrev pub follows : {State : Type 0} → (State → ℕ → Outcome State) → Outcome State → List ℕ → Type 0
follows step (goes s) bytes = takes step s bytes
follows step done bytes = bytes ≡ []
follows step fails bytes = ⊥

-- the scan of fields takes what spells them, and nothing else
abbrev pub ScansFields : Type 0
ScansFields = (fields : List Field) (bytes : List ℕ) → follows field_step (fields_next fields) bytes ↔ SpellsFields fields bytes

-- each state of the scan is ended by some bytes
abbrev pub NeverStuck : Type 0
NeverStuck = (s : State) → (bytes : List ℕ) × takes field_step s bytes
