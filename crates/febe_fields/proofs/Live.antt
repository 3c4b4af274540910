-- Each state of the scan of fields is ended by some bytes.
use Rattle.std.proofs.Common.{◌≡◌, ℕ, zero, suc, ◌-◌, ◌*◌, ◌<◌, false, List, [], ◌∷◌, refl, arith}
use Rattle.std.specs.Prelude.{◌==◌, nat_lt}
use Rattle.std.specs.List.{flat_map, AllByRecursion}
use Rattle.std.proofs.lemmas.Bool.{ne_eqb, lt-ltb, le-ltb}
use Rattle.std.proofs.lemmas.List.Elements.{All-nil}
use Rattle.tumbler.specs.Places.{IsTumbler}
use Rattle.febe_data.specs.declared.access.Mode.TheVariants as modes
use Rattle.febe_data.specs.declared.access.Rule.TheVariants as rules
use Rattle.febe_data.specs.Spelling.{spell_value}
use Rattle.febe_data.specs.Validity.{IsSpan, IsSpec, IsFieldValue}
use Rattle.febe_fields.specs.declared.leaf.Terminator.{Terminator}
use Rattle.febe_fields.specs.declared.leaf.Terminator.TheVariants as terminators
use Rattle.febe_fields.specs.declared.leaf.Leaf.{Leaf}
use Rattle.febe_fields.specs.declared.leaf.Leaf.TheVariants as leaves
use Rattle.febe_fields.specs.declared.scanner.Field.{Field}
use Rattle.febe_fields.specs.declared.scanner.Field.TheVariants as fields
use Rattle.febe_fields.specs.declared.scanner.Role.{Role}
use Rattle.febe_fields.specs.declared.scanner.Role.TheVariants as roles
use Rattle.febe_fields.specs.Leaves.{terminator_byte}
use Rattle.febe_fields.specs.Machine.{field_step, fields_next, what_next}
use Rattle.febe_fields.specs.Fields.{ValueOf, field_value, ValuesOf, field_values, takes, follows, NeverStuck}
use Rattle.febe_fields.proofs.NumberScans.{at_leaf, behind_leaf, taken_step, byte_again}
use Rattle.febe_fields.proofs.FieldsAgain.{fields_again}

-- a value for each field
some_value : (field : Field) → (value : ValueOf field) × IsFieldValue (field_value field value)
some_value fields.Tumbler = ([], no_places) where
  no_places : IsTumbler []
  no_places = record { few = omega arith; small = All-nil (λ p. p < 4294967296); ends = λ e. refl }
some_value fields.Number = (0, omega arith)
some_value fields.Text = ([], record { short = omega arith; bytes = All-nil (λ b. b < 256) })
some_value fields.Span = (record { start = []; width = [] }, record { start = no_places; width = no_places }) where
  no_places : IsTumbler []
  no_places = record { few = omega arith; small = All-nil (λ p. p < 4294967296); ends = λ e. refl }
some_value fields.Spans = ([], record { few = omega arith; each = All-nil IsSpan })
some_value fields.Tumblers = ([], record { few = omega arith; each = All-nil IsTumbler })
some_value fields.Spec = (record { document = []; spans = [] }, record { document = no_places; spans = record { few = omega arith; each = All-nil IsSpan } }) where
  no_places : IsTumbler []
  no_places = record { few = omega arith; small = All-nil (λ p. p < 4294967296); ends = λ e. refl }
some_value fields.Specs = ([], record { list = record { few = omega arith; each = All-nil IsSpec }; few_spans = omega arith })
some_value fields.Mode = (modes.Read, tt)
some_value fields.Rule = (rules.Refuse, tt)

some_values : (others : List Field) → (values : ValuesOf others) × AllByRecursion IsFieldValue (field_values others values)
some_values [] = (tt, tt)
some_values (field ∷ others) =
    let this = some_value field in
    let on = some_values others in
    ((this.0, on.0), (this.1, on.1))

pub fields_go_on : (others : List Field) → (bytes : List ℕ) × follows field_step (fields_next others) bytes
fields_go_on others =
    let v = some_values others in
    (flat_map spell_value (field_values others v.0), fields_again others v.0 v.1)

-- the tumbler without places, where one begins
zero_tumbler : (role : Role) (tumblers specs room : ℕ) (others : List Field) (behind : List ℕ) → behind_leaf role tumblers specs room others 0 behind → takes field_step (at_leaf role tumblers specs room others leaves.ZeroCount) (48 ∷ 126 ∷ behind)
zero_tumbler role tumblers specs room others behind h =
    taken_step role tumblers specs room others leaves.ZeroCount 48 (126 ∷ behind) (taken_step role tumblers specs room others leaves.NoZeros 126 behind h)

zero_number : (role : Role) (tumblers specs room : ℕ) (others : List Field) (most : ℕ) (end : Terminator) (behind : List ℕ) → behind_leaf role tumblers specs room others 0 behind → takes field_step (at_leaf role tumblers specs room others (leaves.First most end)) (48 ∷ terminator_byte end ∷ behind)
zero_number role tumblers specs room others most end behind h =
    taken_step role tumblers specs room others (leaves.First most end) 48 (terminator_byte end ∷ behind) (byte_again role tumblers specs room others (terminator_byte end) behind h)

specs_go_on : (specs room : ℕ) (others : List Field) → (bytes : List ℕ) × follows field_step (what_next 0 specs room others) bytes
specs_go_on zero room others = fields_go_on others
specs_go_on (suc n) room others =
    let one : suc n - 1 ≡ n = omega arith in
    let some : 0 < suc n = omega arith in
    let on = specs_go_on n (room - 0) others in
    (48 ∷ 126 ∷ 48 ∷ 126 ∷ on.0, rw (lt-ltb 0 (suc n) some, one) (zero_tumbler roles.Document 0 n room others (48 ∷ 126 ∷ on.0) (zero_number roles.CountOfSpecSpans 0 n room others room terminators.Tilde on.0 on.1)))

next_goes_on : (tumblers specs room : ℕ) (others : List Field) → (bytes : List ℕ) × follows field_step (what_next tumblers specs room others) bytes
next_goes_on zero specs room others = specs_go_on specs room others
next_goes_on (suc n) specs room others =
    let one : suc n - 1 ≡ n = omega arith in
    let some : 0 < suc n = omega arith in
    let on = next_goes_on n specs room others in
    (48 ∷ 126 ∷ on.0, rw (lt-ltb 0 (suc n) some, one) (zero_tumbler roles.Value n specs room others on.0 on.1))

-- bytes of a text
text_goes_on : (more tumblers specs room : ℕ) (others : List Field) → (bytes : List ℕ) × takes field_step (at_leaf roles.Value tumblers specs room others (leaves.Text more)) bytes
text_goes_on zero tumblers specs room others =
    let on = next_goes_on tumblers specs room others in
    (0 ∷ on.0, taken_step roles.Value tumblers specs room others (leaves.Text 0) 0 on.0 on.1)
text_goes_on (suc n) tumblers specs room others =
    let left : (suc n == 0) ≡ false = ne_eqb _ _ (λ e. omega arith) in
    let one : suc n - 1 ≡ n = omega arith in
    let on = text_goes_on n tumblers specs room others in
    (0 ∷ on.0, taken_step roles.Value tumblers specs room others (leaves.Text (suc n)) 0 on.0 (rw (left, one) on.1))

length_goes_on : (n tumblers specs room : ℕ) (others : List Field) → (bytes : List ℕ) × behind_leaf roles.TextLength tumblers specs room others n bytes
length_goes_on zero tumblers specs room others = next_goes_on tumblers specs room others
length_goes_on (suc n) tumblers specs room others =
    let left : (suc n == 0) ≡ false = ne_eqb _ _ (λ e. omega arith) in
    let one : suc n - 1 ≡ n = omega arith in
    let on = text_goes_on n tumblers specs room others in
    (on.0, rw (left, one) on.1)

role_goes_on : (role : Role) (n tumblers specs room : ℕ) (others : List Field) → (bytes : List ℕ) × behind_leaf role tumblers specs room others n bytes
role_goes_on roles.Value n tumblers specs room others = next_goes_on tumblers specs room others
role_goes_on roles.TextMark n tumblers specs room others =
    let on = length_goes_on 0 tumblers specs room others in
    (48 ∷ 58 ∷ on.0, zero_number roles.TextLength tumblers specs room others 16777216 terminators.Colon on.0 on.1)
role_goes_on roles.TextLength n tumblers specs room others = length_goes_on n tumblers specs room others
role_goes_on roles.CountOfTumblers n tumblers specs room others = next_goes_on n specs room others
role_goes_on roles.CountOfSpans n tumblers specs room others = next_goes_on (n * 2) specs room others
role_goes_on roles.CountOfSpecs n tumblers specs room others = next_goes_on tumblers n 65536 others
role_goes_on roles.Document n tumblers specs room others =
    let on = specs_go_on specs (room - 0) others in
    (48 ∷ 126 ∷ on.0, zero_number roles.CountOfSpecSpans tumblers specs room others room terminators.Tilde on.0 on.1)
role_goes_on roles.CountOfSpecSpans n tumblers specs room others = next_goes_on (n * 2) specs (room - n) others

-- no number is below 0
none_over : (more : ℕ) → nat_lt more 0 ≡ false
none_over more = le-ltb more 0 (omega arith)

module _ (role : Role) (tumblers specs room : ℕ) (others : List Field) where
  -- the place 1 and the end
  one_place : (behind : List ℕ) (more : ℕ) → behind_leaf role tumblers specs room others 0 behind → takes field_step (at_leaf role tumblers specs room others (leaves.Place 1 more)) (126 ∷ behind)
  one_place behind more h = taken_step role tumblers specs room others (leaves.Place 1 more) 126 behind h

  leaf_goes_on : (leaf : Leaf) → (bytes : List ℕ) × takes field_step (at_leaf role tumblers specs room others leaf) bytes
  leaf_goes_on (leaves.Byte wanted) =
      let on = role_goes_on role 0 tumblers specs room others in
      (wanted ∷ on.0, byte_again role tumblers specs room others wanted on.0 on.1)
  leaf_goes_on (leaves.First most end) =
      let on = role_goes_on role 0 tumblers specs room others in
      (48 ∷ terminator_byte end ∷ on.0, zero_number role tumblers specs room others most end on.0 on.1)
  leaf_goes_on (leaves.Digits number most terminators.Tilde) =
      let on = role_goes_on role number tumblers specs room others in
      (126 ∷ on.0, taken_step role tumblers specs room others (leaves.Digits number most terminators.Tilde) 126 on.0 on.1)
  leaf_goes_on (leaves.Digits number most terminators.Colon) =
      let on = role_goes_on role number tumblers specs room others in
      (58 ∷ on.0, taken_step role tumblers specs room others (leaves.Digits number most terminators.Colon) 58 on.0 on.1)
  leaf_goes_on (leaves.Choice more) =
      let on = role_goes_on role 0 tumblers specs room others in
      (49 ∷ 126 ∷ on.0, taken_step role tumblers specs room others (leaves.Choice more) 49 (126 ∷ on.0) (rw (none_over more) (byte_again role tumblers specs room others 126 on.0 on.1)))
  leaf_goes_on leaves.ZeroCount =
      let on = role_goes_on role 0 tumblers specs room others in
      (48 ∷ 126 ∷ on.0, zero_tumbler role tumblers specs room others on.0 on.1)
  leaf_goes_on leaves.NoZeros =
      let on = role_goes_on role 0 tumblers specs room others in
      (126 ∷ on.0, taken_step role tumblers specs room others leaves.NoZeros 126 on.0 on.1)
  leaf_goes_on (leaves.Zeros count) =
      let on = role_goes_on role 0 tumblers specs room others in
      (46 ∷ 49 ∷ 126 ∷ on.0, taken_step role tumblers specs room others (leaves.Zeros count) 46 (49 ∷ 126 ∷ on.0) (taken_step role tumblers specs room others (leaves.FirstPlace (23 - count)) 49 (126 ∷ on.0) (one_place on.0 (23 - count) on.1)))
  leaf_goes_on (leaves.FirstPlace more) =
      let on = role_goes_on role 0 tumblers specs room others in
      (49 ∷ 126 ∷ on.0, taken_step role tumblers specs room others (leaves.FirstPlace more) 49 (126 ∷ on.0) (one_place on.0 more on.1))
  leaf_goes_on (leaves.NextPlace more) =
      let on = role_goes_on role 0 tumblers specs room others in
      (49 ∷ 126 ∷ on.0, taken_step role tumblers specs room others (leaves.NextPlace more) 49 (126 ∷ on.0) (one_place on.0 more on.1))
  leaf_goes_on (leaves.ZeroPlace more) =
      let on = role_goes_on role 0 tumblers specs room others in
      (46 ∷ 49 ∷ 126 ∷ on.0, taken_step role tumblers specs room others (leaves.ZeroPlace more) 46 (49 ∷ 126 ∷ on.0) (taken_step role tumblers specs room others (leaves.NextPlace more) 49 (126 ∷ on.0) (one_place on.0 more on.1)))
  leaf_goes_on (leaves.Place number more) =
      let on = role_goes_on role 0 tumblers specs room others in
      (126 ∷ on.0, taken_step role tumblers specs room others (leaves.Place number more) 126 on.0 on.1)
  leaf_goes_on (leaves.Text more) = bytes_go_on more where
    bytes_go_on : (more : ℕ) → (bytes : List ℕ) × takes field_step (at_leaf role tumblers specs room others (leaves.Text more)) bytes
    bytes_go_on zero =
        let on = role_goes_on role 0 tumblers specs room others in
        (0 ∷ on.0, taken_step role tumblers specs room others (leaves.Text 0) 0 on.0 on.1)
    bytes_go_on (suc n) =
        let left : (suc n == 0) ≡ false = ne_eqb _ _ (λ e. omega arith) in
        let one : suc n - 1 ≡ n = omega arith in
        let on = bytes_go_on n in
        (0 ∷ on.0, taken_step role tumblers specs room others (leaves.Text (suc n)) 0 on.0 (rw (left, one) on.1))

pub never_stuck : NeverStuck
never_stuck s = leaf_goes_on s.role s.tumblers s.specs s.room s.fields s.leaf
