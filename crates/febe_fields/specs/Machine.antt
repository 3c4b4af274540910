-- The scanner of fields: what it waits for, and what each byte makes of that.
use Rattle.std.specs.Prelude.{ℕ, ◌-◌, ◌*◌, List, [], ◌∷◌, nat_lt, ◌==◌, if◌then◌else◌}
use Rattle.febe_fields.specs.declared.leaf.Leaf.{Leaf}
use Rattle.febe_fields.specs.declared.leaf.Leaf.TheVariants as leaves
use Rattle.febe_fields.specs.declared.leaf.Terminator.TheVariants.{Tilde, Colon}
use Rattle.febe_fields.specs.declared.leaf.LeafStep.{LeafStep}
use Rattle.febe_fields.specs.declared.leaf.LeafStep.TheVariants.{Goes, Ends, Fails}
use Rattle.febe_fields.specs.declared.scanner.Field.{Field}
use Rattle.febe_fields.specs.declared.scanner.Field.TheVariants as fields
use Rattle.febe_fields.specs.declared.scanner.Role.{Role}
use Rattle.febe_fields.specs.declared.scanner.Role.TheVariants as roles
use Rattle.febe_fields.specs.declared.scanner.Scanner.{Scanner}
use Rattle.febe_fields.specs.declared.scanner.Progress.{Progress}
use Rattle.febe_fields.specs.declared.scanner.Progress.TheVariants as progresses
use Rattle.febe_fields.specs.Leaves.{leaf_step}
use Rattle.febe_fields.specs.Scanning.{Outcome, goes, done, fails}

-- the open leaf, what its number is good for, and what is to come behind it
pub record State : Type 0 where
  pub leaf : Leaf
  pub role : Role
  pub tumblers : ℕ
  pub specs : ℕ
  pub room : ℕ
  pub fields : List Field

abbrev pub state_of : Scanner → State
state_of s = record { leaf = s.leaf; role = s.ahead.role; tumblers = s.ahead.tumblers; specs = s.ahead.specs; room = s.ahead.room; fields = s.ahead.fields.now }

abbrev pub outcome_of : Progress → Outcome State
outcome_of (progresses.Goes s) = goes (state_of s)
outcome_of progresses.Done = done
outcome_of progresses.Fails = fails

-- a field begins
abbrev pub opened : Field → List Field → State
opened fields.Tumbler behind = record { leaf = leaves.ZeroCount; role = roles.Value; tumblers = 0; specs = 0; room = 0; fields = behind }
opened fields.Number behind = record { leaf = leaves.First 4294967295 Tilde; role = roles.Value; tumblers = 0; specs = 0; room = 0; fields = behind }
opened fields.Text behind = record { leaf = leaves.Byte 116; role = roles.TextMark; tumblers = 0; specs = 0; room = 0; fields = behind }
opened fields.Span behind = record { leaf = leaves.ZeroCount; role = roles.Value; tumblers = 1; specs = 0; room = 0; fields = behind }
opened fields.Spans behind = record { leaf = leaves.First 65536 Tilde; role = roles.CountOfSpans; tumblers = 0; specs = 0; room = 0; fields = behind }
opened fields.Tumblers behind = record { leaf = leaves.First 65536 Tilde; role = roles.CountOfTumblers; tumblers = 0; specs = 0; room = 0; fields = behind }
opened fields.Spec behind = record { leaf = leaves.ZeroCount; role = roles.Document; tumblers = 0; specs = 0; room = 65536; fields = behind }
opened fields.Specs behind = record { leaf = leaves.First 65536 Tilde; role = roles.CountOfSpecs; tumblers = 0; specs = 0; room = 0; fields = behind }
opened fields.Mode behind = record { leaf = leaves.Choice 1; role = roles.Value; tumblers = 0; specs = 0; room = 0; fields = behind }
opened fields.Rule behind = record { leaf = leaves.Choice 2; role = roles.Value; tumblers = 0; specs = 0; room = 0; fields = behind }

-- the first of these fields begins, where there is one
abbrev pub fields_next : List Field → Outcome State
fields_next [] = done
fields_next (field ∷ behind) = goes (opened field behind)

-- the next tumbler of the open list begins, or the next spec of the open set, or the next field
abbrev pub what_next : ℕ → ℕ → ℕ → List Field → Outcome State
what_next tumblers specs room fields =
    if nat_lt 0 tumblers then goes (record { leaf = leaves.ZeroCount; role = roles.Value; tumblers = tumblers - 1; specs = specs; room = room; fields = fields })
    else (if nat_lt 0 specs then goes (record { leaf = leaves.ZeroCount; role = roles.Document; tumblers = 0; specs = specs - 1; room = room; fields = fields })
    else fields_next fields)

-- what comes when the open leaf has ended with this number
abbrev pub role_ended : Role → ℕ → ℕ → ℕ → ℕ → List Field → Outcome State
role_ended roles.Value n tumblers specs room fields = what_next tumblers specs room fields
role_ended roles.TextMark n tumblers specs room fields = goes (record { leaf = leaves.First 16777216 Colon; role = roles.TextLength; tumblers = tumblers; specs = specs; room = room; fields = fields })
role_ended roles.TextLength n tumblers specs room fields =
    if n == 0 then what_next tumblers specs room fields
    else goes (record { leaf = leaves.Text (n - 1); role = roles.Value; tumblers = tumblers; specs = specs; room = room; fields = fields })
role_ended roles.CountOfTumblers n tumblers specs room fields = what_next n specs room fields
role_ended roles.CountOfSpans n tumblers specs room fields = what_next (n * 2) specs room fields
role_ended roles.CountOfSpecs n tumblers specs room fields = what_next tumblers n 65536 fields
role_ended roles.Document n tumblers specs room fields = goes (record { leaf = leaves.First room Tilde; role = roles.CountOfSpecSpans; tumblers = tumblers; specs = specs; room = room; fields = fields })
role_ended roles.CountOfSpecSpans n tumblers specs room fields = what_next (n * 2) specs (room - n) fields

-- what the leaf's step makes of the state
abbrev pub stepped : LeafStep → State → Outcome State
stepped (Goes leaf) s = goes (record { leaf = leaf; role = s.role; tumblers = s.tumblers; specs = s.specs; room = s.room; fields = s.fields })
stepped (Ends n) s = role_ended s.role n s.tumblers s.specs s.room s.fields
stepped Fails s = fails

-- what a byte makes of the state
abbrev pub field_step : State → ℕ → Outcome State
field_step s byte = stepped (leaf_step s.leaf byte) s
