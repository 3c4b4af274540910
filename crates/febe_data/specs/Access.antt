-- The numbers of modes and rules.
use Rattle.std.specs.Prelude.{ℕ}
use Rattle.febe_data.specs.declared.access.Mode.{Mode}
use Rattle.febe_data.specs.declared.access.Mode.TheVariants as modes
use Rattle.febe_data.specs.declared.access.Rule.{Rule}
use Rattle.febe_data.specs.declared.access.Rule.TheVariants as rules

-- the number that a request has for a mode
abbrev pub mode_number : Mode → ℕ
mode_number modes.Read = 1
mode_number modes.Write = 2

-- the number that a request has for a rule
abbrev pub rule_number : Rule → ℕ
rule_number rules.Refuse = 1
rule_number rules.Copy = 2
rule_number rules.Always = 3
