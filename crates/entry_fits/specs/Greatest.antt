-- The greatest serial of each session.
use Rattle.std.specs.Prelude.{◌≡◌, ℕ, ◌==◌, max, List, [], ◌∷◌, if◌then◌else◌}
use Rattle.std.specs.Option.{unwrap_or}
use Rattle.std.specs.Ordering.{nat_cmp}
use Rattle.std.specs.BTreeMap.{is_at}
use Rattle.std.specs.Map.{lookup}
use Rattle.febe_data.specs.Plain.{PlainEntry}

-- the greatest serial of the session's entries, 0 where it has none
abbrev pub greatest_serial : List PlainEntry → ℕ → ℕ
greatest_serial [] session = 0
greatest_serial (entry ∷ past) session = if entry.session == session then max entry.serial (greatest_serial past session) else greatest_serial past session

-- the serial that stands beside a session, 0 where none does
abbrev pub serial_in : List (ℕ × ℕ) → ℕ → ℕ
serial_in serials session = unwrap_or (lookup (is_at (nat_cmp session)) serials) 0

-- beside each session stands the greatest serial of its entries
abbrev pub AreSerialsOf : List PlainEntry → List (ℕ × ℕ) → Type 0
AreSerialsOf past serials = (session : ℕ) → serial_in serials session ≡ greatest_serial past session
