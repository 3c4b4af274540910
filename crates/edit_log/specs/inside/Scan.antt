-- What reading a log's bytes finds.
use Rattle.std.specs.Prelude.{◌≡◌, ◌≢◌, ◌⊎◌, ℕ, ◌+◌, ◌<◌, ◌≤◌, List, [], ◌∷◌, ◌++◌, length, drop, Option, None, Some}
use Rattle.entry_codec.specs.Bodies.{HasBody, IsBodyOf, IsBody, BeginsWithBody}
use Rattle.entry_codec.specs.Format.{body_of}
use Rattle.entry_codec.specs.Logged.{plain_logged, plain_log}
use Rattle.entry_codec.specs.declared.format.LogFormat.{LogFormat}
use Rattle.entry_codec.specs.declared.logged.Logged.{Logged}
use Rattle.edit_log.specs.Log.{gated, most_entries, IsEnd, HasEntries, IsDamagedAt}
use Rattle.edit_log.specs.declared.scanning.AtGate.{AtGate}
use Rattle.edit_log.specs.declared.scanning.AtGate.TheVariants.{End, Damaged, Row}
use Rattle.edit_log.specs.declared.scanning.Scanned.{Scanned}
use Rattle.edit_log.specs.declared.scanning.Scanned.TheVariants.{Ends, Damaged as IsDamaged}

-- what decoding in a format gave is so: the entry and the moment whose body the bytes are, or none where they are no body
abbrev pub IsDecodedAs : LogFormat → List ℕ → Option Logged → Type 0
IsDecodedAs format bytes (Some row) = IsBodyOf format (plain_logged row) bytes
IsDecodedAs format bytes None = ¬ IsBody format bytes

-- what stands at a gate, where there are so many entries in front of it
abbrev pub StepsOver : LogFormat → ℕ → List ℕ → AtGate → Type 0
StepsOver format count rest End = IsEnd rest
StepsOver format count rest Damaged = (behind : List ℕ) × (rest ≡ 1 ∷ behind) × (behind ≢ []) × ((¬ BeginsWithBody format behind) ⊎ (most_entries ≤ count))
StepsOver format count rest (Row row n) =
    HasBody format (plain_logged row) × (count < most_entries) × (1 ≤ n) × (n ≤ length rest) × (rest ≡ 1 ∷ body_of format (plain_logged row) ++ drop n rest) × (n ≡ length (body_of format (plain_logged row)) + 1)

-- what the bytes have: entries up to the end, or up to a gate with no entry behind it
abbrev pub HasScanned : LogFormat → List ℕ → Scanned → Type 0
HasScanned format bytes (Ends at rows) = (at ≤ length bytes) × (at ≡ length (gated format (plain_log rows.items))) × HasEntries format (plain_log rows.items) (drop at bytes) bytes × IsEnd (drop at bytes)
HasScanned format bytes (IsDamaged at) = (at ≤ length bytes) × IsDamagedAt format at bytes
