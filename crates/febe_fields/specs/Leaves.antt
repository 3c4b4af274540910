-- The smallest pieces of fields, byte by byte.
use Rattle.std.specs.Prelude.{ℕ, ◌+◌, ◌-◌, ◌*◌, Option, Some, None, nat_lt, ◌==◌, ◌&&◌, not, if◌then◌else◌}
use Rattle.std.specs.Char.{is_ascii_digit}
use Rattle.febe_fields.specs.declared.leaf.Terminator.{Terminator}
use Rattle.febe_fields.specs.declared.leaf.Terminator.TheVariants as terminators
use Rattle.febe_fields.specs.declared.leaf.Leaf.{Leaf}
use Rattle.febe_fields.specs.declared.leaf.Leaf.TheVariants.{Byte, First, Digits, Choice, ZeroCount, NoZeros, Zeros, FirstPlace, NextPlace, ZeroPlace, Place, Text}
use Rattle.febe_fields.specs.declared.leaf.LeafStep.{LeafStep}
use Rattle.febe_fields.specs.declared.leaf.LeafStep.TheVariants.{Goes, Ends, Fails}

-- the byte behind a number
abbrev pub terminator_byte : Terminator → ℕ
terminator_byte terminators.Tilde = 126
terminator_byte terminators.Colon = 58

-- one more digit of a number, unless that passes its bound
abbrev pub number_step : ℕ → ℕ → ℕ → Option ℕ
number_step number most digit = if nat_lt most (number * 10 + (digit - 48)) then None else Some (number * 10 + (digit - 48))

-- it goes on with the number, where there is one
abbrev pub goes_with : (ℕ → Leaf) → Option ℕ → LeafStep
goes_with leaf (Some number) = Goes (leaf number)
goes_with leaf None = Fails

-- this very byte
abbrev pub byte_step : ℕ → ℕ → LeafStep
byte_step wanted byte = if byte == wanted then Ends 0 else Fails

-- the first digit of a number: behind a 0 nothing but the end may come
abbrev pub first_step : ℕ → Terminator → ℕ → LeafStep
first_step most end byte =
    if byte == 48 then Goes (Byte (terminator_byte end)) else (if is_ascii_digit byte then goes_with (λ number. Digits number most end) (number_step 0 most byte) else Fails)

-- a further digit, or the end
abbrev pub digits_step : ℕ → ℕ → Terminator → ℕ → LeafStep
digits_step number most end byte =
    if is_ascii_digit byte then goes_with (λ next. Digits next most end) (number_step number most byte) else (if byte == terminator_byte end then Ends number else Fails)

-- the digit 1 or one of so many behind it, then a tilde
abbrev pub choice_step : ℕ → ℕ → LeafStep
choice_step more byte = if is_ascii_digit byte && (nat_lt 48 byte && not (nat_lt more (byte - 49))) then Goes (Byte 126) else Fails

-- the first digit of the count of zeros
abbrev pub zero_count_step : ℕ → LeafStep
zero_count_step byte = if byte == 48 then Goes NoZeros else (if is_ascii_digit byte then Goes (Zeros (byte - 48)) else Fails)

-- the end, or the first written place
abbrev pub no_zeros_step : ℕ → LeafStep
no_zeros_step byte = if byte == 126 then Ends 0 else (if byte == 46 then Goes (FirstPlace 23) else Fails)

-- a further digit of the count, or the first written place
abbrev pub zeros_step : ℕ → ℕ → LeafStep
zeros_step count byte =
    if is_ascii_digit byte then goes_with (λ next. Zeros next) (number_step count 23 byte) else (if byte == 46 then Goes (FirstPlace (23 - count)) else Fails)

-- the first written place is not 0
abbrev pub first_place_step : ℕ → ℕ → LeafStep
first_place_step more byte = if byte == 48 then Fails else (if is_ascii_digit byte then Goes (Place (byte - 48) more) else Fails)

-- a later place is 0 only where a further one has room
abbrev pub next_place_step : ℕ → ℕ → LeafStep
next_place_step more byte =
    if byte == 48 then (if more == 0 then Fails else Goes (ZeroPlace (more - 1))) else (if is_ascii_digit byte then Goes (Place (byte - 48) more) else Fails)

-- a further digit of a place, or a dot where a further place has room, or the end
abbrev pub place_step : ℕ → ℕ → ℕ → LeafStep
place_step number more byte =
    if is_ascii_digit byte then goes_with (λ next. Place next more) (number_step number 4294967295 byte)
    else (if byte == 46 then (if more == 0 then Fails else Goes (NextPlace (more - 1))) else (if byte == 126 then Ends 0 else Fails))

-- a byte of a text
abbrev pub text_step : ℕ → ℕ → LeafStep
text_step more byte = if nat_lt byte 256 then (if more == 0 then Ends 0 else Goes (Text (more - 1))) else Fails

-- what a byte makes of a leaf
abbrev pub leaf_step : Leaf → ℕ → LeafStep
leaf_step (Byte wanted) byte = byte_step wanted byte
leaf_step (First most end) byte = first_step most end byte
leaf_step (Digits number most end) byte = digits_step number most end byte
leaf_step (Choice more) byte = choice_step more byte
leaf_step ZeroCount byte = zero_count_step byte
leaf_step NoZeros byte = no_zeros_step byte
leaf_step (Zeros count) byte = zeros_step count byte
leaf_step (FirstPlace more) byte = first_place_step more byte
leaf_step (NextPlace more) byte = next_place_step more byte
leaf_step (ZeroPlace more) byte = if byte == 46 then Goes (NextPlace more) else Fails
leaf_step (Place number more) byte = place_step number more byte
leaf_step (Text more) byte = text_step more byte
