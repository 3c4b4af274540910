-- The scanner of requests: what it waits for, and what each byte makes of that.
use Rattle.std.specs.Prelude.{ℕ, ◌+◌, ◌-◌, ◌*◌, List, [], ◌∷◌, Option, Some, None, nat_lt, ◌==◌, ◌||◌, if◌then◌else◌}
use Rattle.std.specs.Borrow.{Bor}
use Rattle.std.specs.Char.{is_ascii_digit}
use Rattle.febe_fields.specs.declared.scanner.Field.{Field}
use Rattle.febe_fields.specs.declared.scanner.Field.TheVariants.{Tumbler, Number, Text, Span, Spans, Tumblers, Spec, Specs, Mode, Rule}
use Rattle.febe_fields.specs.Scanning.{Outcome, goes, done, fails}
use Rattle.febe_fields.specs.Machine.{State, fields_next, field_step}
use Rattle.febe_fields.specs.Machine as fields
use Rattle.febe_wire.specs.declared.scan.RequestScanner.{RequestScanner}
use Rattle.febe_wire.specs.declared.scan.RequestScanner.TheVariants as scanners
use Rattle.febe_wire.specs.declared.scan.RequestProgress.{RequestProgress}
use Rattle.febe_wire.specs.declared.scan.RequestProgress.TheVariants as progresses

-- the fields of a link search, with others behind
abbrev pub want_fields : List Field → List Field
want_fields others = Spans ∷ Specs ∷ Specs ∷ Specs ∷ others

-- the fields behind the number of a request, where there is such a request
abbrev pub fields_of : ℕ → Option (List Field)
fields_of n =
    if n == 0 then Some (Tumbler ∷ Tumbler ∷ Text ∷ [])
    else (if n == 1 then Some (Tumbler ∷ [])
    else (if n == 2 then Some (Tumbler ∷ Tumbler ∷ Specs ∷ [])
    else (if n == 3 then Some (Tumbler ∷ Tumblers ∷ [])
    else (if n == 5 then Some (Specs ∷ [])
    else (if n == 10 then Some (Spec ∷ Spec ∷ [])
    else (if n == 11 then Some []
    else (if n == 12 then Some (Tumbler ∷ Span ∷ [])
    else (if n == 13 then Some (Tumbler ∷ [])
    else (if n == 14 then Some (Tumbler ∷ [])
    else (if n == 16 then Some []
    else (if n == 18 then Some (Tumbler ∷ Number ∷ [])
    else (if n == 22 then Some (Specs ∷ [])
    else (if n == 27 then Some (Tumbler ∷ Specs ∷ Specs ∷ Specs ∷ [])
    else (if n == 28 then Some (Specs ∷ [])
    else (if n == 29 then Some (want_fields [])
    else (if n == 30 then Some (want_fields [])
    else (if n == 31 then Some (want_fields (Tumbler ∷ Number ∷ []))
    else (if n == 34 then Some (Tumbler ∷ [])
    else (if n == 35 then Some (Tumbler ∷ Mode ∷ Rule ∷ [])
    else (if n == 36 then Some (Tumbler ∷ [])
    else (if n == 40 then Some (Tumbler ∷ [])
    else None)))))))))))))))))))))

-- what is waited for: the number's first digit, what is behind its one digit, behind a 4 or behind two, or fields
pub data RequestState : Type 0 where
  at_start : RequestState
  one_digit : (number : ℕ) (behind : List Field) → RequestState
  at_four : RequestState
  two_digits : (behind : List Field) → RequestState
  in_fields : State → RequestState

abbrev pub fields_seen : Option (Bor (List Field)) → Option (List Field)
fields_seen (Some seen) = Some seen.now
fields_seen None = None

abbrev pub state_of : RequestScanner → RequestState
state_of scanners.Start = at_start
state_of (scanners.OneDigit number seen) = one_digit number seen.now
state_of scanners.Four = at_four
state_of (scanners.TwoDigits seen) = two_digits seen.now
state_of (scanners.Fields scanner) = in_fields (fields.state_of scanner)

abbrev pub outcome_of : RequestProgress → Outcome RequestState
outcome_of (progresses.Goes scanner) = goes (state_of scanner)
outcome_of progresses.Done = done
outcome_of progresses.Fails = fails

-- what a byte of the fields makes of the whole
abbrev pub begun : Outcome State → Outcome RequestState
begun (goes s) = goes (in_fields s)
begun done = done
begun fails = fails

-- the next state, where there is such a request
abbrev pub named : (List Field → RequestState) → Option (List Field) → Outcome RequestState
named next (Some behind) = goes (next behind)
named next None = fails

-- a 4 begins the number of a request, and is none
abbrev pub first_digit : ℕ → Outcome RequestState
first_digit byte =
    if byte == 52 then goes at_four
    else (if is_ascii_digit byte then named (λ behind. one_digit (byte - 48) behind) (fields_of (byte - 48)) else fails)

abbrev pub second_digit : ℕ → ℕ → Outcome RequestState
second_digit number byte =
    if number == 0 || nat_lt 9 number then fails
    else (if is_ascii_digit byte then named (λ behind. two_digits behind) (fields_of (number * 10 + (byte - 48))) else fails)

-- what a byte makes of the state
abbrev pub request_step : RequestState → ℕ → Outcome RequestState
request_step at_start byte = first_digit byte
request_step (one_digit number behind) byte = if byte == 126 then begun (fields_next behind) else second_digit number byte
request_step at_four byte = second_digit 4 byte
request_step (two_digits behind) byte = if byte == 126 then begun (fields_next behind) else fails
request_step (in_fields s) byte = begun (field_step s byte)
