-- The scanner of replies: what it waits for, and what each byte makes of that.
use Rattle.std.specs.Prelude.{ℕ, ◌+◌, ◌-◌, ◌*◌, List, [], ◌∷◌, Option, Some, None, Bool, true, false, nat_lt, ◌==◌, ◌||◌, if◌then◌else◌}
use Rattle.std.specs.Char.{is_ascii_digit}
use Rattle.febe_fields.specs.declared.scanner.Field.{Field}
use Rattle.febe_fields.specs.declared.scanner.Field.TheVariants.{Tumbler, Number, Text, Span, Spans, Tumblers, Specs}
use Rattle.febe_fields.specs.Leaves.{number_step}
use Rattle.febe_fields.specs.Scanning.{Outcome, goes, done, fails}
use Rattle.febe_fields.specs.Machine.{State, opened, fields_next, field_step}
use Rattle.febe_fields.specs.Machine as fields
use Rattle.febe_reply.specs.declared.payload.Payload.{Payload}
use Rattle.febe_reply.specs.declared.payload.Payload.TheVariants as payloads
use Rattle.febe_reply.specs.declared.scan.NumberRole.{NumberRole}
use Rattle.febe_reply.specs.declared.scan.NumberRole.TheVariants.{Refusal, Items, Diagonals, Left, Right, Length}
use Rattle.febe_reply.specs.declared.scan.ReplyScanner.{ReplyScanner}
use Rattle.febe_reply.specs.declared.scan.ReplyScanner.TheVariants as scanners
use Rattle.febe_reply.specs.declared.scan.ReplyProgress.{ReplyProgress}
use Rattle.febe_reply.specs.declared.scan.ReplyProgress.TheVariants as progresses

-- what comes behind the number of a reply
pub data Behind : Type 0 where
  these : (fields : List Field) → Behind
  some_items : Behind
  some_diagonals : Behind

abbrev pub behind_of : Payload → Behind
behind_of (payloads.Fields seen) = these seen.now
behind_of payloads.Items = some_items
behind_of payloads.Diagonals = some_diagonals

abbrev pub payload_seen : Option Payload → Option Behind
payload_seen (Some payload) = Some (behind_of payload)
payload_seen None = None

-- what comes behind this number, where there is such a reply
abbrev pub payload_of : ℕ → Option Behind
payload_of n =
    if n == 0 then Some (these [])
    else (if n == 1 then Some (these (Spans ∷ []))
    else (if n == 2 then Some (these [])
    else (if n == 3 then Some (these [])
    else (if n == 5 then Some some_items
    else (if n == 10 then Some some_diagonals
    else (if n == 11 then Some (these (Tumbler ∷ []))
    else (if n == 12 then Some (these [])
    else (if n == 13 then Some (these (Tumbler ∷ []))
    else (if n == 14 then Some (these (Span ∷ []))
    else (if n == 16 then Some (these [])
    else (if n == 18 then Some (these (Specs ∷ []))
    else (if n == 22 then Some (these (Tumblers ∷ []))
    else (if n == 27 then Some (these (Tumbler ∷ []))
    else (if n == 28 then Some (these (Specs ∷ Specs ∷ Specs ∷ []))
    else (if n == 29 then Some (these (Number ∷ []))
    else (if n == 30 then Some (these (Tumblers ∷ []))
    else (if n == 31 then Some (these (Tumblers ∷ []))
    else (if n == 34 then Some (these [])
    else (if n == 35 then Some (these (Tumbler ∷ []))
    else (if n == 36 then Some (these [])
    else (if n == 40 then Some (these [])
    else None)))))))))))))))))))))

-- what is waited for
pub data ReplyState : Type 0 where
  at_start : ReplyState
  -- a digit of the reply's number was read, a 4, or two digits
  one_digit : (number : ℕ) (behind : Behind) → ReplyState
  at_four : ReplyState
  two_digits : (behind : Behind) → ReplyState
  in_fields : State → ReplyState
  -- a number begins; a 0 was read; a number above 0 was read, and may go on
  at_number : NumberRole → ReplyState
  at_zero : NumberRole → ReplyState
  in_number : (number : ℕ) → NumberRole → ReplyState
  -- an item begins, or is under way, and so many more come
  at_item : (more : ℕ) → ReplyState
  in_item : State → (more : ℕ) → ReplyState
  -- so many bytes were read of those before a text position
  at_address : (read : ℕ) → NumberRole → ReplyState

abbrev pub state_of : ReplyScanner → ReplyState
state_of scanners.Start = at_start
state_of (scanners.OneDigit number payload) = one_digit number (behind_of payload)
state_of scanners.Four = at_four
state_of (scanners.TwoDigits payload) = two_digits (behind_of payload)
state_of (scanners.Fields scanner) = in_fields (fields.state_of scanner)
state_of (scanners.Number role) = at_number role
state_of (scanners.Zero role) = at_zero role
state_of (scanners.Digits number role) = in_number number role
state_of (scanners.Item more) = at_item more
state_of (scanners.InItem scanner more) = in_item (fields.state_of scanner) more
state_of (scanners.Address read role) = at_address read role

abbrev pub outcome_of : ReplyProgress → Outcome ReplyState
outcome_of (progresses.Goes scanner) = goes (state_of scanner)
outcome_of progresses.Done = done
outcome_of progresses.Fails = fails

-- ---- numbers

-- the greatest number
abbrev pub most_of : NumberRole → ℕ
most_of Refusal = 15
most_of Items = 65536
most_of Diagonals = 65536
most_of (Left more) = 4294967295
most_of (Right more) = 4294967295
most_of (Length more) = 4294967295

-- refusals and text positions count from 1
abbrev pub may_be_zero : NumberRole → Bool
may_be_zero Refusal = false
may_be_zero Items = true
may_be_zero Diagonals = true
may_be_zero (Left more) = false
may_be_zero (Right more) = false
may_be_zero (Length more) = true

-- the next of so many items, or the end
abbrev pub items_next : ℕ → Outcome ReplyState
items_next n = if n == 0 then done else goes (at_item (n - 1))

-- the next of so many diagonals, or the end
abbrev pub diagonals_next : ℕ → Outcome ReplyState
diagonals_next n = if n == 0 then done else goes (at_address 0 (Left (n - 1)))

-- what comes behind a number
abbrev pub number_ended : NumberRole → ℕ → Outcome ReplyState
number_ended Refusal n = done
number_ended Items n = items_next n
number_ended Diagonals n = diagonals_next n
number_ended (Left more) n = goes (at_address 0 (Right more))
number_ended (Right more) n = goes (at_number (Length more))
number_ended (Length more) n = diagonals_next more

-- it goes on with the number, where there is one
abbrev pub number_goes : NumberRole → Option ℕ → Outcome ReplyState
number_goes role (Some n) = goes (in_number n role)
number_goes role None = fails

abbrev pub number_begins : NumberRole → ℕ → Outcome ReplyState
number_begins role byte =
    if byte == 48 then (if may_be_zero role then goes (at_zero role) else fails)
    else (if is_ascii_digit byte then number_goes role (number_step 0 (most_of role) byte) else fails)

abbrev pub number_goes_on : ℕ → NumberRole → ℕ → Outcome ReplyState
number_goes_on n role byte =
    if is_ascii_digit byte then number_goes role (number_step n (most_of role) byte)
    else (if byte == 126 then number_ended role n else fails)

-- ---- items and text positions

-- what a byte of an item makes of the whole
abbrev pub item_goes : ℕ → Outcome State → Outcome ReplyState
item_goes more (goes s) = goes (in_item s more)
item_goes more done = items_next more
item_goes more fails = fails

-- a t begins a text, and another byte the id of a link
abbrev pub item_opened : ℕ → State
item_opened byte = if byte == 116 then opened Text [] else opened Tumbler []

-- this very byte
abbrev pub expects : ℕ → ReplyState → ℕ → Outcome ReplyState
expects wanted next byte = if byte == wanted then goes next else fails

-- a text position stands behind 0.1.
abbrev pub address_step : ℕ → NumberRole → ℕ → Outcome ReplyState
address_step read role byte =
    if read == 0 then expects 48 (at_address 1 role) byte
    else (if read == 1 then expects 46 (at_address 2 role) byte
    else (if read == 2 then expects 49 (at_address 3 role) byte
    else expects 46 (at_number role) byte))

-- ---- replies

-- what a byte of the fields makes of the whole
abbrev pub begun : Outcome State → Outcome ReplyState
begun (goes s) = goes (in_fields s)
begun done = done
begun fails = fails

-- what comes behind the number of the reply
abbrev pub behind_next : Behind → Outcome ReplyState
behind_next (these fields) = begun (fields_next fields)
behind_next some_items = goes (at_number Items)
behind_next some_diagonals = goes (at_number Diagonals)

-- the next state, where there is such a reply
abbrev pub named : (Behind → ReplyState) → Option Behind → Outcome ReplyState
named next (Some behind) = goes (next behind)
named next None = fails

-- a 4 begins the number of a reply, and is none
abbrev pub first_digit : ℕ → Outcome ReplyState
first_digit byte =
    if byte == 52 then goes at_four
    else (if is_ascii_digit byte then named (λ behind. one_digit (byte - 48) behind) (payload_of (byte - 48)) else fails)

abbrev pub second_digit : ℕ → ℕ → Outcome ReplyState
second_digit number byte =
    if number == 0 || nat_lt 9 number then fails
    else (if is_ascii_digit byte then named (λ behind. two_digits behind) (payload_of (number * 10 + (byte - 48))) else fails)

-- what a byte makes of the state
abbrev pub reply_step : ReplyState → ℕ → Outcome ReplyState
reply_step at_start byte = if byte == 63 then goes (at_number Refusal) else first_digit byte
reply_step (one_digit number behind) byte = if byte == 126 then behind_next behind else second_digit number byte
reply_step at_four byte = second_digit 4 byte
reply_step (two_digits behind) byte = if byte == 126 then behind_next behind else fails
reply_step (in_fields s) byte = begun (field_step s byte)
reply_step (at_number role) byte = number_begins role byte
reply_step (at_zero role) byte = if byte == 126 then number_ended role 0 else fails
reply_step (in_number n role) byte = number_goes_on n role byte
reply_step (at_item more) byte = item_goes more (field_step (item_opened byte) byte)
reply_step (in_item s more) byte = item_goes more (field_step s byte)
reply_step (at_address read role) byte = address_step read role byte
