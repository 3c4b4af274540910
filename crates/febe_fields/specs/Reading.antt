-- Reading from left to right: a value and the bytes after it, or nothing.
use Rattle.std.specs.Prelude.{◌≡◌, ℕ, zero, suc, ◌+◌, ◌-◌, ◌*◌, Bool, false, List, [], ◌∷◌, ◌++◌, length, take, drop, replicate, Option, Some, None, Result, Ok, Err, nat_lt, ◌==◌, ◌||◌, not, if◌then◌else◌}
use Rattle.std.specs.Char.{is_ascii_digit}
use Rattle.tumbler.specs.declared.memory.Memory.{Memory}
use Rattle.tumbler.specs.declared.span.Span.{Span}
use Rattle.tumbler.specs.Places.{place}
use Rattle.febe_data.specs.declared.access.Mode.{Mode}
use Rattle.febe_data.specs.declared.access.Mode.TheVariants as modes
use Rattle.febe_data.specs.declared.access.Rule.{Rule}
use Rattle.febe_data.specs.declared.access.Rule.TheVariants as rules
use Rattle.febe_data.specs.Plain.{PlainSpec}

infixl 10 ◌>>=◌
abbrev pub ◌>>=◌ : {A B : Type 0} → Option A → (A → Option B) → Option B
(Some x) >>= f = f x
None >>= f = None

-- what a function returned, seen by view, is what reading gives
abbrev pub Reads : {X Y : Type 0} → (X → Y) → Option X → Option Y → Type 0
Reads view (Some x) read = read ≡ Some (view x)
Reads view None read = read ≡ None

-- the same, unless memory ran out
abbrev pub ReadsIfOk : {X Y : Type 0} → (X → Y) → Result (Option X) Memory → Option Y → Type 0
ReadsIfOk view (Ok o) read = Reads view o read
ReadsIfOk view (Err e) read = Unit {0}

-- the bytes after this one
abbrev pub after : ℕ → List ℕ → Option (List ℕ)
after byte [] = None
after byte (b ∷ bytes) = if b == byte then Some bytes else None

-- the digits that come first, which go on from the number so far
unfoldable pub digits_after : ℕ → List ℕ → Option (ℕ × List ℕ)
digits_after n [] = Some (n, [])
digits_after n (b ∷ bytes) = if is_ascii_digit b then (if nat_lt (n * 10 + (b - 48)) 4294967296 then digits_after (n * 10 + (b - 48)) bytes else None) else Some (n, b ∷ bytes)

-- the digits of a number, of which the first is 0 for 0 alone
unfoldable pub digits_at : List ℕ → Option (ℕ × List ℕ)
digits_at [] = None
digits_at (b ∷ bytes) = if b == 48 then Some (0, bytes) else (if is_ascii_digit b then digits_after (b - 48) bytes else None)

-- a number and its tilde
unfoldable pub number_at : List ℕ → Option (ℕ × List ℕ)
number_at bytes = do
  n ← digits_at bytes
  rest ← after 126 n.1
  Some (n.0, rest)

-- places, each behind a dot, as many as there are and room at most
unfoldable pub places_at : ℕ → List ℕ → Option (List ℕ × List ℕ)
places_at zero bytes = Some ([], bytes)
places_at (suc room) [] = Some ([], [])
places_at (suc room) (b ∷ bytes) = if b == 46 then (do
  first ← digits_at bytes
  others ← places_at room first.1
  Some (first.0 ∷ others.0, others.1)) else Some ([], b ∷ bytes)

-- the first place is 0
abbrev pub starts_with_zero : List ℕ → Bool
starts_with_zero [] = false
starts_with_zero (p ∷ places) = p == 0

-- the last place is not 0
abbrev pub ends_well : List ℕ → Bool
ends_well places = (length places == 0) || not (place places (length places - 1) == 0)

-- the places that a count of zeros and the written ones make
unfoldable pub all_places_at : List ℕ → Option (List ℕ × List ℕ)
all_places_at bytes = do
  zeros ← digits_at bytes
  written ← (if nat_lt 24 zeros.0 then None else places_at (24 - zeros.0) zeros.1)
  if starts_with_zero written.0 then None else Some (replicate zeros.0 0 ++ written.0, written.1)

-- a tumbler and its tilde: the last place is not 0
unfoldable pub tumbler_at : List ℕ → Option (List ℕ × List ℕ)
tumbler_at bytes = do
  places ← all_places_at bytes
  rest ← after 126 places.1
  if ends_well places.0 then Some (places.0, rest) else None

-- a text: its length is at most 16777216, and that many bytes stand there
unfoldable pub text_at : List ℕ → Option (List ℕ × List ℕ)
text_at bytes = do
  len ← after 116 bytes >>= digits_at
  rest ← after 58 len.1
  if nat_lt 16777216 len.0 || nat_lt (length rest) len.0 then None else Some (take len.0 rest, drop len.0 rest)

-- the mode of this number
abbrev pub mode_with_number : ℕ → Option Mode
mode_with_number n = if n == 1 then Some modes.Read else (if n == 2 then Some modes.Write else None)

-- the number of a mode and its tilde
unfoldable pub mode_at : List ℕ → Option (Mode × List ℕ)
mode_at bytes = do
  n ← number_at bytes
  mode ← mode_with_number n.0
  Some (mode, n.1)

-- the rule of this number
abbrev pub rule_with_number : ℕ → Option Rule
rule_with_number n = if n == 1 then Some rules.Refuse else (if n == 2 then Some rules.Copy else (if n == 3 then Some rules.Always else None))

-- the number of a rule and its tilde
unfoldable pub rule_at : List ℕ → Option (Rule × List ℕ)
rule_at bytes = do
  n ← number_at bytes
  rule ← rule_with_number n.0
  Some (rule, n.1)

-- this many items, one behind the other
unfoldable pub many_at : {X : Type 0} → (List ℕ → Option (X × List ℕ)) → ℕ → List ℕ → Option (List X × List ℕ)
many_at read zero bytes = Some ([], bytes)
many_at read (suc n) bytes = do
  first ← read bytes
  others ← many_at read n first.1
  Some (first.0 ∷ others.0, others.1)

-- a list: how many items it has, which is at most 65536, and the items
unfoldable pub list_at : {X : Type 0} → (List ℕ → Option (X × List ℕ)) → List ℕ → Option (List X × List ℕ)
list_at read bytes = do
  n ← number_at bytes
  if nat_lt 65536 n.0 then None else many_at read n.0 n.1

-- a list of tumblers
abbrev pub tumblers_at : List ℕ → Option (List (List ℕ) × List ℕ)
tumblers_at bytes = list_at tumbler_at bytes

-- a span: its start and its width
unfoldable pub span_at : List ℕ → Option (Span × List ℕ)
span_at bytes = do
  start ← tumbler_at bytes
  width ← tumbler_at start.1
  Some (record { start = start.0; width = width.0 }, width.1)

-- a list of spans
abbrev pub spans_at : List ℕ → Option (List Span × List ℕ)
spans_at bytes = list_at span_at bytes

-- a spec: its document and its spans
unfoldable pub spec_at : List ℕ → Option (PlainSpec × List ℕ)
spec_at bytes = do
  document ← tumbler_at bytes
  spans ← spans_at document.1
  Some (record { document = document.0; spans = spans.0 }, spans.1)

-- a list of specs
abbrev pub specs_at : List ℕ → Option (List PlainSpec × List ℕ)
specs_at bytes = list_at spec_at bytes
