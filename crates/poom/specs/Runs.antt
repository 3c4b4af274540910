-- Addresses and positions that follow each other, as few runs and intervals as can be.
use Rattle.std.specs.Prelude.{ℕ, ◌+◌, ◌-◌, ◌==◌, ◌&&◌, Bool, List, [], ◌∷◌, length, take, map, nat_eq, slice_index, if◌then◌else◌}
use Rattle.std.specs.Cmp.Lexicographic.{pointwise}
use Rattle.tumbler.specs.declared.span.Span.{Span}
use Rattle.febe_data.specs.declared.run.Run.{Run}

-- ---- stretches

-- the first of some elements that follow each other, and how many there are
pub record Stretch (X : Type 0) : Type 0 where
  pub first : X
  pub count : ℕ

-- A list is cut into stretches wherever an element does not follow the one before it.
-- `first` begins the stretch that is open, `last` is the last of its `count` elements so far.
abbrev pub stretches_on : {X : Type 0} → (X → X → Bool) → (first last : X) → ℕ → List X → List (Stretch X)
stretches_on follows first last count [] = record { first = first; count = count } ∷ []
stretches_on follows first last count (x ∷ xs) =
    if follows last x then stretches_on follows first x (count + 1) xs else record { first = first; count = count } ∷ stretches_on follows x x 1 xs

abbrev pub stretches : {X : Type 0} → (X → X → Bool) → List X → List (Stretch X)
stretches follows [] = []
stretches follows (x ∷ xs) = stretches_on follows x x 1 xs

-- ---- runs

-- the document whose content byte the address is, and the number of the byte
abbrev pub content_of : List ℕ → List ℕ
content_of address = take (length address - 3) address

abbrev pub number_of : List ℕ → ℕ
number_of address = slice_index address (length address - 1)

-- the second address is the next byte of the same content
abbrev pub is_next_byte : List ℕ → List ℕ → Bool
is_next_byte a b = pointwise nat_eq (content_of a) (content_of b) && number_of b == number_of a + 1

-- the bytes of a stretch, read through the document `origin`
abbrev pub run_of : List ℕ → Stretch (List ℕ) → Run
run_of origin stretch = record { origin = origin; content = content_of stretch.first; first = number_of stretch.first; length = stretch.count }

-- the bytes at these addresses as runs, as few as can be
abbrev pub as_runs : List ℕ → List (List ℕ) → List Run
as_runs origin addresses = map (run_of origin) (stretches is_next_byte addresses)

-- ---- intervals

abbrev pub is_next : ℕ → ℕ → Bool
is_next a b = b == a + 1

-- the positions of a stretch, as a span of V-addresses
abbrev pub interval : ℕ → Stretch ℕ → Span
interval part stretch = record { start = part ∷ stretch.first ∷ []; width = 0 ∷ stretch.count ∷ [] }

-- ascending positions of a part as intervals, as few as can be
abbrev pub intervals : ℕ → List ℕ → List Span
intervals part positions = map (interval part) (stretches is_next positions)
