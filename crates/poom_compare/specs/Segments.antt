-- Texts as segments, and where diagonals of two texts begin.
--
-- A text is a function: the number of the byte of content at each position, or 0 where nothing of it is compared.
use Rattle.std.specs.Prelude.{◌≡◌, ℕ, ◌+◌, ◌-◌, ◌*◌, ◌<◌, ◌≤◌, ◌==◌, ◌&&◌, Bool, true, false, not, List, length, map, filter, nat_lt, nat_le, Contains, All, Option, Some, None, slice_index_or, if◌then◌else◌, ◌++◌, ◌∷◌, []}
use Rattle.std.specs.List.{AllPairs, flat_map}
use Rattle.std.specs.Global.{Vec}
use Rattle.febe_data.specs.declared.run.Diagonal.{Diagonal}
use Rattle.world_rules.specs.declared.pairs.Pair.{Pair}
use Rattle.poom_compare.specs.declared.compared.Compared.{Compared}
use Rattle.poom_compare.specs.declared.segment.Segment.{Segment}
use Rattle.poom_compare.specs.declared.segment.Side.{Side}
use Rattle.poom_compare.specs.declared.segment.Side.TheVariants.{Left, Right}
use Rattle.world_rules.specs.Relation.{is_pair, has_pair, diagonals_of}
use Rattle.world_rules.specs.RelationLaws.{IsPairBefore}
use Rattle.poom_compare.specs.Shared.{IsCompared}

-- two numbers are those of one byte
abbrev pub is_same_byte : ℕ → ℕ → Bool
is_same_byte a b = a == b && nat_lt 0 a

-- the texts show the same byte at these positions
abbrev pub is_shared : (f g : ℕ → ℕ) → (left right : ℕ) → Bool
is_shared f g left right = is_same_byte (f left) (g right)

-- ---- segments

-- positions and numbers are from 1 on and below their bounds, and a segment is not empty
pub record IsSegment (s : Segment) : Type 0 where
  pub from_one : 1 ≤ s.at
  pub filled : 1 ≤ s.length
  pub ends : s.at + s.length ≤ 2147483648
  pub numbered : 1 ≤ s.first
  pub numbers_end : s.first + s.length ≤ 4611686018427387904
  pub before_fits : s.before < 4611686018427387904
  pub after_fits : s.after < 4611686018427387904

-- the text shows the segment's bytes at its positions, and beside it what the segment says
pub record IsSegmentOf (f : ℕ → ℕ) (s : Segment) : Type 0 where
  pub shows : (k : ℕ) → k < s.length → f (s.at + k) ≡ s.first + k
  pub before : s.before ≡ f (s.at - 1)
  pub after : s.after ≡ f (s.at + s.length)

-- the position is in one of the segments
pub record IsWithin (list : List Segment) (x : ℕ) : Type 0 where
  pub segment : Segment
  pub is_one : Contains list segment
  pub from : segment.at ≤ x
  pub to : x < segment.at + segment.length

-- they have a position in common
abbrev pub is_meeting : Segment → Segment → Bool
is_meeting a b = nat_lt a.at (b.at + b.length) && nat_lt b.at (a.at + a.length)

-- the segments are those of the text: all that it shows, each position once
pub record AreSegmentsOf (f : ℕ → ℕ) (list : List Segment) : Type 0 where
  pub right : All IsSegment list
  pub each : All (IsSegmentOf f) list
  pub cover : (x : ℕ) → 1 ≤ f x → IsWithin list x
  pub apart : AllPairs (λ a b. is_meeting a b ≡ false) list

-- ---- where diagonals begin and end

-- a pair of which the pair before is none
pub record IsStart (f g : ℕ → ℕ) (pair : Pair) : Type 0 where
  pub here : is_shared f g pair.left pair.right ≡ true
  pub none_before : is_shared f g (pair.left - 1) (pair.right - 1) ≡ false

-- all of them, each once
pub record AreStarts (f g : ℕ → ℕ) (pairs : List Pair) : Type 0 where
  pub each : All (IsStart f g) pairs
  pub all : (pair : Pair) → IsStart f g pair → Contains pairs pair
  pub once : AllPairs (λ a b. is_pair a b ≡ false) pairs

-- the number just before this one among those of the segment and the one before it
abbrev pub number_before : Segment → ℕ → ℕ
number_before s number = if nat_lt s.first number then number - 1 else s.before

-- the pair of the inner segment's first byte, where the outer one is of the left text or of the right one
abbrev pub pair_of : Side → (outer inner : Segment) → Pair
pair_of Left outer inner = record { left = outer.at + (inner.first - outer.first); right = inner.at }
pair_of Right outer inner = record { left = inner.at; right = outer.at + (inner.first - outer.first) }

-- the least number at which an inner segment may begin: on the right an equal one is left out, which the left has
abbrev pub least_of : Side → Segment → ℕ
least_of Left outer = outer.first
least_of Right outer = outer.first + 1

-- the inner segment's first byte is one of the outer one's, and the bytes before are not the same
abbrev pub is_start_in : Side → (outer inner : Segment) → Bool
is_start_in side outer inner =
    nat_le (least_of side outer) inner.first && (nat_lt inner.first (outer.first + outer.length) && not (is_same_byte (number_before outer inner.first) inner.before))

abbrev pub starts_in : Side → List Segment → Segment → List Pair
starts_in side inners outer = map (pair_of side outer) (filter (is_start_in side outer) inners)

abbrev pub starts_of : Side → (outers inners : List Segment) → List Pair
starts_of side outers inners = flat_map (starts_in side inners) outers

abbrev pub all_starts : (lefts rights : List Segment) → List Pair
all_starts lefts rights = starts_of Left lefts rights ++ starts_of Right rights lefts

-- segments are looked up by their first number, and among equal ones by the one before
abbrev pub begin_key : Segment → ℕ
begin_key s = s.first * 18446744073709551616 + s.before

-- in front of the place are those segments that come before the key, and no others
pub record IsSplit (key : ℕ) (list : List Segment) (place : ℕ) : Type 0 where
  pub within : place ≤ length list
  pub front : (k : ℕ) (d : Segment) → k < place → begin_key (slice_index_or list k d) < key
  pub back : (k : ℕ) (d : Segment) → place ≤ k → k < length list → key ≤ begin_key (slice_index_or list k d)

-- both positions are below the bound
pub record IsSmall (pair : Pair) : Type 0 where
  pub left : pair.left ≤ 2147483648
  pub right : pair.right ≤ 2147483648

-- there are more starts than may be listed
pub record HasMoreStarts (f g : ℕ → ℕ) : Type 0 where
  pub pairs : List Pair
  pub are : AreStarts f g pairs
  pub many : 65536 < length pairs

-- all of these, or none where there are more than may be listed
abbrev pub IsWhole : List Pair → Option (Vec Pair) → Type 0
IsWhole wanted (Some found) = (found.items ≡ wanted) × (length wanted ≤ 65536)
IsWhole wanted None = 65536 < length wanted

-- all starts of the two texts whose segments these are, or it says that there are more than may be listed
abbrev pub AreFound : (lefts rights : List Segment) → Option (Vec Pair) → Type 0
AreFound lefts rights (Some found) = (All IsSmall found.items) × (length found.items ≤ 65536) × ((f g : ℕ → ℕ) → AreSegmentsOf f lefts → AreSegmentsOf g rights → AreStarts f g found.items)
AreFound lefts rights None = (f g : ℕ → ℕ) → AreSegmentsOf f lefts → AreSegmentsOf g rights → HasMoreStarts f g

-- ---- from behind

-- positions and numbers from the other end, where what comes first comes last: 0 stays, and stands for none
abbrev pub flipped : ℕ → ℕ
flipped number = if number == 0 then 0 else 4611686018427387904 - number

abbrev pub flipped_text : (ℕ → ℕ) → ℕ → ℕ
flipped_text f x = flipped (f (2147483648 - x))

abbrev pub flipped_segment : Segment → Segment
flipped_segment s = record {
  at = 2147483649 - (s.at + s.length);
  first = 4611686018427387905 - (s.first + s.length);
  length = s.length;
  before = flipped s.after;
  after = flipped s.before;
}

abbrev pub flipped_pair : Pair → Pair
flipped_pair pair = record { left = 2147483648 - pair.left; right = 2147483648 - pair.right }

-- a pair of which the pair behind is none
pub record IsEnd (f g : ℕ → ℕ) (pair : Pair) : Type 0 where
  pub here : is_shared f g pair.left pair.right ≡ true
  pub none_behind : is_shared f g (pair.left + 1) (pair.right + 1) ≡ false

-- all of them, each once
pub record AreEnds (f g : ℕ → ℕ) (pairs : List Pair) : Type 0 where
  pub each : All (IsEnd f g) pairs
  pub all : (pair : Pair) → IsEnd f g pair → Contains pairs pair
  pub once : AllPairs (λ a b. is_pair a b ≡ false) pairs

-- there are more ends than may be listed
pub record HasMoreEnds (f g : ℕ → ℕ) : Type 0 where
  pub pairs : List Pair
  pub are : AreEnds f g pairs
  pub many : 65536 < length pairs

abbrev pub AreFoundEnds : (lefts rights : List Segment) → Option (Vec Pair) → Type 0
AreFoundEnds lefts rights (Some found) = (All IsSmall found.items) × ((f g : ℕ → ℕ) → AreSegmentsOf f lefts → AreSegmentsOf g rights → AreEnds f g found.items)
AreFoundEnds lefts rights None = (f g : ℕ → ℕ) → AreSegmentsOf f lefts → AreSegmentsOf g rights → HasMoreEnds f g

-- ---- diagonals

-- the pairs are those that the texts share, by left and then by right
pub record ArePairsOf (f g : ℕ → ℕ) (pairs : List Pair) : Type 0 where
  pub same : (pair : Pair) → has_pair pairs pair ≡ is_shared f g pair.left pair.right
  pub in_order : AllPairs IsPairBefore pairs

-- pairs on one line from the lower left to the upper right have the same difference; they are ordered by it and then by left
abbrev pub by_difference : Pair → ℕ
by_difference pair = (pair.right + 4294967296 - pair.left) * 4294967296 + pair.left

-- by left and then by right
abbrev pub by_left : Diagonal → ℕ
by_left diagonal = diagonal.left * 4294967296 + diagonal.right

-- from a start up to an end
abbrev pub diagonal_to : (start end : Pair) → Diagonal
diagonal_to start end = record { left = start.left; right = start.right; length = end.left + 1 - start.left }

-- starts with the ends that stand at the same places
abbrev pub paired : (starts ends : List Pair) → List Diagonal
paired [] ends = []
paired (start ∷ starts) [] = []
paired (start ∷ starts) (end ∷ ends) = diagonal_to start end ∷ paired starts ends

-- of two texts whose segments these are, and the pairs that they share, the answer is the diagonals
abbrev pub ComparesSegments : (lefts rights : List Segment) → Compared → Type 0
ComparesSegments lefts rights compared = (f g : ℕ → ℕ) (pairs : List Pair) → AreSegmentsOf f lefts → AreSegmentsOf g rights → ArePairsOf f g pairs → IsCompared (diagonals_of pairs) compared
