-- What diagonals are of any list of pairs: they cover each pair, once, and none can be made longer.
use Rattle.std.specs.Prelude.{ℕ, ◌≡◌, ◌+◌, ◌<◌, ◌==◌, ◌&&◌, ◌⊎◌, Bool, false, filter, List, IsTrue, Contains}
use Rattle.std.specs.List.{IsDistinct, AllPairs}
use Rattle.febe_data.specs.declared.run.Diagonal.{Diagonal}
use Rattle.febe_data.specs.Plain.{PlainSpec}
use Rattle.world_rules.specs.declared.pairs.Pair.{Pair}
use Rattle.world_rules.specs.declared.rows.Row.{Row}
use Rattle.world_rules.specs.World.{World, is_text_of}
use Rattle.world_rules.specs.Relation.{is_pair, has_pair, next_pair, pairs_of, diagonals_of, diagonals}

-- the pair so many positions behind the first pair of a diagonal, on both sides
abbrev pub pair_at : Diagonal → ℕ → Pair
pair_at diagonal steps = record { left = diagonal.left + steps; right = diagonal.right + steps }

-- the pair is on the diagonal
pub record IsOnDiagonal (diagonal : Diagonal) (pair : Pair) : Type 0 where
  pub steps : ℕ
  pub within : steps < diagonal.length
  pub is_here : pair ≡ pair_at diagonal steps

-- the pair is on one of the diagonals
pub record IsOnSomeDiagonal (pairs : List Pair) (pair : Pair) : Type 0 where
  pub diagonal : Diagonal
  pub is_one : Contains (diagonals_of pairs) diagonal
  pub is_on : IsOnDiagonal diagonal pair

-- what is on a diagonal is a pair
abbrev pub DiagonalsHavePairs : Type 0
DiagonalsHavePairs = (pairs : List Pair) (diagonal : Diagonal) (pair : Pair) → Contains (diagonals_of pairs) diagonal → IsOnDiagonal diagonal pair → IsTrue (has_pair pairs pair)

-- each pair is on some diagonal
abbrev pub PairsAreOnDiagonals : Type 0
PairsAreOnDiagonals = (pairs : List Pair) (pair : Pair) → IsTrue (has_pair pairs pair) → IsOnSomeDiagonal pairs pair

-- two diagonals with one pair are the same
abbrev pub PairsAreOnOneDiagonal : Type 0
PairsAreOnOneDiagonal = (pairs : List Pair) (first second : Diagonal) (pair : Pair) → Contains (diagonals_of pairs) first → Contains (diagonals_of pairs) second → IsOnDiagonal first pair → IsOnDiagonal second pair → first ≡ second

-- no pair stands just before a diagonal
abbrev pub NothingStandsBefore : Type 0
NothingStandsBefore = (pairs : List Pair) (diagonal : Diagonal) (before : Pair) → Contains (diagonals_of pairs) diagonal → next_pair before ≡ pair_at diagonal 0 → has_pair pairs before ≡ false

-- and none just behind it
abbrev pub NothingStandsBehind : Type 0
NothingStandsBehind = (pairs : List Pair) (diagonal : Diagonal) → Contains (diagonals_of pairs) diagonal → has_pair pairs (pair_at diagonal diagonal.length) ≡ false

-- two diagonals are the same
abbrev pub is_diagonal : Diagonal → Diagonal → Bool
is_diagonal a b = a.left == b.left && a.right == b.right && a.length == b.length

-- of pairs that are each given once, each diagonal comes once
abbrev pub DiagonalsComeOnce : Type 0
DiagonalsComeOnce = (pairs : List Pair) → IsDistinct is_pair pairs → IsDistinct is_diagonal (diagonals_of pairs)

-- ---- order

-- one comes before the other, by left and then by right
abbrev pub ComesBefore : (left right other_left other_right : ℕ) → Type 0
ComesBefore left right other_left other_right = (left < other_left) ⊎ ((left ≡ other_left) × (right < other_right))

abbrev pub IsPairBefore : Pair → Pair → Type 0
IsPairBefore a b = ComesBefore a.left a.right b.left b.right

abbrev pub IsDiagonalBefore : Diagonal → Diagonal → Type 0
IsDiagonalBefore a b = ComesBefore a.left a.right b.left b.right

-- the text rows of the document stand in the order of their places, of which no two are the same
abbrev pub TextAscends : World → List ℕ → Type 0
TextAscends world document = AllPairs (λ (row : Row) (later : Row). row.n < later.n) (filter (is_text_of document) world.rows)

-- the pairs of two specs come in order, each once
abbrev pub PairsInOrder : Type 0
PairsInOrder = (world : World) (left right : PlainSpec) → TextAscends world left.document → TextAscends world right.document → AllPairs IsPairBefore (pairs_of world left right)

-- and so do their diagonals
abbrev pub DiagonalsInOrder : Type 0
DiagonalsInOrder = (world : World) (left right : PlainSpec) → TextAscends world left.document → TextAscends world right.document → AllPairs IsDiagonalBefore (diagonals world left right)
