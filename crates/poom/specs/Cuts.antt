-- The piece in front of a position, and where pieces can be cut.
use Rattle.std.specs.Prelude.{◌≡◌, ◌⊎◌, ℕ, ◌+◌, ◌-◌, ◌<◌, ◌≤◌, List, [], ◌∷◌, ◌++◌, length, take, drop, All}
use Rattle.poom.specs.declared.piece.Piece.{Piece}
use Rattle.poom.specs.Pieces.{IsPiece, piece_addresses, laid, total}

-- the piece begins before position n, and reaches up to it or is the last one
pub record HoldsPiece (pieces : List Piece) (n start : ℕ) (piece : Piece) : Type 0 where
  pub front : List Piece
  pub back : List Piece
  pub parts : pieces ≡ front ++ (piece ∷ back)
  pub start_is : start ≡ 1 + total front
  pub before : start < n
  pub reaches : (n ≤ start + piece.count) ⊎ (back ≡ [])

-- no piece begins before position n
abbrev pub HoldsNone : List Piece → ℕ → Type 0
HoldsNone pieces n = (n ≤ 1) ⊎ (pieces ≡ [])

-- pieces end before position n
pub record IsBorder (pieces : List Piece) (n : ℕ) : Type 0 where
  pub front : List Piece
  pub back : List Piece
  pub parts : pieces ≡ front ++ back
  pub is : n ≡ 1 + total front

-- what stands before position n is what stands before a border, and then the pieces of `head`
pub record IsHead (part : ℕ) (pieces : List Piece) (n border : ℕ) (head : List Piece) : Type 0 where
  pub at : IsBorder pieces border
  pub up_to : border ≤ n
  pub each : All IsPiece head
  pub front : take (border - 1) (laid part pieces) ++ laid part head ≡ take (n - 1) (laid part pieces)

-- what stands at position n and behind it is the pieces of `tail`, and then what stands behind a border
pub record IsTail (part : ℕ) (pieces : List Piece) (n border : ℕ) (tail : List Piece) : Type 0 where
  pub at : IsBorder pieces border
  pub up_to : n ≤ border
  pub each : All IsPiece tail
  pub back : laid part tail ++ drop (border - 1) (laid part pieces) ≡ drop (n - 1) (laid part pieces)

-- the second piece goes on where the first one ends
pub record Continues (last next : Piece) : Type 0 where
  pub document : last.document ≡ next.document
  pub first : last.first + last.count ≡ next.first

-- the piece does not go on where the last of these ends
abbrev pub EndApart : List Piece → Piece → Type 0
EndApart [] piece = Unit {0}
EndApart (x ∷ []) piece = ¬ Continues x piece
EndApart (x ∷ y ∷ pieces) piece = EndApart (y ∷ pieces) piece

-- no piece goes on where the one in front of it ends
abbrev pub AreApart : List Piece → Type 0
AreApart [] = Unit {0}
AreApart (x ∷ []) = Unit {0}
AreApart (x ∷ y ∷ pieces) = (¬ Continues x y) × AreApart (y ∷ pieces)

-- the last of some pieces, made longer by another piece
pub record Lengthens (pieces : List Piece) (piece longer : Piece) : Type 0 where
  pub some : 1 ≤ length pieces
  pub is_piece : IsPiece longer
  pub lays : (part : ℕ) → laid part (take (length pieces - 1) pieces) ++ piece_addresses part longer ≡ laid part pieces ++ piece_addresses part piece
  pub apart : AreApart pieces → AreApart (take (length pieces - 1) pieces ++ longer ∷ [])
