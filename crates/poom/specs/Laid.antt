-- The rows of one document, and what they are position by position.
use Rattle.std.specs.Prelude.{◌≡◌, ℕ, ◌+◌, ◌-◌, ◌<◌, ◌≤◌, List, [], ◌∷◌, ◌++◌, length, take, drop, All}
use Rattle.enfilade_core.specs.declared.tree.Row.{Row}
use Rattle.enfilade_core.specs.Rows.{Shape, rows_of}
use Rattle.poom.specs.declared.part.Part.{Part}
use Rattle.poom.specs.declared.part.Part.TheVariants.{Text, Links}
use Rattle.poom.specs.Pieces.{IsPiece, laid, total, rows_from, pieces_in}
use Rattle.poom.specs.declared.piece.Piece.{Piece}

abbrev pub part_number : Part → ℕ
part_number Text = 1
part_number Links = 2

-- the addresses that stand in a part, in V order: the one at n is the n-th
abbrev pub standing_in : Part → List (Row ℕ) → List (List ℕ)
standing_in part rows = laid (part_number part) (pieces_in (part_number part) rows)

-- content bytes, the one at `1.1` first
abbrev pub texts : List (Row ℕ) → List (List ℕ)
texts rows = standing_in Text rows

-- link ids, the one at `2.1` first
abbrev pub links : List (Row ℕ) → List (List ℕ)
links rows = standing_in Links rows

-- the most that may stand in a part
abbrev pub most_in : Part → ℕ
most_in Text = 1073741824
most_in Links = 4294967294

-- The rows are those of one document. Text stands at `1.1` and on, links at `2.1` and on, without gaps, and
-- neither part is longer than it may be.
pub record IsOneDocument (rows : List (Row ℕ)) : Type 0 where
  pub gapless : rows ≡ rows_from 1 1 (pieces_in 1 rows) ++ rows_from 2 1 (pieces_in 2 rows)
  pub text_pieces : All IsPiece (pieces_in 1 rows)
  pub link_pieces : All IsPiece (pieces_in 2 rows)
  pub text_fits : length (texts rows) ≤ most_in Text
  pub links_fit : length (links rows) ≤ most_in Links

-- the node is the root of a document
pub record IsRoot (nodes : List (Shape ℕ)) (k : ℕ) : Type 0 where
  pub there : k < length nodes
  pub document : IsOneDocument (rows_of nodes k)

-- the addresses, where those from position `from` up to position `to` are exchanged for others
abbrev pub exchanged_at : ℕ → ℕ → List (List ℕ) → List (List ℕ) → List (List ℕ)
exchanged_at from to new addresses = take (from - 1) addresses ++ (new ++ drop (to - 1) addresses)

-- the other part
abbrev pub other_part : Part → Part
other_part Text = Links
other_part Links = Text

-- pieces of a part end before position `from` and before position `to`
pub record HasBorders (part : Part) (rows : List (Row ℕ)) (from to : ℕ) : Type 0 where
  pub front : List Piece
  pub gone : List Piece
  pub back : List Piece
  pub parts : pieces_in (part_number part) rows ≡ front ++ (gone ++ back)
  pub from_is : from ≡ 1 + total front
  pub to_is : to ≡ from + total gone

-- the addresses from position `from` up to position `to`
abbrev pub between : ℕ → ℕ → List (List ℕ) → List (List ℕ)
between from to addresses = take (to - from) (drop (from - 1) addresses)

-- the addresses, where two blocks change places: those from `first` up to `second` and from `third` up to `fourth`
abbrev pub swapped_at : ℕ → ℕ → ℕ → ℕ → List (List ℕ) → List (List ℕ)
swapped_at first second third fourth addresses =
    exchanged_at first fourth (between third fourth addresses ++ between second third addresses ++ between first second addresses) addresses

-- three cuts or four, none before the one in front of it, from the first position to the one past the last
abbrev pub AreCuts : List ℕ → ℕ → Type 0
AreCuts [] end = ⊥
AreCuts (a ∷ []) end = ⊥
AreCuts (a ∷ b ∷ []) end = ⊥
AreCuts (a ∷ b ∷ c ∷ []) end = (1 ≤ a) × (a ≤ b) × (b ≤ c) × (c ≤ end)
AreCuts (a ∷ b ∷ c ∷ d ∷ []) end = (1 ≤ a) × (a ≤ b) × (b ≤ c) × (c ≤ d) × (d ≤ end)
AreCuts (a ∷ b ∷ c ∷ d ∷ e ∷ cuts) end = ⊥

-- The addresses, where the blocks between the cuts change places: the two between three cuts, and the first and the
-- last of the three between four.
abbrev pub rearranged : List ℕ → List (List ℕ) → List (List ℕ)
rearranged [] addresses = addresses
rearranged (a ∷ []) addresses = addresses
rearranged (a ∷ b ∷ []) addresses = addresses
rearranged (a ∷ b ∷ c ∷ []) addresses = swapped_at a b b c addresses
rearranged (a ∷ b ∷ c ∷ d ∷ []) addresses = swapped_at a b c d addresses
rearranged (a ∷ b ∷ c ∷ d ∷ e ∷ cuts) addresses = addresses
