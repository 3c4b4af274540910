-- The positions that rows show, and intervals of them that are put together one after another. Only private functions cite this.
use Rattle.std.specs.Prelude.{◌≡◌, ◌⊎◌, ℕ, zero, suc, ◌+◌, ◌-◌, ◌^◌, ◌<◌, ◌≤◌, min, List, [], ◌∷◌, ◌++◌, length, take, if◌then◌else◌}
use Rattle.std.specs.List.{flat_map}
use Rattle.tumbler.specs.Places.{place}
use Rattle.tumbler.specs.declared.span.Span.{Span}
use Rattle.enfilade_core.specs.declared.tree.Row.{Row}
use Rattle.poom.specs.declared.piece.Piece.{Piece}
use Rattle.poom.specs.declared.shown.Interval.{Interval}
use Rattle.poom.specs.Pieces.{IsPiece, piece_addresses, piece_row, stands_in, row_piece}
use Rattle.poom.specs.Runs.{intervals}
use Rattle.poom.specs.Shown.{positions_in}

-- so many positions from n on
abbrev pub positions_from : ℕ → ℕ → List ℕ
positions_from n zero = []
positions_from n (suc count) = n ∷ positions_from (n + 1) count

abbrev pub positions_of : Interval → List ℕ
positions_of interval = positions_from interval.start interval.count

-- an interval whose positions are places
pub record IsInterval (interval : Interval) : Type 0 where
  pub from_one : 1 ≤ interval.start
  pub fits : interval.start + interval.count < 2 ^ 32

-- the positions at which a row shows an address of the span, if it stands in this part
abbrev pub shown_by : ℕ → Span → Row ℕ → List ℕ
shown_by part span row = if stands_in part row then positions_in span (place row.first 1) (piece_addresses part (row_piece row)) else []

abbrev pub shown_by_all : ℕ → Span → List (Row ℕ) → List ℕ
shown_by_all part span rows = flat_map (shown_by part span) rows

-- the row of a piece, at a position of one of the two parts
pub record IsPieceRow (row : Row ℕ) : Type 0 where
  pub part : ℕ
  pub n : ℕ
  pub piece : Piece
  pub is : row ≡ piece_row part n piece
  pub one_of_two : (part ≡ 1) ⊎ (part ≡ 2)
  pub from_one : 1 ≤ n
  pub is_piece : IsPiece piece
  pub fits : n + piece.count < 2 ^ 32

-- the row of a piece of this part, of which some stands from position `from` on and before position `to`
pub record StandsBetween (part from to : ℕ) (row : Row ℕ) : Type 0 where
  pub n : ℕ
  pub piece : Piece
  pub is : row ≡ piece_row part n piece
  pub one_of_two : (part ≡ 1) ⊎ (part ≡ 2)
  pub is_piece : IsPiece piece
  pub fits : n + piece.count < 2 ^ 32
  pub order : from < to
  pub begins : n < to
  pub ends : from < n + piece.count

-- the part of a row's piece that stands from position `from` on and before position `to`
abbrev pub clip : ℕ → ℕ → Row ℕ → Piece
clip from to row = record {
  document = (row_piece row).document;
  first = (row_piece row).first + (from - place row.first 1);
  count = min (row_piece row).count (to - place row.first 1) - (from - place row.first 1);
}

-- those parts of the pieces of rows, address by address
abbrev pub laid_between : ℕ → ℕ → ℕ → List (Row ℕ) → List (List ℕ)
laid_between part from to rows = flat_map (λ row. piece_addresses part (clip from to row)) rows

-- the address that comes so many behind this one: the last place is so much greater
abbrev pub so_far_on : List ℕ → ℕ → List ℕ
so_far_on address k = take (length address - 1) address ++ (place address (length address - 1) + k) ∷ []

-- Spans of a part's positions with an interval held behind them: whatever follows, the held interval and that make the
-- rest of the intervals.
abbrev pub StandFor : ℕ → List Span → List ℕ → List Span → Interval → Type 0
StandFor part before positions spans held = (rest : List ℕ) → before ++ intervals part (positions ++ rest) ≡ spans ++ intervals part (positions_of held ++ rest)
