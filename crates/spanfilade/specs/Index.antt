-- What an index of spans holds: a tree of rows, each a span and the key that it was added for.
use Rattle.std.specs.Prelude.{◌≡◌, ◌⊎◌, ℕ, Some, List, [], ◌∷◌, ◌++◌, length, take, map}
use Rattle.tumbler.specs.Places.{IsUpTo, IsBefore, difference, sum}
use Rattle.tumbler.specs.Span.{end_of}
use Rattle.tumbler.specs.declared.span.Span.{Span}
use Rattle.enfilade_core.specs.declared.tree.Row.{Row}
use Rattle.enfilade_core.specs.declared.tree.Node.{Node}
use Rattle.enfilade_core.specs.declared.tree.TreeMark.{TreeMark}
use Rattle.enfilade_core.specs.Rows.{Shape, rows_of}
use Rattle.enfilade_core.specs.Axes.{later, IsWellFormedRow}
use Rattle.enfilade_core.specs.Planes.{key_widths}
use Rattle.enfilade_core.specs.Edits.{put_before, last_before}

-- the nodes of the arena, and the root of the tree among them
pub record IndexTree : Type 0 where
  pub nodes : List (Shape (List ℕ))
  pub root : Node

-- the rows: a span by its start and its width, which is the leaf, and its key on the second axis; the starts ascend
abbrev pub rows_in_index : IndexTree → List (Row (List ℕ))
rows_in_index tree = rows_of tree.nodes tree.root.0

-- the row of a span that is added for a key
abbrev pub row_of : Span → List ℕ → Row (List ℕ)
row_of span key = record { first = span.start; second = key; leaf = span.width }

-- a span comes in before the first one that starts where it does or behind that
abbrev pub with_span : Span → List ℕ → List (Row (List ℕ)) → List (Row (List ℕ))
with_span span key rows = put_before span.start (row_of span key ∷ []) rows

-- the rows of spans that are added for one key
abbrev pub rows_for : List Span → List ℕ → List (Row (List ℕ))
rows_for spans key = map (λ span. row_of span key) spans

-- where a row ends
abbrev pub row_end : Row (List ℕ) → List ℕ
row_end row = sum row.first row.leaf

-- the row, made longer up to the end of a span where that comes after its own
abbrev pub lengthened : Span → Row (List ℕ) → Row (List ℕ)
lengthened span row = record row { leaf = difference (later (row_end row) (end_of span)) row.first }

-- One row was made longer: it is of the key, and the span begins in it or where it ends. A span of no width is in it, so
-- that the row has the span's place.
pub record IsLengthened (span : Span) (key : List ℕ) (old new : List (Row (List ℕ))) : Type 0 where
  pub front : List (Row (List ℕ))
  pub row : Row (List ℕ)
  pub back : List (Row (List ℕ))
  pub was : old ≡ front ++ row ∷ back
  pub of_key : row.second ≡ key
  pub begins : IsUpTo row.first span.start
  pub reaches : IsUpTo span.start (row_end row)
  pub inside : span.width ≡ [] → IsBefore span.start (row_end row)
  pub is : new ≡ front ++ lengthened span row ∷ back

-- The last row before the span's start is of the key, and the span begins in it or, if it has a width, where it ends.
-- This is the row in its place.
pub record IsLonger (span : Span) (key : List ℕ) (rows : List (Row (List ℕ))) (made : Row (List ℕ)) : Type 0 where
  pub row : Row (List ℕ)
  pub last : last_before span.start rows ≡ Some row
  pub of_key : row.second ≡ key
  pub reaches : IsUpTo span.start (row_end row)
  pub inside : span.width ≡ [] → IsBefore span.start (row_end row)
  pub is : made ≡ lengthened span row
  pub well_formed : IsWellFormedRow key_widths made

-- the span is covered for the key: it came in, or a row of the key was made longer
abbrev pub IsCovered : Span → List ℕ → List (Row (List ℕ)) → List (Row (List ℕ)) → Type 0
IsCovered span key old new = (new ≡ with_span span key old) ⊎ IsLengthened span key old new

-- what is kept to go back
abbrev pub mark_of : IndexTree → TreeMark
mark_of tree = record { root = tree.root; count = length tree.nodes }

-- the tree at a mark, of which nodes came since
abbrev pub at_mark : TreeMark → IndexTree → IndexTree
at_mark mark tree = record { nodes = take mark.count tree.nodes; root = mark.root }
