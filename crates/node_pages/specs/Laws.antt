-- The laws of streams: each is the stream of one arena, and that of an arena with more nodes goes on from it.
use Rattle.std.specs.Prelude.{◌≡◌, ℕ, List, ◌++◌}
use Rattle.enfilade_core.specs.declared.tree.Row.{Row}
use Rattle.enfilade_core.specs.Rows.{Shape}
use Rattle.enfilade_core.specs.Axes.{Widths}
use Rattle.node_pages.specs.NodeBytes.{arena_bytes}
use Rattle.node_pages.specs.Streams.{Spells}

-- bytes are the stream of one arena at most
abbrev pub OneArena : {L : Type 0} → Widths L → (Row L → Type 0) → (Row L → List ℕ) → Type 0
OneArena {L} w IsRow row_bytes = (one other : List (Shape L)) (bytes : List ℕ) → Spells w IsRow row_bytes one bytes → Spells w IsRow row_bytes other bytes → one ≡ other

-- the stream of nodes and more nodes is a stream of the nodes, and behind it the bytes of those that came in
pub record GoesOn {L : Type 0} (w : Widths L) (IsRow : Row L → Type 0) (row_bytes : Row L → List ℕ) (nodes more : List (Shape L)) (bytes : List ℕ) : Type 0 where
  pub front : Spells w IsRow row_bytes nodes (arena_bytes row_bytes nodes)
  pub split : bytes ≡ arena_bytes row_bytes nodes ++ arena_bytes row_bytes more

abbrev pub LongerGoesOn : {L : Type 0} → Widths L → (Row L → Type 0) → (Row L → List ℕ) → Type 0
LongerGoesOn {L} w IsRow row_bytes = (nodes more : List (Shape L)) (bytes : List ℕ) → Spells w IsRow row_bytes (nodes ++ more) bytes → GoesOn w IsRow row_bytes nodes more bytes
