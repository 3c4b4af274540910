-- The streams that a save is given. Only private functions cite this.
use Rattle.std.specs.Prelude.{◌≡◌, ℕ, Bool, false, List, [], ◌∷◌, length}
use Rattle.tumbler.specs.ListView.{ListView}
use Rattle.enfilade_core.specs.declared.tree.Row.{Row}
use Rattle.enfilade_core.specs.Axes.{Widths}
use Rattle.enfilade_core.specs.Exchange.{Grows}
use Rattle.enfilade_core.specs.Planes.{content_widths, text_widths, key_widths}
use Rattle.enfilade_core.specs.Rows.{Shape}
use Rattle.node_pages.specs.NodeBytes.{content_row_bytes, text_row_bytes, key_row_bytes, IsContentRow, IsTextRow, IsKeyRow}
use Rattle.node_pages.specs.Streams.{Spells}
use Rattle.page_journal.specs.Pages.{Bytes}
use Rattle.page_flush.specs.declared.stream_bytes.StreamBytes.{StreamBytes}
use Rattle.page_flush.specs.Saving.{IsWhole, stream_after}
use Rattle.green_flush.specs.declared.flush.NodeCounts.{NodeCounts}

-- Once this is saved the stream spells the arena's nodes: whatever it had where all of it is given; and where it spelled nodes
-- that are counted, from which the arena has grown.
pub record Continues {L : Type 0} (w : Widths L) (IsRow : Row L → Type 0) (row_bytes : Row L → Bytes) (nodes : List (Shape L)) (goes_on : Bool) (saved : ℕ) (given : StreamBytes) : Type 0 where
  pub whole : goes_on ≡ false → IsWhole given
  pub anew : goes_on ≡ false → (had : Bytes) → Spells w IsRow row_bytes nodes (stream_after had given)
  pub more : (had : Bytes) (old : List (Shape L)) → Spells w IsRow row_bytes old had → Grows old nodes → saved ≡ length old → Spells w IsRow row_bytes nodes (stream_after had given)

abbrev pub ContinuesContents : List (Shape (ListView ℕ)) → Bool → ℕ → StreamBytes → Type 0
ContinuesContents nodes goes_on saved given = Continues content_widths IsContentRow content_row_bytes nodes goes_on saved given

abbrev pub ContinuesTexts : List (Shape ℕ) → Bool → ℕ → StreamBytes → Type 0
ContinuesTexts nodes goes_on saved given = Continues text_widths IsTextRow text_row_bytes nodes goes_on saved given

abbrev pub ContinuesKeys : List (Shape (List ℕ)) → Bool → ℕ → StreamBytes → Type 0
ContinuesKeys nodes goes_on saved given = Continues key_widths IsKeyRow key_row_bytes nodes goes_on saved given

-- all of the tables' stream is given, and it is these bytes
pub record IsTableStream (bytes : Bytes) (given : StreamBytes) : Type 0 where
  pub whole : IsWhole given
  pub after : (had : Bytes) → stream_after had given ≡ bytes

-- the six arenas of trees
pub record Arenas : Type 0 where
  pub granfilade : List (Shape (ListView ℕ))
  pub poom : List (Shape ℕ)
  pub spanfilade : List (Shape (List ℕ))
  pub from : List (Shape (List ℕ))
  pub to : List (Shape (List ℕ))
  pub three : List (Shape (List ℕ))

-- the seven streams of the arenas, and of tables with these bytes
pub record AreStreamsOf (arenas : Arenas) (bytes : Bytes) (goes_on : Bool) (counts : NodeCounts) (given : List StreamBytes) : Type 0 where
  pub first : StreamBytes
  pub second : StreamBytes
  pub third : StreamBytes
  pub fourth : StreamBytes
  pub fifth : StreamBytes
  pub sixth : StreamBytes
  pub seventh : StreamBytes
  pub are : given ≡ first ∷ second ∷ third ∷ fourth ∷ fifth ∷ sixth ∷ seventh ∷ []
  pub granfilade : ContinuesContents arenas.granfilade goes_on counts.granfilade first
  pub poom : ContinuesTexts arenas.poom goes_on counts.poom second
  pub spanfilade : ContinuesKeys arenas.spanfilade goes_on counts.spanfilade third
  pub from : ContinuesKeys arenas.from goes_on counts.from fourth
  pub to : ContinuesKeys arenas.to goes_on counts.to fifth
  pub three : ContinuesKeys arenas.three goes_on counts.three sixth
  pub tables : IsTableStream bytes seventh
