-- What one change makes of a view, before it is counted for its session.
use Rattle.std.specs.Prelude.{◌≡◌, ◌⊎◌, ℕ, ◌+◌, ◌<◌, false, List, [], ◌∷◌, length, None, if◌then◌else◌}
use Rattle.std.specs.List.{sum_by}
use Rattle.tumbler.specs.declared.span.Span.{Span}
use Rattle.febe_data.specs.declared.run.Run.{Run}
use Rattle.tumbler.specs.Address.{IsDocument}
use Rattle.enfilade_core.specs.declared.tree.Node.{Node}
use Rattle.doc_table.specs.declared.rows.DocumentRow.{DocumentRow}
use Rattle.doc_table.specs.DocumentRows.{has_in, most_documents}
use Rattle.febe_data.specs.Plain.{PlainChange}
use Rattle.world_rules.specs.declared.rows.OpenRow.{OpenRow}
use Rattle.world_rules.specs.History.{is_durable}
use Rattle.world_rules.specs.Apply.{change_world}
use Rattle.world_rules.specs.FlatView.{FlatView}
use Rattle.access_table.specs.AccessRows.{mode_in, Writes, IsFirstWriter}

-- the world is changed, and the change is counted where the limits count it
abbrev pub after_change : FlatView → ℕ → PlainChange → FlatView
after_change view session change =
    record view { world = change_world view.world session change; counted = if is_durable change then view.counted + 1 else view.counted }

-- the session is the first that writes the document, or none does
abbrev pub MayWrite : List OpenRow → List ℕ → ℕ → Type 0
MayWrite rows document session = IsFirstWriter rows document session ⊎ ((other : ℕ) → ¬ Writes rows document other)

-- the address is a document's, no such document is there, one more has room, and the session alone may write it
pub record MayComeIn (documents : List (DocumentRow Node)) (rows : List OpenRow) (session : ℕ) (document : List ℕ) : Type 0 where
  pub address : IsDocument document
  pub absent : has_in documents document ≡ false
  pub room : length documents < most_documents
  pub unopened : mode_in rows session document ≡ None
  pub alone : MayWrite rows document session

-- the V-addresses of all text
abbrev pub whole_text : Span
whole_text = record { start = 1 ∷ []; width = 1 ∷ [] }

-- how many bytes runs have
abbrev pub total_bytes : List Run → ℕ
total_bytes runs = sum_by (λ (run : Run). run.length) runs
