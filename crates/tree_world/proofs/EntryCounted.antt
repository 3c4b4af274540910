-- Trees stand for a view with other counts of entries, and whatever documents are marked.
use Rattle.std.proofs.Common.{ℕ, List}
use Rattle.world_rules.specs.declared.rows.SessionRow.{SessionRow}
use Rattle.world_rules.specs.FlatView.{FlatView}
use Rattle.tree_world.specs.Trees.{Trees}
use Rattle.tree_world.specs.Standing.{Stands, CountsStand}
use Rattle.tree_world.proofs.Made.{restand}

pub with_marks : (trees : Trees) (view : FlatView) (due : List (List ℕ)) → Stands trees view → Stands (record trees { due = due }) view
with_marks trees view due stand = record {
  documents = stand.documents;
  documents_once = stand.documents_once;
  roots = stand.roots;
  texts = stand.texts;
  links = stand.links;
  covered = stand.covered;
  bytes = stand.bytes;
  bytes_once = stand.bytes_once;
  total = stand.total;
  counts = stand.counts;
  marks = stand.marks;
  link_table = stand.link_table;
  ids = stand.ids;
  ends = stand.ends;
  access = restand trees view.world _ _ stand.access;
  counted = stand.counted;
  entries = stand.entries;
  known = stand.known;
}

pub counts_of : (trees : Trees) (view : FlatView) → Stands trees view → CountsStand trees.sessions view.sessions
counts_of trees view stand = record { entries = stand.entries; known = stand.known }

pub with_sessions : (trees : Trees) (view : FlatView) (held rows : List SessionRow) → Stands trees view → CountsStand held rows → Stands (record trees { sessions = held }) (record view { sessions = rows })
with_sessions trees view held rows stand counts = record {
  documents = stand.documents;
  documents_once = stand.documents_once;
  roots = stand.roots;
  texts = stand.texts;
  links = stand.links;
  covered = stand.covered;
  bytes = stand.bytes;
  bytes_once = stand.bytes_once;
  total = stand.total;
  counts = stand.counts;
  marks = stand.marks;
  link_table = stand.link_table;
  ids = stand.ids;
  ends = stand.ends;
  access = restand trees view.world _ _ stand.access;
  counted = stand.counted;
  entries = counts.entries;
  known = counts.known;
}
