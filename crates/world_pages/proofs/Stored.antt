-- The trees of a store, part by part.
use Rattle.std.proofs.Common.{List, ℕ}
use Rattle.world_rules.specs.FlatView.{FlatView}
use Rattle.tree_world.specs.Trees.{Trees}
use Rattle.world_pages.specs.Laws.{AreStored, RootsAreThere, TablesAreSound, ContentsAreSound, ShownIsCovered, EndsAreHeld, StoredAreSound}
use Rattle.world_pages.proofs.World.{IsKept}
use Rattle.world_pages.proofs.Kept.{kept_by}
use Rattle.world_pages.proofs.TablesSound.{tables_sound}
use Rattle.world_pages.proofs.ContentsSound.{contents_sound}
use Rattle.world_pages.proofs.Held.{roots_there, ends_held, rows_covered}

kept : (trees : Trees) (view : FlatView) → AreStored trees view → IsKept view.world
kept trees view stored = kept_by view.world stored.history stored.placed stored.world

pub roots_are_there : RootsAreThere
roots_are_there trees view stored = roots_there trees stored.stands.roots stored.roots

pub tables_are_sound : TablesAreSound
tables_are_sound trees view stored =
    tables_sound trees view.world stored.sound.1 stored.stands.documents stored.stands.link_table stored.in_order.documents stored.in_order.links stored.in_order.runs (kept trees view stored)

pub contents_are_sound : ContentsAreSound
contents_are_sound trees view stored = contents_sound trees view stored.stands stored.sound stored.in_order.documents (kept trees view stored) stored.roots.contents

pub shown_is_covered : ShownIsCovered
shown_is_covered trees view stored = rows_covered trees stored.in_order.documents stored.stands.covered

pub ends_are_held : EndsAreHeld
ends_are_held trees view stored = ends_held trees stored.stands.ends

pub stored_are_sound : StoredAreSound
stored_are_sound trees view stored =
    let ends = ends_are_held trees view stored in
    record {
      tables = tables_are_sound trees view stored;
      contents = contents_are_sound trees view stored;
      covered = shown_is_covered trees view stored;
      from = ends.from;
      to = ends.to;
      three = ends.three;
    }
