use Rattle.page_tables.specs.Plain.{plain_tables}
use Rattle.world_pages.specs.Pages.{pages_of_world}
use Rattle.paged_world.proofs.MaySave.{end_is, may_be_saved}
use Rattle.paged_world.proofs.saving.save.Goals as goal

pub returns-clause-any_moment : goal.returns-clause-any_moment
returns-clause-any_moment g c = λ was now stands may.
    c.save.ensures.any_moment was now (pages_of_world c.args.world.now) stands
    (may_be_saved c.args.flush.now now c.args.world.now
    (record { granfilade = c.contents.result.now; poom = c.pooms.result.now; spanfilade = c.index.result.now; from = c.index-2.result.now; to = c.index-3.result.now; three = c.index-4.result.now; tables = c.in_ok-bytes.bytes })
    (plain_tables c.in_ok-tables.tables) c.contents.ensures c.pooms.ensures c.index.ensures (end_is 1 _ _ _ c.index-2.ensures.index c.links-links.ensures) (end_is 2 _ _ _ c.index-3.ensures.index c.links-links.ensures) (end_is 3 _ _ _ c.index-4.ensures.index c.links-links.ensures)
    c.in_ok-bytes.ensures c.in_ok-tables.ensures c.are_right.ensures.roots c.are_right.ensures.sound may)

pub returns-clause-done : goal.returns-clause-done
returns-clause-done g c = λ was now stands may.
    c.save.ensures.done was now (pages_of_world c.args.world.now) stands
    (may_be_saved c.args.flush.now now c.args.world.now
    (record { granfilade = c.contents.result.now; poom = c.pooms.result.now; spanfilade = c.index.result.now; from = c.index-2.result.now; to = c.index-3.result.now; three = c.index-4.result.now; tables = c.in_ok-bytes.bytes })
    (plain_tables c.in_ok-tables.tables) c.contents.ensures c.pooms.ensures c.index.ensures (end_is 1 _ _ _ c.index-2.ensures.index c.links-links.ensures) (end_is 2 _ _ _ c.index-3.ensures.index c.links-links.ensures) (end_is 3 _ _ _ c.index-4.ensures.index c.links-links.ensures)
    c.in_ok-bytes.ensures c.in_ok-tables.ensures c.are_right.ensures.roots c.are_right.ensures.sound may)

pub returns-clause-fails : goal.returns-clause-fails
returns-clause-fails g c = λ was now stands may.
    c.save.ensures.fails was now (pages_of_world c.args.world.now) stands
    (may_be_saved c.args.flush.now now c.args.world.now
    (record { granfilade = c.contents.result.now; poom = c.pooms.result.now; spanfilade = c.index.result.now; from = c.index-2.result.now; to = c.index-3.result.now; three = c.index-4.result.now; tables = c.in_ok-bytes.bytes })
    (plain_tables c.in_ok-tables.tables) c.contents.ensures c.pooms.ensures c.index.ensures (end_is 1 _ _ _ c.index-2.ensures.index c.links-links.ensures) (end_is 2 _ _ _ c.index-3.ensures.index c.links-links.ensures) (end_is 3 _ _ _ c.index-4.ensures.index c.links-links.ensures)
    c.in_ok-bytes.ensures c.in_ok-tables.ensures c.are_right.ensures.roots c.are_right.ensures.sound may)
