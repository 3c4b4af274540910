use Rattle.std.proofs.Common.{ap}
use Rattle.tumbler.specs.ListView.{ListView}
use Rattle.enfilade_core.specs.declared.tree.Node.{Node}
use Rattle.page_tables.specs.Plain.{plain_tables}
use Rattle.paged_world.proofs.Alongside.{yes_iff, no_iff, refuted}
use Rattle.paged_world.proofs.Told.{held_plain, ordered_own, stand_other, roots_are, each_root, roots_there, from_held, to_held, three_held, gone_with, still_stands, stand_for, in_condition}
use Rattle.paged_world.proofs.adopting.adopt.Goals as goal

pub returns-then-not-branch-clause-told : goal.returns-then-not-branch-clause-told
returns-then-not-branch-clause-told c = λ plain view loads stand.
    let ordered = ordered_own c.args.world.now c.documents.result.now c.links.result.now c.documents.ensures c.links.ensures c.in_order.ensures c.in_order-2.ensures.ascends c.trees_are_sound.ensures.2 in
    no_iff (stand_other c.args.world.now c.args.loaded (plain_tables c.in_ok-read.read) plain view ordered loads (c.in_ok-read.ensures plain.tables loads.are.tables) stand
    (refuted c.in_ok-holds_same.field-0 c.in_ok-holds_same.ensures c.if-not-branch.true))

pub go_on_with-requires-clause-each : goal.go_on_with-requires-clause-each
go_on_with-requires-clause-each c =
    let plain = c.requires.0 in
    let loads = c.requires.1 in
    let same = held_plain c.args.world.now c.args.loaded (plain_tables c.in_ok-read.read) plain loads.are (c.in_ok-read.ensures plain.tables loads.are.tables) (c.in_ok-holds_same.ensures.0 c.if-not-branch.false) in
    each_root c.args.world.now c.args.loaded plain loads same c.other_trees.result.roots.items
    (roots_are plain (plain_tables c.in_ok-read.read) c.as_slice.result.now c.in_ok-roots.roots.items c.other_trees.result.roots.items (ap (λ (list : ListView Node). list.items) c.other_trees.ensures.roots) c.in_ok-roots.ensures c.as_slice.ensures (c.in_ok-read.ensures plain.tables loads.are.tables))

pub go_on_with-requires-clause-roots : goal.go_on_with-requires-clause-roots
go_on_with-requires-clause-roots c =
    let plain = c.requires.0 in
    let loads = c.requires.1 in
    let same = held_plain c.args.world.now c.args.loaded (plain_tables c.in_ok-read.read) plain loads.are (c.in_ok-read.ensures plain.tables loads.are.tables) (c.in_ok-holds_same.ensures.0 c.if-not-branch.false) in
    roots_there c.args.world.now c.args.loaded plain loads same c.other_trees.result.pooms c.other_trees.result.roots.items c.other_trees.ensures.pooms
    (roots_are plain (plain_tables c.in_ok-read.read) c.as_slice.result.now c.in_ok-roots.roots.items c.other_trees.result.roots.items (ap (λ (list : ListView Node). list.items) c.other_trees.ensures.roots) c.in_ok-roots.ensures c.as_slice.ensures (c.in_ok-read.ensures plain.tables loads.are.tables))

pub go_on_with-requires-clause-from : goal.go_on_with-requires-clause-from
go_on_with-requires-clause-from c =
    let plain = c.requires.0 in
    let loads = c.requires.1 in
    let same = held_plain c.args.world.now c.args.loaded (plain_tables c.in_ok-read.read) plain loads.are (c.in_ok-read.ensures plain.tables loads.are.tables) (c.in_ok-holds_same.ensures.0 c.if-not-branch.false) in
    from_held c.args.world.now c.args.loaded plain loads same c.other_trees.result.from c.other_trees.ensures.from

pub go_on_with-requires-clause-to : goal.go_on_with-requires-clause-to
go_on_with-requires-clause-to c =
    let plain = c.requires.0 in
    let loads = c.requires.1 in
    let same = held_plain c.args.world.now c.args.loaded (plain_tables c.in_ok-read.read) plain loads.are (c.in_ok-read.ensures plain.tables loads.are.tables) (c.in_ok-holds_same.ensures.0 c.if-not-branch.false) in
    to_held c.args.world.now c.args.loaded plain loads same c.other_trees.result.to c.other_trees.ensures.to

pub go_on_with-requires-clause-three : goal.go_on_with-requires-clause-three
go_on_with-requires-clause-three c =
    let plain = c.requires.0 in
    let loads = c.requires.1 in
    let same = held_plain c.args.world.now c.args.loaded (plain_tables c.in_ok-read.read) plain loads.are (c.in_ok-read.ensures plain.tables loads.are.tables) (c.in_ok-holds_same.ensures.0 c.if-not-branch.false) in
    three_held c.args.world.now c.args.loaded plain loads same c.other_trees.result.three c.other_trees.ensures.three

pub returns-clause-told : goal.returns-clause-told
returns-clause-told c = λ plain view loads stand. yes_iff (stand_for plain c.args.world.now c.go_on_with.new.self
    (gone_with plain c.args.loaded c.args.world.now c.go_on_with.new.self c.other_trees.result loads (held_plain c.args.world.now c.args.loaded (plain_tables c.in_ok-read.read) plain loads.are (c.in_ok-read.ensures plain.tables loads.are.tables) (c.in_ok-holds_same.ensures.0 c.if-not-branch.false)) c.in_ok-go_on_with.ensures.ok
    c.other_trees.ensures.contents c.other_trees.ensures.pooms (roots_are plain (plain_tables c.in_ok-read.read) c.as_slice.result.now c.in_ok-roots.roots.items c.other_trees.result.roots.items (ap (λ (list : ListView Node). list.items) c.other_trees.ensures.roots) c.in_ok-roots.ensures c.as_slice.ensures (c.in_ok-read.ensures plain.tables loads.are.tables))
    c.other_trees.ensures.index c.other_trees.ensures.from c.other_trees.ensures.to c.other_trees.ensures.three) view stand)

pub returns-clause-stands : goal.returns-clause-stands
returns-clause-stands c =
    let plain = c.requires.0 in
    let loads = c.requires.1 in
    still_stands plain c.args.world.now c.go_on_with.new.self
    (gone_with plain c.args.loaded c.args.world.now c.go_on_with.new.self c.other_trees.result loads (held_plain c.args.world.now c.args.loaded (plain_tables c.in_ok-read.read) plain loads.are (c.in_ok-read.ensures plain.tables loads.are.tables) (c.in_ok-holds_same.ensures.0 c.if-not-branch.false)) c.in_ok-go_on_with.ensures.ok
    c.other_trees.ensures.contents c.other_trees.ensures.pooms (roots_are plain (plain_tables c.in_ok-read.read) c.as_slice.result.now c.in_ok-roots.roots.items c.other_trees.result.roots.items (ap (λ (list : ListView Node). list.items) c.other_trees.ensures.roots) c.in_ok-roots.ensures c.as_slice.ensures (c.in_ok-read.ensures plain.tables loads.are.tables))
    c.other_trees.ensures.index c.other_trees.ensures.from c.other_trees.ensures.to c.other_trees.ensures.three)

pub returns-clause-condition : goal.returns-clause-condition
returns-clause-condition c = λ plain loads adopted. in_condition plain c.args.world.now c.go_on_with.new.self
    (gone_with plain c.args.loaded c.args.world.now c.go_on_with.new.self c.other_trees.result loads (held_plain c.args.world.now c.args.loaded (plain_tables c.in_ok-read.read) plain loads.are (c.in_ok-read.ensures plain.tables loads.are.tables) (c.in_ok-holds_same.ensures.0 c.if-not-branch.false)) c.in_ok-go_on_with.ensures.ok
    c.other_trees.ensures.contents c.other_trees.ensures.pooms (roots_are plain (plain_tables c.in_ok-read.read) c.as_slice.result.now c.in_ok-roots.roots.items c.other_trees.result.roots.items (ap (λ (list : ListView Node). list.items) c.other_trees.ensures.roots) c.in_ok-roots.ensures c.as_slice.ensures (c.in_ok-read.ensures plain.tables loads.are.tables))
    c.other_trees.ensures.index c.other_trees.ensures.from c.other_trees.ensures.to c.other_trees.ensures.three)
