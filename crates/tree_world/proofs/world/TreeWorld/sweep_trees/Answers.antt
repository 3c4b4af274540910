use Rattle.std.proofs.Common.{◌∙◌, length, min, ap, sym, subst}
use Rattle.enfilade_core.specs.Summary.{most_count}
use Rattle.tree_world.specs.Standing.{Stands}
use Rattle.tree_world.proofs.Swept.{rooted_as, with_links, swept_documents, swept_stands, swept_sound, swept_count, swept_none_left, swept_shape, count_from, shape_from}
use Rattle.tree_world.proofs.world.TreeWorld.sweep_trees.Goals as goal

pub set_roots-requires : goal.set_roots-requires
set_roots-requires c =
    ap length c.as_slice.ensures
    ∙ (swept_documents c.self.inside.pooms c.finish_sweep-roots.new.self c.self.inside.documents c.in_ok-documents.documents.roots c.finish_sweep-roots.result.items c.in_ok-documents.ensures.roots c.finish_sweep-roots.ensures.rows c.finish_sweep-roots.ensures.debts c.finish_sweep-roots.ensures.allowed
    c.finish_sweep-roots.ensures.depths c.finish_sweep-roots.ensures.swept c.finish_sweep-roots.ensures.count c.finish_sweep-roots.ensures.none_left c.self.invariant.0).long

pub invariant_of-self : goal.invariant_of-self
invariant_of-self c =
    swept_sound (record { contents = c.self.inside.contents; content = c.self.inside.content; nodes = c.self.inside.pooms; documents = c.self.inside.documents; index = c.self.inside.index; links = c.self.inside.links; access = c.self.inside.access; counted = c.self.inside.counted; sessions = c.self.inside.sessions; due = c.self.inside.due.items })
    c.finish_sweep.new.self c.finish_sweep-2.new.self c.finish_sweep-3.new.self.from c.finish_sweep-3.new.self.to c.finish_sweep-3.new.self.three c.finish_sweep-roots.new.self c.finish_sweep-roots.result.items c.set_roots.new.self c.finish_sweep-3.new.self
    (rooted_as _ c.finish_sweep-roots.result.items c.as_slice.result.now c.set_roots.new.self c.set_roots.ensures c.as_slice.ensures) (with_links c.self.inside.links c.finish_sweep-3.new.self c.finish_sweep-3.ensures.links)
    c.finish_sweep.ensures c.finish_sweep-2.ensures c.finish_sweep-3.ensures.from c.finish_sweep-3.ensures.to c.finish_sweep-3.ensures.three
    (swept_documents c.self.inside.pooms c.finish_sweep-roots.new.self c.self.inside.documents c.in_ok-documents.documents.roots c.finish_sweep-roots.result.items c.in_ok-documents.ensures.roots c.finish_sweep-roots.ensures.rows c.finish_sweep-roots.ensures.debts c.finish_sweep-roots.ensures.allowed
    c.finish_sweep-roots.ensures.depths c.finish_sweep-roots.ensures.swept c.finish_sweep-roots.ensures.count c.finish_sweep-roots.ensures.none_left c.self.invariant.0)
    c.self.invariant

pub returns-clause-stands : goal.returns-clause-stands
returns-clause-stands c view stands =
    swept_stands (record { contents = c.self.inside.contents; content = c.self.inside.content; nodes = c.self.inside.pooms; documents = c.self.inside.documents; index = c.self.inside.index; links = c.self.inside.links; access = c.self.inside.access; counted = c.self.inside.counted; sessions = c.self.inside.sessions; due = c.self.inside.due.items })
    c.finish_sweep.new.self c.finish_sweep-2.new.self c.finish_sweep-3.new.self.from c.finish_sweep-3.new.self.to c.finish_sweep-3.new.self.three c.finish_sweep-roots.new.self c.finish_sweep-roots.result.items c.set_roots.new.self c.finish_sweep-3.new.self
    (rooted_as _ c.finish_sweep-roots.result.items c.as_slice.result.now c.set_roots.new.self c.set_roots.ensures c.as_slice.ensures) (with_links c.self.inside.links c.finish_sweep-3.new.self c.finish_sweep-3.ensures.links)
    c.finish_sweep.ensures c.finish_sweep-2.ensures c.finish_sweep-3.ensures.from c.finish_sweep-3.ensures.to c.finish_sweep-3.ensures.three
    (swept_documents c.self.inside.pooms c.finish_sweep-roots.new.self c.self.inside.documents c.in_ok-documents.documents.roots c.finish_sweep-roots.result.items c.in_ok-documents.ensures.roots c.finish_sweep-roots.ensures.rows c.finish_sweep-roots.ensures.debts c.finish_sweep-roots.ensures.allowed
    c.finish_sweep-roots.ensures.depths c.finish_sweep-roots.ensures.swept c.finish_sweep-roots.ensures.count c.finish_sweep-roots.ensures.none_left c.self.invariant.0)
    view (subst (λ t. Stands t view) (sym c.self.view_is) stands)

pub returns-clause-count : goal.returns-clause-count
returns-clause-count c =
    count_from _ c.args.self.now _ c.self.view_is
    (ap (λ n. min n most_count)
    (swept_count (record { contents = c.self.inside.contents; content = c.self.inside.content; nodes = c.self.inside.pooms; documents = c.self.inside.documents; index = c.self.inside.index; links = c.self.inside.links; access = c.self.inside.access; counted = c.self.inside.counted; sessions = c.self.inside.sessions; due = c.self.inside.due.items })
    c.finish_sweep.new.self c.finish_sweep-2.new.self c.finish_sweep-3.new.self.from c.finish_sweep-3.new.self.to c.finish_sweep-3.new.self.three c.finish_sweep-roots.new.self c.finish_sweep-roots.result.items c.set_roots.new.self c.finish_sweep-3.new.self
    (rooted_as _ c.finish_sweep-roots.result.items c.as_slice.result.now c.set_roots.new.self c.set_roots.ensures c.as_slice.ensures) (with_links c.self.inside.links c.finish_sweep-3.new.self c.finish_sweep-3.ensures.links)
    c.finish_sweep.ensures c.finish_sweep-2.ensures c.finish_sweep-3.ensures.from c.finish_sweep-3.ensures.to c.finish_sweep-3.ensures.three
    (swept_documents c.self.inside.pooms c.finish_sweep-roots.new.self c.self.inside.documents c.in_ok-documents.documents.roots c.finish_sweep-roots.result.items c.in_ok-documents.ensures.roots c.finish_sweep-roots.ensures.rows c.finish_sweep-roots.ensures.debts c.finish_sweep-roots.ensures.allowed
    c.finish_sweep-roots.ensures.depths c.finish_sweep-roots.ensures.swept c.finish_sweep-roots.ensures.count c.finish_sweep-roots.ensures.none_left c.self.invariant.0)))

pub returns-clause-none_left : goal.returns-clause-none_left
returns-clause-none_left c =
    swept_none_left (record { contents = c.self.inside.contents; content = c.self.inside.content; nodes = c.self.inside.pooms; documents = c.self.inside.documents; index = c.self.inside.index; links = c.self.inside.links; access = c.self.inside.access; counted = c.self.inside.counted; sessions = c.self.inside.sessions; due = c.self.inside.due.items })
    c.finish_sweep.new.self c.finish_sweep-2.new.self c.finish_sweep-3.new.self.from c.finish_sweep-3.new.self.to c.finish_sweep-3.new.self.three c.finish_sweep-roots.new.self c.finish_sweep-roots.result.items c.set_roots.new.self c.finish_sweep-3.new.self
    (rooted_as _ c.finish_sweep-roots.result.items c.as_slice.result.now c.set_roots.new.self c.set_roots.ensures c.as_slice.ensures) (with_links c.self.inside.links c.finish_sweep-3.new.self c.finish_sweep-3.ensures.links)
    c.finish_sweep.ensures c.finish_sweep-2.ensures c.finish_sweep-3.ensures.from c.finish_sweep-3.ensures.to c.finish_sweep-3.ensures.three
    (swept_documents c.self.inside.pooms c.finish_sweep-roots.new.self c.self.inside.documents c.in_ok-documents.documents.roots c.finish_sweep-roots.result.items c.in_ok-documents.ensures.roots c.finish_sweep-roots.ensures.rows c.finish_sweep-roots.ensures.debts c.finish_sweep-roots.ensures.allowed
    c.finish_sweep-roots.ensures.depths c.finish_sweep-roots.ensures.swept c.finish_sweep-roots.ensures.count c.finish_sweep-roots.ensures.none_left c.self.invariant.0)

pub returns-clause-shape : goal.returns-clause-shape
returns-clause-shape c =
    shape_from _ c.args.self.now _ c.self.view_is
    (swept_shape (record { contents = c.self.inside.contents; content = c.self.inside.content; nodes = c.self.inside.pooms; documents = c.self.inside.documents; index = c.self.inside.index; links = c.self.inside.links; access = c.self.inside.access; counted = c.self.inside.counted; sessions = c.self.inside.sessions; due = c.self.inside.due.items })
    c.finish_sweep.new.self c.finish_sweep-2.new.self c.finish_sweep-3.new.self.from c.finish_sweep-3.new.self.to c.finish_sweep-3.new.self.three c.finish_sweep-roots.new.self c.finish_sweep-roots.result.items c.set_roots.new.self c.finish_sweep-3.new.self
    (rooted_as _ c.finish_sweep-roots.result.items c.as_slice.result.now c.set_roots.new.self c.set_roots.ensures c.as_slice.ensures) (with_links c.self.inside.links c.finish_sweep-3.new.self c.finish_sweep-3.ensures.links)
    c.finish_sweep.ensures c.finish_sweep-2.ensures c.finish_sweep-3.ensures.from c.finish_sweep-3.ensures.to c.finish_sweep-3.ensures.three
    (swept_documents c.self.inside.pooms c.finish_sweep-roots.new.self c.self.inside.documents c.in_ok-documents.documents.roots c.finish_sweep-roots.result.items c.in_ok-documents.ensures.roots c.finish_sweep-roots.ensures.rows c.finish_sweep-roots.ensures.debts c.finish_sweep-roots.ensures.allowed
    c.finish_sweep-roots.ensures.depths c.finish_sweep-roots.ensures.swept c.finish_sweep-roots.ensures.count c.finish_sweep-roots.ensures.none_left c.self.invariant.0))
