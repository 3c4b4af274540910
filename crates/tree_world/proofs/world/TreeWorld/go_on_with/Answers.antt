use Rattle.tree_world.proofs.Swept.{rooted_as}
use Rattle.tree_world.proofs.MarkedAll.{is_with, sound_with}
use Rattle.tree_world.proofs.world.TreeWorld.go_on_with.Goals as goal

pub invariant_of-self : goal.invariant_of-self
invariant_of-self c =
    sound_with c.args.other c.in_ok-due.due.items (record { contents = c.self.inside.contents; content = c.self.inside.content; nodes = c.self.inside.pooms; documents = c.self.inside.documents; index = c.self.inside.index; links = c.self.inside.links; access = c.self.inside.access; counted = c.self.inside.counted; sessions = c.self.inside.sessions; due = c.self.inside.due.items }) c.args.self.now c.set_roots.new.self
    c.self.view_is (rooted_as c.self.inside.documents c.args.other.roots.items c.as_slice.result.now c.set_roots.new.self c.set_roots.ensures c.as_slice.ensures) c.in_ok-due.ensures
    c.requires.contents c.requires.counted c.requires.each c.requires.roots c.self.invariant.1

pub returns : goal.returns
returns c = record {
  ok = is_with c.args.other c.in_ok-due.due.items (record { contents = c.self.inside.contents; content = c.self.inside.content; nodes = c.self.inside.pooms; documents = c.self.inside.documents; index = c.self.inside.index; links = c.self.inside.links; access = c.self.inside.access; counted = c.self.inside.counted; sessions = c.self.inside.sessions; due = c.self.inside.due.items }) c.args.self.now c.set_roots.new.self c.set_indexes.new.self
      c.self.view_is (rooted_as c.self.inside.documents c.args.other.roots.items c.as_slice.result.now c.set_roots.new.self c.set_roots.ensures c.as_slice.ensures) c.set_indexes.ensures;
  err = tt;
}
