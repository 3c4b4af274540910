use Rattle.std.proofs.Common.{◌∙◌, ℕ, ◌+◌, map, ap, sym, subst}
use Rattle.febe_data.specs.Plain.{plain_spec, plain_specs}
use Rattle.links.specs.LinkLists.{plain_link}
use Rattle.world_rules.specs.Apply.{link_between}
use Rattle.tree_world.specs.Standing.{Stands}
use Rattle.tree_world.proofs.Roots.{root_stands, root_grows}
use Rattle.tree_world.proofs.LinkMade.{made_in, lacks_it}
use Rattle.tree_world.specs.Undone.{LinkCame}
use Rattle.world_rules.specs.World.{link_address}
use Rattle.tree_world.proofs.EntryCounted.{with_marks}
use Rattle.tree_world.proofs.Marked.{room_for_mark, stay_from}
use Rattle.tree_world.proofs.Rerooted.{rerooted}
use Rattle.tree_world.proofs.Undone.{of_old, link_came}
use Rattle.tree_world.proofs.world.TreeWorld.make_link.Goals as goal

pub links-count-requires : goal.links-count-requires
links-count-requires c = record { document = root_stands c.self.inside.pooms c.self.inside.documents c.args.home.now c.in-Some.root c.self.invariant.0 (sym c.in-Some.ensures) }

pub come_in-requires-clause-root : goal.come_in-requires-clause-root
come_in-requires-clause-root c = root_stands c.self.inside.pooms c.self.inside.documents c.args.home.now c.in-Some.root c.self.invariant.0 (sym c.in-Some.ensures)

pub come_in-requires-clause-absent : goal.come_in-requires-clause-absent
come_in-requires-clause-absent c = lacks_it c.self.inside.links.links c.in_ok-link.link.id (λ link. link.now) plain_link c.get.result c.is_some.result c.get.ensures c.is_some.ensures c.if-is_some.false

pub set_root-requires-clause-room : goal.set_root-requires-clause-room
set_root-requires-clause-room c = room_for_mark c.self.inside.due.spare c.reserve.new.self.spare c.in_ok-reserve.ensures.ok

pub set_root-requires-clause-was : goal.set_root-requires-clause-was
set_root-requires-clause-was c = sym c.in-Some.ensures

pub set_root-requires-clause-old : goal.set_root-requires-clause-old
set_root-requires-clause-old c = root_grows c.self.inside.pooms c.come_in.new.pooms c.in-Some.root.0 c.come_in.ensures.kept c.come_in.ensures.grows (root_stands c.self.inside.pooms c.self.inside.documents c.args.home.now c.in-Some.root c.self.invariant.0 (sym c.in-Some.ensures))

pub invariant_of-self-2 : goal.invariant_of-self-2
invariant_of-self-2 c =
    rerooted c.self.inside.pooms c.come_in.new.pooms c.self.inside.documents c.set_root.new.documents c.self.inside.contents c.self.inside.due.items c.reserve.new.self.items c.set_root.new.due.items c.args.home.now c.in_ok-made.made c.self.invariant c.come_in.ensures.kept c.come_in.ensures.grows c.in_ok-made.ensures.root
    c.set_root.ensures.documents c.reserve.ensures.items c.set_root.ensures.due

pub returns-clause-ok : goal.returns-clause-ok
returns-clause-ok c view session stands =
    with_marks _ _ c.set_root.new.due.items
    (made_in _ view (subst (λ t. Stands t view) (sym c.self.view_is) stands) c.self.invariant.0 c.args.home.now c.in-Some.root c.in-Some.ensures c.come_in.new.pooms c.come_in.ensures.kept c.come_in.ensures.grows c.in_ok-made.made c.in_ok-made.ensures.root c.set_root.new.documents _
    c.set_root.ensures.documents c.in_ok-counted.ensures session c.args.number c.args.place (plain_specs c.args.from.now.items) (plain_specs c.args.to.now.items) (plain_specs c.args.three.now.items) c.come_in.new.links (plain_link c.in_ok-link.link)
    (c.in_ok-link.ensures.value view stands ∙ (λ i. link_between view.world c.args.home.now c.args.number (map plain_spec (c.as_slice.ensures i)) (map plain_spec (c.as_slice-2.ensures i)) (map plain_spec (c.as_slice-3.ensures i))))
    (lacks_it c.self.inside.links.links c.in_ok-link.link.id (λ link. link.now) plain_link c.get.result c.is_some.result c.get.ensures c.is_some.ensures c.if-is_some.false) c.in_ok-made.ensures.added c.in_ok-made.ensures.ends c.in_ok-made.ensures.text
    c.in_ok-made.ensures.links (c.if-place-count.false ∙ ap (λ (n : ℕ). n + 1) c.links-count.ensures))

pub returns-clause-came : goal.returns-clause-came
returns-clause-came c =
    of_old (LinkCame c.args.home.now (link_address c.args.home.now c.args.number)) _ _ _ c.self.view_is
    (link_came _ c.args.home.now c.in-Some.root (sym c.in-Some.ensures) c.in_ok-made.made (link_address c.args.home.now c.args.number) (plain_link c.in_ok-link.link) c.come_in.new.pooms c.set_root.new.documents c.come_in.new.links _ c.set_root.new.due.items (stay_from c.self.inside.due.items c.reserve.new.self.items c.set_root.new.due.items c.reserve.ensures.items c.set_root.ensures.stay) c.come_in.ensures.grows c.in_ok-made.ensures.grow
    c.set_root.ensures.documents
    (lacks_it c.self.inside.links.links c.in_ok-link.link.id (λ link. link.now) plain_link c.get.result c.is_some.result c.get.ensures c.is_some.ensures c.if-is_some.false) c.in_ok-made.ensures.added c.in_ok-link.ensures.address)
