use Rattle.std.proofs.Common.{sym, subst}
use Rattle.std.specs.Prelude.{OnOk}
use Rattle.febe_data.specs.Plain.{plain_change, plain_specs, text_inserted, specs_copied}
use Rattle.world_rules.specs.World.{link_address}
use Rattle.tree_world.specs.Standing.{Stands}
use Rattle.tree_world.specs.Changed.{after_change}
use Rattle.tree_world.specs.Undone.{DocumentCame, DocumentEdited, LinkCame, DocumentMarked}
use Rattle.tree_world.proofs.Grown.{entry_grown, still_grown}
use Rattle.tree_world.proofs.world.TreeWorld.change.Goals as goal

pub returns-in-Insert-clause-ok : goal.returns-in-Insert-clause-ok
returns-in-Insert-clause-ok c view stands =
    subst (λ x. OnOk c.insert.result (Stands c.insert.new.self (after_change view c.args.session (plain_change x)))) (sym c.in-Insert.is)
    (subst (λ bytes. OnOk c.insert.result (Stands c.insert.new.self (after_change view c.args.session (text_inserted c.in-Insert.document c.in-Insert.at c.in-Insert.first bytes)))) c.as_slice.ensures (c.insert.ensures.ok view c.args.session stands))

pub returns-in-Delete-clause-ok : goal.returns-in-Delete-clause-ok
returns-in-Delete-clause-ok c view stands = subst (λ x. OnOk c.delete.result (Stands c.delete.new.self (after_change view c.args.session (plain_change x)))) (sym c.in-Delete.is) (c.delete.ensures.ok view c.args.session stands)

pub returns-in-Rearrange-clause-ok : goal.returns-in-Rearrange-clause-ok
returns-in-Rearrange-clause-ok c view stands = subst (λ x. OnOk c.rearrange.result (Stands c.rearrange.new.self (after_change view c.args.session (plain_change x)))) (sym c.in-Rearrange.is) (c.rearrange.ensures.ok view c.args.session stands)

pub returns-in-Copy-clause-ok : goal.returns-in-Copy-clause-ok
returns-in-Copy-clause-ok c view stands =
    subst (λ x. OnOk c.copy.result (Stands c.copy.new.self (after_change view c.args.session (plain_change x)))) (sym c.in-Copy.is)
    (subst (λ specs. OnOk c.copy.result (Stands c.copy.new.self (after_change view c.args.session (specs_copied c.in-Copy.document c.in-Copy.at (plain_specs specs))))) c.as_slice-in-Copy.ensures (c.copy.ensures.ok view c.args.session stands))

pub returns-in-Link-clause-ok : goal.returns-in-Link-clause-ok
returns-in-Link-clause-ok c view stands = subst (λ x. OnOk c.make_link.result (Stands c.make_link.new.self (after_change view c.args.session (plain_change x)))) (sym c.in-Link.is) (c.make_link.ensures.ok view c.args.session stands)

pub returns-in-Publish-clause-ok : goal.returns-in-Publish-clause-ok
returns-in-Publish-clause-ok c view stands = subst (λ x. OnOk c.publish.result (Stands c.publish.new.self (after_change view c.args.session (plain_change x)))) (sym c.in-Publish.is) (c.publish.ensures.ok view c.args.session stands)

pub returns-in-Create-clause-grown : goal.returns-in-Create-clause-grown
returns-in-Create-clause-grown c = entry_grown c.create.result (DocumentCame c.args.session c.in-Create.document) _ _ c.create.ensures.came

pub returns-in-Version-clause-grown : goal.returns-in-Version-clause-grown
returns-in-Version-clause-grown c = entry_grown c.version.result (DocumentCame c.args.session c.in-Version.document) _ _ c.version.ensures.came

pub returns-in-OpenCopy-clause-grown : goal.returns-in-OpenCopy-clause-grown
returns-in-OpenCopy-clause-grown c = entry_grown c.version-in-OpenCopy.result (DocumentCame c.args.session c.in-OpenCopy.document) _ _ c.version-in-OpenCopy.ensures.came

pub returns-in-Insert-clause-grown : goal.returns-in-Insert-clause-grown
returns-in-Insert-clause-grown c = entry_grown c.insert.result (DocumentEdited c.in-Insert.document) _ _ c.insert.ensures.came

pub returns-in-Delete-clause-grown : goal.returns-in-Delete-clause-grown
returns-in-Delete-clause-grown c = entry_grown c.delete.result (DocumentEdited c.in-Delete.document) _ _ c.delete.ensures.came

pub returns-in-Rearrange-clause-grown : goal.returns-in-Rearrange-clause-grown
returns-in-Rearrange-clause-grown c = entry_grown c.rearrange.result (DocumentEdited c.in-Rearrange.document) _ _ c.rearrange.ensures.came

pub returns-in-Copy-clause-grown : goal.returns-in-Copy-clause-grown
returns-in-Copy-clause-grown c = entry_grown c.copy.result (DocumentEdited c.in-Copy.document) _ _ c.copy.ensures.came

pub returns-in-Link-clause-grown : goal.returns-in-Link-clause-grown
returns-in-Link-clause-grown c = entry_grown c.make_link.result (LinkCame c.in-Link.home (link_address c.in-Link.home c.in-Link.number)) _ _ c.make_link.ensures.came

pub returns-in-Publish-clause-grown : goal.returns-in-Publish-clause-grown
returns-in-Publish-clause-grown c = entry_grown c.publish.result (DocumentMarked c.in-Publish.document) _ _ c.publish.ensures.came

pub returns-in_default-clause-grown : goal.returns-in_default-clause-grown
returns-in_default-clause-grown c = still_grown c.change_beside.result _ _ c.change_beside.ensures.nodes
