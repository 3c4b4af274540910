use Rattle.std.proofs.Common.{map, refl, arith}
use Rattle.std.proofs.lemmas.Result.{on_ok_weaker}
use Rattle.febe_data.specs.declared.reply.Item.TheVariants.{Bytes}
use Rattle.febe_data.specs.Plain.{plain_item}
use Rattle.enfilade_core.specs.Rows.{rows_of}
use Rattle.granfilade.specs.Content.{content}
use Rattle.poom.specs.Laid.{texts}
use Rattle.world_rules.proofs.Valid.{tumblers_push}
use Rattle.tree_world.proofs.Retrieved.{item_pushed, none_pushed}
use Rattle.tree_world.proofs.retrieving.push_text.Goals as goal

pub returns-then-to-from-clause-items : goal.returns-then-to-from-clause-items
returns-then-to-from-clause-items c =
    none_pushed (content c.args.contents.now) c.bound-from.result c.bound-to.result c.args.span.now c.add.result c.args.long (texts (rows_of c.args.pooms.now c.args.root.0)) (map plain_item c.args.items.now.items)
    c.add.ensures c.bound-from.ensures c.bound-to.ensures c.requires.long c.if-to-from.true

pub returns-clause-items : goal.returns-clause-items
returns-clause-items c =
    on_ok_weaker c.push.result
    (λ e. item_pushed (content c.args.contents.now) c.bound-from.result c.bound-to.result c.args.span.now c.add.result c.args.long (texts (rows_of c.args.pooms.now c.args.root.0)) c.args.items.now.items c.push.new.self.items (Bytes c.in_ok-text.text) c.in_ok-text.text.items
    c.add.ensures c.bound-from.ensures c.bound-to.ensures c.requires.long (omega (arith, c.if-to-from.false)) c.in_ok-text.ensures refl e) c.push.ensures.ok

pub returns-clause-valid : goal.returns-clause-valid
returns-clause-valid c = on_ok_weaker c.push.result (λ e all. tumblers_push c.args.items.now.items c.push.new.self.items (Bytes c.in_ok-text.text) e tt all) c.push.ensures.ok
