use Rattle.std.proofs.Common.{rules, map}
use Rattle.std.proofs.lemmas.Result.{on_ok_weaker}
use Rattle.febe_data.specs.Plain.{plain_item}
use Rattle.flat_world.proofs.Retrieved.{span_is}
use Rattle.flat_world.proofs.flat.FlatWorld.push_span.Goals as goal

pub returns-clause-items : goal.returns-clause-items
returns-clause-items c =
    on_ok_weaker c.push_links.result
    (λ links. span_is c.args.self.now.world c.args.document.now c.args.span.now c.args.index.now c.as_slice-rows.result.now c.add-end.result
    (map plain_item c.args.items.now.items) (map plain_item c.push_text.new.items.items) (map plain_item c.push_links.new.items.items)
    (search rules) c.add-end.ensures c.requires.indexed c.in_ok-push_text.ensures.items links)
    c.push_links.ensures.items

pub returns-clause-valid : goal.returns-clause-valid
returns-clause-valid c = on_ok_weaker c.push_links.result (λ links all. links (c.in_ok-push_text.ensures.valid all)) c.push_links.ensures.valid
