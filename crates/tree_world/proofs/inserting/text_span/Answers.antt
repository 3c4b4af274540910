use Rattle.world_rules.specs.World.{content_address}
use Rattle.links.proofs.RunPlaces.{ok_value}
use Rattle.tree_world.proofs.BytesCome.{text_fits}
use Rattle.tree_world.proofs.inserting.text_span.Goals as goal

pub returns-clause-fits : goal.returns-clause-fits
returns-clause-fits c =
    text_fits c.args.document.now c.args.first c.args.count c.unwrap-start.result c.places.result.now c.width-width.result c.requires.document c.requires.first c.requires.numbers
    (ok_value c.extended.result c.unwrap-start.result (content_address c.args.document.now c.args.first) c.unwrap-start.ensures c.extended.ensures.value) c.places.ensures.value c.width-width.ensures
