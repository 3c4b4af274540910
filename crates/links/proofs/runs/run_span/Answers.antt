use Rattle.world_rules.specs.World.{content_address}
use Rattle.links.proofs.RunPlaces.{run_fits_at, ok_value}
use Rattle.links.proofs.JoinedEnds.{run_wide_at}
use Rattle.links.proofs.runs.run_span.Goals as goal

pub returns-clause-fits : goal.returns-clause-fits
returns-clause-fits c =
    run_fits_at c.args.run.now c.unwrap-start.result c.places.result.now c.width-width.result c.requires
    (ok_value c.extended.result c.unwrap-start.result (content_address c.args.run.now.content c.args.run.now.first) c.unwrap-start.ensures c.extended.ensures.value) c.places.ensures.value c.width-width.ensures

pub returns-clause-wide : goal.returns-clause-wide
returns-clause-wide c =
    run_wide_at c.args.run.now c.unwrap-start.result c.places.result.now c.width-width.result c.requires
    (ok_value c.extended.result c.unwrap-start.result (content_address c.args.run.now.content c.args.run.now.first) c.unwrap-start.ensures c.extended.ensures.value) c.places.ensures.value c.width-width.ensures
