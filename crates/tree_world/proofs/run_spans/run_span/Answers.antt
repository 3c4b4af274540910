use Rattle.world_rules.specs.World.{content_address}
use Rattle.links.proofs.RunPlaces.{run_fits_at, ok_value}
use Rattle.tree_world.proofs.Runs.{is_run}
use Rattle.tree_world.proofs.run_spans.run_span.Goals as goal

pub returns-clause-fits : goal.returns-clause-fits
returns-clause-fits c =
    run_fits_at c.args.run.now c.unwrap-start.result c.places.result.now c.width-width.result (is_run c.args.run.now c.requires)
    (ok_value c.extended.result c.unwrap-start.result (content_address c.args.run.now.content c.args.run.now.first) c.unwrap-start.ensures c.extended.ensures.value) c.places.ensures.value c.width-width.ensures
