use Rattle.links.proofs.Changed.{place_fits}
use Rattle.links.proofs.Searched.{dropped_shows}
use Rattle.links.proofs.table.Table.not_before.Goals as goal

pub returns : goal.returns
returns c =
    dropped_shows c.args.id.now c.self.inside.links.items c.as_slice-links.result.now c.split_at.result.1.now c.place-at.result c.args.self.now c.self.invariant.1 c.as_slice-links.ensures.value c.place-at.ensures c.split_at.ensures.back c.self.view_is

pub split_at-requires : goal.split_at-requires
split_at-requires c = place_fits c.args.id.now c.as_slice-links.result.now c.place-at.result c.place-at.ensures
