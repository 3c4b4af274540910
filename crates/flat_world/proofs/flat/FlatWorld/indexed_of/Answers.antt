use Rattle.std.proofs.Common.{◌≡◌, List, ap, map, refl}
use Rattle.tumbler.specs.declared.span.Span.{Span}
use Rattle.tumbler.specs.Span.{end_of}
use Rattle.world_rules.specs.declared.rows.Row.{Row}
use Rattle.world_rules.specs.Picking.{intervals, places_of}
use Rattle.flat_world.proofs.Endings.{picks_indexed}
use Rattle.flat_world.proofs.flat.FlatWorld.indexed_of.Goals as goal

pub returns-clause-value : goal.returns-clause-value
returns-clause-value c =
    let rows : c.as_slice-rows.result.now ≡ c.args.self.now.world.rows = rw (c.as_slice-rows.ensures, ← c.self.view_is) refl in
    let extents : c.as_slice-2.result.now ≡ map (λ (span : Span). record { start = span.start; end = end_of span }) c.args.spec.now.spans.items = rw (c.as_slice-2.ensures, c.in_ok-extents.ensures, c.as_slice.ensures) refl in
    rw (c.copy.ensures, c.in_ok-intervals.ensures.items, c.as_slice-3.ensures, c.in_ok-positions.ensures)
    (ap (λ (picked : List Row). record { document = c.args.spec.now.document; spans = intervals (places_of picked) })
    (picks_indexed c.args.self.now.world c.args.index.now c.args.spec.now c.as_slice-2.result.now c.as_slice-rows.result.now rows extents))
