use Rattle.std.proofs.Common.{◌≡◌, ◌<◌, rules, length, get_or}
use Rattle.std.specs.List.{flat_map}
use Rattle.tumbler.specs.declared.span.Span.{Span}
use Rattle.world_rules.specs.Picking.{picked_text, addresses_of}
use Rattle.flat_world.proofs.ByteIndexes.{wants_at, wants_all}
use Rattle.flat_world.proofs.flat.FlatWorld.want_spec.Goals as goal

pub loop-span-preserved : goal.loop-span-preserved
loop-span-preserved c =
    let spans = c.args.spec.now.spans.items in
    let i = c.loop-span.span-index in
    let lt : i < length spans = search rules in
    let here : c.span-item.result ≡ get_or spans i c.span-item.result = search rules in
    wants_at (λ span. addresses_of (picked_text c.args.self.now.world c.args.spec.now.document span)) spans i c.span-item.result c.args.index.now c.loop-span.index c.want_span.new.index lt here c.loop-span.invariant c.in_ok-want_span.ensures

pub returns : goal.returns
returns c =
    let picked = λ (span : Span). addresses_of (picked_text c.args.self.now.world c.args.spec.now.document span) in
    wants_all (flat_map picked) c.args.spec.now.spans.items c.loop-span.span-index c.args.index.now c.loop-span.index (search rules) c.loop-span.invariant
