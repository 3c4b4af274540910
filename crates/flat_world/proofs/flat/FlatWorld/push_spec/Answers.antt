use Rattle.std.proofs.Common.{◌≡◌, ◌<◌, rules, length, get_or}
use Rattle.tumbler.specs.declared.span.Span.{Span}
use Rattle.world_rules.specs.Picking.{picked_text, addresses_of}
use Rattle.flat_world.specs.inside.ByteIndex.{HasByteAt}
use Rattle.flat_world.proofs.ByteIndexes.{all_at}
use Rattle.flat_world.proofs.flat.FlatWorld.push_spec.Goals as goal

pub push_span-requires-clause-indexed : goal.push_span-requires-clause-indexed
push_span-requires-clause-indexed c =
    let world = c.args.self.now.world in
    let spans = c.args.spec.now.spans.items in
    let i = c.loop-span.span-index in
    let lt : i < length spans = search rules in
    let here : c.span-item.result ≡ get_or spans i c.span-item.result = search rules in
    all_at (HasByteAt world.bytes c.args.index.now) (λ (span : Span). addresses_of (picked_text world c.args.spec.now.document span)) spans i c.span-item.result lt here c.requires.indexed
