use Rattle.std.proofs.Common.{take}
use Rattle.std.specs.List.{flat_map}
use Rattle.world_rules.specs.Picking.{picked_text, addresses_of}
use Rattle.flat_world.specs.inside.ByteIndex.{WantsMore}
use Rattle.flat_world.proofs.flat.FlatWorld.want_spec.Given as goal

abbrev pub invariant-loop-span : goal.invariant-loop-span
invariant-loop-span l = WantsMore (flat_map (λ span. addresses_of (picked_text l.self.world l.spec.document span)) (take l.span-index l.spec.spans.items)) l.initial.index l.index
