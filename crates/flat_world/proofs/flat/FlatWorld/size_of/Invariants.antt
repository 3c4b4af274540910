use Rattle.std.proofs.Common.{◌≡◌, take, min, map}
use Rattle.febe_data.specs.Plain.{plain_spec}
use Rattle.world_rules.specs.Refusals.{span_bytes, span_items, total_of}
use Rattle.flat_world.proofs.flat.FlatWorld.size_of.Given as goal

abbrev pub invariant-loop-spec : goal.invariant-loop-spec
invariant-loop-spec l =
    (l.bytes ≡ min (total_of (span_bytes l.self.world) (map plain_spec (take l.spec-index l.specs))) 18446744073709551615)
    × (l.items ≡ min (total_of (span_items l.self.world) (map plain_spec (take l.spec-index l.specs))) 18446744073709551615)
