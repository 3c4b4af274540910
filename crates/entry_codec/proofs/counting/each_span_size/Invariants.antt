use Rattle.std.proofs.Common.{◌≡◌, ◌*◌, ◌≤◌, length, take}
use Rattle.std.specs.List.{flat_map}
use Rattle.entry_codec.specs.Format.{span_bytes}
use Rattle.entry_codec.proofs.counting.each_span_size.Given as goal

abbrev pub invariant-loop-span : goal.invariant-loop-span
invariant-loop-span l = record {
  so_far : l.size ≡ length (flat_map span_bytes (take l.span-index l.spans));
  few : l.size ≤ 194 * l.span-index;
}
