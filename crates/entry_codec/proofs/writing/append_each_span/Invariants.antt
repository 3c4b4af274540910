use Rattle.std.proofs.Common.{◌≡◌, ◌++◌, take}
use Rattle.std.specs.List.{flat_map}
use Rattle.entry_codec.specs.Format.{span_bytes}
use Rattle.entry_codec.proofs.writing.append_each_span.Given as goal

abbrev pub invariant-loop-span : goal.invariant-loop-span
invariant-loop-span l = l.out.items ≡ l.initial.out.items ++ flat_map span_bytes (take l.span-index l.spans)
