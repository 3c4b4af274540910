use Rattle.std.proofs.Common.{◌≡◌, ◌+◌, ◌*◌, ◌≤◌, ◌++◌, length, take}
use Rattle.std.specs.List.{flat_map}
use Rattle.disk_fields.specs.Format.{u32_bytes}
use Rattle.disk_fields.proofs.writing.append_each_number.Given as goal

abbrev pub invariant-loop-number : goal.invariant-loop-number
invariant-loop-number l = record {
  made : l.out.items ≡ l.initial.out.items ++ flat_map u32_bytes (take l.number-index l.numbers);
  room : 4 * length l.numbers ≤ l.out.spare + 4 * l.number-index;
}
