use Rattle.std.proofs.Common.{◌≡◌, ◌<◌, ◌++◌, length, take, All}
use Rattle.std.specs.List.Sorted.{IsPermutation}
use Rattle.enfilade_core.specs.Rows.{rows_of}
use Rattle.enfilade_core.specs.Summary.{depth_of}
use Rattle.enfilade_core.specs.Exchange.{Grows}
use Rattle.enfilade_core.specs.Edits.{KeepsRows}
use Rattle.enfilade_core.specs.Axes.{IsWellFormedRow}
use Rattle.enfilade_core.specs.Planes.{key_widths}
use Rattle.spanfilade.specs.Index.{rows_for}
use Rattle.spanfilade.specs.Groups.{FitsAsGroup}
use Rattle.spanfilade.proofs.groups.put_all.Given as goal

abbrev pub invariant-loop-span : goal.invariant-loop-span
invariant-loop-span l =
    (l.root.0 < length l.arena)
    × Grows l.fn.arena l.arena
    × KeepsRows l.fn.arena l.arena
    × All (IsWellFormedRow key_widths) l.group.items
    × FitsAsGroup l.group.items (rows_of l.arena l.root.0)
    × IsPermutation (rows_for (take l.span-index l.spans) l.key ++ rows_of l.fn.arena l.fn.root.0) (l.group.items ++ rows_of l.arena l.root.0)
    × (depth_of key_widths l.arena l.root.0 ≡ depth_of key_widths l.fn.arena l.fn.root.0)
