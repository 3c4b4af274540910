use Rattle.std.proofs.Common.{◌≡◌, ◌+◌, [], take}
use Rattle.std.specs.List.{flat_map}
use Rattle.spanfilade.specs.Index.{rows_in_index}
use Rattle.spanfilade.specs.Keys.{with_keys, count_met}
use Rattle.spanfilade.proofs.KeysMet.{met_keys}
use Rattle.spanfilade.proofs.spanfilade.Spanfilade.keys_meeting_up_to.Given as goal

abbrev pub invariant-loop-span : goal.invariant-loop-span
invariant-loop-span l = (l.keys.keys ≡ with_keys [] (flat_map (met_keys (rows_in_index l.self)) (take l.span-index l.span-items))) × (l.limit ≡ l.left + count_met (take l.span-index l.span-items) (rows_in_index l.self))
