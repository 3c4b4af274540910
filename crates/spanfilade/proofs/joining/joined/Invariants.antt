use Rattle.std.proofs.Common.{◌≡◌, ℕ, List, take}
use Rattle.enfilade_core.specs.declared.tree.Row.{Row}
use Rattle.spanfilade.specs.Keys.{is_met_by}
use Rattle.spanfilade.proofs.ApartSpans.{AreJoinedUpTo}
use Rattle.spanfilade.proofs.joining.joined.Given as goal

abbrev pub invariant-loop-span : goal.invariant-loop-span
invariant-loop-span l = AreJoinedUpTo (take l.span-index l.span-items) l.made.items × ((row : Row (List ℕ)) → is_met_by l.made.items row ≡ is_met_by (take l.span-index l.span-items) row)
