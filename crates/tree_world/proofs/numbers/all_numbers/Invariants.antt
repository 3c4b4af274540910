use Rattle.std.proofs.Common.{◌≡◌, ℕ, All, take}
use Rattle.std.specs.List.{list_any}
use Rattle.poom_compare.specs.Placed.{is_in_some, IsInterval}
use Rattle.tree_world.specs.inside.InEnds.{names_number}
use Rattle.tree_world.proofs.numbers.all_numbers.Given as goal

abbrev pub invariant-loop-span : goal.invariant-loop-span
invariant-loop-span l = All (IsInterval 4294967295) l.made.items × ((m : ℕ) → is_in_some l.made.items m ≡ list_any (λ span. names_number span m) (take l.span-index l.spans))
