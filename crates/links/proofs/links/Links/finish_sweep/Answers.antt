use Rattle.std.proofs.Common.{sym, subst}
use Rattle.std.specs.List.{flat_map}
use Rattle.std.specs.List.Sorted.{IsPermutation}
use Rattle.links.specs.LinkLists.{rows_at}
use Rattle.links.proofs.links.Links.finish_sweep.Goals as goal

pub invariant_of-self : goal.invariant_of-self
invariant_of-self c = (
  c.self.invariant.0,
  subst (IsPermutation (flat_map (rows_at 1) c.self.inside.table)) (sym c.finish_sweep.ensures.rows) c.self.invariant.1,
  subst (IsPermutation (flat_map (rows_at 2) c.self.inside.table)) (sym c.finish_sweep-2.ensures.rows) c.self.invariant.2,
  subst (IsPermutation (flat_map (rows_at 3) c.self.inside.table)) (sym c.finish_sweep-3.ensures.rows) c.self.invariant.3,
)
