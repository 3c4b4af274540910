-- What is kept of a well formed part can be moved to where the part stands.
use Rattle.std.proofs.Common.{◌≡◌, List, [], get_or, map}
use Rattle.std.proofs.lemmas.List.Elements.{All-head}
use Rattle.tumbler.specs.Places.{IsTumbler, Fits, sum}
use Rattle.enfilade_core.specs.declared.tree.Branch.{Branch}
use Rattle.enfilade_core.specs.declared.summary.Summary.{Summary}
use Rattle.enfilade_core.specs.Rows.{Shape}
use Rattle.enfilade_core.specs.Axes.{Widths, WidthsStay, first_axis, second_axis}
use Rattle.enfilade_core.specs.WellFormed.{AreWellFormed, IsWellFormedPart, origins_table}
use Rattle.enfilade_core.specs.Summary.{summary_of, kept}
use Rattle.enfilade_core.proofs.BranchTests.{tested, moves-there}

pub record PartMoves (part : Branch) (s : Summary) : Type 0 where
  pub first : Fits part.first s.first
  pub last : Fits part.first s.last
  pub first_extent : Fits part.first s.first_extent
  pub second_extent : Fits part.second s.second_extent

pub part_moves : {L : Type 0} (w : Widths L) → WidthsStay w → (nodes : List (Shape L)) → AreWellFormed w nodes → (part : Branch) (s : Summary) → s ≡ kept (summary_of w nodes part.node.0) → IsWellFormedPart w nodes part → PartMoves part s
part_moves w stay nodes well_formed part s told p =
    let t = tested w stay nodes well_formed part s told p in
    let o1 = get_or (origins_table (first_axis w) nodes) part.node.0 [] in
    let o2 = get_or (origins_table (second_axis w) nodes) part.node.0 [] in
    let m = moves-there w stay nodes well_formed part.node.0 part.first part.second s told p.branch.below
    (All-head IsTumbler part.first (map (sum part.first) o1) p.first_origins) (All-head IsTumbler part.second (map (sum part.second) o2) p.second_origins) t.first_room t.second_room in
    record { first = m.first; last = m.last; first_extent = m.first_extent; second_extent = m.second_extent }
