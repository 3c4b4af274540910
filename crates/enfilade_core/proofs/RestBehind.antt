-- The children of a node behind a gap: what is given of them, and what comes of them.
use Rattle.std.proofs.Common.{◌≡◌, ℕ, ◌<◌, ◌≤◌, not, List, [], ◌++◌, length, take, drop, map, arith, ap, ◌∙◌, sym, subst}
use Rattle.std.specs.List.{All}
use Rattle.std.proofs.lemmas.List.{map-append, drop-map, drop_all, length-map}
use Rattle.std.proofs.lemmas.List.Elements.{filter-append, All-nil, All-drop}
use Rattle.tumbler.specs.Places.{comes_before}
use Rattle.tumbler.proofs.Alls.{All-back}
use Rattle.enfilade_core.specs.declared.tree.Row.{Row}
use Rattle.enfilade_core.specs.declared.tree.Branch.{Branch}
use Rattle.enfilade_core.specs.declared.gap.Gap.{Gap}
use Rattle.enfilade_core.specs.Rows.{Shape, Branches, moved, rows_in, rows_table, rows_of, node_at, branches_under}
use Rattle.enfilade_core.specs.Axes.{Widths, IsWellFormedRow, IsWellFormedRows}
use Rattle.enfilade_core.specs.WellFormed.{IsWellFormed, IsWellFormedPart, AreWellFormed}
use Rattle.enfilade_core.specs.Edits.{shift_row, shifted}
use Rattle.enfilade_core.specs.Exchange.{exchanged, rows_before, rows_past, IsWellFormedAt, branch_at}
use Rattle.enfilade_core.specs.Touched.{branches_at, StandPast, EndsBoth, IsRest, IsBehind}
use Rattle.enfilade_core.proofs.Nodes.{node-parts}
use Rattle.enfilade_core.proofs.ExchangeLists.{NoneBefore, past-all}
use Rattle.enfilade_core.proofs.ExchangeGrown.{flat_rows}
use Rattle.enfilade_core.proofs.SeenPlaces.{past-there}
use Rattle.enfilade_core.proofs.SeenMoved.{rest-none}
use Rattle.enfilade_core.proofs.TouchedRows.{flat-split, opened-under, ends-both}

-- what is known where branches behind a number are looked at
pub record BehindAt {L : Type 0} (w : Widths L) (nodes : List (Shape L)) (gap : Gap) (a b : List ℕ) (branches : List Branch) (front behind : ℕ) (past : List Branch) : Type 0 where
  pub well_formed : IsWellFormed w nodes (Branches branches)
  pub opened : IsWellFormed w nodes (Branches (branches_at a b branches))
  pub rows : All (IsWellFormedRow w) (shifted gap.to gap.onto (rows_past gap.to (flat_rows nodes (branches_at a b branches))))
  pub some : front < behind
  pub short : behind ≤ length branches
  pub stand : StandPast nodes gap.to a (drop behind branches)
  pub past_is : past ≡ drop behind branches

-- they are the last ones, moved
same-behind : (a b : List ℕ) (branches past : List Branch) (n : ℕ) → past ≡ drop n branches → drop n (branches_at a b branches) ≡ branches_at a b past
same-behind a b branches past n is = drop-map (branch_at a b) n branches ∙ ap (branches_at a b) (sym is)

pub behind-parts : {L : Type 0} (w : Widths L) (nodes : List (Shape L)) (gap : Gap) (a b : List ℕ) (branches : List Branch) (front n : ℕ) (past : List Branch) → BehindAt w nodes gap a b branches front n past → All (IsWellFormedPart w nodes) (branches_at a b past)
behind-parts w nodes gap a b branches front n past at =
    subst (All (IsWellFormedPart w nodes)) (same-behind a b branches past n at.past_is) (All-drop (IsWellFormedPart w nodes) n (branches_at a b branches) (node-parts w nodes (branches_at a b branches) at.opened))

pub behind-ends : {L : Type 0} (w : Widths L) (nodes : List (Shape L)) (gap : Gap) (a b : List ℕ) (branches : List Branch) (front n : ℕ) (past : List Branch) → BehindAt w nodes gap a b branches front n past → All EndsBoth past
behind-ends w nodes gap a b branches front n past at = subst (All EndsBoth) (sym at.past_is) (All-drop EndsBoth n branches (ends-both w nodes branches at.well_formed))

behind-there : {L : Type 0} (w : Widths L) (nodes : List (Shape L)) (gap : Gap) (a b : List ℕ) (branches : List Branch) (front n : ℕ) (past : List Branch) → BehindAt w nodes gap a b branches front n past → NoneBefore gap.to (flat_rows nodes (drop n (branches_at a b branches)))
behind-there w nodes gap a b branches front n past at = past-there nodes gap.to a b n branches at.stand

pub behind-past : {L : Type 0} (w : Widths L) (nodes : List (Shape L)) (gap : Gap) (a b : List ℕ) (branches : List Branch) (front n : ℕ) (past : List Branch) → BehindAt w nodes gap a b branches front n past → NoneBefore gap.to (flat_rows nodes (branches_at a b past))
behind-past w nodes gap a b branches front n past at =
    subst (λ (bs : List Branch). NoneBefore gap.to (flat_rows nodes bs)) (same-behind a b branches past n at.past_is) (behind-there w nodes gap a b branches front n past at)

pub behind-rows : {L : Type 0} (w : Widths L) (nodes : List (Shape L)) (gap : Gap) (a b : List ℕ) (branches : List Branch) (front n : ℕ) (past : List Branch) → BehindAt w nodes gap a b branches front n past → All (IsWellFormedRow w) (shifted gap.to gap.onto (flat_rows nodes (branches_at a b past)))
behind-rows {L} w nodes gap a b branches front n past at =
    let seen = branches_at a b branches in
    let one = flat_rows nodes (take n seen) in
    let two = flat_rows nodes (drop n seen) in
    let whole : shifted gap.to gap.onto (rows_past gap.to (flat_rows nodes seen)) ≡ shifted gap.to gap.onto (rows_past gap.to one) ++ shifted gap.to gap.onto two =
    ap (λ (r : List (Row L)). shifted gap.to gap.onto (rows_past gap.to r)) (flat-split nodes n seen)
    ∙ ap (shifted gap.to gap.onto) (filter-append (λ row. not (comes_before row.first gap.to)) one two ∙ ap (λ (r : List (Row L)). rows_past gap.to one ++ r) (past-all gap.to two (behind-there w nodes gap a b branches front n past at)))
    ∙ map-append (shift_row gap.to gap.onto) (rows_past gap.to one) two in
    subst (λ (bs : List Branch). All (IsWellFormedRow w) (shifted gap.to gap.onto (flat_rows nodes bs))) (same-behind a b branches past n at.past_is)
    (All-back (IsWellFormedRow w) (shifted gap.to gap.onto (rows_past gap.to one)) (shifted gap.to gap.onto two) (subst (All (IsWellFormedRow w)) whole at.rows))

-- what came of them
pub behind-found : {L : Type 0} (w : Widths L) (nodes : List (Shape L)) (gap : Gap) (a b : List ℕ) (branches : List Branch) (front n : ℕ) (past rest : List Branch) → BehindAt w nodes gap a b branches front n past → IsRest w nodes gap a b (branches_at a b past) rest
    → IsBehind w nodes gap a b (branches_at a b branches) front n rest
behind-found w nodes gap a b branches front n past rest at found = record {
  some = at.some;
  short = omega (arith, at.short, length-map branches (branch_at a b));
  past = behind-there w nodes gap a b branches front n past at;
  rest = subst (λ (bs : List Branch). IsRest w nodes gap a b bs rest) (sym (same-behind a b branches past n at.past_is)) found;
}

-- or none is left behind
pub behind-none : {L : Type 0} (w : Widths L) (nodes : List (Shape L)) (gap : Gap) (a b : List ℕ) (branches : List Branch) (front n : ℕ) (rest : List Branch) → front < length branches → n ≡ length branches → rest ≡ [] → IsBehind w nodes gap a b (branches_at a b branches) front n rest
behind-none {L} w nodes gap a b branches front n rest some is empty =
    let long = length-map branches (branch_at a b) in
    let none : drop n (branches_at a b branches) ≡ [] = drop_all n (branches_at a b branches) (omega (arith, is, long)) in
    record {
      some = omega (arith, some, is);
      short = omega (arith, is, long);
      past = subst (λ (bs : List Branch). NoneBefore gap.to (flat_rows nodes bs)) (sym none) (All-nil (λ (r : Row L). comes_before r.first gap.to ≡ _));
      rest = rest-none w nodes gap a b (drop n (branches_at a b branches)) rest none empty;
    }

-- ---- what is given of a node

-- the rows that an exchange moves are well formed where they come to stand
pub moved-well_formed : {L : Type 0} (w : Widths L) (gap : Gap) (new rows : List (Row L)) → IsWellFormedRows w (exchanged gap new rows) → All (IsWellFormedRow w) (shifted gap.to gap.onto (rows_past gap.to rows))
moved-well_formed w gap new rows well_formed = All-back (IsWellFormedRow w) (rows_before gap.from rows ++ new) (shifted gap.to gap.onto (rows_past gap.to rows)) well_formed.each

pub rows-opened : {L : Type 0} (w : Widths L) (nodes : List (Shape L)) (gap : Gap) (k : ℕ) (a b : List ℕ) (under : List Branch) → AreWellFormed w nodes → IsWellFormedAt w nodes k a b → node_at nodes k ≡ Branches (branches_under (node_at nodes k)) → under ≡ branches_under (node_at nodes k)
    → All (IsWellFormedRow w) (shifted gap.to gap.onto (rows_past gap.to (map (moved a b) (rows_of nodes k)))) → All (IsWellFormedRow w) (shifted gap.to gap.onto (rows_past gap.to (rows_in (rows_table nodes) (Branches (branches_at a b under)))))
rows-opened {L} w nodes gap k a b under well_formed at inner is h =
    subst (λ (bs : List Branch). All (IsWellFormedRow w) (shifted gap.to gap.onto (rows_past gap.to (rows_in (rows_table nodes) (Branches (branches_at a b bs)))))) (sym is)
    (subst (λ (r : List (Row L)). All (IsWellFormedRow w) (shifted gap.to gap.onto (rows_past gap.to r))) (sym (opened-under w nodes k a b well_formed at inner).rows) h)
