-- A node that is added last, and the branch to it.
use Rattle.std.proofs.Common.{◌≡◌, ◌≢◌, ℕ, ◌<◌, List, [], ◌∷◌, ◌++◌, length, get_or, map, arith, ap, ◌∙◌, sym, subst, append-nil}
use Rattle.std.specs.List.{All}
use Rattle.std.proofs.lemmas.List.{get_or_at, length-append}
use Rattle.tumbler.specs.Places.{IsTumbler, sum}
use Rattle.enfilade_core.specs.declared.tree.Row.{Row}
use Rattle.enfilade_core.specs.declared.tree.Branch.{Branch}
use Rattle.enfilade_core.specs.declared.summary.Summary.{Summary}
use Rattle.enfilade_core.specs.Rows.{Shape, table, moved, rows_in, rows_table, rows_of}
use Rattle.enfilade_core.specs.Axes.{Widths, first_axis, second_axis, WidthsStay, IsWellFormedRow}
use Rattle.enfilade_core.specs.WellFormed.{origins_in, AreWellFormed}
use Rattle.enfilade_core.specs.Summary.{summary_in, summary_of, no_summary, kept}
use Rattle.enfilade_core.specs.Exchange.{Grows}
use Rattle.enfilade_core.specs.Packing.{MayStandAt, IsPlaced}
use Rattle.enfilade_core.proofs.Tables.{length-table, table-push}
use Rattle.enfilade_core.proofs.Told.{tells}

-- what a table says of the last node
pub said-last : {L T : Type 0} (say : List T → Shape L → T) (old new : List (Shape L)) (node : Shape L) (k : ℕ) (d : T) → new ≡ old ++ node ∷ [] → k ≡ length old → get_or (table say new) k d ≡ say (table say old) node
said-last say old new node k d is at =
    ap (λ (ns : _). get_or (table say ns) k d) is ∙ ap (λ (told : _). get_or told k d) (table-push say old node) ∙ get_or_at (table say old) (say (table say old) node) [] d k (length-table say old ∙ sym at)

pub below-last : {L : Type 0} (old new : List (Shape L)) (node : Shape L) (k : ℕ) → new ≡ old ++ node ∷ [] → k ≡ length old → k < length new
below-last old new node k is at = omega (arith, ap length is, length-append old (node ∷ []))

pub grows-one : {L : Type 0} (old new : List (Shape L)) (node : Shape L) → new ≡ old ++ node ∷ [] → Grows old new
grows-one old new node is = record { more = node ∷ []; is = is }

pub grows-none : {L : Type 0} (old new : List (Shape L)) → new ≡ old → Grows old new
grows-none old new is = record { more = []; is = is ∙ sym (append-nil old) }

pub placed-last : {L : Type 0} (w : Widths L) → WidthsStay w → (old new : List (Shape L)) (node : Shape L) (a b : List ℕ) (branch : Branch) (s : Summary) → new ≡ old ++ node ∷ [] → branch.node.0 ≡ length old → AreWellFormed w new → s ≡ kept (summary_of w new branch.node.0)
    → branch.first ≡ a → branch.second ≡ b → branch.first_extent ≡ s.first_extent → branch.second_extent ≡ s.second_extent → MayStandAt w old node a b → IsPlaced w old new node a b branch
placed-last {L} w stay old new node a b branch s is at well_formed told_is first second e1 e2 may =
    let k = branch.node.0 in
    let lt : k < length new = below-last old new node k is at in
    let told = tells w stay new well_formed k lt in
    let rows : rows_of new k ≡ rows_in (rows_table old) node = said-last rows_in old new node k [] is at in
    let o1 = said-last (origins_in (first_axis w)) old new node k [] is at in
    let o2 = said-last (origins_in (second_axis w)) old new node k [] is at in
    let may = subst (λ (x : List ℕ). MayStandAt w old node x b) (sym first) may in
    let may = subst (λ (x : List ℕ). MayStandAt w old node branch.first x) (sym second) may in
    record {
      part = record {
        branch = record {
          below = lt;
          filled = subst (λ (rs : List (Row L)). rs ≢ []) (sym rows) may.filled;
          first_extent = e1 ∙ ap (λ (x : Summary). x.first_extent) told_is ∙ told.first_extent;
          second_extent = e2 ∙ ap (λ (x : Summary). x.second_extent) told_is ∙ told.second_extent;
        };
        first_origins = subst (λ (os : List (List ℕ)). All IsTumbler (branch.first ∷ map (sum branch.first) os)) (sym o1) may.first_origins;
        second_origins = subst (λ (os : List (List ℕ)). All IsTumbler (branch.second ∷ map (sum branch.second) os)) (sym o2) may.second_origins;
        rows = subst (λ (rs : List (Row L)). All (IsWellFormedRow w) (map (moved branch.first branch.second) rs)) (sym rows) may.rows;
      };
      rows = ap (map (moved branch.first branch.second)) rows ∙ ap (λ (x : List ℕ). map (moved x branch.second) (rows_in (rows_table old) node)) first ∙ ap (λ (x : List ℕ). map (moved a x) (rows_in (rows_table old) node)) second;
      level = ap (λ (x : Summary). x.height) (said-last (summary_in w) old new node k no_summary is at);
    }
