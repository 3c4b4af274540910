-- New roots, and what an exchange makes of a tree.
use Rattle.std.proofs.Common.{◌≡◌, ◌≢◌, ℕ, ◌<◌, ◌==◌, true, false, List, [], ◌∷◌, ◌++◌, length, get_or, map, refl, arith, ap, ◌∙◌, sym, subst}
use Rattle.std.specs.Prelude.{Result, Ok, Err, IfOk, OnOk, OnErr}
use Rattle.std.specs.List.{All}
use Rattle.enfilade_core.specs.declared.tree.Node.{Node}
use Rattle.std.proofs.lemmas.Bool.Decides.{nat_tests}
use Rattle.std.proofs.lemmas.List.{length-append, get_or_at, append_assoc, append-nil}
use Rattle.tumbler.specs.Places.{IsTumbler, sum}
use Rattle.tumbler.proofs.Sums.{sum-from_zero}
use Rattle.enfilade_core.specs.declared.tree.Row.{Row}
use Rattle.enfilade_core.specs.declared.tree.Children.{Children}
use Rattle.enfilade_core.specs.declared.tree.Children.TheVariants.{Bottom, Inner}
use Rattle.enfilade_core.specs.declared.gap.Gap.{Gap}
use Rattle.enfilade_core.specs.Rows.{Shape, Rows, Branches, moved, rows_in, rows_table, rows_of}
use Rattle.enfilade_core.specs.Axes.{Widths, first_axis, second_axis, IsWellFormedRow, IsWellFormedRows}
use Rattle.enfilade_core.specs.WellFormed.{origins_table, IsWellFormed, AreWellFormed}
use Rattle.enfilade_core.specs.Plain.{shape, children_count}
use Rattle.enfilade_core.specs.Edits.{KeepsRows}
use Rattle.enfilade_core.specs.declared.summary.Summary.{Summary}
use Rattle.enfilade_core.specs.Summary.{summary_in, no_summary, height_of}
use Rattle.enfilade_core.proofs.PackedNode.{said-last}
use Rattle.enfilade_core.specs.Exchange.{height_in, exchanged, IsWellFormedAt, Grows, MayHaveChildren, MayBeRoot}
use Rattle.enfilade_core.proofs.Tables.{table-push, length-table}
use Rattle.enfilade_core.proofs.Parts.{keeps_rows, rows-well_formed, origins-well_formed}
use Rattle.enfilade_core.proofs.Seen.{rows-not_moved}

-- ---- nodes that came in

pub grows_none : {L : Type 0} (nodes : List (Shape L)) → Grows nodes nodes
grows_none nodes = record { more = []; is = sym (append-nil nodes) }

pub grows_push : {L : Type 0} (old new : List (Shape L)) (node : Shape L) → new ≡ old ++ node ∷ [] → Grows old new
grows_push old new node is = record { more = node ∷ []; is = is }

pub grows_twice : {L : Type 0} (a b c : List (Shape L)) → Grows a b → Grows b c → Grows a c
grows_twice a b c f g = record { more = f.more ++ g.more; is = g.is ∙ ap (λ (xs : List (Shape _)). xs ++ g.more) f.is ∙ append_assoc a f.more g.more }

pub grows_keeps : {L : Type 0} (old new : List (Shape L)) → Grows old new → KeepsRows old new
grows_keeps old new g = subst (KeepsRows old) (sym g.is) (keeps_rows old g.more)

-- ---- a new root

rows_added : {L : Type 0} (nodes new : List (Shape L)) (node : Shape L) (k : ℕ) → new ≡ nodes ++ node ∷ [] → k ≡ length nodes → rows_of new k ≡ rows_in (rows_table nodes) node
rows_added nodes new node k is at =
    ap (λ (ns : List (Shape _)). rows_of ns k) is
    ∙ ap (λ (t : List (List (Row _))). get_or t k []) (table-push rows_in nodes node)
    ∙ get_or_at (rows_table nodes) (rows_in (rows_table nodes) node) [] [] k (length-table rows_in nodes ∙ sym at)

pub record IsRooted {L : Type 0} (nodes new : List (Shape L)) (node : Shape L) (k : ℕ) : Type 0 where
  pub grows : Grows nodes new
  pub below : k < length new
  pub rows : rows_of new k ≡ rows_in (rows_table nodes) node

pub rooted : {L : Type 0} (nodes new : List (Shape L)) (node : Shape L) (k : ℕ) → new ≡ nodes ++ node ∷ [] → k ≡ length nodes → IsRooted nodes new node k
rooted nodes new node k is at = record {
  grows = grows_push nodes new node is;
  below = subst (λ (ns : List (Shape _)). k < length ns) (sym is) (omega (arith, length-append nodes (node ∷ []), at));
  rows = rows_added nodes new node k is at;
}

pub root_if_some : {L : Type 0} (plain : L → L) (w : Widths L) (nodes : List (Shape L)) (children : Children L) → (children_count children == 0) ≡ false → MayBeRoot w nodes (shape plain children) → IsWellFormed w nodes (shape plain children)
root_if_some plain w nodes (Bottom rows) some may = may
root_if_some plain w nodes (Inner branches) some may = inner branches.items some may
  where
    inner : (bs : List _) → (length bs == 0) ≡ false → MayBeRoot w nodes (Branches bs) → IsWellFormed w nodes (Branches bs)
    inner [] some may = absurd (grind (arith, nat_tests))
    inner (b ∷ bs) some may = may

pub rows_if_none : {L : Type 0} (plain : L → L) (told : List (List (Row L))) (children : Children L) → (children_count children == 0) ≡ true → rows_in told (shape plain children) ≡ []
rows_if_none plain told (Bottom rows) none = bottom rows.items none
  where
    bottom : (rs : List (Row _)) → (length rs == 0) ≡ true → rows_in told (shape plain (Bottom (record rows { items = rs }))) ≡ []
    bottom [] none = refl
    bottom (r ∷ rs) none = absurd (grind (arith, nat_tests))
rows_if_none plain told (Inner branches) none = inner branches.items none
  where
    inner : (bs : List _) → (length bs == 0) ≡ true → rows_in told (Branches bs) ≡ []
    inner [] none = refl
    inner (b ∷ bs) none = absurd (grind (arith, nat_tests))

-- ---- a tree seen from its root

not_moved : (places : List (List ℕ)) → map (sum []) places ≡ places
not_moved [] = refl
not_moved (p ∷ places) = ap (λ (x : List ℕ). x ∷ map (sum []) places) (sum-from_zero p) ∙ ap (λ (ps : List (List ℕ)). p ∷ ps) (not_moved places)

pub at_root : {L : Type 0} (w : Widths L) (nodes : List (Shape L)) (k : ℕ) (a b : List ℕ) → a ≡ [] → b ≡ [] → AreWellFormed w nodes → k < length nodes → IsWellFormedAt w nodes k a b
at_root w nodes k a b za zb well_formed lt =
    let origins = origins-well_formed w nodes k well_formed lt in
    rw (za, zb) record {
      below = lt;
      first_origins = subst (All IsTumbler) (sym (not_moved (get_or (origins_table (first_axis w) nodes) k []))) origins.0;
      second_origins = subst (All IsTumbler) (sym (not_moved (get_or (origins_table (second_axis w) nodes) k []))) origins.1;
      rows = subst (All (IsWellFormedRow w)) (sym (rows-not_moved (rows_of nodes k))) (rows-well_formed w nodes k well_formed lt);
    }

pub seen_from_root : {L : Type 0} (a b : List ℕ) (rows : List (Row L)) → a ≡ [] → b ≡ [] → map (moved a b) rows ≡ rows
seen_from_root a b rows za zb = rw (za, zb) (rows-not_moved rows)

pub exchange_well_formed : {L : Type 0} (w : Widths L) (gap : Gap) (new rows seen : List (Row L)) → seen ≡ rows → IsWellFormedRows w (exchanged gap new rows) → IsWellFormedRows w (exchanged gap new seen)
exchange_well_formed w gap new rows seen is well_formed = subst (λ (rs : List (Row _)). IsWellFormedRows w (exchanged gap new rs)) (sym is) well_formed

-- ---- what an exchange at the root leaves

pub may_be_root : {L : Type 0} (w : Widths L) (nodes : List (Shape L)) (height : ℕ) (rows : List (Row L)) (node : Shape L) → MayHaveChildren w nodes height rows node → MayBeRoot w nodes node
may_be_root w nodes height rows (Rows own) may = may.well_formed
may_be_root w nodes height rows (Branches []) may = tt
may_be_root w nodes height rows (Branches (branch ∷ branches)) may = may.well_formed

pub root_rows : {L : Type 0} (w : Widths L) (nodes : List (Shape L)) (height : ℕ) (rows : List (Row L)) (node : Shape L) → MayHaveChildren w nodes height rows node → rows_in (rows_table nodes) node ≡ rows
root_rows w nodes height rows (Rows own) may = may.rows_are
root_rows w nodes height rows (Branches []) may = sym may
root_rows w nodes height rows (Branches (branch ∷ branches)) may = may.rows_are

-- ---- a call that added a node, or did not

pub grows_if : {L E : Type 0} (old new : List (Shape L)) (node : Shape L) (r : Result Node E) → OnOk r (new ≡ old ++ node ∷ []) → OnErr r (new ≡ old) → Grows old new
grows_if old new node (Ok root) ok err = grows_push old new node ok
grows_if old new node (Err e) ok err = subst (Grows old) (sym err) (grows_none old)

pub rows_if : {L E : Type 0} (old new : List (Shape L)) (node : Shape L) (rows : List (Row L)) (r : Result Node E) → OnOk r (new ≡ old ++ node ∷ []) → IfOk r (λ root. root.0 ≡ length old) → rows_in (rows_table old) node ≡ rows → IfOk r (λ root. rows_of new root.0 ≡ rows)
rows_if old new node rows (Ok root) ok at is = rows_added old new node root.0 ok at ∙ is
rows_if old new node rows (Err e) ok at is = tt

-- ---- how deep it is

pub level_if : {L E : Type 0} (w : Widths L) (old new : List (Shape L)) (node : Shape L) (r : Result Node E) → OnOk r (new ≡ old ++ node ∷ []) → IfOk r (λ root. root.0 ≡ length old) → IfOk r (λ root. rows_in (rows_table old) node ≢ [] → height_of w new root.0 ≡ height_in w old node)
level_if w old new node (Ok root) ok at = λ some. ap (λ (s : Summary). s.height) (said-last (summary_in w) old new node root.0 no_summary ok at)
level_if w old new node (Err e) ok at = tt

pub level_if_none : {L E : Type 0} (w : Widths L) (old new : List (Shape L)) (node : Shape L) (r : Result Node E) → rows_in (rows_table old) node ≡ [] → IfOk r (λ root. rows_in (rows_table old) node ≢ [] → height_of w new root.0 ≡ height_in w old node)
level_if_none w old new node (Ok root) none = λ some. absurd (some none)
level_if_none w old new node (Err e) none = tt

pub root_level : {L : Type 0} (w : Widths L) (nodes : List (Shape L)) (height : ℕ) (rows : List (Row L)) (node : Shape L) → MayHaveChildren w nodes height rows node → rows_in (rows_table nodes) node ≢ [] → height_in w nodes node ≡ height
root_level w nodes height rows (Rows own) may some = may.level
root_level w nodes height rows (Branches []) may some = absurd (some refl)
root_level w nodes height rows (Branches (branch ∷ branches)) may some = may.level
