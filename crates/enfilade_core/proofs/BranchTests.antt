-- What the tests of a branch tell, from what is kept of its node.
use Rattle.std.proofs.Common.{◌≡◌, ◌≢◌, ℕ, ◌<◌, min, List, [], ◌∷◌, ◌++◌, length, get_or, refl, arith, ap, ◌∙◌, sym, subst, inl, inr}
use Rattle.std.specs.List.{All}
use Rattle.std.proofs.lemmas.List.{length-map, get_or-map}
use Rattle.std.proofs.lemmas.List.Elements.{All-head, All-tail}
use Rattle.tumbler.specs.Places.{IsTumbler, Fits}
use Rattle.tumbler.specs.Reach.{HasRoom}
use Rattle.tumbler.proofs.Alls.{All-back}
use Rattle.tumbler.proofs.Order.{upto_or_before}
use Rattle.tumbler.proofs.Reaches.{reach_is_exact}
use Rattle.enfilade_core.specs.declared.tree.Row.{Row}
use Rattle.enfilade_core.specs.declared.tree.Branch.{Branch}
use Rattle.enfilade_core.specs.declared.summary.Summary.{Summary}
use Rattle.enfilade_core.specs.declared.stored_node.StoredNode.{StoredNode}
use Rattle.enfilade_core.specs.Rows.{Shape, rows_of}
use Rattle.enfilade_core.specs.Axes.{Widths, Axis, first_axis, second_axis, WidthsStay, end_on, later, greatest_end}
use Rattle.enfilade_core.specs.WellFormed.{origins_table, AreWellFormed, IsWellFormedPart}
use Rattle.enfilade_core.specs.Reach.{points, reach_below}
use Rattle.enfilade_core.specs.Summary.{summary_of, summaries, summary_in, no_summary, kept, most_count}
use Rattle.enfilade_core.specs.declared.balance_state.BalanceState.{BalanceState}
use Rattle.enfilade_core.specs.BalanceState.{balance_state_of, balance_states, balance_state_in, no_balance_state, kept_balance_state}
use Rattle.enfilade_core.specs.Plain.{shape}
use Rattle.enfilade_core.specs.StoredNode.{held_shapes, IsArena}
use Rattle.enfilade_core.proofs.Tables.{length-table}
use Rattle.enfilade_core.proofs.Tells.{first_coordinate, last_coordinate}
use Rattle.enfilade_core.proofs.Told.{tells}
use Rattle.enfilade_core.proofs.Later.{later-first, later-second}
use Rattle.enfilade_core.proofs.Fronts.{not_none, some_long}
use Rattle.enfilade_core.proofs.PartTests.{part-if_room, room-if_part}

-- what is kept beside node k
pub summary-held : {L : Type 0} (plain : L → L) (w : Widths L) (helds : List (StoredNode L)) (nodes : List (Shape L)) (k : ℕ) (d : StoredNode L) → held_shapes plain helds ≡ nodes → IsArena plain w helds → k < length nodes → (get_or helds k d).summary ≡ kept (summary_of w nodes k)
summary-held {L} plain w helds nodes k d is arena lt =
    let short : k < length helds = omega (arith, length-map helds (λ (held : StoredNode L). shape plain held.children), ap length is) in
    sym (get_or-map (λ (held : StoredNode L). held.summary) helds k d no_summary short)
    ∙ ap (λ (ss : List Summary). get_or ss k no_summary) arena.told
    ∙ get_or-map kept (summaries w (held_shapes plain helds)) k no_summary no_summary (omega (arith, length-table (summary_in w) (held_shapes plain helds), ap length is))
    ∙ ap (λ (ns : _). kept (summary_of w ns k)) is

pub leaves-kept : {L : Type 0} (w : Widths L) → WidthsStay w → (nodes : List (Shape L)) → AreWellFormed w nodes → (k : ℕ) (s : Summary) → k < length nodes → s ≡ kept (summary_of w nodes k) → s.leaves ≡ min (length (rows_of nodes k)) most_count
leaves-kept w stay nodes well_formed k s lt is = ap (λ (x : Summary). x.leaves) is ∙ ap (λ (n : ℕ). min n most_count) (tells w stay nodes well_formed k lt).leaves

-- ---- the tests

pub record PartTested {L : Type 0} (w : Widths L) (nodes : List (Shape L)) (part : Branch) (s : Summary) : Type 0 where
  pub leaves : s.leaves ≢ 0
  pub first_extent : part.first_extent ≡ s.first_extent
  pub second_extent : part.second_extent ≡ s.second_extent
  pub first_room : HasRoom part.first (reach_below (first_axis w) nodes part.node.0)
  pub second_room : HasRoom part.second (reach_below (second_axis w) nodes part.node.0)

pub tested : {L : Type 0} (w : Widths L) → WidthsStay w → (nodes : List (Shape L)) → AreWellFormed w nodes → (part : Branch) (s : Summary) → s ≡ kept (summary_of w nodes part.node.0) → IsWellFormedPart w nodes part → PartTested w nodes part s
tested w stay nodes well_formed part s is p =
    let k = part.node.0 in
    let told = tells w stay nodes well_formed k p.branch.below in
    let room = room-if_part w stay nodes well_formed part p in
    record {
      leaves = λ none. absurd (let some = some_long (rows_of nodes k) p.branch.filled in omega (arith, leaves-kept w stay nodes well_formed k s p.branch.below is));
      first_extent = p.branch.first_extent ∙ sym told.first_extent ∙ ap (λ (x : Summary). x.first_extent) (sym is);
      second_extent = p.branch.second_extent ∙ sym told.second_extent ∙ ap (λ (x : Summary). x.second_extent) (sym is);
      first_room = room.first;
      second_room = room.second;
    }

pub part-tested : {L : Type 0} (w : Widths L) → WidthsStay w → (nodes : List (Shape L)) → AreWellFormed w nodes → (part : Branch) (s : Summary) → s ≡ kept (summary_of w nodes part.node.0) → IsTumbler part.first → IsTumbler part.second → part.node.0 < length nodes → PartTested w nodes part s → IsWellFormedPart w nodes part
part-tested w stay nodes well_formed part s is ta tb lt t =
    let k = part.node.0 in
    let told = tells w stay nodes well_formed k lt in
    part-if_room w stay nodes well_formed part ta tb record {
      below = lt;
      filled = not_none (rows_of nodes k) (λ none. t.leaves (leaves-kept w stay nodes well_formed k s lt is ∙ ap (λ (n : ℕ). min n most_count) none ∙ omega arith));
      first_extent = t.first_extent ∙ ap (λ (x : Summary). x.first_extent) is ∙ told.first_extent;
      second_extent = t.second_extent ∙ ap (λ (x : Summary). x.second_extent) is ∙ told.second_extent;
    } record { first = t.first_room; second = t.second_room }

-- ---- what can be moved

later_fits : (a x y : List ℕ) → Fits a x → Fits a y → Fits a (later x y)
later_fits a x y f g = elim (upto_or_before y x) [
  | inl le ↦ subst (Fits a) (sym (later-first x y le)) f
  | inr lt ↦ subst (Fits a) (sym (later-second x y lt)) g
]

end_fits : {L : Type 0} (axis : Axis L) (a : List ℕ) (rows : List (Row L)) → All (Fits a) (points axis rows) → Fits a (greatest_end axis rows)
end_fits axis a [] h = refl
end_fits axis a (row ∷ rows) h =
    let p = points axis rows in
    let e = end_on axis row in
    let t = All-tail (Fits a) (axis.coordinate row) (e ∷ p) h in
    later_fits a e (greatest_end axis rows) (All-head (Fits a) e p t) (end_fits axis a rows (All-tail (Fits a) e p t))

first_fits : {L : Type 0} (w : Widths L) (a : List ℕ) (rows : List (Row L)) → All (Fits a) (points (first_axis w) rows) → Fits a (first_coordinate rows)
first_fits w a [] h = refl
first_fits w a (row ∷ rows) h = All-head (Fits a) row.first (end_on (first_axis w) row ∷ points (first_axis w) rows) h

last_fits : {L : Type 0} (w : Widths L) (a : List ℕ) (rows : List (Row L)) → All (Fits a) (points (first_axis w) rows) → Fits a (last_coordinate rows)
last_fits w a [] h = refl
last_fits w a (row ∷ []) h = All-head (Fits a) row.first (end_on (first_axis w) row ∷ []) h
last_fits w a (row ∷ next ∷ rows) h =
    let p = points (first_axis w) (next ∷ rows) in
    let e = end_on (first_axis w) row in
    last_fits w a (next ∷ rows) (All-tail (Fits a) e p (All-tail (Fits a) row.first (e ∷ p) h))

pub record MovesThere (a b : List ℕ) (s : Summary) : Type 0 where
  pub first : Fits a s.first
  pub last : Fits a s.last
  pub first_extent : Fits a s.first_extent
  pub second_extent : Fits b s.second_extent

pub moves-there : {L : Type 0} (w : Widths L) → WidthsStay w → (nodes : List (Shape L)) → AreWellFormed w nodes → (k : ℕ) (a b : List ℕ) (s : Summary) → s ≡ kept (summary_of w nodes k) → k < length nodes → IsTumbler a → IsTumbler b → HasRoom a (reach_below (first_axis w) nodes k) → HasRoom b (reach_below (second_axis w) nodes k) → MovesThere a b s
moves-there w stay nodes well_formed k a b s is lt ta tb room room2 =
    let told = tells w stay nodes well_formed k lt in
    let rows = rows_of nodes k in
    let o1 = get_or (origins_table (first_axis w) nodes) k [] in
    let o2 = get_or (origins_table (second_axis w) nodes) k [] in
    let p1 = points (first_axis w) rows in
    let p2 = points (second_axis w) rows in
    let fits1 = All-back (Fits a) o1 p1 ((reach_is_exact a (o1 ++ p1) ta.small).1 room) in
    let fits2 = All-back (Fits b) o2 p2 ((reach_is_exact b (o2 ++ p2) tb.small).1 room2) in
    record {
      first = subst (Fits a) (sym (ap (λ (x : Summary). x.first) is ∙ told.first)) (first_fits w a rows fits1);
      last = subst (Fits a) (sym (ap (λ (x : Summary). x.last) is ∙ told.last)) (last_fits w a rows fits1);
      first_extent = subst (Fits a) (sym (ap (λ (x : Summary). x.first_extent) is ∙ told.first_extent)) (end_fits (first_axis w) a rows fits1);
      second_extent = subst (Fits b) (sym (ap (λ (x : Summary). x.second_extent) is ∙ told.second_extent)) (end_fits (second_axis w) b rows fits2);
    }

pub balance_state-held : {L : Type 0} (plain : L → L) (w : Widths L) (helds : List (StoredNode L)) (nodes : List (Shape L)) (k : ℕ) (d : StoredNode L) → held_shapes plain helds ≡ nodes → IsArena plain w helds → k < length nodes → (get_or helds k d).balance_state ≡ kept_balance_state (balance_state_of nodes k)
balance_state-held {L} plain w helds nodes k d is arena lt =
    let short : k < length helds = omega (arith, length-map helds (λ (held : StoredNode L). shape plain held.children), ap length is) in
    sym (get_or-map (λ (held : StoredNode L). held.balance_state) helds k d no_balance_state short)
    ∙ ap (λ (ss : List BalanceState). get_or ss k no_balance_state) arena.stood
    ∙ get_or-map kept_balance_state (balance_states (held_shapes plain helds)) k no_balance_state no_balance_state (omega (arith, length-table balance_state_in (held_shapes plain helds), ap length is))
    ∙ ap (λ (ns : _). kept_balance_state (balance_state_of ns k)) is
